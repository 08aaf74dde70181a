-- Bodies of functions: parameters' objects, arguments, and the way back.
use Rattle.std.proofs.Common.{◌≡◌, ℕ, suc, ◌+◌, List, [], ◌∷◌, ◌++◌, Bool, true, cond, length, Option, Some, None, refl, sym, ap, ap₂, ◌∙◌, arith, add-zero, append_assoc, append-nil}
use Rattle.std.specs.Prelude.{Ok}
use Rattle.plain_data.specs.declared.run.Event.{Event}
use Rattle.c_store.specs.Store.{start}
use Rattle.c_means.specs.declared.kind.Kind.TheVariants as k
use Rattle.c_means.specs.Parts.{Env}
use Rattle.c_means.specs.Items.{Made, known}
use Rattle.c_means.specs.Runs.{comes_back}
use Rattle.c_means.specs.Statements.{no_env}
use Rattle.core_tree.specs.declared.program.Function.{Function}
use Rattle.core_tree.specs.declared.program.Parameter.{Parameter}
use Rattle.core_tree.specs.declared.types.ValueType.{ValueType}
use Rattle.core_tree.specs.Numbers.{size_of}
use Rattle.core_tree.specs.Memory.{stored}
use Rattle.core_tree.specs.States.{Done, along, born, dead, entered, arrive, onward}
use Rattle.core_tree.specs.Codes.{lived}
use Rattle.core_tree.specs.Programs.{frame, passed, back}
use Rattle.term_bank.specs.declared.sort.Sort.TheVariants.{Memory}
use Rattle.term_bank.specs.declared.sort.Node.{Node}
use Rattle.term_bank.specs.declared.shape.Shape.{Shape}
use Rattle.term_bank.specs.declared.shape.Shape.TheVariants.{Flag, NoEvents}
use Rattle.term_bank.specs.Terms.{IsTerm, Makes}
use Rattle.term_bank.specs.Values.{Environment, Worth, Values}
use Rattle.term_bank.proofs.BankLemmas.{weaken, stays, grows_on}
use Rattle.term_bank.proofs.TermLemmas.{term_grown}
use Rattle.path_states.specs.declared.state.Number.{Number}
use Rattle.path_states.specs.declared.kinds.StateKind.TheVariants.{Known}
use Rattle.path_states.specs.declared.state.State.{State}
use Rattle.path_states.specs.States.{Held, IsState, AreStates, AreNumbers, run_in, done_in, number_in, numbers_in}
use Rattle.path_states.specs.Ways.{Way, Steps, Goes, ◌>>=◌, stay}
use Rattle.path_states.proofs.Growth.{numbers_grown}
use Rattle.path_states.proofs.Paths.{goes_none, goes_then, goes_as, goes_joined}
use Rattle.path_arrows.specs.declared.objects.Object.{Object}
use Rattle.path_arrows.specs.Objects.{made_at, Fit}
use Rattle.path_arrows.specs.Arrows.{bare, bared, by_arrow}
use Rattle.path_forms.specs.declared.frame.Placed.{Placed}
use Rattle.path_forms.specs.Around.{Around, level_at, env_at}
use Rattle.path_rooms.specs.Births.{placed_all}
use Rattle.path_rooms.specs.Rooms.{item_of}
use Rattle.path_rooms.proofs.Bound.{env_within}
use Rattle.path_codes.specs.declared.below.Coded.{Coded}
use Rattle.path_codes.specs.Bodies.{Frames, holding, passing, PassesOne, Passes, body_way, WalksBody, Embodies}
use Rattle.path_codes.specs.Courses.{on_top}
use Rattle.path_codes.specs.Settings.{Stores, stores}
use Rattle.path_codes.specs.Walks.{WalksLived, lived_arrow}

-- ---- the parameters' objects

made_push : (base : ℕ) (xs : List Object) (x : Object)
    → made_at base (xs ++ x ∷ []) ≡ made_at base xs ++ record { at = x.at; place = base + x.offset; size = x.size } ∷ []
made_push base [] x = refl
made_push base (y ∷ xs) x =
    ap (λ ms. record { at = y.at; place = base + y.offset; size = y.size } ∷ ms) (made_push base xs x)

pub frames_none : (offset : ℕ) (all : List Object) → Frames [] offset all all
frames_none offset all = record { is = λ base. sym (append-nil (made_at base all)) }

pub frames_more : (p : Parameter) (ps : List Parameter) (offset next size : ℕ) (all some now : List Object) → size ≡ size_of p.stored
    → next ≡ offset + 1 → some ≡ all ++ record { at = p.at; offset = offset; size = size } ∷ [] → Frames ps next some now
    → Frames (p ∷ ps) offset all now
frames_more p ps offset next size all some now sized one pushed rest = record {
  is = λ base.
      let made : ℕ → Made = λ n. record { at = p.at; place = base + offset; size = n } in
      rest.is base
      ∙ ap (λ l. made_at base l ++ frame (base + next) ps) pushed
      ∙ ap (λ ms. ms ++ frame (base + next) ps) (made_push base all (record { at = p.at; offset = offset; size = size }))
      ∙ append_assoc (made_at base all) (made size ∷ []) (frame (base + next) ps)
      ∙ ap₂ (λ n m. made_at base all ++ made n ∷ frame m ps) sized (behind base);
} where
  behind : (base : ℕ) → base + next ≡ suc (base + offset)
  behind base = omega (arith, one)

-- ---- arguments

module _ (room : ℕ) (a : List Shape) (x : Number) where
  pub holds_none : Goes room a a [] [] (holding x)
  holds_none = goes_none room a (holding x) (λ e v m r h i. i)

  pub holds_one : (s : State) → IsState a s → AreNumbers a (x ∷ []) → Steps room a a s (record s { operands = x ∷ [] } ∷ []) (holding x)
  holds_one s is are = record {
    grows = stays;
    states = (record { guard = is.guard; kind = is.kind; memory = is.memory; value = is.value; events = is.events; operands = are }, tt);
    stands = λ e v m r i. refl;
    sized = λ e v m r h i. i;
  }

pub passes_none : (room : ℕ) (xs : List Number) (offset : ℕ) (a : List Shape) (ss ts : List State)
    → Goes room a a ss ts (by_arrow (λ e d. Some d)) → Passes room [] xs offset a a ss ts
passes_none room xs offset a ss ts h = record { grows = h.grows; states = h.states; goes = h }

pub passes_over : (room : ℕ) (p : Parameter) (ps : List Parameter) (offset : ℕ) (a : List Shape) (ss ts : List State)
    → Goes room a a ss ts (by_arrow (λ e d. Some d)) → Passes room (p ∷ ps) [] offset a a ss ts
passes_over room p ps offset a ss ts h = record { grows = h.grows; states = h.states; goes = h }

pub passes_one : (room : ℕ) (t : ValueType) (x : Number) (offset : ℕ) (more : List Number) (a b : List Shape)
    (ss held set : List State) → AreNumbers a more → Goes room a a ss held (holding x) → Stores room offset 0 t a b held set
    → PassesOne room t x offset more a b ss set
passes_one room t x offset more a b ss held set are h i =
    let goes = goes_as room a b ss set (λ e v q. holding x e v q >>= on_top (stores offset 0 t) e v)
    (λ e v q. Some (bare (stored t (start (e.base + offset)) (number_in v x) q.done)))
    (λ e v q. ap (λ k. Some (bare (stored t k (number_in v x) q.done))) (add-zero (start (e.base + offset))))
    (goes_then room a a b ss held set (holding x) (on_top (stores offset 0 t)) h i.goes) in
    record { grows = goes.grows; states = goes.states; others = numbers_grown i.grows more are; goes = goes }

pub passes_more : (room : ℕ) (p : Parameter) (ps : List Parameter) (x : Number) (xs : List Number) (offset next : ℕ) (a b c : List Shape)
    (ss set ts : List State) → next ≡ offset + 1 → PassesOne room p.stored x offset xs a b ss set
    → Passes room ps xs next b c set ts → Passes room (p ∷ ps) (x ∷ xs) offset a c ss ts
passes_more room p ps x xs offset next a b c ss set ts one i j =
    let first : Way = λ e v q. Some (bare (stored p.stored (start (e.base + offset)) (number_in v x) q.done)) in
    let all : Way = λ e v q. first e v q >>= passing ps xs next e v in
    let goes = goes_as room a c ss ts all (passing (p ∷ ps) (x ∷ xs) offset) same
    (goes_then room a b c ss set ts first (passing ps xs next) i.goes j.goes) in
    record { grows = goes.grows; states = goes.states; goes = goes }
  where
    behind : (base : ℕ) → base + next ≡ suc (base + offset)
    behind base = omega (arith, one)

    same : (e : Environment) (v : Values) (q : Held)
        → passing ps xs next e v (bare (stored p.stored (start (e.base + offset)) (number_in v x) q.done))
        ≡ passing (p ∷ ps) (x ∷ xs) offset e v q
    same e v q =
        ap (λ n. Some (bare (passed n ps (numbers_in v xs) (stored p.stored (start (e.base + offset)) (number_in v x) q.done))))
        (behind e.base)

-- ---- the body

-- the state in which a function begins
abbrev pub entry : Node → Node → Node → ℕ → State
entry guard events memory position = record {
  guard = guard;
  kind = Known k.Running;
  value = None;
  position = position;
  memory = memory;
  events = events;
  operands = [];
}

module _ (x : Around) (room : ℕ) (f : Function) (xs : List Number) where
  pub walks_body : (objects : List Object) (inner : List Placed) (place : ℕ) (a b c d g k : List Shape)
      (ss birth given died ends : List State) (ran : Coded)
      → Frames f.parameters 0 [] objects → Fit room objects → inner ≡ [] ++ placed_all objects → place ≡ length f.parameters
      → ((r : ℕ) (log : List ℕ) → Fit r objects → Goes r a b ss birth (by_arrow (λ e q. Some (born (along log) (made_at e.base objects) q))))
      → Passes room f.parameters xs 0 b c birth given → WalksLived x inner room f.items c d given place ran
      → ((r : ℕ) → Fit r objects → Goes r d g ran.states died (by_arrow (λ e q. Some (dead (made_at e.base objects) q))))
      → Goes room g k died ends (by_arrow (λ e q. Some (arrive comes_back q))) → WalksBody x room f xs a k ss ends
  walks_body objects inner place a b c d g k ss birth given died ends ran made fit is at bore gave lives buried back_at =
      let w1 : Way = λ e v q. by_arrow (λ e q. Some (born (along x.log) (made_at e.base objects) q)) e v q >>= passing f.parameters xs 0 e v in
      let w2 : Way = λ e v q. w1 e v q >>= by_arrow (lived_arrow x inner place f.items) e v in
      let w3 : Way = λ e v q. w2 e v q >>= by_arrow (λ e q. Some (dead (made_at e.base objects) q)) e v in
      let w4 : Way = λ e v q. w3 e v q >>= by_arrow (λ e q. Some (arrive comes_back q)) e v in
      let goes = goes_as room a k ss ends w4 (body_way x f xs) same
      (goes_then room a g k ss died ends w3 (by_arrow (λ e q. Some (arrive comes_back q)))
      (goes_then room a d g ss ran.states died w2 (by_arrow (λ e q. Some (dead (made_at e.base objects) q)))
      (goes_then room a c d ss given ran.states w1 (by_arrow (lived_arrow x inner place f.items))
      (goes_then room a b c ss birth given (by_arrow (λ e q. Some (born (along x.log) (made_at e.base objects) q)))
      (passing f.parameters xs 0) (bore room x.log fit) gave.goes) lives.goes) (buried room fit)) back_at) in
      record { grows = goes.grows; states = goes.states; goes = goes }
    where
      ended : (o : Option (Done ℕ)) (ms : List Made)
          → (bared o >>= (λ h. bared (Some (dead ms h.done)))) >>= (λ h. bared (Some (arrive comes_back h.done)))
          ≡ bared (onward o (λ r. Some (back (dead ms r))))
      ended None ms = refl
      ended (Some r) ms = refl

      zero_behind : (base : ℕ) → base + 0 ≡ base
      zero_behind base = add-zero base

      frame_is : (base : ℕ) → made_at base objects ≡ frame base f.parameters
      frame_is base = made.is base ∙ ap (λ n. frame n f.parameters) (add-zero base)

      env_is : (e : Environment) → env_at inner e ≡ known (made_at e.base objects) no_env
      env_is e = ap (λ ps. env_at ps e) is ∙ env_within [] objects e

      runs : (e : Environment) (v : Values) (ms : List Made) (env : Env) (p n : ℕ) (q : Done ℕ) → Option (Done ℕ)
      runs e v ms env p n q = onward
          (lived (item_of f.items) (level_at x e) env (e.base + p) (passed n f.parameters (numbers_in v xs) (born (along x.log) ms q)))
          (λ r. Some (back (dead ms r)))

      same : (e : Environment) (v : Values) (q : Held)
          → (((by_arrow (λ e q. Some (born (along x.log) (made_at e.base objects) q)) e v q >>= passing f.parameters xs 0 e v)
          >>= by_arrow (lived_arrow x inner place f.items) e v) >>= by_arrow (λ e q. Some (dead (made_at e.base objects) q)) e v)
          >>= by_arrow (λ e q. Some (arrive comes_back q)) e v
          ≡ body_way x f xs e v q
      same e v q =
          ended (lived (item_of f.items) (level_at x e) (env_at inner e) (e.base + place)
          (passed (e.base + 0) f.parameters (numbers_in v xs) (born (along x.log) (made_at e.base objects) q.done))) (made_at e.base objects)
          ∙ ap (λ env. bared (runs e v (made_at e.base objects) env place (e.base + 0) q.done)) (env_is e)
          ∙ ap (λ ms. bared (runs e v ms (known ms no_env) place (e.base + 0) q.done)) (frame_is e.base)
          ∙ ap₂ (λ p n. bared (runs e v (frame e.base f.parameters) (known (frame e.base f.parameters) no_env) p n q.done)) at (zero_behind e.base)

  pub body_joined : (a b c : List Shape) (ss ts us : List State) → WalksBody x room f xs a b ss ts → Goes room b c ts us stay
      → WalksBody x room f xs a c ss us
  body_joined a b c ss ts us h i =
      let goes = goes_joined room a b c ss ts us (body_way x f xs) h.goes i in
      record { grows = goes.grows; states = goes.states; goes = goes }

  -- from a state in which the function begins
  pub embodies : (a b c d : List Shape) (guard events memory : Node) (position : ℕ) (ts : List State) → IsTerm a Memory memory
      → Makes a b (Flag true) (Ok guard) → Makes b c NoEvents (Ok events)
      → WalksBody x room f xs c d (entry guard events memory position ∷ []) ts
      → Embodies x room f xs memory position a d ts
  embodies a b c d guard events memory position ts is h j i = record {
    grows = grows_on h.grows (grows_on j.grows i.grows);
    states = i.states;
    stands = λ e v m r sized.
        let s = entry guard events memory position in
        let mc = weaken i.grows m in
        let so : (v guard.index).truth ≡ true = ap (λ (y : Worth). y.truth) (h.value.is e v (weaken j.grows mc)) in
        let nothing : (v events.index).events ≡ [] = ap (λ (y : Worth). y.events) (j.value.is e v mc) in
        let begun : List Event → Held = λ l. record { operands = []; done = record (done_in v s) { events = l } } in
        i.goes.stands e v m r (Some (begun []))
        (ap (λ (b : Bool). cond b (run_in v s ∷ []) []) so ∙ ap (λ l. begun l ∷ []) nothing) sized;
    sized = λ e v m r q o sized. i.goes.sized e v m r (bare (entered (along x.log) q o)) sized;
  }

pub entry_state : (a b c : List Shape) (guard events memory : Node) (position : ℕ) → IsTerm a Memory memory → Makes a b (Flag true) (Ok guard)
    → Makes b c NoEvents (Ok events) → AreStates c (entry guard events memory position ∷ [])
entry_state a b c guard events memory position is h j = (
  record {
    guard = term_grown b c _ guard j.grows h.node;
    kind = tt;
    memory = term_grown a c _ memory (grows_on h.grows j.grows) is;
    value = tt;
    events = j.node;
    operands = tt;
  },
  tt,
)
