-- What is before `main` is called, from initializers that were walked over an entry's memory.
use Rattle.std.proofs.Common.{◌≡◌, ◌+◌, ℕ, List, [], ◌∷◌, ◌++◌, true, cond, Option, Some, None, refl, sym, ap, subst, ◌∙◌, arith}
use Rattle.std.specs.Prelude.{Ok}
use Rattle.plain_data.specs.declared.bounds.Bounds.{Bounds}
use Rattle.plain_data.specs.declared.run.Event.{Event}
use Rattle.plain_data.specs.declared.width.Width.TheVariants.{W64}
use Rattle.c_store.specs.Store.{Store, start, initial}
use Rattle.c_means.specs.declared.kind.Kind.{Kind}
use Rattle.c_means.specs.declared.kind.Kind.TheVariants as k
use Rattle.c_means.specs.Statements.{no_env}
use Rattle.core_tree.specs.declared.program.Core.{Core}
use Rattle.core_tree.specs.declared.program.LastingObject.{LastingObject}
use Rattle.core_tree.specs.declared.program.LastingSetting.{LastingSetting}
use Rattle.core_tree.specs.Codes.{sets}
use Rattle.core_tree.specs.States.{Done, Arrow, along, entered, onward, running, where_running, with_store}
use Rattle.core_tree.specs.Programs.{Machine, makes_all, meets_all, bare, sets_all}
use Rattle.log_expr.specs.declared.table.Entry.{Entry}
use Rattle.term_bank.specs.declared.binding.Binding.{Binding}
use Rattle.term_bank.specs.declared.sort.Sort.TheVariants.{Memory, Word}
use Rattle.term_bank.specs.declared.sort.Node.{Node}
use Rattle.term_bank.specs.declared.shape.Shape.{Shape}
use Rattle.term_bank.specs.declared.shape.Shape.TheVariants as shape
use Rattle.term_bank.specs.Terms.{IsTerm, Makes}
use Rattle.term_bank.specs.Bindings.{bound, IsBinding}
use Rattle.term_bank.specs.Values.{Environment, Values, Models, Worth}
use Rattle.term_bank.proofs.BankLemmas.{weaken, grows_on}
use Rattle.term_bank.proofs.TermLemmas.{node_of, term_grown}
use Rattle.path_states.specs.declared.kinds.StateKind.TheVariants.{Known}
use Rattle.path_states.specs.declared.state.State.{State}
use Rattle.path_states.specs.States.{Held, IsSized, IsRoomy, AllSized, standing}
use Rattle.path_states.specs.Ways.{Goes, to_list}
use Rattle.path_arrows.specs.Arrows.{bared, by_arrow}
use Rattle.path_arrows.specs.Arrows as arrows
use Rattle.path_forms.specs.Around.{Around, level_at}
use Rattle.path_codes.specs.declared.below.Coded.{Coded}
use Rattle.path_codes.specs.Settings.{WalksSet}
use Rattle.path_codes.proofs.Courses.{arrows_then, arrows_as}
use Rattle.summary_compose.specs.Summaries.{world_in}
use Rattle.summary_compose.specs.Composing.{PutsIn}
use Rattle.log_expr.specs.Tours.{Tour, tour_of}
use Rattle.path_summaries.specs.Tours.{machine_in}
use Rattle.run_formula.specs.Starts.{made_in, made_all, Begins}
use Rattle.run_formula.specs.Settings.{still_around, one_set, all_set, Sets, Starts, readied, Readies}
use Rattle.run_formula.proofs.Started.{start_sized}

-- ---- arrows one behind the other

onward_stay : (o : Option (Done ℕ)) → o ≡ onward o (λ d. Some d)
onward_stay None = refl
onward_stay (Some d) = refl

pub onward_same : (o : Option (Done ℕ)) (f g : Arrow ℕ) → ((d : Done ℕ) → f d ≡ g d) → onward o f ≡ onward o g
onward_same None f g h = refl
onward_same (Some d) f g h = h d

-- ---- initializers that are walked

module _ (x : Around) (e : Environment) (s : LastingSetting) where
  set_behind : (ys : List LastingSetting) → ((d : Done ℕ) → onward (all_set x ys e d) (all_set x (s ∷ []) e) ≡ all_set x (ys ++ s ∷ []) e d)
      → (o : Option (Done ℕ)) → onward (onward o (all_set x ys e)) (all_set x (s ∷ []) e) ≡ onward o (all_set x (ys ++ s ∷ []) e)
  set_behind ys h None = refl
  set_behind ys h (Some d) = h d

  set_more : (xs : List LastingSetting) (d : Done ℕ) → onward (all_set x xs e d) (all_set x (s ∷ []) e) ≡ all_set x (xs ++ s ∷ []) e d
  set_more [] d = refl
  set_more (y ∷ ys) d = set_behind ys (λ q. set_more ys q) (one_set x y e d)

pub sets_none : (x : Around) (room : ℕ) (a : List Shape) (ss ts : List State) → Goes room a a ss ts (by_arrow (λ e d. Some d)) → Sets x room [] a a ss ts
sets_none x room a ss ts h = record { grows = h.grows; states = h.states; goes = h }

pub sets_one : (x : Around) (room : ℕ) (a b : List Shape) (ss : List State) (s : LastingSetting) (y : Coded)
    → WalksSet x [] room s.place s.setting a b ss 0 y → Sets x room (s ∷ []) a b ss y.states
sets_one x room a b ss s y h = record {
  grows = h.grows;
  states = h.states;
  goes = arrows_as room a b ss y.states (one_set x s) (all_set x (s ∷ [])) (λ e d. onward_stay (one_set x s e d)) h.goes;
}

pub sets_more : (x : Around) (room : ℕ) (a b c : List Shape) (ss ts us : List State) (xs : List LastingSetting) (s : LastingSetting)
    → Sets x room xs a b ss ts → Sets x room (s ∷ []) b c ts us → Sets x room (xs ++ s ∷ []) a c ss us
sets_more x room a b c ss ts us xs s h i = record {
  grows = grows_on h.grows i.grows;
  states = i.states;
  goes = arrows_as room a c ss us (λ e d. onward (all_set x xs e d) (all_set x (s ∷ []) e)) (all_set x (xs ++ s ∷ []))
      (λ e d. set_more x e s xs d) (arrows_then room a b c ss ts us (all_set x xs) (all_set x (s ∷ [])) h.goes i.goes);
}

-- ---- where a run begins

pub begun_one : (log : List ℕ) (a b c d : List Shape) (guard memory events : Node) (s : State) → s ≡ record {
  guard = guard;
  kind = Known k.Running;
  value = None;
  position = 0;
  memory = memory;
  events = events;
  operands = [];
} → Makes a b (shape.Flag true) (Ok guard) → Makes b c shape.Entry (Ok memory) → Makes c d shape.NoEvents (Ok events) → Starts log a d (s ∷ [])
begun_one log a b c d guard memory events s is hg hm he =
    let bd = grows_on hm.grows he.grows in
    subst (λ q. Starts log a d (q ∷ [])) (sym is)
    (record {
      grows = grows_on hg.grows bd;
      states = (
        record {
          guard = term_grown b d _ guard bd hg.node;
          kind = tt;
          memory = term_grown c d _ memory he.grows hm.node;
          value = tt;
          events = he.node;
          operands = tt;
        },
        tt,
      );
      stand = λ e v m.
          let first : Store → List _ = λ q. arrows.bare (entered (along log) q 0) ∷ [] in
          let begun : List Event → Held = λ l. record {
            operands = [];
            done = record { kind = k.Running; value = None; store = (v memory.index).store; events = l; out = 0 };
          } in
          ap (λ g. cond g (begun (v events.index).events ∷ []) []) (ap (λ (w : Worth). w.truth) (hg.value.is e v (weaken bd m)))
          ∙ ap (λ l. begun l ∷ []) (ap (λ (w : Worth). w.events) (he.value.is e v m))
          ∙ ap first (ap (λ (w : Worth). w.store) (hm.value.is e v (weaken he.grows m)));
    })

-- ---- before `main` is called

met_all : (log : List ℕ) (ps : List ℕ) (d : Done ℕ) → meets_all (along log) ps d ≡ d
met_all log [] d = refl
met_all log (p ∷ ps) d = met_all log ps d

all_made : (xs : List LastingObject) (d : Done ℕ) → makes_all xs d ≡ with_store (made_all xs d.store) d
all_made [] d = refl
all_made (x ∷ xs) d = all_made xs (with_store (made_in x d.store) d)

either_way : {A : Type 0} (kind : Kind) (a : A) → a ≡ where_running kind a a
either_way k.Running a = refl
either_way k.Breaking a = refl
either_way k.Continuing a = refl
either_way k.Returning a = refl
either_way (k.Going name) a = refl
either_way (k.Choosing value) a = refl
either_way k.Defaulting a = refl
either_way (k.Ended f) a = refl

running_step : (kind : Kind) (d : Done ℕ) (o x : Option (Done ℕ)) (f g : Arrow ℕ) → ((q : Done ℕ) → f q ≡ g q) → f d ≡ where_running kind x (Some d)
    → onward (where_running kind o (Some d)) f ≡ where_running kind (onward o g) (Some d)
running_step k.Running d o x f g h i = onward_same o f g h
running_step k.Breaking d o x f g h i = i
running_step k.Continuing d o x f g h i = i
running_step k.Returning d o x f g h i = i
running_step (k.Going name) d o x f g h i = i
running_step (k.Choosing value) d o x f g h i = i
running_step k.Defaulting d o x f g h i = i
running_step (k.Ended c) d o x f g h i = i

at_zero : (n : ℕ) → 0 + n ≡ n
at_zero n = omega arith

module _ (p : Core) (log : List ℕ) (b : Bounds) (rows : List (List Entry)) (e : Environment) where
  abbrev pub t : Tour
  t = tour_of p log b rows

  abbrev pub m : Machine ℕ
  m = machine_in t (world_in e)

  abbrev pub x : Around
  x = still_around log b

  -- an environment of this world with base 0
  abbrev pub grounded : Environment → Environment
  grounded f = record f { base = 0; words = e.words; bytes = e.bytes }

  one_same : (f : Environment) (s : LastingSetting) (d : Done ℕ)
      → sets s.setting (start (0 + s.place)) (level_at x (grounded f)) no_env (0 + 0) d ≡ sets s.setting (start s.place) (bare m) no_env 0 d
  one_same f s d =
      ap (λ n. sets s.setting (start n) (level_at x (grounded f)) no_env (0 + 0) d) (at_zero s.place)
      ∙ ap (λ n. sets s.setting (start s.place) (level_at x (grounded f)) no_env n d) (at_zero 0)

  all_same : (f : Environment) (xs : List LastingSetting) (d : Done ℕ) → all_set x xs (grounded f) d ≡ running (sets_all xs (bare m)) d
  all_same f [] d = either_way d.kind (Some d)
  all_same f (s ∷ xs) d =
      ap (λ o. onward (where_running d.kind o (Some d)) (all_set x xs (grounded f))) (one_same f s d)
      ∙ running_step d.kind d (sets s.setting (start s.place) (bare m) no_env 0 d) (sets_all xs (bare m) d) (all_set x xs (grounded f))
      (running (sets_all xs (bare m))) (all_same f xs) (all_same f xs d)

  abbrev pub begun : Done ℕ
  begun = entered (along log) (initial e.bytes) 0

  readied_as : (f : Environment) → all_set x p.settings (grounded f) (entered (along log) (made_all p.objects (initial e.bytes)) 0) ≡ readied t e
  readied_as f =
      all_same f p.settings (with_store (made_all p.objects (initial e.bytes)) begun)
      ∙ ap (running (sets_all p.settings (bare m))) (sym (all_made p.objects begun))
      ∙ ap (λ d. running (sets_all p.settings (bare m)) (makes_all p.objects d)) (sym (met_all log p.met begun))

  pub readied_in : (f : Environment) → f.base ≡ 0 → f.words ≡ e.words → f.bytes ≡ e.bytes → f.entry ≡ made_all p.objects (initial e.bytes)
      → all_set x p.settings f (entered (along log) f.entry 0) ≡ readied t e
  readied_in f base words bytes entry =
      ap (λ n. all_set x p.settings (record f { base = n }) (entered (along log) f.entry 0)) base
      ∙ ap (λ g. all_set x p.settings (record f { base = 0; words = g }) (entered (along log) f.entry 0)) words
      ∙ ap (λ g. all_set x p.settings (record f { base = 0; words = e.words; bytes = g }) (entered (along log) f.entry 0)) bytes
      ∙ ap (λ s. all_set x p.settings (grounded f) (entered (along log) s 0)) entry
      ∙ readied_as f

abbrev pub whole : Node → Node → Binding
whole memory base = record { entry = memory; parameters = []; base = base }

pub binds_whole : (d : List Shape) (memory base : Node) → IsTerm d Memory memory → IsTerm d (Word W64) base → IsBinding d (whole memory base)
binds_whole d memory base hm hb = record {
  entry = node_of d _ memory hm;
  entry_sort = hm.same;
  parameters = tt;
  base = node_of d _ base hb;
  base_sort = hb.same;
}

pub ready_is : (p : Core) (log : List ℕ) (bounds : Bounds) (rows : List (List Entry)) (a b c d f g : List Shape) (first set states : List State)
    (memory base : Node) → Starts log a b first → Sets (still_around log bounds) 4294967296 p.settings b c first set
    → Begins c d memory (made_all p.objects) → Makes d f (shape.Constant 0 W64) (Ok base) → PutsIn f g (whole memory base) set states
    → Readies (tour_of p log bounds rows) a g states
ready_is p log bounds rows a b c d f g first set states memory base starts sets begins based puts = record {
  grows = grows_on starts.grows (grows_on sets.grows (grows_on begins.grows (grows_on based.grows puts.grows)));
  states = puts.states;
  stand = λ e v m. (each e v m (based.bank.valued (bound e v (whole memory base)))).0;
  sized = λ e v m. (each e v m (based.bank.valued (bound e v (whole memory base)))).1;
} where
  each : (e : Environment) (v : Values) → Models g e v → (w : Values) × Models f (bound e v (whole memory base)) w
      → (standing v states ≡ to_list (bared (readied (tour_of p log bounds rows) e))) × AllSized (bared (readied (tour_of p log bounds rows) e))
  each e v m (w, mw) =
      let mf = weaken puts.grows m in
      let y = bound e v (whole memory base) in
      let x = still_around log bounds in
      let at : y.base ≡ 0 = ap (λ (q : Worth). q.word) (based.value.is e v mf) in
      let store : y.entry ≡ made_all p.objects (initial e.bytes) = begins.is e v (weaken based.grows mf) in
      let mc = weaken (grows_on begins.grows based.grows) mw in
      let roomy : IsRoomy 4294967296 y = record { places = omega (arith, at) } in
      let small : IsSized y.entry = subst IsSized (sym store) (start_sized e.bytes c d memory (made_all p.objects) begins) in
      let begun = entered (along log) y.entry 0 in
      let same = readied_in p log bounds rows e y at refl refl store in
      let stand = sets.goes.stands y w mc roomy (Some (arrows.bare begun)) (starts.stand y w (weaken sets.grows mc)) small in
      let sized = sets.goes.sized y w mc roomy (arrows.bare begun) small in (
        puts.same e v w m mw ∙ stand ∙ ap (λ o. to_list (bared o)) same,
        subst (λ o. AllSized (bared o)) same sized,
      )
