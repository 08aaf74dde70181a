-- `main`, entered from what was before it.
use Rattle.std.proofs.Common.{◌≡◌, ◌+◌, ◌-◌, ◌≤◌, ◌^◌, ℕ, suc, ℤ, List, [], ◌∷◌, ◌++◌, Bool}
use Rattle.std.proofs.Common.{true, false, cond, Option, Some, None, refl, sym, ap, subst, ◌∙◌, arith}
use Rattle.std.specs.Prelude.{Ok}
use Rattle.c_store.specs.Store.{Store}
use Rattle.c_means.specs.Parts.{Limits}
use Rattle.c_means.specs.declared.kind.Kind.TheVariants as k
use Rattle.core_tree.specs.Programs.{main_arguments}
use Rattle.core_tree.specs.States.{Done, where_running}
use Rattle.term_bank.specs.declared.binding.Binding.{Binding}
use Rattle.term_bank.specs.declared.sort.Node.{Node}
use Rattle.term_bank.specs.declared.shape.Connective.TheVariants as connective
use Rattle.term_bank.specs.declared.shape.Shape.{Shape}
use Rattle.term_bank.specs.declared.shape.Shape.TheVariants as shape
use Rattle.term_bank.specs.Terms.{Makes}
use Rattle.term_bank.specs.Bindings.{bound}
use Rattle.term_bank.specs.Values.{Environment, Values, Models, Grows, Worth}
use Rattle.term_bank.proofs.BankLemmas.{weaken, stays, grows_on}
use Rattle.path_states.specs.declared.kinds.StateKind.{StateKind}
use Rattle.path_states.specs.declared.kinds.StateKind.TheVariants.{Known, Exited}
use Rattle.path_states.specs.declared.state.State.{State}
use Rattle.path_states.specs.States.{Held, IsState, IsSized, IsRoomy, AllSized, kind_in, done_in, run_in, standing}
use Rattle.path_states.specs.Ways.{to_list}
use Rattle.path_states.proofs.Growth.{state_grown, states_grown, states_joined, standing_joined}
use Rattle.path_arrows.specs.Arrows.{bared, is_running}
use Rattle.summary_compose.specs.declared.summary.Summary.{Summary}
use Rattle.summary_compose.specs.Renaming.{each_of}
use Rattle.summary_compose.specs.Summaries.{world_in}
use Rattle.summary_compose.specs.Composing.{PutsIn}
use Rattle.log_expr.specs.Tours.{Tour}
use Rattle.path_summaries.specs.Tours.{does, room_in}
use Rattle.run_formula.specs.Arguments.{Binds, given_in, places_given}
use Rattle.run_formula.specs.Whole.{main_arrow, main_from, main_list, IsMain, AllSizedIn, Guards, EntersOne, EntersAll}
use Rattle.run_formula.proofs.ArgumentLaws.{given_made, values_given}

-- ---- a further guard

guard_step : (g t p : Bool) (h : Held) (xs ys : List Held) → p ≡ cond g t false → ys ≡ cond g xs []
    → ys ++ cond p (h ∷ []) [] ≡ cond g (xs ++ cond t (h ∷ []) []) []
guard_step true t p h xs ys is same = ap (λ q. ys ++ cond q (h ∷ []) []) is ∙ ap (λ zs. zs ++ cond t (h ∷ []) []) same
guard_step false t p h xs ys is same = ap (λ q. ys ++ cond q (h ∷ []) []) is ∙ ap (λ zs. zs ++ []) same

nothing_either : (g : Bool) → [] ≡ cond {A = List Held} g [] []
nothing_either true = refl
nothing_either false = refl

pub guards_none : (a : List Shape) (guard : Node) → Guards a a guard [] []
guards_none a guard = record { grows = stays; states = tt; stand = λ e v m. nothing_either (v guard.index).truth }

pub guards_more : (a b c : List Shape) (guard both : Node) (ss ts : List State) (s next : State) → Guards a b guard ss ts → IsState b s
    → Makes b c (shape.Connect connective.And guard.index s.guard.index) (Ok both) → next ≡ record s { guard = both }
    → Guards a c guard (ss ++ s ∷ []) (ts ++ next ∷ [])
guards_more a b c guard both ss ts s next h is k same =
    subst (λ q. Guards a c guard (ss ++ s ∷ []) (ts ++ q ∷ [])) (sym same)
    (record {
      grows = grows_on h.grows k.grows;
      states = states_joined c ts (record s { guard = both } ∷ []) (states_grown k.grows ts h.states) (now, tt);
      stand = λ e v m.
          standing_joined v ts (record s { guard = both } ∷ [])
          ∙ guard_step (v guard.index).truth (v s.guard.index).truth (v both.index).truth (run_in v s) (standing v ss) (standing v ts)
          (ap (λ (w : Worth). w.truth) (k.value.is e v m)) (h.stand e v (weaken k.grows m))
          ∙ ap (λ l. cond (v guard.index).truth l []) (sym (standing_joined v ss (s ∷ [])));
    })
  where
    grown : IsState c s
    grown = state_grown k.grows s is

    now : IsState c (record s { guard = both })
    now = record { guard = k.node; kind = grown.kind; memory = grown.memory; value = grown.value; events = grown.events; operands = grown.operands }

-- ---- a state

where_on : {A : Type 0} (v : Values) (kind : StateKind) (a b : A) → is_running kind ≡ true → where_running (kind_in v kind) a b ≡ a
where_on v (Known k.Running) a b h = refl
where_on v (Known k.Breaking) a b h = absurd (cc)
where_on v (Known k.Continuing) a b h = absurd (cc)
where_on v (Known k.Returning) a b h = absurd (cc)
where_on v (Known (k.Going name)) a b h = absurd (cc)
where_on v (Known (k.Choosing value)) a b h = absurd (cc)
where_on v (Known k.Defaulting) a b h = absurd (cc)
where_on v (Known (k.Ended f)) a b h = absurd (cc)
where_on v (Exited status) a b h = absurd (cc)

where_off : {A : Type 0} (v : Values) (kind : StateKind) (a b : A) → is_running kind ≡ false → where_running (kind_in v kind) a b ≡ b
where_off v (Known k.Running) a b h = absurd (cc)
where_off v (Known k.Breaking) a b h = refl
where_off v (Known k.Continuing) a b h = refl
where_off v (Known k.Returning) a b h = refl
where_off v (Known (k.Going name)) a b h = refl
where_off v (Known (k.Choosing value)) a b h = refl
where_off v (Known k.Defaulting) a b h = refl
where_off v (Known (k.Ended f)) a b h = refl
where_off v (Exited status) a b h = refl

pub enters_other : (given : Bool) (l : Limits) (a : List Shape) (m : Summary) (place : ℕ) (s : State) (ts : List State) → IsState a s → is_running s.kind ≡ false
    → ts ≡ record s { operands = [] } ∷ [] → EntersOne given l a a m place s ts
enters_other given l a m place s ts is other same =
    subst (λ q. EntersOne given l a a m place s q) (sym same)
    (record {
      grows = stays;
      states = (record { guard = is.guard; kind = is.kind; memory = is.memory; value = is.value; events = is.events; operands = tt }, tt);
      stand = λ t main e v k sized.
          ap (λ (o : Option (Done ℕ)). cond (v s.guard.index).truth (to_list (bared o)) [])
          (sym (where_off v s.kind (main_arrow t e (done_in v s)) (Some (done_in v s)) other));
    })

where_true : (g : Bool) (xs ys : List Held) → (g ≡ true → xs ≡ ys) → cond g xs [] ≡ cond g ys []
where_true true xs ys h = h refl
where_true false xs ys h = refl

module _ (given : Bool) (l : Limits) (a : List Shape) (m : Summary) (place : ℕ) where
  -- `main` from what it is given, by what the program says of that
  main_called : (t : Tour) → IsMain given l t a m place → (e : Environment) (d : Done ℕ)
      → does t (t.depth - 1) (world_in e) t.core.main (main_arguments given (world_in e) l place) (place + places_given given l)
      (given_in given (world_in e) l place d.store) d.out
      ≡ main_arrow t e d
  main_called t main e d =
      let called : Bool → Limits → ℕ → Option (Done ℕ) = λ g k p.
      does t (t.depth - 1) (world_in e) t.core.main (main_arguments g (world_in e) k p) (p + places_given g k)
      (given_in g (world_in e) k p d.store) d.out in
      ap (λ p. called given l p) main.behind
      ∙ ap (λ g. called g l (suc t.core.places)) (sym main.has)
      ∙ ap (λ k. called t.core.has_arguments k (suc t.core.places)) (sym main.limits)
      ∙ ap (main_from t e) (sym (given_made t.core.has_arguments t (world_in e) (suc t.core.places) d))

  pub enters_running : (b c d : List Shape) (put : Binding) (s : State) (ends ts : List State) → is_running s.kind ≡ true
      → s.position ≡ 0 → Binds given l place a b s.memory put → PutsIn b c put m.states ends → Guards c d s.guard ends ts
      → EntersOne given l a d m place s ts
  enters_running b c d put s ends ts runs begins binds puts guards = record {
    grows = grows_on binds.grows (grows_on puts.grows guards.grows);
    states = guards.states;
    stand = λ t main e v k sized.
        let kc = weaken guards.grows k in
        guards.stand e v k
        ∙ where_true (v s.guard.index).truth (standing v ends) (main_list t e (run_in v s))
        (λ g. each t main e v kc (sized g) (binds.bank.valued (bound e v put)));
  } where
    each : (t : Tour) → IsMain given l t a m place → (e : Environment) (v : Values) → Models c e v → IsSized (v s.memory.index).store
        → (w : Values) × Models b (bound e v put) w → standing v ends ≡ main_list t e (run_in v s)
    each t main e v k sized (w, mw) =
        let y = bound e v put in
        let world = world_in e in
        let kb = weaken puts.grows k in
        let store = given_in given world l place (v s.memory.index).store in
        let at : y.base ≡ place + places_given given l = binds.base e v kb in
        let found : y.entry ≡ store = binds.entry e v kb in
        let room = room_in t (t.depth - 1) main.stands.function in
        let roomy : IsRoomy room y = record { places = subst (λ p. p + room ≤ 2 ^ 32) (sym at) main.within } in
        let small : IsSized y.entry = subst IsSized (sym found) (binds.sized world (v s.memory.index).store sized) in
        let call : List ℤ → ℕ → Store → ℕ → List Held = λ zs p q o. to_list (bared (does t (t.depth - 1) world t.core.main zs p q o)) in
        puts.same e v w k mw
        ∙ main.stands.stands y w (weaken (grows_on main.grown binds.grows) mw) roomy small
        ∙ ap (λ zs. call zs y.base y.entry 0)
        (values_given given world l place m.parameters y main.takes (binds.parameters e v kb) (main.few world place) binds.low)
        ∙ ap (λ p. call (main_arguments given world l place) p y.entry 0) at
        ∙ ap (λ q. call (main_arguments given world l place) (place + places_given given l) q 0) found
        ∙ ap (λ o. call (main_arguments given world l place) (place + places_given given l) store o) (sym begins)
        ∙ ap (λ o. to_list (bared o)) (main_called t main e (done_in v s))
        ∙ ap (λ (o : Option (Done ℕ)). to_list (bared o)) (sym (where_on v s.kind (main_arrow t e (done_in v s)) (Some (done_in v s)) runs))

-- ---- all states

each_joined : (f : Held → List Held) (xs ys : List Held) → each_of f (xs ++ ys) ≡ each_of f xs ++ each_of f ys
each_joined f [] ys = refl
each_joined f (x ∷ xs) ys = ap (λ l. f x ++ l) (each_joined f xs ys) ∙ sym (append_assoc (f x) (each_of f xs) (each_of f ys)) where
  append_assoc : (xs ys zs : List Held) → (xs ++ ys) ++ zs ≡ xs ++ (ys ++ zs)
  append_assoc [] ys zs = refl
  append_assoc (x ∷ xs) ys zs = ap (λ l. x ∷ l) (append_assoc xs ys zs)

sized_front : (xs ys : List Held) → AllSizedIn (xs ++ ys) → AllSizedIn xs
sized_front [] ys h = tt
sized_front (x ∷ xs) ys h = (h.0, sized_front xs ys h.1)

sized_back : (xs ys : List Held) → AllSizedIn (xs ++ ys) → AllSizedIn ys
sized_back [] ys h = h
sized_back (x ∷ xs) ys h = sized_back xs ys h.1

sized_last : (g : Bool) (h : Held) → AllSizedIn (cond g (h ∷ []) []) → g ≡ true → IsSized h.done.store
sized_last true h k is = k.0
sized_last false h k is = absurd (cc)

no_more : (xs : List Held) → xs ≡ xs ++ []
no_more [] = refl
no_more (x ∷ xs) = ap (λ l. x ∷ l) (no_more xs)

each_last : (f : Held → List Held) (g : Bool) (h : Held) → cond g (f h) [] ≡ each_of f (cond g (h ∷ []) [])
each_last f true h = no_more (f h)
each_last f false h = refl

main_grown : (given : Bool) (l : Limits) (t : Tour) (a b : List Shape) (m : Summary) (place : ℕ) → Grows a b → IsMain given l t a m place
    → IsMain given l t b m place
main_grown given l t a b m place g h = record {
  begun = h.begun;
  grown = grows_on h.grown g;
  stands = h.stands;
  has = h.has;
  limits = h.limits;
  few = h.few;
  takes = h.takes;
  behind = h.behind;
  within = h.within;
}

pub enters_none : (given : Bool) (l : Limits) (a : List Shape) (m : Summary) (place : ℕ) → EntersAll given l a a m place [] []
enters_none given l a m place = record { grows = stays; states = tt; stand = λ t main e v k sized. refl }

pub enters_more : (given : Bool) (l : Limits) (a b c : List Shape) (m : Summary) (place : ℕ) (ss ts us : List State) (s : State)
    → EntersAll given l a b m place ss ts → EntersOne given l b c m place s us → EntersAll given l a c m place (ss ++ s ∷ []) (ts ++ us)
enters_more given l a b c m place ss ts us s h i = record {
  grows = grows_on h.grows i.grows;
  states = states_joined c ts us (states_grown i.grows ts h.states) i.states;
  stand = λ t main e v k sized.
      let parts = subst AllSizedIn (standing_joined v ss (s ∷ [])) sized in
      let before = sized_front (standing v ss) (standing v (s ∷ [])) parts in
      let last = sized_last (v s.guard.index).truth (run_in v s) (sized_back (standing v ss) (standing v (s ∷ [])) parts) in
      standing_joined v ts us
      ∙ ap (λ hs. hs ++ standing v us) (h.stand t main e v (weaken i.grows k) before)
      ∙ ap (λ hs. each_of (main_list t e) (standing v ss) ++ hs)
      (i.stand t (main_grown given l t a b m place h.grows main) e v k last
      ∙ each_last (main_list t e) (v s.guard.index).truth (run_in v s))
      ∙ sym (each_joined (main_list t e) (standing v ss) (standing v (s ∷ [])))
      ∙ ap (each_of (main_list t e)) (sym (standing_joined v ss (s ∷ [])));
}

-- ---- the whole run

sized_run : (o : Option (Done ℕ)) → AllSized (bared o) → AllSizedIn (to_list (bared o))
sized_run None h = tt
sized_run (Some d) h = (h, tt)

pub enters_run : (given : Bool) (l : Limits) (t : Tour) (e : Environment) (o : Option (Done ℕ)) (a b : List Shape) (m : Summary) (place : ℕ) (ss ts : List State) (v : Values)
    → EntersAll given l a b m place ss ts → IsMain given l t a m place → Models b e v → standing v ss ≡ to_list (bared o) → AllSized (bared o)
    → standing v ts ≡ each_of (main_list t e) (to_list (bared o))
enters_run given l t e o a b m place ss ts v h main k stand sized =
    h.stand t main e v k (subst AllSizedIn (sym stand) (sized_run o sized)) ∙ ap (each_of (main_list t e)) stand
