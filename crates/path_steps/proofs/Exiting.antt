-- Runs that leave by an exit, and those that stay.
use Rattle.std.proofs.Common.{◌≡◌, ℕ, List, [], ◌∷◌, ◌++◌, Bool, true, false, not, cond, Option, Some, None, refl, sym, ap, ◌∙◌, append-nil}
use Rattle.std.specs.Prelude.{Result, Ok, Err}
use Rattle.plain_data.specs.declared.run.Finish.TheVariants as finish
use Rattle.c_means.specs.declared.kind.Kind.TheVariants as k
use Rattle.core_tree.specs.States.{Done, finished, or_stop}
use Rattle.c_language.specs.Operators.{Answer}
use Rattle.term_bank.specs.declared.sort.Sort.TheVariants.{Truth}
use Rattle.term_bank.specs.declared.sort.Node.{Node}
use Rattle.term_bank.specs.declared.shape.Shape.{Shape}
use Rattle.term_bank.specs.Terms.{IsTerm}
use Rattle.term_bank.specs.Values.{Values, Grows}
use Rattle.term_bank.proofs.BankLemmas.{weaken, stays, grows_on}
use Rattle.term_bank.proofs.TermLemmas.{term_grown}
use Rattle.path_states.specs.declared.kinds.StateKind.TheVariants.{Known}
use Rattle.path_states.specs.declared.state.State.{State}
use Rattle.path_states.specs.States.{Held, IsState, AreStates, run_in, done_in, standing, onto, number_in}
use Rattle.path_states.specs.Ways.{to_list, going, ending, Halves}
use Rattle.path_states.proofs.Growth.{state_grown, states_grown, states_joined, standing_joined, onto_pushed}
use Rattle.path_numbers.specs.declared.tested.Fault.{Fault}
use Rattle.path_numbers.specs.declared.tested.Tested.{Tested}
use Rattle.path_numbers.specs.Answers.{answer_in, failing, IsMaybeFault}
use Rattle.path_steps.specs.declared.settling.Exit.{Exit}
use Rattle.path_steps.specs.Operands.{pushed}
use Rattle.path_steps.specs.Exits.{IsMaybeExit, exit_in, settled_in, Settles, exited, remains, Leaves, exit_at}

-- ---- one exit

pub leaves_none : (a : List Shape) (s : State) (g : Node) (ts : List State) → IsTerm a Truth g → AreStates a ts
    → Leaves a a s g g None ts ts
leaves_none a s g ts h are = record {
  grows = stays;
  guard = h;
  states = are;
  guard_is = λ e v m. refl;
  ended = λ e v m. sym (append-nil (standing v ts));
}

pub leaves_some : (a b : List Shape) (s : State) (g one two : Node) (x : Exit) (ts : List State) → IsState a s → AreStates a ts
    → Halves a b g x.truth one two
    → Leaves a b s g two (Some x) ts (ts ++ record s { guard = one; kind = Known (k.Ended x.finish); operands = [] } ∷ [])
leaves_some a b s g one two x ts is are h =
    let t : State = record s { guard = one; kind = Known (k.Ended x.finish); operands = [] } in
    let grown = state_grown h.grows s is in
    record {
      grows = h.grows;
      guard = h.no_term;
      states = states_joined b ts (t ∷ []) (states_grown h.grows ts are)
          (record { guard = h.yes_term; kind = tt; memory = grown.memory; value = grown.value; events = grown.events; operands = tt }, tt);
      guard_is = λ e v m. h.no_is e v m;
      ended = λ e v m.
          standing_joined v ts (t ∷ [])
          ∙ ap (λ c. standing v ts ++ cond c (record { operands = []; done = finished x.finish (done_in v s) } ∷ []) []) (h.yes_is e v m);
    }

pub exit_grown : {a b : List Shape} (g : Grows a b) (x : Option Exit) → IsMaybeExit a x → IsMaybeExit b x
exit_grown g None h = tt
exit_grown {a} {b} g (Some x) h = record { term = term_grown a b _ x.truth g h.term }

-- ---- two exits

goes_by : (v : Values) (s next : State) (g : Node) (x y : Option Exit) (w : Node) → (v w.index).truth ≡ remains v g x → (c : Bool)
    → c ≡ remains v w y
    → cond c (run_in v next ∷ []) [] ≡ cond (v g.index).truth (to_list (going (settled_in v s next x y))) []
goes_by v s next g None None w h c k = rw (k, h) refl
goes_by v s next g None (Some y) w h c k = rw (k, h) (by (v g.index).truth (v y.truth.index).truth)
  where
    by : (p q : Bool) → cond (cond p (not q) false) (run_in v next ∷ []) []
        ≡ cond p (to_list (going (cond q (Some (Err (finished y.finish (done_in v s)))) (Some (Ok (run_in v next)))))) []
    by true true = refl
    by true false = refl
    by false q = refl
goes_by v s next g (Some x) None w h c k = rw (k, h) (by (v g.index).truth (v x.truth.index).truth)
  where
    by : (p q : Bool) → cond (cond p (not q) false) (run_in v next ∷ []) []
        ≡ cond p (to_list (going (cond q (Some (Err (finished x.finish (done_in v s)))) (Some (Ok (run_in v next)))))) []
    by true true = refl
    by true false = refl
    by false q = refl
goes_by v s next g (Some x) (Some y) w h c k = rw (k, h) (by (v g.index).truth (v x.truth.index).truth (v y.truth.index).truth)
  where
    by : (p q r : Bool) → cond (cond (cond p (not q) false) (not r) false) (run_in v next ∷ []) []
        ≡ cond p (to_list (going (cond q (Some (Err (finished x.finish (done_in v s))))
        (cond r (Some (Err (finished y.finish (done_in v s)))) (Some (Ok (run_in v next))))))) []
    by true true r = refl
    by true false true = refl
    by true false false = refl
    by false q r = refl

ends_by : (v : Values) (s next : State) (g : Node) (x y : Option Exit) (w : Node) → (v w.index).truth ≡ remains v g x
    → exited v s g x ++ exited v s w y ≡ cond (v g.index).truth (to_list (ending (settled_in v s next x y))) []
ends_by v s next g None None w h = by (v g.index).truth
  where
    by : (p : Bool) → ◌≡◌ {A = List Held} [] (cond p [] [])
    by true = refl
    by false = refl
ends_by v s next g None (Some y) w h = rw h (by (v g.index).truth (v y.truth.index).truth)
  where
    by : (p q : Bool) → cond (cond p q false) (record { operands = []; done = finished y.finish (done_in v s) } ∷ []) []
        ≡ cond p (to_list (ending (cond q (Some (Err (finished y.finish (done_in v s)))) (Some (Ok (run_in v next)))))) []
    by true true = refl
    by true false = refl
    by false q = refl
ends_by v s next g (Some x) None w h = append-nil (exited v s g (Some x)) ∙ by (v g.index).truth (v x.truth.index).truth
  where
    by : (p q : Bool) → cond (cond p q false) (record { operands = []; done = finished x.finish (done_in v s) } ∷ []) []
        ≡ cond p (to_list (ending (cond q (Some (Err (finished x.finish (done_in v s)))) (Some (Ok (run_in v next)))))) []
    by true true = refl
    by true false = refl
    by false q = refl
ends_by v s next g (Some x) (Some y) w h = rw h (by (v g.index).truth (v x.truth.index).truth (v y.truth.index).truth)
  where
    by : (p q r : Bool) → cond (cond p q false) (record { operands = []; done = finished x.finish (done_in v s) } ∷ []) []
        ++ cond (cond (cond p (not q) false) r false) (record { operands = []; done = finished y.finish (done_in v s) } ∷ []) []
        ≡ cond p (to_list (ending (cond q (Some (Err (finished x.finish (done_in v s))))
        (cond r (Some (Err (finished y.finish (done_in v s)))) (Some (Ok (run_in v next))))))) []
    by true true r = refl
    by true false true = refl
    by true false false = refl
    by false q r = refl

pub settles : (a b c : List Shape) (s next : State) (x y : Option Exit) (w g : Node) (es fs : List State) → IsState a next
    → Leaves a b s s.guard w x [] es → Leaves b c s w g y es fs
    → Settles a c s next x y (record { going = record next { guard = g } ∷ []; ended = fs })
settles a b c s next x y w g es fs is h i =
    let grown = state_grown (grows_on h.grows i.grows) next is in
    record {
      grows = grows_on h.grows i.grows;
      going_states = (record { guard = i.guard; kind = grown.kind; memory = grown.memory; value = grown.value; events = grown.events; operands = grown.operands }, tt);
      ended_states = i.states;
      going_is = λ e v m. goes_by v s next s.guard x y w (h.guard_is e v (weaken i.grows m)) (v g.index).truth (i.guard_is e v m);
      ended_is = λ e v m.
          i.ended e v m ∙ ap (λ l. l ++ exited v s w y) (h.ended e v (weaken i.grows m))
          ∙ ends_by v s next s.guard x y w (h.guard_is e v (weaken i.grows m));
    }

-- ---- answers of operators

pub exit_of_fault : (b : List Shape) (at : ℕ) (f : Option Fault) → IsMaybeFault b f → IsMaybeExit b (exit_at at f)
exit_of_fault b at None h = tt
exit_of_fault b at (Some f) h = record { term = h.term }

pub settled_answer : (v : Values) (t : State) (q : Tested) (at : ℕ)
    → settled_in v t (record t { operands = t.operands ++ q.number ∷ [] }) (exit_at at q.first) (exit_at at q.second)
    ≡ pushed (onto v [] t.operands) (or_stop at (answer_in v q) (done_in v t))
settled_answer v t q at = by q.first q.second
  where
    last : ◌≡◌ {A = Option (Result Held (Done ℕ))} (Some (Ok (run_in v (record t { operands = t.operands ++ q.number ∷ [] }))))
        (Some (Ok (record { operands = number_in v q.number ∷ onto v [] t.operands; done = done_in v t })))
    last = ap (λ l. Some (Ok (record { operands = l; done = done_in v t }))) (onto_pushed v [] t.operands q.number)

    step : (f : Option Fault) (r : Option (Result Held (Done ℕ))) (a : Answer)
        → r ≡ pushed (onto v [] t.operands) (or_stop at a (done_in v t))
        → exit_in v (exit_at at f) (done_in v t) r ≡ pushed (onto v [] t.operands) (or_stop at (failing v f a) (done_in v t))
    step None r a h = h
    step (Some f) r a h =
        elim (v f.truth.index).truth as (λ c. cond c (Some (Err (finished (finish.Stopped f.kind at) (done_in v t)))) r
        ≡ pushed (onto v [] t.operands) (or_stop at (cond c (Err f.kind) a) (done_in v t))) [
          | true ↦ refl
          | false ↦ h
        ]

    by : (x y : Option Fault)
        → exit_in v (exit_at at x) (done_in v t) (exit_in v (exit_at at y) (done_in v t) (Some (Ok (run_in v (record t { operands = t.operands ++ q.number ∷ [] })))))
        ≡ pushed (onto v [] t.operands) (or_stop at (failing v x (failing v y (Ok (number_in v q.number)))) (done_in v t))
    by x y =
        step x (exit_in v (exit_at at y) (done_in v t) (Some (Ok (run_in v (record t { operands = t.operands ++ q.number ∷ [] })))))
        (failing v y (Ok (number_in v q.number))) (step y (Some (Ok (run_in v (record t { operands = t.operands ++ q.number ∷ [] })))) (Ok (number_in v q.number)) last)
