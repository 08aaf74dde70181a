-- Operators on two numbers of a state.
use Rattle.std.proofs.Common.{◌≡◌, ℕ, ◌^◌, ◌<◌, ℤ, pos, negsuc, neg_ℤ, ◌+ℤ◌, ◌-ℤ◌, ◌*ℤ◌, List, [], ◌∷◌, ◌++◌, Bool, true, false, not, cond, ◌&&◌, Option, Some, None, refl, sym, ap, ◌∙◌, arith}
use Rattle.std.specs.Prelude.{Result, Ok, Err}
use Rattle.plain_data.specs.declared.run.Finish.TheVariants as finish
use Rattle.plain_data.specs.declared.run.Undefined.{Undefined}
use Rattle.plain_data.specs.declared.run.Undefined.TheVariants.{PointerRange, PointerOrder}
use Rattle.c_store.specs.Store.{Store}
use Rattle.c_language.specs.Operators.{Answer}
use Rattle.c_store.specs.Access.{in_one_object}
use Rattle.c_language.specs.Integers.{number_of}
use Rattle.c_means.specs.Pointers.{elements_in}
use Rattle.c_means.specs.Values.{address}
use Rattle.core_tree.specs.declared.types.Operator.{Operator}
use Rattle.core_tree.specs.declared.types.Operator.TheVariants as op
use Rattle.core_tree.specs.Memory.{operated, moved_to}
use Rattle.core_tree.specs.Numbers.{worked, in_order}
use Rattle.core_tree.specs.States.{Done, Outcome, found, stop, or_stop}
use Rattle.term_bank.specs.declared.sort.Node.{Node}
use Rattle.term_bank.specs.declared.shape.Shape.{Shape}
use Rattle.term_bank.specs.declared.shape.Shape.TheVariants.{Not}
use Rattle.term_bank.specs.Terms.{Makes}
use Rattle.term_bank.specs.Values.{Environment, Worth, Values, Models, Grows}
use Rattle.term_bank.proofs.BankLemmas.{weaken, grows_on}
use Rattle.path_states.specs.declared.state.Number.{Number}
use Rattle.path_states.specs.declared.state.State.{State}
use Rattle.path_states.specs.declared.state.Walked.{Walked}
use Rattle.path_states.specs.States.{Held, IsNumber, IsState, IsSized, AllSized, run_in, done_in, onto, number_in}
use Rattle.path_states.specs.Ways.{Trial, going, ending, Tries}
use Rattle.path_states.proofs.Growth.{number_grown, onto_pushed}
use Rattle.path_numbers.specs.declared.tested.Tested.{Tested}
use Rattle.path_numbers.specs.declared.tested.Fault.{Fault}
use Rattle.path_numbers.specs.Answers.{Answers, answer_in, failing, IsMaybeFault}
use Rattle.path_steps.specs.declared.operators.Operated.{Operated}
use Rattle.path_steps.specs.declared.settling.Exit.{Exit}
use Rattle.path_steps.specs.Exits.{Settles, exit_at, exit_in, IsMaybeExit}
use Rattle.path_steps.specs.Operands.{Pops, top, under, pushed, on_two}
use Rattle.path_steps.specs.Operators.{Operates, operated_in}
use Rattle.path_steps.proofs.Trials.{Keeps, answer_keeps, tries_settled, done_same}

-- another outcome, which is the same in every environment
pub operates_as : (a b c : List Shape) (store : Values → Store) (x : Operated) (f g : Values → Done ℕ → Outcome ℕ ℤ) → Grows a b
    → Operates b c store x f
    → ((e : Environment) (v : Values) → Models c e v → (d : Done ℕ) → d.store ≡ store v → f v d ≡ g v d) → Operates a c store x g
operates_as a b c store x f g grows h same = record {
  grows = grows_on grows h.grows;
  number = h.number;
  first = h.first;
  second = h.second;
  is = λ e v m zs d k. h.is e v m zs d k ∙ ap (pushed zs) (same e v m d k);
}

-- ---- faults as exits

fault_exit : (b : List Shape) (at : ℕ) (f : Option Fault) → IsMaybeFault b f → IsMaybeExit b (exit_at at f)
fault_exit b at None h = tt
fault_exit b at (Some f) h = record { term = h.term }

faulty : (v : Values) (at : ℕ) (f : Option Fault) (x : Answer) (zs : List ℤ) (d : Done ℕ)
    → exit_in v (exit_at at f) d (pushed zs (or_stop at x d)) ≡ pushed zs (or_stop at (failing v f x) d)
faulty v at None x zs d = refl
faulty v at (Some f) x zs d = by (v f.truth.index).truth
  where
    by : (c : Bool) → cond c (pushed zs (or_stop at (Err f.kind) d)) (pushed zs (or_stop at x d))
        ≡ pushed zs (or_stop at (cond c (Err f.kind) x) d)
    by true = refl
    by false = refl

-- the answer of an operator on numbers
pub answered : (a b : List Shape) (at : ℕ) (q : Tested) (g : Values → Answer) (store : Values → Store) → Answers a b q g
    → Operates a b store (record { number = q.number; first = exit_at at q.first; second = exit_at at q.second })
    (λ v d. or_stop at (g v) d)
answered a b at q g store h = record {
  grows = h.grows;
  number = h.number;
  first = fault_exit b at q.first h.first;
  second = fault_exit b at q.second h.second;
  is = λ e v m zs d k.
      ap (exit_in v (exit_at at q.first) d) (faulty v at q.second (Ok (number_in v q.number)) zs d)
      ∙ faulty v at q.first (failing v q.second (Ok (number_in v q.number))) zs d
      ∙ ap (λ x. pushed zs (or_stop at x d)) (h.is e v m);
}

-- an answer that can't fail has its number
no_fault : (v : Values) (f : Option Fault) (x : Answer) (z : ℤ) → failing v f x ≡ Ok z → x ≡ Ok z
no_fault v None x z h = h
no_fault v (Some f) x z h = by (v f.truth.index).truth h
  where
    by : (c : Bool) → cond c (Err f.kind) x ≡ Ok z → x ≡ Ok z
    by true h = cc
    by false h = h

ok_number : (x z : ℤ) → ◌≡◌ {A = Answer} (Ok x) (Ok z) → x ≡ z
ok_number x z h = cc

pub surely_number : (v : Values) (q : Tested) (z : ℤ) → answer_in v q ≡ Ok z → number_in v q.number ≡ z
surely_number v q z h = ok_number _ _ (no_fault v q.second _ z (no_fault v q.first _ z h))

-- ---- where a truth is true

pub where_true : (a b : List Shape) (at : ℕ) (kind : Undefined) (allowed n : Node) (x : Number) (store : Values → Store) → IsNumber a x
    → Makes a b (Not allowed.index) (Ok n)
    → Operates a b store (record { number = x; first = Some (record { truth = n; finish = finish.Stopped kind at }); second = None })
    (λ v d. cond (v allowed.index).truth (found (number_in v x) d) (stop at kind d))
where_true a b at kind allowed n x store h m = record {
  grows = m.grows;
  number = number_grown m.grows x h;
  first = record { term = m.node };
  second = tt;
  is = λ e v i zs d k.
      ap (λ (w : Worth). cond w.truth (pushed zs (stop at kind d)) (pushed zs (found (number_in v x) d))) (m.value.is e v i)
      ∙ by (v allowed.index).truth zs d (number_in v x);
}
  where
    by : (c : Bool) (zs : List ℤ) (d : Done ℕ) (z : ℤ)
        → cond (not c) (pushed zs (stop at kind d)) (pushed zs (found z d)) ≡ pushed zs (cond c (found z d) (stop at kind d))
    by true zs d z = refl
    by false zs d z = refl

-- ---- what keeps a store sized

where_keeps : (c : Bool) (zs : List ℤ) (at : ℕ) (kind : Undefined) (z : ℤ) (d : Done ℕ) → IsSized d.store
    → AllSized (going (pushed zs (cond c (found z d) (stop at kind d)))) × AllSized (ending (pushed zs (cond c (found z d) (stop at kind d))))
where_keeps true zs at kind z d k = (k, tt)
where_keeps false zs at kind z d k = (tt, k)

moved_keeps : (zs : List ℤ) (at a : ℕ) (z : ℤ) (d : Done ℕ) → IsSized d.store
    → AllSized (going (pushed zs (moved_to at a z d))) × AllSized (ending (pushed zs (moved_to at a z d)))
moved_keeps zs at a (pos to) d k = where_keeps (in_one_object d.store a to) zs at PointerRange (pos to) d k
moved_keeps zs at a (negsuc n) d k = (tt, k)

operated_keeps : (zs : List ℤ) (at : ℕ) (o : Operator) (x y : ℤ) (d : Done ℕ) → IsSized d.store
    → AllSized (going (pushed zs (operated at o x y d))) × AllSized (ending (pushed zs (operated at o x y d)))
operated_keeps zs at (op.Numbers o t) x y d k = answer_keeps zs (worked o t x y) at d k
operated_keeps zs at (op.Forward size) x y d k = moved_keeps zs at (address x) (pos (address x) +ℤ y *ℤ pos size) d k
operated_keeps zs at (op.ForwardBy size) x y d k = moved_keeps zs at (address y) (pos (address y) +ℤ x *ℤ pos size) d k
operated_keeps zs at (op.Back size) x y d k = moved_keeps zs at (address x) (pos (address x) +ℤ neg_ℤ y *ℤ pos size) d k
operated_keeps zs at (op.Distance size) x y d k =
    where_keeps (in_one_object d.store (address x) (address y)) zs at PointerOrder (elements_in (pos (address x) -ℤ pos (address y)) size) d k
operated_keeps zs at (op.Order r) x y d k =
    where_keeps (in_one_object d.store (address x) (address y)) zs at PointerOrder (number_of (in_order r (address x) (address y))) d k
operated_keeps zs at op.Same x y d k = (k, tt)
operated_keeps zs at op.Different x y d k = (k, tt)

pub operator_keeps : (at : ℕ) (o : Operator) → Keeps (on_two (λ e x y d. operated at o x y d))
operator_keeps at o = record {
  keeps = λ e v h k. operated_keeps (under (under h.operands)) at o (top (under h.operands)) (top h.operands) h.done k;
}

-- ---- the operator on the two operands on top

pub operated_by_two : (room : ℕ) (a b c d f : List Shape) (s t u : State) (y x : Number) (q : Operated) (w : Walked)
    (g : ℤ → ℤ → Done ℕ → Outcome ℕ ℤ) → Keeps (on_two (λ e x y d. g x y d)) → Pops a b s t y → Pops b c t u x
    → Operates c d (λ v. (v u.memory.index).store) q (λ v d. g (number_in v x) (number_in v y) d)
    → Settles d f u (record u { operands = u.operands ++ q.number ∷ [] }) q.first q.second w
    → Tries room a f s w (on_two (λ e x y d. g x y d))
operated_by_two room a b c d f s t u y x q w g keep h h' i j =
    let same : u ≡ record s { operands = u.operands } =
    h'.same ∙ ap (λ (n : State). record n { operands = u.operands }) h.same in
    tries_settled room a d f s u (record u { operands = u.operands ++ q.number ∷ [] }) q.first q.second w
    (on_two (λ e x y d. g x y d)) (grows_on h.grows (grows_on h'.grows i.grows)) same j
    (λ e v m r gd k.
    let md = weaken j.grows m in let mc = weaken i.grows md in let mb = weaken h'.grows mc in
    let zs = onto v [] s.operands in
    let here = done_in v u in
    let left : number_in v x ≡ top (under zs) = h'.is e v mc ∙ ap top (h.rest e v mb) in
    let rest : onto v [] u.operands ≡ under (under zs) = h'.rest e v mc ∙ ap under (h.rest e v mb) in
    ap (λ l. exit_in v q.first here (exit_in v q.second here (Some (Ok (record { operands = l; done = here })))))
    (onto_pushed v [] u.operands q.number)
    ∙ i.is e v md (onto v [] u.operands) here refl
    ∙ ap (λ n. pushed (onto v [] u.operands) (g n (number_in v y) here)) left
    ∙ ap (λ n. pushed (onto v [] u.operands) (g (top (under zs)) n here)) (h.is e v mb)
    ∙ ap (λ l. pushed l (g (top (under zs)) (top zs) here)) rest
    ∙ ap (λ n. pushed (under (under zs)) (g (top (under zs)) (top zs) n)) (done_same v s u same))
    keep
