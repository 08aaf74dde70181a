-- What trials make of one state.
use Rattle.std.proofs.Common.{◌≡◌, ℕ, ℤ, List, [], ◌∷◌, ◌++◌, Bool, true, false, not, cond, Option, Some, refl, sym, ap, ◌∙◌, subst}
use Rattle.std.specs.Prelude.{Result, Ok, Err}
use Rattle.c_language.specs.Integers.{is_zero, number_of}
use Rattle.c_language.specs.Operators.{Answer}
use Rattle.core_tree.specs.States.{Done, or_stop}
use Rattle.term_bank.specs.declared.sort.Node.{Node}
use Rattle.term_bank.specs.declared.shape.Shape.{Shape}
use Rattle.term_bank.specs.declared.shape.Shape.TheVariants.{Not}
use Rattle.term_bank.specs.Terms.{Makes}
use Rattle.term_bank.specs.Values.{Environment, Worth, Values, Models, Grows}
use Rattle.term_bank.proofs.BankLemmas.{weaken, grows_on}
use Rattle.path_states.specs.declared.state.Number.{Number}
use Rattle.path_states.specs.declared.state.State.{State}
use Rattle.path_states.specs.declared.state.Walked.{Walked}
use Rattle.path_states.specs.States.{Held, IsNumber, IsState, IsRoomy, IsSized, AllSized, run_in, done_in, onto, number_in}
use Rattle.path_states.specs.Ways.{to_list, Trial, going, ending, Tries}
use Rattle.path_states.proofs.Growth.{numbers_joined, onto_pushed, state_grown}
use Rattle.path_numbers.specs.declared.tested.Tested.{Tested}
use Rattle.path_numbers.specs.Answers.{Numbered, Truthful, Answers}
use Rattle.path_steps.specs.declared.settling.Exit.{Exit}
use Rattle.path_steps.specs.Operands.{Pops, top, under, pushed, on_none, on_one, on_two}
use Rattle.path_steps.specs.Exits.{settled_in, Settles, exit_at}
use Rattle.path_steps.proofs.Exiting.{settled_answer}

-- ---- what keeps a store sized

pub record Keeps (f : Trial) : Type 0 where
  pub keeps : (e : Environment) (v : Values) (h : Held) → IsSized h.done.store
      → AllSized (going (f e v h)) × AllSized (ending (f e v h))

pub answer_keeps : (zs : List ℤ) (a : Answer) (at : ℕ) (d : Done ℕ) → IsSized d.store
    → AllSized (going (pushed zs (or_stop at a d))) × AllSized (ending (pushed zs (or_stop at a d)))
answer_keeps zs (Ok z) at d k = (k, tt)
answer_keeps zs (Err u) at d k = (tt, k)

-- ---- states with one more operand

pub with_operand : (b : List Shape) (s : State) (xs : List Number) (x : Number) → IsState b (record s { operands = xs }) → IsNumber b x
    → IsState b (record s { operands = xs ++ x ∷ [] })
with_operand b s xs x is h = record {
  guard = is.guard;
  kind = is.kind;
  memory = is.memory;
  value = is.value;
  events = is.events;
  operands = numbers_joined b xs (x ∷ []) is.operands (h, tt);
}

pub nothing_so : {A : Type 0} (g : Bool) → ◌≡◌ {A = List A} [] (cond g [] [])
nothing_so true = refl
nothing_so false = refl

put_at : (room : ℕ) (a b : List Shape) (s : State) (xs : List Number) (x : Number) (f : Trial) → Grows a b
    → IsState b (record s { operands = xs }) → IsNumber b x
    → ((e : Environment) (v : Values) → Models b e v → IsRoomy room e
    → f e v (run_in v s) ≡ Some (Ok (record { operands = number_in v x ∷ onto v [] xs; done = done_in v s })))
    → Keeps f → Tries room a b s (record { going = record s { operands = xs ++ x ∷ [] } ∷ []; ended = [] }) f
put_at room a b s xs x f g is h same keep = record {
  going = record {
    grows = g;
    states = (with_operand b s xs x is h, tt);
    stands = λ e v m r k.
        ap (λ l. cond (v s.guard.index).truth (record { operands = l; done = done_in v s } ∷ []) []) (onto_pushed v [] xs x)
        ∙ ap (λ o. cond (v s.guard.index).truth (to_list (going o)) []) (sym (same e v m r));
    sized = λ e v m r d k. (keep.keeps e v d k).0;
  };
  ended = record {
    grows = g;
    states = tt;
    stands = λ e v m r k.
        nothing_so (v s.guard.index).truth ∙ ap (λ o. cond (v s.guard.index).truth (to_list (ending o)) []) (sym (same e v m r));
    sized = λ e v m r d k. (keep.keeps e v d k).1;
  };
}

pub tries_put : (room : ℕ) (a b : List Shape) (s t : State) (x : Number) (f : Trial) → Grows a b → IsState b t → IsNumber b x
    → t ≡ record s { operands = t.operands }
    → ((e : Environment) (v : Values) → Models b e v → IsRoomy room e
    → f e v (run_in v s) ≡ Some (Ok (record { operands = number_in v x ∷ onto v [] t.operands; done = done_in v s })))
    → Keeps f → Tries room a b s (record { going = record t { operands = t.operands ++ x ∷ [] } ∷ []; ended = [] }) f
tries_put room a b s t x f g is h same means keep =
    let P : State → Type 0 = λ u. Tries room a b s (record { going = u ∷ []; ended = [] }) f in
    let as_state : State → Type 0 = λ u. IsState b u in
    subst P (sym (ap (λ (u : State). record u { operands = t.operands ++ x ∷ [] }) same))
    (put_at room a b s t.operands x f g (subst as_state same is) h means keep)

-- ---- states that may leave

when_so : (g : Bool) (x y : Option (Result Held (Done ℕ))) (f : Option (Result Held (Done ℕ)) → Option Held) → (g ≡ true → x ≡ y)
    → cond g (to_list (f x)) [] ≡ cond g (to_list (f y)) []
when_so true x y f h = ap (λ o. to_list (f o)) (h refl)
when_so false x y f h = refl

pub tries_settled : (room : ℕ) (a b c : List Shape) (s t next : State) (x y : Option Exit) (w : Walked) (f : Trial) → Grows a b
    → t ≡ record s { operands = t.operands } → Settles b c t next x y w
    → ((e : Environment) (v : Values) → Models c e v → IsRoomy room e → (v s.guard.index).truth ≡ true
    → IsSized (run_in v s).done.store → settled_in v t next x y ≡ f e v (run_in v s))
    → Keeps f → Tries room a c s w f
tries_settled room a b c s t next x y w f g same h means keep =
    let guard : (v : Values) → (v t.guard.index).truth ≡ (v s.guard.index).truth = λ v. ap (λ (u : State). (v u.guard.index).truth) same in
    record {
      going = record {
        grows = grows_on g h.grows;
        states = h.going_states;
        stands = λ e v m r k.
            h.going_is e v m
            ∙ ap (λ (q : Bool). cond q (to_list (going (settled_in v t next x y))) []) (guard v)
            ∙ when_so (v s.guard.index).truth (settled_in v t next x y) (f e v (run_in v s)) going (λ q. means e v m r q (k q));
        sized = λ e v m r d k. (keep.keeps e v d k).0;
      };
      ended = record {
        grows = grows_on g h.grows;
        states = h.ended_states;
        stands = λ e v m r k.
            h.ended_is e v m
            ∙ ap (λ (q : Bool). cond q (to_list (ending (settled_in v t next x y))) []) (guard v)
            ∙ when_so (v s.guard.index).truth (settled_in v t next x y) (f e v (run_in v s)) ending (λ q. means e v m r q (k q));
        sized = λ e v m r d k. (keep.keeps e v d k).1;
      };
    }

-- ---- forms of leaves

-- a value that no operand gives
pub found_by_none : (room : ℕ) (a b : List Shape) (s : State) (x : Number) (z : Environment → ℤ) → IsState a s → Grows a b → IsNumber b x
    → ((e : Environment) (v : Values) → Models b e v → IsRoomy room e → number_in v x ≡ z e)
    → Tries room a b s (record { going = record s { operands = s.operands ++ x ∷ [] } ∷ []; ended = [] })
    (on_none (λ e d. Some (Ok (z e, d))))
found_by_none room a b s x z is g h means =
    tries_put room a b s s x (on_none (λ e d. Some (Ok (z e, d)))) g (state_grown g s is) h refl
    (λ e v m r. ap (λ q. Some (Ok (record { operands = q ∷ onto v [] s.operands; done = done_in v s }))) (sym (means e v m r)))
    (record { keeps = λ e v d k. (k, tt) })

-- a value of the operand on top
pub found_by_one : (room : ℕ) (a b c : List Shape) (s t : State) (p x : Number) (z : ℤ → ℤ) → Pops a b s t p
    → Numbered b c x (λ v. z (number_in v p))
    → Tries room a c s (record { going = record t { operands = t.operands ++ x ∷ [] } ∷ []; ended = [] })
    (on_one (λ e q d. Some (Ok (z q, d))))
found_by_one room a b c s t p x z h i =
    tries_put room a c s t x (on_one (λ e q d. Some (Ok (z q, d)))) (grows_on h.grows i.grows) (state_grown i.grows t h.state) i.number h.same
    (λ e v m r.
    let mb = weaken i.grows m in
    ap (λ q. Some (Ok (record { operands = q ∷ under (onto v [] s.operands); done = done_in v s })))
    (sym (i.is e v m ∙ ap z (h.is e v mb)))
    ∙ ap (λ l. Some (Ok (record { operands = number_in v x ∷ l; done = done_in v s }))) (sym (h.rest e v mb)))
    (record { keeps = λ e v d k. (k, tt) })

pub done_same : (v : Values) (s t : State) → t ≡ record s { operands = t.operands } → done_in v t ≡ done_in v s
done_same v s t same = ap (λ (u : State). done_in v u) same

-- an answer of the operand on top
pub answer_by_one : (room : ℕ) (a b c d : List Shape) (s t : State) (p : Number) (q : Tested) (at : ℕ) (w : Walked) (f : ℤ → Answer)
    → Pops a b s t p → Answers b c q (λ v. f (number_in v p))
    → Settles c d t (record t { operands = t.operands ++ q.number ∷ [] }) (exit_at at q.first) (exit_at at q.second) w
    → Tries room a d s w (on_one (λ e z d. or_stop at (f z) d))
answer_by_one room a b c d s t p q at w f h i j =
    tries_settled room a c d s t (record t { operands = t.operands ++ q.number ∷ [] }) (exit_at at q.first) (exit_at at q.second) w
    (on_one (λ e z d. or_stop at (f z) d)) (grows_on h.grows i.grows) h.same j
    (λ e v m r g k.
    let mc = weaken j.grows m in let mb = weaken i.grows mc in
    settled_answer v t q at
    ∙ ap (λ n. pushed (onto v [] t.operands) (or_stop at n (done_in v t))) (i.is e v mc ∙ ap f (h.is e v mb))
    ∙ ap (λ l. pushed l (or_stop at (f (top (onto v [] s.operands))) (done_in v t))) (h.rest e v mb)
    ∙ ap (λ n. pushed (under (onto v [] s.operands)) (or_stop at (f (top (onto v [] s.operands))) n)) (done_same v s t h.same))
    (record { keeps = λ e v n k. answer_keeps (under n.operands) (f (top n.operands)) at n.done k })

-- an answer of the two operands on top
pub answer_by_two : (room : ℕ) (a b c d f : List Shape) (s t u : State) (y x : Number) (q : Tested) (at : ℕ) (w : Walked)
    (g : ℤ → ℤ → Answer) → Pops a b s t y → Pops b c t u x → Answers c d q (λ v. g (number_in v x) (number_in v y))
    → Settles d f u (record u { operands = u.operands ++ q.number ∷ [] }) (exit_at at q.first) (exit_at at q.second) w
    → Tries room a f s w (on_two (λ e x y d. or_stop at (g x y) d))
answer_by_two room a b c d f s t u y x q at w g h h' i j =
    let same : u ≡ record s { operands = u.operands } =
    h'.same ∙ ap (λ (n : State). record n { operands = u.operands }) h.same in
    tries_settled room a d f s u (record u { operands = u.operands ++ q.number ∷ [] }) (exit_at at q.first) (exit_at at q.second) w
    (on_two (λ e x y d. or_stop at (g x y) d)) (grows_on h.grows (grows_on h'.grows i.grows)) same j
    (λ e v m r gd k.
    let md = weaken j.grows m in let mc = weaken i.grows md in let mb = weaken h'.grows mc in
    let zs = onto v [] s.operands in
    let left : number_in v x ≡ top (under zs) = h'.is e v mc ∙ ap top (h.rest e v mb) in
    let rest : onto v [] u.operands ≡ under (under zs) = h'.rest e v mc ∙ ap under (h.rest e v mb) in
    settled_answer v u q at
    ∙ ap (λ n. pushed (onto v [] u.operands) (or_stop at n (done_in v u)))
    (i.is e v md ∙ ap (λ n. g n (number_in v y)) left ∙ ap (λ n. g (top (under zs)) n) (h.is e v mb))
    ∙ ap (λ l. pushed l (or_stop at (g (top (under zs)) (top zs)) (done_in v u))) rest
    ∙ ap (λ n. pushed (under (under zs)) (or_stop at (g (top (under zs)) (top zs)) n)) (done_same v s u same))
    (record { keeps = λ e v n k. answer_keeps (under (under n.operands)) (g (top (under n.operands)) (top n.operands)) at n.done k })

-- ---- the other truth as a number

twice : (c : Bool) → not (not c) ≡ c
twice true = refl
twice false = refl

pub numbered_zero : (a b c d : List Shape) (p x : Number) (t n : Node) → Truthful a b t (λ v. not (is_zero (number_in v p)))
    → Makes b c (Not t.index) (Ok n) → Numbered c d x (λ v. number_of (v n.index).truth)
    → Numbered a d x (λ v. number_of (is_zero (number_in v p)))
numbered_zero a b c d p x t n h i j = record {
  grows = grows_on h.grows (grows_on i.grows j.grows);
  bank = j.bank;
  number = j.number;
  is = λ e v m.
      let mc = weaken j.grows m in
      j.is e v m
      ∙ ap number_of (ap (λ (w : Worth). w.truth) (i.value.is e v mc) ∙ ap not (h.is e v (weaken i.grows mc)) ∙ twice (is_zero (number_in v p)));
}
