-- Leaves: places by the base, and leaves of each kind.
use Rattle.std.proofs.Common.{◌≡◌, ℕ, ◌+◌, ◌*◌, ◌%◌, ◌^◌, ◌<◌, ◌≤◌, ℤ, pos, List, [], ◌∷◌, ◌++◌, false, Some, ap, sym, ◌∙◌, arith}
use Rattle.std.specs.Prelude.{Ok, unsigned_abs, cond}
use Rattle.std.proofs.Common.{negsuc, FitsSigned, to_z, of_z}
use Rattle.std.specs.Int.{w128}
use Rattle.std.proofs.lemmas.Int.{ints, to_z-of_z}
use Rattle.std.proofs.Math.Nat.{mod-eq_of_lt}
use Rattle.plain_data.specs.declared.width.Width.TheVariants.{W64}
use Rattle.plain_data.specs.Words.{shl}
use Rattle.c_store.specs.Store.{start}
use Rattle.core_tree.specs.Numbers.{turned}
use Rattle.term_bank.specs.declared.shape.WordOperator.TheVariants as operator
use Rattle.term_bank.specs.declared.shape.Shape.{Shape}
use Rattle.term_bank.specs.declared.shape.Shape.TheVariants.{Base, Constant, Binary}
use Rattle.term_bank.specs.declared.sort.Node.{Node}
use Rattle.term_bank.specs.Terms.{Makes}
use Rattle.term_bank.specs.Values.{Worth, result_of, shifted, Values}
use Rattle.term_bank.proofs.BankLemmas.{weaken, stays, grows_on}
use Rattle.path_states.specs.declared.state.State.{State}
use Rattle.path_states.specs.declared.state.Walked.{Walked}
use Rattle.path_states.specs.States.{IsState, IsNumber, number_in}
use Rattle.path_states.specs.Ways.{Tries}
use Rattle.path_states.proofs.Growth.{states_grown, states_joined, number_grown, onto_pushed}
use Rattle.path_states.proofs.Paths.{walks_none, walks_more, walks_then}
use Rattle.path_steps.specs.declared.leaf.Leaf.{Leaf}
use Rattle.path_steps.specs.declared.leaf.Leaf.TheVariants as leaf
use Rattle.path_steps.specs.Leaves.{shifts, again, tucked, leaf_way, HasRoom, IsWithin, room_for, StepsBy, WalksBy, Follows}
use Rattle.c_means.specs.Expressions.{behind}
use Rattle.term_bank.specs.Banks.{IsBank}
use Rattle.path_states.specs.declared.state.Number.{Number}
use Rattle.path_states.specs.States.{onto, done_in}
use Rattle.path_numbers.specs.Answers.{Numbered, Worded}
use Rattle.path_steps.specs.Operands.{Pops, under, top, on_none}
use Rattle.path_steps.proofs.AccessLemmas.{load_keeps, put_keeps}
use Rattle.path_steps.proofs.OperatorLemmas.{operator_keeps}
use Rattle.path_steps.proofs.Trials.{Keeps, answer_keeps, found_by_none, nothing_so, tries_put, with_operand}

-- ---- places

placed : (base offset room : ℕ) → base + room ≤ 2 ^ 32 → offset < room → ((base % 2 ^ 64) + offset) % 2 ^ 64 ≡ base + offset
placed base offset room h k =
    let small : base < 2 ^ 64 = omega arith in
    let sum : base + offset < 2 ^ 64 = omega arith in
    ap (λ n. (n + offset) % 2 ^ 64) (mod-eq_of_lt small) ∙ mod-eq_of_lt sum

started : (p : ℕ) → p < 2 ^ 32 → shifted W64 32 ((p * 2 ^ 32) % 2 ^ 64) ≡ start p
started p h = let small : p * 2 ^ 32 < 2 ^ 64 = omega arith in mod-eq_of_lt small

pub local_found : (room offset : ℕ) (a b c d f g : List Shape) (s : State) (base more place by n : Node) → IsState a s → offset < room
    → Makes a b Base (Ok base) → Makes b c (Constant offset W64) (Ok more)
    → Makes c d (Binary operator.Add W64 base.index more.index) (Ok place) → Makes d f (Constant 32 W64) (Ok by)
    → Makes f g (Binary operator.Shl W64 place.index by.index) (Ok n)
    → Tries room a g s (record {
      going = record s { operands = s.operands ++ record { node = n; word = record { width = W64; is_signed = false } } ∷ [] } ∷ [];
      ended = [];
    }) (on_none (λ e d. Some (Ok (pos (start (e.base + offset)), d))))
unfolding result_of
local_found room offset a b c d f g s base more place by n is within hb hm hp hy hn =
    found_by_none room a g s (record { node = n; word = record { width = W64; is_signed = false } }) (λ e. pos (start (e.base + offset))) is
    (grows_on hb.grows (grows_on hm.grows (grows_on hp.grows (grows_on hy.grows hn.grows)))) (record { term = hn.node })
    (λ e v m r.
    let mf = weaken hn.grows m in let md = weaken hy.grows mf in let mc = weaken hp.grows md in let mb = weaken hm.grows mc in
    let here : (v place.index).word ≡ e.base + offset =
    ap (λ (w : Worth). w.word) (hp.value.is e v md)
    ∙ ap (λ k. (k + (v more.index).word) % 2 ^ 64) (ap (λ (w : Worth). w.word) (hb.value.is e v mb))
    ∙ ap (λ k. ((e.base % 2 ^ 64) + k) % 2 ^ 64) (ap (λ (w : Worth). w.word) (hm.value.is e v mc))
    ∙ placed e.base offset room r.places within in
    let low : e.base + offset < 2 ^ 32 = omega (arith, r.places, within) in
    ap pos (ap (λ (w : Worth). w.word) (hn.value.is e v m)
    ∙ ap (λ k. shifted W64 k (shl W64 (v place.index).word k)) (ap (λ (w : Worth). w.word) (hy.value.is e v mf))
    ∙ ap (λ k. shifted W64 32 (shl W64 k 32)) here
    ∙ started (e.base + offset) low))

-- ---- leaves of each kind

pub leaf_keeps : (x : Leaf) → Keeps (leaf_way x)
leaf_keeps (leaf.Constant z) = record { keeps = λ e v h k. (k, tt) }
leaf_keeps (leaf.Local offset) = record { keeps = λ e v h k. (k, tt) }
leaf_keeps (leaf.Convert to) = record { keeps = λ e v h k. (k, tt) }
leaf_keeps (leaf.Fixed place) = record { keeps = λ e v h k. (k, tt) }
leaf_keeps (leaf.Offset bytes) = record { keeps = λ e v h k. (k, tt) }
leaf_keeps (leaf.Load x) = record { keeps = λ e v h k. load_keeps (under h.operands) x (unsigned_abs (top h.operands)) h.done k }
leaf_keeps (leaf.Put at x) = record {
  keeps = λ e v h k.
      put_keeps (under (under h.operands)) at x (unsigned_abs (top (under h.operands))) (top h.operands) h.done k;
}
leaf_keeps leaf.Drop = record { keeps = λ e v h k. (k, tt) }
leaf_keeps leaf.Again = record { keeps = λ e v h k. (k, tt) }
leaf_keeps leaf.Tuck = record { keeps = λ e v h k. (k, tt) }
leaf_keeps leaf.Not = record { keeps = λ e v h k. (k, tt) }
leaf_keeps (leaf.Turn at o word) = record { keeps = λ e v h k. answer_keeps (under h.operands) (turned o word (top h.operands)) at h.done k }
leaf_keeps (leaf.Operate at o) = operator_keeps at o

pub enough : (x : Leaf) → HasRoom (room_for x) x
enough (leaf.Constant z) = tt
enough (leaf.Local offset) = omega arith
enough (leaf.Convert to) = tt
enough (leaf.Fixed place) = tt
enough (leaf.Offset bytes) = tt
enough (leaf.Load x) = tt
enough (leaf.Put at x) = tt
enough leaf.Drop = tt
enough leaf.Again = tt
enough leaf.Tuck = tt
enough leaf.Not = tt
enough (leaf.Turn at o word) = tt
enough (leaf.Operate at o) = tt

-- ---- lists

pub walks_by_none : (a : List Shape) (x : Leaf) → WalksBy a a [] x (record { going = []; ended = [] })
walks_by_none a x = record {
  grows = stays;
  going = tt;
  ended = tt;
  walks = λ room h. walks_none room a (leaf_way x) (λ e v m r d k. (leaf_keeps x).keeps e v d k);
}

pub walks_by_more : (a b c : List Shape) (ss : List State) (s : State) (x : Leaf) (w u : Walked) → WalksBy a b ss x w → StepsBy b c s x u
    → WalksBy a c (ss ++ s ∷ []) x (record { going = w.going ++ u.going; ended = w.ended ++ u.ended })
walks_by_more a b c ss s x w u h i =
    let step = i.tries (room_for x) (enough x) in
    let g = step.going.grows in
    record {
      grows = grows_on h.grows g;
      going = states_joined c w.going u.going (states_grown g w.going h.going) step.going.states;
      ended = states_joined c w.ended u.ended (states_grown g w.ended h.ended) step.ended.states;
      walks = λ room k. walks_more room a b c ss s w u (leaf_way x) (h.walks room k) (i.tries room k);
    }

-- ---- constants

pub within_type : (z : ℤ) → IsWithin z → to_z w128 (of_z w128 z) ≡ z
within_type (pos n) h = let fits : FitsSigned w128 (pos n) = record { sfits = omega (arith, ints, h.most) } in to_z-of_z w128 (pos n) fits
within_type (negsuc n) h = let fits : FitsSigned w128 (negsuc n) = record { sfits = omega (arith, ints, h.least) } in to_z-of_z w128 (negsuc n) fits

-- ---- fixed places, and bytes behind an address

pub numbered_fixed : (a b : List Shape) (place k : ℕ) (n : Node) → k ≡ start place → Makes a b (Constant k W64) (Ok n) → IsBank b
    → Numbered a b (record { node = n; word = record { width = W64; is_signed = false } }) (λ v. pos (start place))
numbered_fixed a b place k n same h bank = record {
  grows = h.grows;
  bank = bank;
  number = record { term = h.node };
  is = λ e v m. ap pos (ap (λ (w : Worth). w.word) (h.value.is e v m) ∙ same);
}

pub numbered_behind : (a b c d : List Shape) (bytes : ℕ) (address more n : Node) (z : Values → ℤ)
    → Worded a b W64 address (λ v. unsigned_abs (z v)) → Makes b c (Constant bytes W64) (Ok more)
    → Makes c d (Binary operator.Add W64 address.index more.index) (Ok n)
    → Numbered a d (record { node = n; word = record { width = W64; is_signed = false } }) (λ v. pos (behind bytes (unsigned_abs (z v))))
unfolding result_of
numbered_behind a b c d bytes address more n z h i j = record {
  grows = grows_on h.grows (grows_on i.grows j.grows);
  bank = j.bank;
  number = record { term = j.node };
  is = λ e v m.
      let mc = weaken j.grows m in
      ap pos (ap (λ (w : Worth). w.word) (j.value.is e v m)
      ∙ ap (λ k. ((v address.index).word + k) % 2 ^ 64) (ap (λ (w : Worth). w.word) (i.value.is e v mc))
      ∙ ap (λ k. (k + bytes) % 2 ^ 64) (h.is e v (weaken i.grows mc)));
}

-- ---- a value that isn't used

pub dropped : (room : ℕ) (a b : List Shape) (s t : State) (x : Number) → Pops a b s t x
    → Tries room a b s (record { going = t ∷ []; ended = [] }) (λ e v h. Some (Ok (record { operands = under h.operands; done = h.done })))
dropped room a b s t x h = record {
  going = record {
    grows = h.grows;
    states = (h.state, tt);
    stands = λ e v m r k.
        ap (λ (u : State). cond (v u.guard.index).truth (record { operands = onto v [] t.operands; done = done_in v u } ∷ []) []) h.same
        ∙ ap (λ l. cond (v s.guard.index).truth (record { operands = l; done = done_in v s } ∷ []) []) (h.rest e v m);
    sized = λ e v m r d k. k;
  };
  ended = record {
    grows = h.grows;
    states = tt;
    stands = λ e v m r k. nothing_so (v s.guard.index).truth;
    sized = λ e v m r d k. tt;
  };
}

-- ---- operands that stand otherwise

-- a run with the operand on top put back
held : (b : List Shape) (s t : State) (xs : List Number) → t ≡ record s { operands = t.operands }
    → record t { operands = xs } ≡ record s { operands = xs }
held b s t xs same = ap (λ (u : State). record u { operands = xs }) same

pub stands_again : (room : ℕ) (a b : List Shape) (s t : State) (x : Number) → Pops a b s t x
    → Tries room a b s (record {
      going = record t { operands = (t.operands ++ x ∷ []) ++ x ∷ [] } ∷ [];
      ended = [];
    }) (shifts again)
stands_again room a b s t x h =
    let u : State = record t { operands = t.operands ++ x ∷ [] } in
    tries_put room a b s u x (shifts again) h.grows (with_operand b t t.operands x h.state h.number) h.number
    (held b s t (t.operands ++ x ∷ []) h.same)
    (λ e v m r.
    ap (λ z. Some (Ok (record { operands = z ∷ z ∷ under (onto v [] s.operands); done = done_in v s }))) (sym (h.is e v m))
    ∙ ap (λ l. Some (Ok (record { operands = number_in v x ∷ number_in v x ∷ l; done = done_in v s }))) (sym (h.rest e v m))
    ∙ ap (λ l. Some (Ok (record { operands = number_in v x ∷ l; done = done_in v s }))) (sym (onto_pushed v [] t.operands x)))
    (record { keeps = λ e v d k. (k, tt) })

pub stands_tucked : (room : ℕ) (a b c : List Shape) (s t u : State) (x y : Number) → Pops a b s t x → Pops b c t u y
    → Tries room a c s (record {
      going = record u { operands = ((u.operands ++ x ∷ []) ++ y ∷ []) ++ x ∷ [] } ∷ [];
      ended = [];
    }) (shifts tucked)
stands_tucked room a b c s t u x y h i =
    let first : IsNumber c x = number_grown i.grows x h.number in
    let p : State = record u { operands = u.operands ++ x ∷ [] } in
    let q : State = record u { operands = (u.operands ++ x ∷ []) ++ y ∷ [] } in
    let zs : Values → List ℤ = λ v. onto v [] s.operands in
    tries_put room a c s q x (shifts tucked) (grows_on h.grows i.grows)
    (with_operand c p p.operands y (with_operand c u u.operands x i.state first) i.number) first
    (held c t u q.operands i.same ∙ held c s t q.operands h.same)
    (λ e v m r.
    let mb = weaken i.grows m in
    let second : top (under (zs v)) ≡ number_in v y = sym (i.is e v m ∙ ap top (h.rest e v mb)) in
    let rest : under (under (zs v)) ≡ onto v [] u.operands = sym (i.rest e v m ∙ ap under (h.rest e v mb)) in
    ap (λ z. Some (Ok (record { operands = z ∷ top (under (zs v)) ∷ z ∷ under (under (zs v)); done = done_in v s }))) (sym (h.is e v mb))
    ∙ ap (λ z. Some (Ok (record { operands = number_in v x ∷ z ∷ number_in v x ∷ under (under (zs v)); done = done_in v s }))) second
    ∙ ap (λ l. Some (Ok (record { operands = number_in v x ∷ number_in v y ∷ number_in v x ∷ l; done = done_in v s }))) rest
    ∙ ap (λ l. Some (Ok (record { operands = number_in v x ∷ number_in v y ∷ l; done = done_in v s }))) (sym (onto_pushed v [] u.operands x))
    ∙ ap (λ l. Some (Ok (record { operands = number_in v x ∷ l; done = done_in v s }))) (sym (onto_pushed v [] (u.operands ++ x ∷ []) y)))
    (record { keeps = λ e v d k. (k, tt) })

pub followed : (b c : List Shape) (w u : Walked) (x : Leaf) → WalksBy b c w.going x u
    → Follows b c w (record { going = u.going; ended = w.ended ++ u.ended }) x
followed b c w u x h = record {
  grows = h.grows;
  going = h.going;
  follows = λ room k a ss f i. walks_then room a b c ss w u f (leaf_way x) i (h.walks room k);
}
