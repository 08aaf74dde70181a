-- What the nodes are worth that tell of an object.
use Rattle.std.proofs.Common.{◌≡◌, ◌<◌, ◌≤◌, ◌+◌, ◌-◌, ◌%◌, ◌^◌, ◌∷◌, [], ℕ, List, Some, Bool, true, false, arith, refl, sym, ap, subst, ◌∙◌}
use Rattle.std.specs.Prelude.{Ok, Result, not, nat_eq, nat_le, nat_lt, ◌||◌}
use Rattle.std.proofs.lemmas.Bool.Decides.{nat_tests}
use Rattle.std.proofs.lemmas.Nat.{and_mask}
use Rattle.std.proofs.Math.Nat.{mod-eq_of_lt}
use Rattle.plain_data.specs.Words.{bits}
use Rattle.plain_data.specs.declared.width.Width.TheVariants.{W64}
use Rattle.c_store.specs.declared.object.ObjectKind.{ObjectKind}
use Rattle.c_store.specs.Store.{object_of, offset_of}
use Rattle.term_bank.specs.declared.bank.BankFault.{BankFault}
use Rattle.term_bank.specs.declared.shape.Connective.TheVariants as connective
use Rattle.term_bank.specs.declared.shape.WordOperator.TheVariants as operator
use Rattle.term_bank.specs.declared.shape.WordTest.TheVariants as test
use Rattle.term_bank.specs.declared.sort.Node.{Node}
use Rattle.term_bank.specs.declared.sort.Sort.TheVariants.{Truth, Word}
use Rattle.term_bank.specs.declared.shape.Shape.{Shape}
use Rattle.term_bank.specs.Banks.{IsBank}
use Rattle.term_bank.specs.Memories.{distance}
use Rattle.term_bank.specs.Shapes.{Each, IsNode, word}
use Rattle.term_bank.specs.Values.{Grows, connected, of_truth, of_word, outcome_of, result_of}
use Rattle.term_bank.proofs.BankLemmas.{node_grown, stays}
use Rattle.term_bank.proofs.BindingLemmas.{node_sorted}
use Rattle.term_bank.proofs.Worth.{each}
use Rattle.flat_reads.specs.declared.objects.ObjectQuestion.{ObjectQuestion}
use Rattle.flat_reads.specs.declared.objects.ObjectQuestion.TheVariants.{Live, Kind, Size}
use Rattle.flat_reads.specs.Flats.{Gives}
use Rattle.flat_reads.specs.Objects.{object_in, operands, sort_in, told}
use Rattle.flat_reads.proofs.FlatLemmas.{flat_first, flat_second, gives_through}

pub number_shifted : (a : ℕ) → result_of operator.Lshr W64 a 32 ≡ object_of a
unfolding result_of
number_shifted a = refl

pub offset_masked : (a : ℕ) → result_of operator.And W64 a 4294967295 ≡ offset_of a
unfolding result_of
offset_masked a = and_mask a 32

pub equal_tested : (a b c : ℕ) → a ≡ c → outcome_of test.Equal W64 a b ≡ nat_eq c b
unfolding outcome_of
equal_tested a b c h = ap (λ x. nat_eq x b) h

pub either_is : (a b : Bool) → connected connective.Or a b ≡ (a || b)
either_is true b = refl
either_is false b = refl

room_is : (o s : ℕ) → s < 2 ^ 64 → o ≤ s → distance o s ≡ s - o
unfolding distance
room_is o s h k = omega (arith, h, k)

outside : (o n s : ℕ) (y : Bool) → nat_lt s o ≡ true → not (nat_lt s o || y) ≡ nat_le (o + n) s
outside o n s y h = ap (λ b. not (b || y)) h ∙ sym (past o n s h) where
  past : (o n s : ℕ) → nat_lt s o ≡ true → nat_le (o + n) s ≡ false
  past o n s h = grind (arith, nat_tests)

among : (o n s : ℕ) → s < 2 ^ 64 → nat_lt s o ≡ false → not (nat_lt s o || nat_lt (distance o s) n) ≡ nat_le (o + n) s
among o n s small h = ap (λ b. not (b || nat_lt (distance o s) n)) h ∙ ap (λ d. not (nat_lt d n)) (room_is o s small (below o s h)) ∙ turned o n s (below o s h) where
  below : (o s : ℕ) → nat_lt s o ≡ false → o ≤ s
  below o s h = grind (arith, nat_tests)

  turned : (o n s : ℕ) → o ≤ s → not (nat_lt (s - o) n) ≡ nat_le (o + n) s
  turned o n s h = grind (arith, nat_tests)

fits_at : (o n s : ℕ) (b : Bool) → s < 2 ^ 64 → nat_lt s o ≡ b → not (nat_lt s o || nat_lt (distance o s) n) ≡ nat_le (o + n) s
fits_at o n s true small h = outside o n s (nat_lt (distance o s) n) h
fits_at o n s false small h = among o n s small h

-- the bytes are of the object where the offset is in it, and the room behind it is enough
pub fits_is : (o n s room : ℕ) (x y : Bool) → s < 2 ^ 64 → x ≡ nat_lt s o → room ≡ distance o s → y ≡ nat_lt room n → of_truth (not (x || y)) ≡ of_truth (nat_le (o + n) s)
fits_is o n s room x y small hx hr hy = ap of_truth (rw (hy, hx, hr) (fits_at o n s (nat_lt s o) small refl))

pub nodes_grown : (a b : List Shape) (ps : List Node) → Grows a b → Each (IsNode a) ps → Each (IsNode b) ps
nodes_grown a b ps g h = each (IsNode a) (IsNode b) ps (λ p k. node_grown a b p g k) h

-- ---- by the question

pub number_live : (old new : List Shape) (q : ObjectQuestion) (a n : ℕ) (r : Result Node BankFault) → q ≡ Live a n → Gives old new (word W64 a ∷ []) (Word W64) (λ v. of_word (object_of (v a).word)) r → Gives old new (operands q) (Word W64) (λ v. of_word (object_in v q)) r
number_live old new q a n r is h = subst (λ q. Gives old new (operands q) (Word W64) (λ v. of_word (object_in v q)) r) (sym is)
    (gives_through old old new (operands (Live a n)) (word W64 a ∷ []) (Word W64) (λ v. of_word (object_of (v a).word)) (λ v. of_word (object_of (v a).word)) r stays h (flat_first old (word W64 a) (word W64 n ∷ []), tt) (λ e v honest m. refl))

given : (shapes : List Shape) (p : ℕ) (ps : List Node) → IsBank shapes → IsNode shapes (word W64 p) → Gives shapes shapes (word W64 p ∷ ps) (Word W64) (λ v. of_word (v p).word) (Ok (record { index = p; sort = Word W64 }))
given shapes p ps bank is = record {
  node = record { stands = is.sorted; same = refl };
  value = record { is = λ e v honest m. (node_sorted shapes e v (word W64 p) bank is m).0 };
  flat = flat_first shapes (word W64 p) ps;
  grows = stays;
  bank = bank;
}

pub number_of_kind : (shapes : List Shape) (q : ObjectQuestion) (k : ObjectKind) (p : ℕ) → q ≡ Kind k p → IsBank shapes → Each (IsNode shapes) (operands q) → Gives shapes shapes (operands q) (Word W64) (λ v. of_word (object_in v q)) (Ok (record { index = p; sort = Word W64 }))
number_of_kind shapes q k p is bank h = subst (λ q. Gives shapes shapes (operands q) (Word W64) (λ v. of_word (object_in v q)) (Ok (record { index = p; sort = Word W64 }))) (sym is) (given shapes p [] bank (subst (λ q. Each (IsNode shapes) (operands q)) is h).0)

pub number_of_size : (shapes : List Shape) (q : ObjectQuestion) (p : ℕ) → q ≡ Size p → IsBank shapes → Each (IsNode shapes) (operands q) → Gives shapes shapes (operands q) (Word W64) (λ v. of_word (object_in v q)) (Ok (record { index = p; sort = Word W64 }))
number_of_size shapes q p is bank h = subst (λ q. Gives shapes shapes (operands q) (Word W64) (λ v. of_word (object_in v q)) (Ok (record { index = p; sort = Word W64 }))) (sym is) (given shapes p [] bank (subst (λ q. Each (IsNode shapes) (operands q)) is h).0)

-- what is told of an object that was made
abbrev pub TellsOf : List Shape → List Shape → ObjectKind → ℕ → Result Node BankFault → ObjectQuestion → Type 0
TellsOf old new k z r q = Gives old new (word W64 z ∷ operands q) (sort_in q) (λ v. told v q (Some (record { kind = k; size = (v z).word }))) r

pub tells_live : (old new : List Shape) (k : ObjectKind) (z : ℕ) (q : ObjectQuestion) (a n : ℕ) (r : Result Node BankFault) → q ≡ Live a n → Gives old new (word W64 a ∷ (word W64 n ∷ (word W64 z ∷ []))) Truth (λ v. of_truth (nat_le (offset_of (v a).word + (v n).word) (v z).word)) r → TellsOf old new k z r q
tells_live old new k z q a n r is h = subst (TellsOf old new k z r) (sym is)
    (gives_through old old new (word W64 z ∷ (word W64 a ∷ (word W64 n ∷ []))) (word W64 a ∷ (word W64 n ∷ (word W64 z ∷ []))) Truth (λ v. of_truth (nat_le (offset_of (v a).word + (v n).word) (v z).word)) (λ v. of_truth (nat_le (offset_of (v a).word + (v n).word) (v z).word)) r stays h
    (flat_second old (word W64 z) (word W64 a) (word W64 n ∷ []), (record { flat = λ b g t x. x.1.1.0 }, (flat_first old (word W64 z) (word W64 a ∷ (word W64 n ∷ [])), tt))) (λ e v honest m. refl))

pub tells_size : (shapes : List Shape) (k : ObjectKind) (z : ℕ) (q : ObjectQuestion) (p : ℕ) → q ≡ Size p → IsBank shapes → IsNode shapes (word W64 z) → TellsOf shapes shapes k z (Ok (record { index = z; sort = Word W64 })) q
tells_size shapes k z q p is bank h = subst (TellsOf shapes shapes k z (Ok (record { index = z; sort = Word W64 }))) (sym is)
    (gives_through shapes shapes shapes (word W64 z ∷ (word W64 p ∷ [])) (word W64 z ∷ (word W64 p ∷ [])) (Word W64) (λ v. of_word (v z).word) (λ v. of_word ((v z).word % 2 ^ bits W64)) (Ok (record { index = z; sort = Word W64 })) stays (given shapes z (word W64 p ∷ []) bank h)
    (flat_first shapes (word W64 z) (word W64 p ∷ []), (flat_second shapes (word W64 z) (word W64 p) [], tt))
    (λ e v honest m. ap of_word (sym (mod-eq_of_lt (node_sorted shapes e v (word W64 z) bank h m).1))))
