-- Rows of initial bytes, and the constraints on them.
use Rattle.std.proofs.Common.{◌≡◌, ◌<◌, ◌%◌, ◌^◌, ◌++◌, ◌∷◌, [], ◌⊎◌, ℕ, zero, suc, List, Some, Bool, true, false, length, arith, inl, inr, refl, sym, ap, subst, ◌∙◌, cond, nat_eq}
use Rattle.std.specs.Prelude.{slice_get, Result, Ok, Err, IfOk}
use Rattle.std.proofs.lemmas.Bool.Decides.{nat_tests}
use Rattle.plain_data.specs.Words.{bits}
use Rattle.plain_data.specs.declared.width.Width.{Width}
use Rattle.plain_data.specs.declared.width.Width.TheVariants.{W8, W64}
use Rattle.term_bank.specs.declared.sort.Sort.TheVariants.{Truth}
use Rattle.term_bank.specs.declared.sort.Node.{Node}
use Rattle.term_bank.specs.declared.shape.Shape.{Shape}
use Rattle.term_bank.specs.declared.shape.Shape.TheVariants.{Flag, InitialByte, Test, Choose}
use Rattle.term_bank.specs.declared.shape.WordTest.TheVariants as test
use Rattle.term_bank.specs.declared.bank.BankFault.{BankFault}
use Rattle.term_bank.specs.Shapes.{Each, IsNode, IsWell, sort_of, word}
use Rattle.term_bank.specs.Values.{Environment, Worth, Values, Models, Grows, IsWorth, of_truth, outcome_of}
use Rattle.term_bank.specs.Under.{IsOver}
use Rattle.term_bank.specs.Terms.{IsTerm}
use Rattle.term_bank.specs.Images.{AreImages}
use Rattle.term_bank.specs.Banks.{IsBank}
use Rattle.term_bank.proofs.Worth.{each}
use Rattle.term_bank.proofs.BankLemmas.{weaken, grows_on, node_at}
use Rattle.term_bank.proofs.OverLemmas.{only_below}
use Rattle.term_bank.proofs.TermLemmas.{part_of, term_of, term_grown}
use Rattle.flat_reads.specs.declared.table.Row.{Row}
use Rattle.flat_reads.specs.Flats.{IsHonest, IsFlatOver, is_flat}
use Rattle.flat_reads.specs.Flattened.{HasFlat}
use Rattle.flat_reads.specs.Tables.{Stands, IsRow, IsAgreement, AreTrue, IsConstraint, IsAgreed, IsTable}
use Rattle.flat_reads.proofs.FlatLemmas.{flat_first, flat_second, flat_grown, flat_over, flat_through}

equal_tested : (w : Width) (a b : ℕ) → of_truth (outcome_of test.Equal w a b) ≡ of_truth (nat_eq a b)
unfolding outcome_of
equal_tested w a b = refl

pub byte_node : (shapes : List Shape) (row : Row) → Stands shapes row → IsNode shapes (word W8 row.byte)
byte_node shapes row is = node_at shapes (word W8 row.byte) (InitialByte row.row row.address) is refl

pub address_node : (shapes : List Shape) (row : Row) → IsBank shapes → Stands shapes row → IsNode shapes (word W64 row.address)
address_node shapes row bank is = (bank.well row.byte (InitialByte row.row row.address) is).each_part.0.stands

pub address_flat : (shapes : List Shape) (ps : List Node) (row : Row) → Stands shapes row → IsFlatOver shapes ps row.byte → IsFlatOver shapes ps row.address
address_flat shapes ps row is h = record { flat = λ b g q x. (only_below (is_flat q) b row.byte (InitialByte row.row row.address) (g.kept row.byte (InitialByte row.row row.address) is) (h.flat b g q x)).1.0 }

pub agree_steps : (c s t : Bool) (x y : Worth) → c ≡ s → x ≡ of_truth t → y ≡ of_truth true → cond c x y ≡ of_truth (cond s t true)
agree_steps c true t x y h k l = rw h k
agree_steps c false t x y h k l = rw h l

-- what `add` says of its answer
pub record IsAdded (shapes : List Shape) (shape : Shape) (node : Node) : Type 0 where
  pub stands : IsNode shapes node
  pub sort : node.sort ≡ sort_of shape
  pub value : IsWorth shapes shape node
  pub over : IsOver shapes shape node

pub added_term : (shapes : List Shape) (shape : Shape) (node : Node) → IsAdded shapes shape node → IsTerm shapes (sort_of shape) node
added_term shapes shape node h = term_of shapes (sort_of shape) node h.stands h.sort

-- the last of the shapes that make an agreement
abbrev pub choice_of : Node → Node → Node → Shape
choice_of same bytes last_node = Choose Truth same.index bytes.index last_node.index

pub choice_well : (a b shapes : List Shape) (one other : Row) (same bytes last_node : Node) → Grows a shapes → Grows b shapes → IsAdded a (Test test.Equal W64 one.address other.address) same → IsAdded b (Test test.Equal W8 one.byte other.byte) bytes → IsAdded shapes (Flag true) last_node → IsWell shapes (choice_of same bytes last_node)
choice_well a b shapes one other same bytes last_node g k h l t = record {
  parts_stand = (
    part_of shapes Truth same (term_grown a shapes Truth same g (added_term a (Test test.Equal W64 one.address other.address) same h)),
    (part_of shapes Truth bytes (term_grown b shapes Truth bytes k (added_term b (Test test.Equal W8 one.byte other.byte) bytes l)), (part_of shapes Truth last_node (added_term shapes (Flag true) last_node t), tt)),
  );
  in_width = tt;
}

agreement_of : (a b c shapes : List Shape) (one other : Row) (same bytes last_node node : Node) → Grows a b → Grows b c → Grows c shapes → Stands a one → Stands a other → IsAdded a (Test test.Equal W64 one.address other.address) same → IsAdded b (Test test.Equal W8 one.byte other.byte) bytes → IsAdded c (Flag true) last_node → IsAdded shapes (choice_of same bytes last_node) node → IsAgreement shapes one other node
agreement_of a b c shapes one other same bytes last_node node g k l one_stands other_stands h i j last =
    let ps : List Node = word W8 one.byte ∷ (word W8 other.byte ∷ []) in
    let all = grows_on g (grows_on k l) in
    let first_flat = flat_first a (word W8 one.byte) (word W8 other.byte ∷ []) in
    let second_flat = flat_second a (word W8 one.byte) (word W8 other.byte) [] in
    record {
      term = added_term shapes (choice_of same bytes last_node) node last;
      value = λ e v m.
          ap (λ (x : Worth). x.truth) (last.value.is e v m
          ∙ agree_steps (v same.index).truth (nat_eq (v one.address).word (v other.address).word) (nat_eq (v one.byte).word (v other.byte).word) (v bytes.index) (v last_node.index)
          (ap (λ (x : Worth). x.truth) (h.value.is e v (weaken all m) ∙ equal_tested W64 (v one.address).word (v other.address).word))
          (i.value.is e v (weaken (grows_on k l) m) ∙ equal_tested W8 (v one.byte).word (v other.byte).word)
          (j.value.is e v (weaken l m)));
      flat = flat_over shapes ps (choice_of same bytes last_node) node last.over (record { plain = λ q. refl }) (
        flat_grown a shapes ps same.index all (flat_over a ps (Test test.Equal W64 one.address other.address) same h.over (record { plain = λ q. refl })
            (address_flat a ps one one_stands first_flat, (address_flat a ps other other_stands second_flat, tt))),
        (
          flat_grown b shapes ps bytes.index (grows_on k l) (flat_over b ps (Test test.Equal W8 one.byte other.byte) bytes i.over (record { plain = λ q. refl })
              (flat_first b (word W8 one.byte) (word W8 other.byte ∷ []), (flat_second b (word W8 one.byte) (word W8 other.byte) [], tt))),
          (flat_grown c shapes ps last_node.index l (flat_over c ps (Flag true) last_node j.over (record { plain = λ q. refl }) tt), tt),
        ),
      );
    }

pub agreement_made : (a b c shapes : List Shape) (one other : Row) (same bytes last_node : Node) (r : Result Node BankFault) → Grows a b → Grows b c → Grows c shapes → Stands a one → Stands a other → IsAdded a (Test test.Equal W64 one.address other.address) same → IsAdded b (Test test.Equal W8 one.byte other.byte) bytes → IsAdded c (Flag true) last_node → IfOk r (IsNode shapes) → IfOk r (λ n. n.sort ≡ Truth) → IfOk r (IsWorth shapes (choice_of same bytes last_node)) → IfOk r (IsOver shapes (choice_of same bytes last_node)) → IfOk r (IsAgreement shapes one other)
agreement_made a b c shapes one other same bytes last_node (Ok n) g k l x y h i j stands sort value over = agreement_of a b c shapes one other same bytes last_node n g k l x y h i j (record { stands = stands; sort = sort; value = value; over = over })
agreement_made a b c shapes one other same bytes last_node (Err e) g k l x y h i j stands sort value over = tt

row_byte : (shapes : List Shape) (e : Environment) (v : Values) (row : Row) → IsHonest e → Models shapes e v → Stands shapes row → (v row.byte).word ≡ e.bytes (v row.address).word % 2 ^ bits W8
row_byte shapes e v row honest m is = ap (λ (x : Worth). x.word) (m.has row.byte (InitialByte row.row row.address) is) ∙ ap (λ x. x % 2 ^ bits W8) (honest.same row.row (v row.address).word)

same_number : (a b : ℕ) → nat_eq a b ≡ true → a ≡ b
same_number a b h = grind (arith, nat_tests)

itself : (a b : ℕ) → a ≡ b → nat_eq a b ≡ true
itself a b h = grind (arith, nat_tests)

honest_agrees : (a b x y : ℕ) → (a ≡ b → x ≡ y) → cond (nat_eq a b) (nat_eq x y) true ≡ true
honest_agrees a b x y h = split (nat_eq a b) refl where
  split : (s : Bool) → nat_eq a b ≡ s → cond s (nat_eq x y) true ≡ true
  split true is = itself x y (h (same_number a b is))
  split false is = refl

agrees_then : (a b x y : ℕ) → cond (nat_eq a b) (nat_eq x y) true ≡ true → a ≡ b → x ≡ y
agrees_then a b x y h same = same_number x y (sym (ap (λ s. cond s (nat_eq x y) true) (itself a b same)) ∙ h)

true_front : (v : Values) (cs : List Node) (c : Node) → AreTrue v (cs ++ c ∷ []) → AreTrue v cs
true_front v [] c h = tt
true_front v (x ∷ cs) c h = (h.0, true_front v cs c h.1)

true_last : (v : Values) (cs : List Node) (c : Node) → AreTrue v (cs ++ c ∷ []) → (v c.index).truth ≡ true
true_last v [] c h = h.0
true_last v (x ∷ cs) c h = true_last v cs c h.1

each_more : (P : Node → Type 0) (cs : List Node) (c : Node) → Each P cs → P c → Each P (cs ++ c ∷ [])
each_more P [] c h k = (k, tt)
each_more P (x ∷ cs) c h k = (h.0, each_more P cs c h.1 k)

-- a place of the longer list of rows is a place of the list, or the last
row_place : (xs : List Row) (y : Row) (i : ℕ) (x : Row) → slice_get (xs ++ y ∷ []) i ≡ Some x → ((i < length xs) × (slice_get xs i ≡ Some x)) ⊎ ((i ≡ length xs) × (x ≡ y))
row_place [] y zero x e = inr (refl, cc)
row_place [] y (suc i) x e = absurd (cc)
row_place (z ∷ xs) y zero x e = inl (omega arith, e)
row_place (z ∷ xs) y (suc i) x e = elim (row_place xs y i x e) [
  | inl h ↦ inl (omega (arith, h.0), h.1)
  | inr h ↦ inr (omega (arith, h.0), h.1)
]

pub place_below : (xs : List Row) (i : ℕ) (x : Row) → slice_get xs i ≡ Some x → i < length xs
place_below [] zero x e = absurd (cc)
place_below [] (suc i) x e = absurd (cc)
place_below (z ∷ xs) zero x e = omega arith
place_below (z ∷ xs) (suc i) x e = let h = place_below xs i x e in omega (arith, h)

pub row_grown : (a b : List Shape) (ps : List Node) (row : Row) → Grows a b → IsRow a ps row → IsRow b ps row
row_grown a b ps row g h = record { stands = g.kept row.byte (InitialByte row.row row.address) h.stands; flat = flat_grown a b ps row.byte g h.flat }

constraint_grown : (a b : List Shape) (ps : List Node) (c : Node) → Grows a b → IsConstraint a ps c → IsConstraint b ps c
constraint_grown a b ps c g h = record { term = term_grown a b Truth c g h.term; honest = λ e v honest m. h.honest e v honest (weaken g m); flat = flat_grown a b ps c.index g h.flat }

-- rows and constraints with one more constraint
pub table_more : (a b : List Shape) (ps : List Node) (table : List Row) (cs : List Node) (c : Node) → Grows a b → IsTable a ps table cs → IsConstraint b ps c → IsTable b ps table (cs ++ c ∷ [])
table_more a b ps table cs c g h is = record {
  rows = λ i x at. row_grown a b ps x g (h.rows i x at);
  constraints_are = each_more (IsConstraint b ps) cs c (each (IsConstraint a ps) (IsConstraint b ps) cs (λ n k. constraint_grown a b ps n g k) h.constraints_are) is;
  agreed = λ i j x y less at here. let k = h.agreed i j x y less at here in record { agreed = λ e v m holds. k.agreed e v (weaken g m) (true_front v cs c holds) };
}

pub agreed_more : (a b : List Shape) (cs : List Node) (c : Node) (one other : Row) → Grows a b → IsAgreed a cs one other → IsAgreed b (cs ++ c ∷ []) one other
agreed_more a b cs c one other g h = record { agreed = λ e v m holds. h.agreed e v (weaken g m) (true_front v cs c holds) }

pub agreed_here : (shapes : List Shape) (cs : List Node) (c : Node) (one other : Row) → IsAgreement shapes one other c → IsAgreed shapes (cs ++ c ∷ []) one other
agreed_here shapes cs c one other h = record { agreed = λ e v m holds same. agrees_then (v one.address).word (v other.address).word (v one.byte).word (v other.byte).word (sym (h.value e v m) ∙ true_last v cs c holds) same }

pub constraint_of : (shapes : List Shape) (ps : List Node) (c : Node) (one other : Row) → IsRow shapes ps one → IsRow shapes ps other → IsAgreement shapes one other c → IsConstraint shapes ps c
constraint_of shapes ps c one other h k is = record {
  term = is.term;
  honest = λ e v honest m. is.value e v m ∙ honest_agrees (v one.address).word (v other.address).word (v one.byte).word (v other.byte).word
      (λ same. row_byte shapes e v one honest m h.stands ∙ ap (λ x. e.bytes x % 2 ^ bits W8) same ∙ sym (row_byte shapes e v other honest m k.stands));
  flat = flat_through shapes ps (word W8 one.byte ∷ (word W8 other.byte ∷ [])) c.index is.flat (h.flat, (k.flat, tt));
}

-- one more row, which agrees with each
pub table_row : (shapes : List Shape) (ps : List Node) (table : List Row) (cs : List Node) (row : Row) → IsTable shapes ps table cs → IsRow shapes ps row → ((i : ℕ) (x : Row) → slice_get table i ≡ Some x → IsAgreed shapes cs x row) → IsTable shapes ps (table ++ row ∷ []) cs
table_row shapes ps table cs row h is all = record {
  rows = λ i x at. elim (row_place table row i x at) [
    | inl k ↦ h.rows i x k.1
    | inr k ↦ subst (IsRow shapes ps) (sym k.1) is
  ];
  constraints_are = h.constraints_are;
  agreed = λ i j x y less at here. elim (row_place table row j y here) [
    | inl k ↦ elim (row_place table row i x at) [
      | inl l ↦ h.agreed i j x y less l.1 k.1
      | inr l ↦ absurd (omega (arith, less, k.0, l.0))
    ]
    | inr k ↦ elim (row_place table row i x at) [
      | inl l ↦ subst (IsAgreed shapes cs x) (sym k.1) (all i x l.1)
      | inr l ↦ absurd (omega (arith, less, k.0, l.0))
    ]
  ];
}

-- ---- the loop over the rows before

abbrev pub Keeps : List Shape → List Shape → List Row → Row → List Node → List Node → Type 0
Keeps a b table row old new = (ps : List Node) → IsTable a ps table old → IsRow a ps row → IsTable b ps table new

pub keeps_more : (a l b : List Shape) (table : List Row) (row other : Row) (i : ℕ) (old now : List Node) (c : Node) → Grows a l → Grows l b → slice_get table i ≡ Some other → IsAgreement b other row c → Keeps a l table row old now → Keeps a b table row old (now ++ c ∷ [])
keeps_more a l b table row other i old now c before g at is keeps = λ ps t r.
    let h = keeps ps t r in
    let all = grows_on before g in
    table_more l b ps table now c g h (constraint_of b ps c other row (row_grown a b ps other all (t.rows i other at)) (row_grown a b ps row all r) is)

-- the rows up to a place agree with one once that of the place does
pub agreed_next : (l b : List Shape) (table : List Row) (row other : Row) (i : ℕ) (now : List Node) (c : Node) → Grows l b → slice_get table i ≡ Some other → IsAgreement b other row c → ((j : ℕ) (x : Row) → j < i → slice_get table j ≡ Some x → IsAgreed l now x row) → (j : ℕ) (x : Row) → j < suc i → slice_get table j ≡ Some x → IsAgreed b (now ++ c ∷ []) x row
agreed_next l b table row other i now c g at is all j x less here = split (nat_eq j i) refl where
  before : (j i : ℕ) → j < suc i → nat_eq j i ≡ false → j < i
  before j i h k = grind (arith, nat_tests)

  one : (y z : Row) → Some y ≡ Some z → y ≡ z
  one y z e = cc

  split : (s : Bool) → nat_eq j i ≡ s → IsAgreed b (now ++ c ∷ []) x row
  split true same =
      let index : j ≡ i = same_number j i same in
      subst (λ y. IsAgreed b (now ++ c ∷ []) y row) (one other x (sym at ∙ ap (slice_get table) (sym index) ∙ here)) (agreed_here b now c other row is)
  split false other_place = agreed_more l b now c x row g (all j x (before j i less other_place) here)

-- ---- the loop over the nodes

pub no_rows : (shapes : List Shape) (ps : List Node) (table : List Row) (cs : List Node) → table ≡ [] → cs ≡ [] → IsTable shapes ps table cs
no_rows shapes ps table cs none_yet no_constraints = record {
  rows = λ i x at. absurd (nothing i x (subst (λ (xs : List Row). slice_get xs i ≡ Some x) none_yet at));
  constraints_are = subst (Each (IsConstraint shapes ps)) (sym no_constraints) tt;
  agreed = λ i j x y less at here. absurd (nothing i x (subst (λ (xs : List Row). slice_get xs i ≡ Some x) none_yet at));
} where
  nothing : (i : ℕ) (x : Row) → slice_get [] i ≡ Some x → ⊥
  nothing i x at = let less = place_below [] i x at in absurd (omega (arith, less))

pub images_less : (P Q : ℕ → Node → Type 0) → ((n : ℕ) (x : Node) → P n x → Q n x) → (rs ns : List Node) → AreImages P rs ns → AreImages Q rs ns
images_less P Q f [] [] h = tt
images_less P Q f [] (n ∷ ns) h = absurd h
images_less P Q f (r ∷ rs) [] h = absurd h
images_less P Q f (r ∷ rs) (n ∷ ns) h = (f r.index n h.0, images_less P Q f rs ns h.1)

pub images_stand : (shapes : List Shape) (rs ns : List Node) → AreImages (HasFlat shapes) rs ns → Each (IsNode shapes) ns
images_stand shapes [] [] h = tt
images_stand shapes [] (n ∷ ns) h = absurd h
images_stand shapes (r ∷ rs) [] h = absurd h
images_stand shapes (r ∷ rs) (n ∷ ns) h = (h.0.stands, images_stand shapes rs ns h.1)
