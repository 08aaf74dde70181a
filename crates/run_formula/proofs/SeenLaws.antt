-- The numbers that a node has, one at a time.
use Rattle.std.proofs.Common.{◌≡◌, ◌↔◌, ◌<◌, ◌≤◌, ◌+◌, ◌-◌, ◌^◌, ◌++◌, ◌∷◌, [], ℕ, zero, suc, ℤ, List, Option, Some, None, Bool, true, false, not, length, get_or, nat_eq, FitsSigned, to_z, of_z, refl, sym, ap, subst, ◌∙◌, append-nil, append_assoc, arith}
use Rattle.std.specs.Prelude.{Ok, slice_get}
use Rattle.std.proofs.Math.Nat.{mod-eq_of_lt}
use Rattle.std.specs.Int.{w128}
use Rattle.std.proofs.lemmas.Bool.Decides.{nat_tests}
use Rattle.std.proofs.lemmas.Int.{ints, to_z-of_z}
use Rattle.plain_data.specs.Words.{bits, word}
use Rattle.plain_data.specs.declared.width.Width.{Width}
use Rattle.plain_data.specs.declared.width.Width.TheVariants.{W8, W16, W32, W64}
use Rattle.plain_data.proofs.WordLaws.{word-signed}
use Rattle.term_bank.specs.declared.sort.Node.{Node}
use Rattle.term_bank.specs.declared.sort.Sort.TheVariants as sort
use Rattle.term_bank.specs.declared.shape.Shape.{Shape}
use Rattle.term_bank.specs.declared.shape.Shape.TheVariants as shape
use Rattle.term_bank.specs.declared.shape.WordTest.TheVariants as test
use Rattle.term_bank.specs.Banks.{IsBank}
use Rattle.term_bank.specs.Terms.{IsTerm, Makes}
use Rattle.term_bank.specs.Values.{Environment, Values, Models, Worth, number, outcome_of}
use Rattle.term_bank.proofs.BankLemmas.{weaken, grows_on}
use Rattle.term_bank.proofs.BindingLemmas.{node_sorted}
use Rattle.run_formula.specs.declared.seen.Last.{Last}
use Rattle.run_formula.specs.declared.seen.Seen.{Seen}
use Rattle.run_formula.specs.Watched.{AllSeen, AreSeen, IsAt, IsSeen, SaysSo, seen_all, seen_in}

-- ---- lists in which the last comes first

seen-behind : (v : Values) (xs : List Seen) (y : Seen) → seen_all v (xs ++ y ∷ []) ≡ seen_in v y ∷ seen_all v xs
seen-behind v [] y = refl
seen-behind v (x ∷ xs) y = ap (λ s. s ++ seen_in v x ∷ []) (seen-behind v xs y)

seen-put : (b : List Shape) (xs : List Seen) (y : Seen) → AllSeen b xs → IsSeen b y → AllSeen b (xs ++ y ∷ [])
seen-put b [] y h k = (k, tt)
seen-put b (x ∷ xs) y h k = (h.0, seen-put b xs y h.1 k)

seen-length : (v : Values) (xs : List Seen) → length (seen_all v xs) ≡ length xs
seen-length v [] = refl
seen-length v (x ∷ xs) = longer (seen_all v xs) ∙ ap suc (seen-length v xs)
  where
    longer : (zs : List ℤ) → length (zs ++ seen_in v x ∷ []) ≡ suc (length zs)
    longer [] = refl
    longer (z ∷ zs) = ap suc (longer zs)

front : (zs : List ℤ) (y : ℤ) (k : ℕ) → k < length zs → slice_get (zs ++ y ∷ []) k ≡ slice_get zs k
front [] y k h = absurd (omega (arith, h))
front (z ∷ zs) y zero h = refl
front (z ∷ zs) y (suc k) h = front zs y k (omega (arith, h))

last : (zs : List ℤ) (y : ℤ) (k : ℕ) → k ≡ length zs → slice_get (zs ++ y ∷ []) k ≡ Some y
last [] y zero h = refl
last [] y (suc k) h = absurd (omega (arith, h))
last (z ∷ zs) y zero h = absurd (omega (arith, h))
last (z ∷ zs) y (suc k) h = last zs y k (omega (arith, h))

-- the number at a place is so far from the end
number-at : (v : Values) (xs : List Seen) (place k : ℕ) (d : Seen) → place < length xs → k + place + 1 ≡ length xs
    → slice_get (seen_all v xs) place ≡ Some (seen_in v (get_or xs k d))
number-at v [] place k d less far = absurd (omega (arith, less))
number-at v (y ∷ xs) place zero d less far =
    last (seen_all v xs) (seen_in v y) place (let n = seen-length v xs in omega (arith, n, far))
number-at v (y ∷ xs) place (suc k) d less far =
    front (seen_all v xs) (seen_in v y) place (let n = seen-length v xs in omega (arith, n, far))
    ∙ number-at v xs place k d (omega (arith, far)) (omega (arith, far))

past-end : (zs : List ℤ) (k : ℕ) → length zs ≤ k → slice_get zs k ≡ None
past-end [] k h = refl
past-end (z ∷ zs) zero h = absurd (omega (arith, h))
past-end (z ∷ zs) (suc k) h = past-end zs k (omega (arith, h))

seen-one : (b : List Shape) (xs : List Seen) (k : ℕ) (d : Seen) → k < length xs → AllSeen b xs → IsSeen b (get_or xs k d)
seen-one b [] k d less h = absurd (omega (arith, less))
seen-one b (y ∷ xs) zero d less h = h.0
seen-one b (y ∷ xs) (suc k) d less h = seen-one b xs k d (omega (arith, less)) h.1

pub at-none : (b : List Shape) (n place : ℕ) (xs : List Seen) → AreSeen b n xs → length xs ≤ place → IsAt b n place None
at-none b n place xs h far = λ e v m.
    ap (λ zs. slice_get zs place) (h.are e v m) ∙ past-end (seen_all v xs) place (let k = seen-length v xs in omega (arith, k, far))

pub at-some : (b : List Shape) (n place k : ℕ) (xs : List Seen) (d : Seen) → AreSeen b n xs → place < length xs → k ≡ length xs - 1 - place
    → IsAt b n place (Some (get_or xs k d))
at-some b n place k xs d h less far = (
  seen-one b xs k d (omega (arith, less, far)) h.all,
  λ e v m. ap (λ zs. slice_get zs place) (h.are e v m) ∙ number-at v xs place k d less (omega (arith, less, far)),
)

-- ---- a chain of numbers

-- the parts of a shape that has a last number
last-parts : (b : List Shape) (n : ℕ) (l : Last) → IsBank b → slice_get b n ≡ Some (shape.NumberBehind l.before l.seen.width l.seen.is_signed l.seen.word)
    → (l.before < n) × IsSeen b l.seen
last-parts b n l bank is =
    let parts = (bank.well n (shape.NumberBehind l.before l.seen.width l.seen.is_signed l.seen.word) is).each_part in
    (parts.0.before, record { stands = parts.1.0.stands.sorted })

pub chain-begins : (b : List Shape) (n : ℕ) (v : Values) → (v n).numbers ≡ (v n).numbers ++ seen_all v []
chain-begins b n v = sym (append-nil (v n).numbers)

pub chain-falls : (b : List Shape) (n : ℕ) (l : Last) → IsBank b → slice_get b n ≡ Some (shape.NumberBehind l.before l.seen.width l.seen.is_signed l.seen.word)
    → l.before < n
chain-falls b n l bank is = (last-parts b n l bank is).0

pub chain-seen : (b : List Shape) (n : ℕ) (l : Last) (xs : List Seen) → IsBank b
    → slice_get b n ≡ Some (shape.NumberBehind l.before l.seen.width l.seen.is_signed l.seen.word) → AllSeen b xs → AllSeen b (xs ++ l.seen ∷ [])
chain-seen b n l xs bank is h = seen-put b xs l.seen h (last-parts b n l bank is).1

pub chain-more : (b : List Shape) (start n : ℕ) (l : Last) (xs : List Seen)
    → slice_get b n ≡ Some (shape.NumberBehind l.before l.seen.width l.seen.is_signed l.seen.word)
    → ((e : Environment) (v : Values) → Models b e v → (v start).numbers ≡ (v n).numbers ++ seen_all v xs)
    → (e : Environment) (v : Values) → Models b e v → (v start).numbers ≡ (v l.before).numbers ++ seen_all v (xs ++ l.seen ∷ [])
chain-more b start n l xs is h e v m =
    h e v m ∙ ap (λ (w : Worth). w.numbers ++ seen_all v xs) (m.has n _ is)
    ∙ append_assoc (v l.before).numbers (seen_in v l.seen ∷ []) (seen_all v xs)
    ∙ ap (λ zs. (v l.before).numbers ++ zs) (sym (seen-behind v xs l.seen))

pub chain-ends : (b : List Shape) (start n : ℕ) (xs : List Seen) → slice_get b n ≡ Some shape.NoNumbers → AllSeen b xs
    → ((e : Environment) (v : Values) → Models b e v → (v start).numbers ≡ (v n).numbers ++ seen_all v xs) → AreSeen b start xs
chain-ends b start n xs is all h = record {
  all = all;
  are = λ e v m. h e v m ∙ ap (λ (w : Worth). w.numbers ++ seen_all v xs) (m.has n shape.NoNumbers is);
}

-- ---- a number that is another

word-of : (s : Bool) (w : Width) (a : ℕ) → a < 2 ^ bits w → word w (number s w a) ≡ a
word-of true w a h = word-signed w a h
word-of false w a h = mod-eq_of_lt h

seen-below : (b : List Shape) (x : Seen) (e : Environment) (v : Values) → IsBank b → IsSeen b x → Models b e v → (v x.word).word < 2 ^ bits x.width
seen-below b x e v bank h m = (node_sorted b e v (record { index = x.word; sort = sort.Word x.width }) bank (record { sorted = h.stands }) m).1

pub seen-term : (b : List Shape) (x : Seen) → IsSeen b x → IsTerm b (sort.Word x.width) (record { index = x.word; sort = sort.Word x.width })
seen-term b x h = record { stands = h.stands; same = refl }

number-fits : (s : Bool) (w : Width) (a : ℕ) → a < 2 ^ bits w → FitsSigned w128 (number s w a)
number-fits true W8 a h = omega (arith, ints)
number-fits true W16 a h = omega (arith, ints)
number-fits true W32 a h = omega (arith, ints)
number-fits true W64 a h = omega (arith, ints)
number-fits false W8 a h = omega (arith, ints)
number-fits false W16 a h = omega (arith, ints)
number-fits false W32 a h = omega (arith, ints)
number-fits false W64 a h = omega (arith, ints)

-- the word of a number, whatever it went through
word-passed : (s : Bool) (w : Width) (a : ℕ) (value : ℤ) → a < 2 ^ bits w → number s w a ≡ value → word w (to_z w128 (of_z w128 value)) ≡ a
word-passed s w a value h is =
    ap (word w) (to_z-of_z w128 value (subst (λ z. FitsSigned w128 z) is (number-fits s w a h)) ∙ sym is) ∙ word-of s w a h

-- a value that no word of the type is
pub never-same : (a b : List Shape) (x : Seen) (value : ℤ) (w : ℕ) (n : Node) → IsBank a → IsSeen a x
    → w ≡ word x.width (to_z w128 (of_z w128 value)) → (number x.is_signed x.width w ≡ value → ⊥) → Makes a b (shape.Flag true) (Ok n)
    → SaysSo a b (λ v. seen_in v x ≡ value → ⊥) n
never-same a b x value w n bank h is_w other made = record {
  grows = made.grows;
  term = made.node;
  is = λ e v m. (
    λ g same.
        let back = word-passed x.is_signed x.width (v x.word).word value (seen-below a x e v bank h (weaken made.grows m)) same in
        other (ap (number x.is_signed x.width) (is_w ∙ back) ∙ same),
    λ never. ap (λ (y : Worth). y.truth) (made.value.is e v m),
  );
}

same-nat : (m n : ℕ) → nat_eq m n ≡ true → m ≡ n
same-nat m n h = grind (arith, nat_tests)

nat-self : (n : ℕ) → nat_eq n n ≡ true
nat-self n = grind (arith, nat_tests)

-- a value that one word of the type is
pub differs-from : (a b c d : List Shape) (x : Seen) (value : ℤ) (w : ℕ) (other equal n : Node) → IsBank a → IsSeen a x
    → w < 2 ^ bits x.width → number x.is_signed x.width w ≡ value → Makes a b (shape.Constant w x.width) (Ok other)
    → Makes b c (shape.Test test.Equal x.width x.word other.index) (Ok equal) → Makes c d (shape.Not equal.index) (Ok n)
    → SaysSo a d (λ v. seen_in v x ≡ value → ⊥) n
unfolding outcome_of
differs-from a b c d x value w other equal n bank h small same made tested turned = record {
  grows = grows_on made.grows (grows_on tested.grows turned.grows);
  term = turned.node;
  is = λ e v m.
      let mc = weaken turned.grows m in
      let mb = weaken tested.grows mc in
      let ma = weaken made.grows mb in
      let constant : (v other.index).word ≡ w = ap (λ (y : Worth). y.word) (made.value.is e v mb) in
      let equals : (v equal.index).truth ≡ nat_eq (v x.word).word (v other.index).word = ap (λ (y : Worth). y.truth) (tested.value.is e v mc) in
      let turns : (v n.index).truth ≡ not (v equal.index).truth = ap (λ (y : Worth). y.truth) (turned.value.is e v m) in
      let is : (v n.index).truth ≡ not (nat_eq (v x.word).word w) = turns ∙ ap not (equals ∙ ap (nat_eq (v x.word).word) constant) in
      decides (v n.index).truth (v x.word).word is (seen-below a x e v bank h ma);
} where
  decides : (p : Bool) (y : ℕ) → p ≡ not (nat_eq y w) → y < 2 ^ bits x.width → (p ≡ true) ↔ (number x.is_signed x.width y ≡ value → ⊥)
  decides p y is below = split (nat_eq y w) refl
    where
      split : (q : Bool) → nat_eq y w ≡ q → (p ≡ true) ↔ (number x.is_signed x.width y ≡ value → ⊥)
      split true q = (
        λ g. let wrong : false ≡ true = sym (is ∙ ap not q) ∙ g in absurd (cc),
        λ never. absurd (never (ap (number x.is_signed x.width) (same-nat y w q) ∙ same)),
      )
      split false q = (
        λ g k.
            let back : y ≡ w =
            sym (word-of x.is_signed x.width y below) ∙ ap (word x.width) (k ∙ sym same) ∙ word-of x.is_signed x.width w small in
            let wrong : false ≡ true = sym q ∙ ap (λ z. nat_eq z w) back ∙ nat-self w in absurd (cc),
        λ never. is ∙ ap not q,
      )

-- ---- at a place

pub other-none : (a b : List Shape) (n place : ℕ) (value : ℤ) (t : Node) → IsAt a n place None → Makes a b (shape.Flag true) (Ok t)
    → SaysSo a b (λ v. slice_get (v n).numbers place ≡ Some value → ⊥) t
other-none a b n place value t h made = record {
  grows = made.grows;
  term = made.node;
  is = λ e v m. (
    λ g k. let wrong : ◌≡◌ {A = Option ℤ} None (Some value) = sym (h e v (weaken made.grows m)) ∙ k in absurd (cc),
    λ never. ap (λ (y : Worth). y.truth) (made.value.is e v m),
  );
}

pub other-some : (a b : List Shape) (n place : ℕ) (x : Seen) (value : ℤ) (t : Node) → IsAt a n place (Some x)
    → SaysSo a b (λ v. seen_in v x ≡ value → ⊥) t → SaysSo a b (λ v. slice_get (v n).numbers place ≡ Some value → ⊥) t
other-some a b n place x value t h s = record {
  grows = s.grows;
  term = s.term;
  is = λ e v m.
      let at = h.1 e v (weaken s.grows m) in
      let k = s.is e v m in (
        λ g e. (k.0 g) (one (sym at ∙ e)),
        λ never. k.1 (λ same. never (at ∙ ap (λ z. Some z) same)),
      );
} where
  one : {p q : ℤ} → Some p ≡ Some q → p ≡ q
  one h = cc
