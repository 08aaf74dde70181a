-- What is asked of objects, and of which memory.
use Rattle.std.proofs.Common.{◌≡◌, ◌<◌, ◌/◌, ◌^◌, ◌∷◌, [], ℕ, List, Some, None, Bool, true, false, arith, refl, sym, ap, subst, ◌∙◌, cond}
use Rattle.std.specs.Prelude.{slice_get, nat_eq, Option, IfSome, Result, Ok, Err, IfOk}
use Rattle.plain_data.specs.declared.width.Width.{Width}
use Rattle.plain_data.specs.declared.width.Width.TheVariants.{W64}
use Rattle.c_store.specs.declared.object.Object.{Object}
use Rattle.c_store.specs.declared.object.ObjectKind.{ObjectKind}
use Rattle.term_bank.specs.declared.bank.BankFault.{BankFault}
use Rattle.term_bank.specs.declared.sort.Sort.{Sort}
use Rattle.term_bank.specs.declared.sort.Sort.TheVariants.{Truth}
use Rattle.term_bank.specs.declared.sort.Node.{Node}
use Rattle.term_bank.specs.declared.shape.Shape.{Shape}
use Rattle.term_bank.specs.declared.shape.Shape.TheVariants.{Constant, Entry, Initial, Choose, Write, ZeroRange, CopyRange, Made, Ended}
use Rattle.term_bank.specs.Banks.{IsBank, IsPart}
use Rattle.term_bank.specs.Folds.{IsConstant}
use Rattle.term_bank.specs.Memories.{lay, write, zero_range, copy_range}
use Rattle.term_bank.specs.Shapes.{Each, IsNode, IsWell, memory, word, parts, sort_of}
use Rattle.term_bank.specs.Terms.{IsTerm}
use Rattle.term_bank.specs.Under.{IsOnly, IsOver}
use Rattle.term_bank.specs.Values.{Environment, Worth, Values, Models, Grows, IsWorth, worth, of_truth}
use Rattle.term_bank.proofs.BankLemmas.{weaken, grows_on}
use Rattle.term_bank.proofs.OverLemmas.{only_below}
use Rattle.term_bank.proofs.TermLemmas.{node_of, term_of}
use Rattle.flat_reads.specs.declared.choices.Found.TheVariants.{Known, Asked}
use Rattle.flat_reads.specs.declared.choices.Choice.{Choice}
use Rattle.flat_reads.specs.declared.objects.ObjectQuestion.{ObjectQuestion}
use Rattle.flat_reads.specs.declared.objects.ObjectQuestion.TheVariants.{Live, Kind, Size}
use Rattle.flat_reads.specs.Flats.{IsHonest, IsFlatOver, HasWorth, is_flat}
use Rattle.flat_reads.specs.Choices.{IsFound, IsChoice, Leads, found_worth, rank}
use Rattle.flat_reads.specs.Answers.{IsAnswer, IsAskable}
use Rattle.flat_reads.specs.Flattened.{IsFlattened}
use Rattle.flat_reads.specs.Objects.{asked_of, operands, sort_in, object_in, told, IsNumbered, AsksOther, HasSameObject, IsEarlier, AsksObject, IsSet}
use Rattle.flat_reads.proofs.FlatLemmas.{flats_under, rest_flat}

-- ---- the question as a shape

pub worth_of : (e : Environment) (v : Values) (m : ℕ) (q : ObjectQuestion) → worth e v (asked_of m q) ≡ told v q ((v m).store.objects (object_in v q))
worth_of e v m (Live a n) = refl
worth_of e v m (Kind k p) = refl
worth_of e v m (Size p) = refl

pub parts_of : (m : ℕ) (q : ObjectQuestion) → parts (asked_of m q) ≡ memory m ∷ operands q
parts_of m (Live a n) = refl
parts_of m (Kind k p) = refl
parts_of m (Size p) = refl

pub sort_is : (m : ℕ) (q : ObjectQuestion) → sort_of (asked_of m q) ≡ sort_in q
sort_is m (Live a n) = refl
sort_is m (Kind k p) = refl
sort_is m (Size p) = refl

rank_is : (m : ℕ) (q : ObjectQuestion) → rank (asked_of m q) ≡ m
rank_is m (Live a n) = refl
rank_is m (Kind k p) = refl
rank_is m (Size p) = refl

flat_is : (t : Shape → Bool) (m : ℕ) (q : ObjectQuestion) → is_flat t (asked_of m q) ≡ t Entry
flat_is t m (Live a n) = refl
flat_is t m (Kind k p) = refl
flat_is t m (Size p) = refl

pub stands_over : (shapes : List Shape) (m : ℕ) (q : ObjectQuestion) → IsWell shapes (asked_of m q) → Each (IsNode shapes) (memory m ∷ operands q)
stands_over shapes m q h = subst (Each (IsNode shapes)) (parts_of m q) h.parts_stand

pub well_of : (shapes : List Shape) (m : ℕ) (q : ObjectQuestion) → IsNode shapes (memory m) → Each (IsNode shapes) (operands q) → IsWell shapes (asked_of m q)
well_of shapes m (Live a n) here rest = record { parts_stand = (here, rest); in_width = tt }
well_of shapes m (Kind k p) here rest = record { parts_stand = (here, rest); in_width = tt }
well_of shapes m (Size p) here rest = record { parts_stand = (here, rest); in_width = tt }

-- ---- numbers that constants tell

constant_is : (shapes : List Shape) (e : Environment) (v : Values) (n x : ℕ) → Models shapes e v → IsConstant shapes n W64 x → (v n).word ≡ x
constant_is shapes e v n x m h = ap (λ (y : Worth). y.word) (m.has n (Constant x W64) h.is)

pub numbered_live : (shapes : List Shape) (q : ObjectQuestion) (a n x : ℕ) → q ≡ Live a n → IsConstant shapes a W64 x → IsNumbered shapes q (x / 2 ^ 32)
numbered_live shapes q a n x is h = subst (λ q. IsNumbered shapes q (x / 2 ^ 32)) (sym is) (record { is = λ e v m. ap (λ y. y / 2 ^ 32) (constant_is shapes e v a x m h) })

at_constant : (shapes : List Shape) (q : ObjectQuestion) (p : ℕ) → ((v : Values) → object_in v q ≡ (v p).word) → (r : Option ℕ) → IfSome r (IsConstant shapes p W64) → IfSome r (IsNumbered shapes q)
at_constant shapes q p f None h = tt
at_constant shapes q p f (Some x) h = record { is = λ e v m. f v ∙ constant_is shapes e v p x m h }

pub numbered_kind : (shapes : List Shape) (q : ObjectQuestion) (k : ObjectKind) (p : ℕ) (r : Option ℕ) → q ≡ Kind k p → IfSome r (IsConstant shapes p W64) → IfSome r (IsNumbered shapes q)
numbered_kind shapes q k p r is h = at_constant shapes q p (λ v. ap (object_in v) is) r h

pub numbered_size : (shapes : List Shape) (q : ObjectQuestion) (p : ℕ) (r : Option ℕ) → q ≡ Size p → IfSome r (IsConstant shapes p W64) → IfSome r (IsNumbered shapes q)
numbered_size shapes q p r is h = at_constant shapes q p (λ v. ap (object_in v) is) r h

pub other_number : (shapes : List Shape) (q : ObjectQuestion) (p x y : ℕ) → IsNumbered shapes q x → IsConstant shapes p W64 y → nat_eq x y ≡ false → AsksOther shapes q p
other_number shapes q p x y h k apart = record { other = λ e v m. ap (λ i. nat_eq i (v p).word) (h.is e v m) ∙ ap (nat_eq x) (constant_is shapes e v p y m k) ∙ apart }

-- ---- memories that have the same object

earlier_of : (shapes : List Shape) (q : ObjectQuestion) (m old : ℕ) (s : Shape) (rest : List Node) → IsBank shapes → slice_get shapes m ≡ Some s → parts s ≡ memory old ∷ rest → HasSameObject shapes q m old → IsEarlier shapes q m old
earlier_of shapes q m old s rest bank is over same =
    let here = subst (Each (IsPart shapes m)) over (bank.well m s is).each_part in
    record {
      smaller = here.0.before;
      stands = here.0.stands;
      same = same;
      under = record { under = λ b g t h. (subst (Each (λ p. IsOnly t b p.index)) over (only_below t b m s (g.kept m s is) h).1).0 };
    }

pub earlier_write : (shapes : List Shape) (q : ObjectQuestion) (m : ℕ) (w : Width) (old a x : ℕ) → IsBank shapes → slice_get shapes m ≡ Some (Write w old a x) → IsEarlier shapes q m old
unfolding write lay
earlier_write shapes q m w old a x bank is = earlier_of shapes q m old (Write w old a x) (word W64 a ∷ (word w x ∷ [])) bank is refl (record { same = λ e v k. ap (λ (y : Worth). y.store.objects (object_in v q)) (k.has m (Write w old a x) is) })

pub earlier_zero : (shapes : List Shape) (q : ObjectQuestion) (m old a n : ℕ) → IsBank shapes → slice_get shapes m ≡ Some (ZeroRange old a n) → IsEarlier shapes q m old
unfolding zero_range lay
earlier_zero shapes q m old a n bank is = earlier_of shapes q m old (ZeroRange old a n) (word W64 a ∷ (word W64 n ∷ [])) bank is refl (record { same = λ e v k. ap (λ (y : Worth). y.store.objects (object_in v q)) (k.has m (ZeroRange old a n) is) })

pub earlier_copy : (shapes : List Shape) (q : ObjectQuestion) (m old to source from n : ℕ) → IsBank shapes → slice_get shapes m ≡ Some (CopyRange old to source from n) → IsEarlier shapes q m old
unfolding copy_range lay
earlier_copy shapes q m old to source from n bank is = earlier_of shapes q m old (CopyRange old to source from n) (word W64 to ∷ (memory source ∷ (word W64 from ∷ (word W64 n ∷ [])))) bank is refl (record { same = λ e v k. ap (λ (y : Worth). y.store.objects (object_in v q)) (k.has m (CopyRange old to source from n) is) })

pub set_made : (shapes : List Shape) (m : ℕ) (k : ObjectKind) (old p z : ℕ) → slice_get shapes m ≡ Some (Made k old p z) → IsSet shapes m p old (λ v. Some (record { kind = k; size = (v z).word }))
set_made shapes m k old p z is = record { is = λ e v t i. ap (λ (y : Worth). y.store.objects i) (t.has m (Made k old p z) is) }

pub set_ended : (shapes : List Shape) (m old p : ℕ) → slice_get shapes m ≡ Some (Ended old p) → IsSet shapes m p old (λ v. None)
set_ended shapes m old p is = record { is = λ e v t i. ap (λ (y : Worth). y.store.objects i) (t.has m (Ended old p) is) }

same_apart : (shapes : List Shape) (q : ObjectQuestion) (m p old : ℕ) (o : Values → Option Object) → IsSet shapes m p old o → AsksOther shapes q p → HasSameObject shapes q m old
same_apart shapes q m p old o set apart = record { same = λ e v t. set.is e v t (object_in v q) ∙ ap (λ b. cond b (o v) ((v old).store.objects (object_in v q))) (apart.other e v t) }

pub earlier_made : (shapes : List Shape) (q : ObjectQuestion) (m : ℕ) (k : ObjectKind) (old p z : ℕ) → IsBank shapes → slice_get shapes m ≡ Some (Made k old p z) → AsksOther shapes q p → IsEarlier shapes q m old
earlier_made shapes q m k old p z bank is apart = earlier_of shapes q m old (Made k old p z) (word W64 p ∷ (word W64 z ∷ [])) bank is refl (same_apart shapes q m p old (λ v. Some (record { kind = k; size = (v z).word })) (set_made shapes m k old p z is) apart)

pub earlier_ended : (shapes : List Shape) (q : ObjectQuestion) (m old p : ℕ) → IsBank shapes → slice_get shapes m ≡ Some (Ended old p) → AsksOther shapes q p → IsEarlier shapes q m old
earlier_ended shapes q m old p bank is apart = earlier_of shapes q m old (Ended old p) (word W64 p ∷ []) bank is refl (same_apart shapes q m p old (λ v. None) (set_ended shapes m old p is) apart)

-- ---- what was found

pub known_found : (shapes : List Shape) (m : ℕ) (q : ObjectQuestion) (node : Node) → IsTerm shapes (sort_in q) node → IsFlatOver shapes (memory m ∷ operands q) node.index → IsFound shapes (rank (asked_of m q)) (sort_of (asked_of m q)) (parts (asked_of m q)) (Known node)
known_found shapes m (Live a n) node term flat = record { term = term; flat = flat }
known_found shapes m (Kind k p) node term flat = record { term = term; flat = flat }
known_found shapes m (Size p) node term flat = record { term = term; flat = flat }

seen_found : (shapes : List Shape) (m seen : ℕ) (q : ObjectQuestion) → IsNode shapes (memory seen) → Each (IsNode shapes) (operands q) → seen < m → IsFlatOver shapes (memory m ∷ operands q) seen → IsFound shapes (rank (asked_of m q)) (sort_of (asked_of m q)) (parts (asked_of m q)) (Asked (asked_of seen q))
seen_found shapes m seen (Live a n) here rest less flat = record { well = well_of shapes seen (Live a n) here rest; asks = tt; sort = refl; less = less; flat = (flat, rest_flat shapes (memory m) (operands (Live a n))) }
seen_found shapes m seen (Kind k p) here rest less flat = record { well = well_of shapes seen (Kind k p) here rest; asks = tt; sort = refl; less = less; flat = (flat, rest_flat shapes (memory m) (operands (Kind k p))) }
seen_found shapes m seen (Size p) here rest less flat = record { well = well_of shapes seen (Size p) here rest; asks = tt; sort = refl; less = less; flat = (flat, rest_flat shapes (memory m) (operands (Size p))) }

pub asked_found : (shapes : List Shape) (m old : ℕ) (q : ObjectQuestion) (asked : Shape) → AsksObject shapes old q asked → Each (IsNode shapes) (operands q) → old < m → IsFlatOver shapes (memory m ∷ operands q) old → IsFound shapes (rank (asked_of m q)) (sort_of (asked_of m q)) (parts (asked_of m q)) (Asked asked)
asked_found shapes m old q asked h rest less flat = subst (λ s. IsFound shapes (rank (asked_of m q)) (sort_of (asked_of m q)) (parts (asked_of m q)) (Asked s)) (sym h.is)
    (seen_found shapes m h.seen q h.stands rest (omega (arith, h.most, less)) (record { flat = λ l g t x. h.under.under l g (is_flat t) (flat.flat l g t x) }))

pub asked_worth : (shapes : List Shape) (m : ℕ) (q : ObjectQuestion) (asked : Shape) → AsksObject shapes m q asked → (e : Environment) (v : Values) → Models shapes e v → worth e v asked ≡ told v q ((v m).store.objects (object_in v q))
asked_worth shapes m q asked h e v t = ap (worth e v) h.is ∙ worth_of e v h.seen q ∙ ap (told v q) (sym (h.same.same e v t))

pub memory_flat : (shapes : List Shape) (m : ℕ) (ps : List Node) (s : Shape) → slice_get shapes m ≡ Some s → Each (λ p. IsFlatOver shapes (memory m ∷ ps) p.index) (parts s)
memory_flat shapes m ps s is = flats_under shapes (memory m ∷ ps) (parts s) (λ b g t h. (only_below (is_flat t) b m s (g.kept m s is) h.0).1)

-- ---- choices

over_parts : (shapes : List Shape) (m : ℕ) (q : ObjectQuestion) (n : ℕ) → IsFlatOver shapes (memory m ∷ operands q) n → IsFlatOver shapes (parts (asked_of m q)) n
over_parts shapes m q n h = subst (λ ps. IsFlatOver shapes ps n) (sym (parts_of m q)) h

through : (v : Values) (q : ObjectQuestion) (b : Bool) (x y : Option Object) → told v q (cond b x y) ≡ cond b (told v q x) (told v q y)
through v q true x y = refl
through v q false x y = refl

either : (b c : Bool) (x y z w : Worth) → c ≡ b → x ≡ z → y ≡ w → cond b z w ≡ cond c x y
either b c x y z w h k l = rw (h, k, l) refl

pub choice_set : (shapes : List Shape) (m p old : ℕ) (o : Values → Option Object) (q : ObjectQuestion) (choice : Choice) → IsSet shapes m p old o
    → IsTerm shapes Truth choice.condition → HasWorth shapes (λ v. of_truth (nat_eq (object_in v q) (v p).word)) choice.condition → IsFlatOver shapes (memory m ∷ operands q) choice.condition.index
    → IsFound shapes (rank (asked_of m q)) (sort_of (asked_of m q)) (parts (asked_of m q)) choice.yes → IsFound shapes (rank (asked_of m q)) (sort_of (asked_of m q)) (parts (asked_of m q)) choice.no
    → ((e : Environment) (v : Values) → IsHonest e → Models shapes e v → found_worth e v choice.yes ≡ told v q (o v))
    → ((e : Environment) (v : Values) → Models shapes e v → found_worth e v choice.no ≡ told v q ((v old).store.objects (object_in v q)))
    → IsChoice shapes (asked_of m q) choice
choice_set shapes m p old o q choice set condition worth_is flat one other yes_is no_is = record {
  condition = condition;
  flat = over_parts shapes m q choice.condition.index flat;
  yes = one;
  no = other;
  value = λ e v honest t.
      let i = object_in v q in
      let before = (v old).store.objects i in
      worth_of e v m q ∙ ap (told v q) (set.is e v t i) ∙ through v q (nat_eq i (v p).word) (o v) before
      ∙ either (nat_eq i (v p).word) (v choice.condition.index).truth (found_worth e v choice.yes) (found_worth e v choice.no) (told v q (o v)) (told v q before)
      (ap (λ (y : Worth). y.truth) (worth_is.is e v honest t)) (yes_is e v honest t) (no_is e v t);
}

pub object_chosen : (shapes : List Shape) (m : ℕ) (q : ObjectQuestion) (s : Sort) (c x y : ℕ) (one other : Shape) → IsBank shapes → slice_get shapes m ≡ Some (Choose s c x y) → Each (IsNode shapes) (operands q) → AsksObject shapes x q one → AsksObject shapes y q other → IsChoice shapes (asked_of m q) (record { condition = record { index = c; sort = Truth }; yes = Asked one; no = Asked other })
object_chosen shapes m q s c x y one other bank is rest h k =
    let below = (bank.well m (Choose s c x y) is).each_part in
    let flats = memory_flat shapes m (operands q) (Choose s c x y) is in
    record {
      condition = record { stands = below.0.stands.sorted; same = refl };
      flat = over_parts shapes m q c flats.0;
      yes = asked_found shapes m x q one h rest below.1.0.before flats.1.0;
      no = asked_found shapes m y q other k rest below.1.1.0.before flats.1.1.0;
      value = λ e v honest t.
          let i = object_in v q in
          worth_of e v m q ∙ ap (λ (z : Worth). told v q (z.store.objects i)) (t.has m (Choose s c x y) is) ∙ apart v q (v c).truth (v x) (v y) i
          ∙ either (v c).truth (v c).truth (worth e v one) (worth e v other) (told v q ((v x).store.objects i)) (told v q ((v y).store.objects i)) refl (asked_worth shapes x q one h e v t) (asked_worth shapes y q other k e v t);
    }
  where
    apart : (v : Values) (q : ObjectQuestion) (b : Bool) (z w : Worth) (i : ℕ) → told v q ((cond b z w).store.objects i) ≡ cond b (told v q (z.store.objects i)) (told v q (w.store.objects i))
    apart v q true z w i = refl
    apart v q false z w i = refl

-- ---- what is certain

pub leads_kept : (shapes : List Shape) (m old : ℕ) (q : ObjectQuestion) (asked : Shape) → IsEarlier shapes q m old → AsksObject shapes old q asked → Each (IsNode shapes) (operands q) → Leads shapes (asked_of m q) (Asked asked)
leads_kept shapes m old q asked earlier h rest = record {
  found_stands = asked_found shapes m old q asked h rest earlier.smaller (record { flat = λ l g t x. earlier.under.under l g (is_flat t) x.0 });
  value = λ e v honest t. worth_of e v m q ∙ ap (told v q) (earlier.same.same e v t) ∙ sym (asked_worth shapes old q asked h e v t);
}

pub leads_none : (old shapes : List Shape) (m : ℕ) (q : ObjectQuestion) (node : Node) → Grows old shapes → slice_get old m ≡ Some Initial → IsTerm shapes (sort_in q) node → IsFlatOver shapes [] node.index → HasWorth shapes (λ v. told v q None) node → Leads shapes (asked_of m q) (Known node)
leads_none old shapes m q node g is term flat h = record {
  found_stands = known_found shapes m q node term (record { flat = λ l k t x. flat.flat l k t tt });
  value = λ e v honest t. worth_of e v m q ∙ ap (λ (y : Worth). told v q (y.store.objects (object_in v q))) (t.has m Initial (g.kept m Initial is)) ∙ sym (h.is e v honest t);
}

-- a question of the entry memory is left
pub leads_left : (old shapes : List Shape) (m : ℕ) (q : ObjectQuestion) (node : Node) → Grows old shapes → slice_get old m ≡ Some Entry → IsNode shapes node → node.sort ≡ sort_of (asked_of m q) → IsWorth shapes (asked_of m q) node → IsOver shapes (asked_of m q) node → Leads shapes (asked_of m q) (Known node)
leads_left old shapes m q node g is stands sort h over = record {
  found_stands = known_found shapes m q node (term_of shapes (sort_in q) node stands (sort ∙ sort_is m q)) (record {
    flat = λ l k t x.
        over.under l k (is_flat t) (λ b. refl) (λ y w. refl) (flat_is t m q ∙ (only_below (is_flat t) l m Entry (k.kept m Entry (g.kept m Entry is)) x.0).0) (subst (Each (λ p. IsOnly (is_flat t) l p.index)) (sym (parts_of m q)) x);
  });
  value = λ e v honest t. sym (h.is e v t);
}

-- ---- answers

pub object_askable : (shapes : List Shape) (m : ℕ) (q : ObjectQuestion) (asked : Shape) → AsksObject shapes m q asked → Each (IsNode shapes) (operands q) → IsAskable shapes asked
object_askable shapes m q asked h rest = subst (IsAskable shapes) (sym h.is) (askable shapes h.seen q h.stands rest) where
  askable : (shapes : List Shape) (m : ℕ) (q : ObjectQuestion) → IsNode shapes (memory m) → Each (IsNode shapes) (operands q) → IsAskable shapes (asked_of m q)
  askable shapes m (Live a n) here rest = record { well = well_of shapes m (Live a n) here rest; asks = tt }
  askable shapes m (Kind k p) here rest = record { well = well_of shapes m (Kind k p) here rest; asks = tt }
  askable shapes m (Size p) here rest = record { well = well_of shapes m (Size p) here rest; asks = tt }

pub object_flat : (old new : List Shape) (m : ℕ) (q : ObjectQuestion) (asked : Shape) (node : Node) → Grows old new → AsksObject old m q asked → IsAnswer new asked node → IsFlattened new (asked_of m q) node
object_flat old new m q asked node g h answer = record {
  stands = node_of new (sort_of asked) node answer.term;
  sort = answer.term.same ∙ ap sort_of h.is ∙ sort_is h.seen q ∙ sym (sort_is m q);
  value = λ e v honest t. answer.value e v honest t ∙ asked_worth old m q asked h e v (weaken g t) ∙ sym (worth_of e v m q);
  flat = λ b k t kept below.
      let over = subst (Each (λ p. IsOnly (is_flat t) b p.index)) (parts_of m q) below in
      let there = subst (Each (λ p. IsOnly (is_flat t) b p.index)) (sym (parts_of h.seen q)) (h.under.under b (grows_on g k) (is_flat t) over.0, over.1) in
      answer.flat.flat b k t (subst (λ s. Each (λ p. IsOnly (is_flat t) b p.index) (parts s)) (sym h.is) there);
}

pub object_answered : (old new : List Shape) (m : ℕ) (q : ObjectQuestion) (asked : Shape) (r : Result Node BankFault) → Grows old new → AsksObject old m q asked → IfOk r (IsAnswer new asked) → IfOk r (IsFlattened new (asked_of m q))
object_answered old new m q asked (Ok n) g h answer = object_flat old new m q asked n g h answer
object_answered old new m q asked (Err e) g h answer = tt
