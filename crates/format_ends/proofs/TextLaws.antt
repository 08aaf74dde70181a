-- Where texts end, and where they end at stops.
use Rattle.std.proofs.Common.{◌≡◌, ℕ, zero, suc, ◌+◌, ◌-◌, ◌<◌, ◌≤◌, ◌↔◌, Bool, true, false, cond, not, ◌&&◌, ◌||◌, eqb, ltb, leb, inl, inr, List, [], ◌∷◌, length, take, drop, get_or, refl, sym, ap, subst, ◌∙◌, arith}
use Rattle.std.proofs.lemmas.Bool.{and_parts, and_from, or_cases, or_left, or_right, eqb-true, eq-eqb, ltb-true, lt-ltb, le-ltb, le-leb, lt-leb, cases_lt}
use Rattle.printf_text.specs.declared.piece.Flags.{Flags}
use Rattle.printf_text.specs.declared.piece.Piece.{Piece}
use Rattle.printf_text.specs.declared.piece.Piece.TheVariants.{Literal, Converted}
use Rattle.positions.specs.Sets.{has, ascends}
use Rattle.format_match.specs.Splits.{begins, Spells}
use Rattle.format_match.specs.Spelled.{IsBehind, EndsBehind, AreWithin, plain_text, is_printed, goes_on, may_end}
use Rattle.format_match.proofs.Reached.{spells_begins, spells_end, spells_from, stands, taken}
use Rattle.format_match.proofs.PlainTexts.{texts_end, ends_one}
use Rattle.format_ends.specs.Reached.{text_start, passing, reached, text_ends, StandExactly, EndsAtStop, IsPassed}
use Rattle.format_ends.proofs.Order.{both_ways, take_last, has_parts}

or_false : (b : Bool) → (b || false) ≡ b
or_false true = refl
or_false false = refl

pub same_tests : (a b : Bool) → (a ≡ true → b ≡ true) → (b ≡ true → a ≡ true) → a ≡ b
same_tests true b f g = sym (f refl)
same_tests false true f g = g refl
same_tests false false f g = refl

not_so : (b : Bool) → (b ≡ true → ⊥) → false ≡ b
not_so true n = absurd (n refl)
not_so false n = refl

-- ---- from where a text reaches a position

start_within : (log : List ℕ) (n : ℕ) → text_start log n ≤ n
start_within log zero = omega arith
start_within log (suc n) = by (eqb (get_or log n 0) 0) (start_within log n)
  where
    by : (z : Bool) → text_start log n ≤ n → cond z (suc n) (text_start log n) ≤ suc n
    by true h = omega arith
    by false h = omega arith

module _ (log before : List ℕ) where
  -- one of the positions from which a text reaches this one
  record IsReached (n : ℕ) : Type 0 where
    from : ℕ
    begins : has before from ≡ true
    low : text_start log n ≤ from
    high : from ≤ n

  reached_there : (n : ℕ) → n ≤ length log → may_end before log n ≡ true → IsReached n
  reached_there zero h m = record { from = 0; begins = m; low = omega arith; high = omega arith }
  reached_there (suc n) h m = elim (or_cases (goes_on before log (suc n)) (has before (suc n)) m) [
    | inl g ↦ (let p = and_parts (goes_on before log n || has before n) (is_printed log n) g in
        let r = reached_there n (omega arith) p.0 in
        let q = and_parts (ltb n (length log)) (not (eqb (get_or log n 0) 0)) p.1 in
        let u : r.from ≤ n = r.high in
        record { from = r.from; begins = r.begins; low = same (eqb (get_or log n 0) 0) r.from q.1 r.low; high = omega arith })
    | inr b ↦ record { from = suc n; begins = b; low = start_within log (suc n); high = omega arith }
  ]
    where
      same : (z : Bool) (from : ℕ) → not z ≡ true → text_start log n ≤ from → cond z (suc n) (text_start log n) ≤ from
      same true from z l = absurd cc
      same false from z l = l

  reached_back : (n : ℕ) → n ≤ length log → (from : ℕ) → has before from ≡ true → text_start log n ≤ from → from ≤ n → may_end before log n ≡ true
  reached_back zero h from b l u = subst (λ k. has before k ≡ true) (omega arith) b
  reached_back (suc n) h from b l u = elim (cases_lt from (suc n)) [
    | inl k ↦ (let z = start (eqb (get_or log n 0) 0) l k in
        or_left (goes_on before log (suc n)) (has before (suc n))
        (and_from (goes_on before log n || has before n) (is_printed log n) (reached_back n (omega arith) from b z.1 (omega arith))
        (and_from (ltb n (length log)) (not (eqb (get_or log n 0) 0)) (lt-ltb n (length log) (omega arith)) z.0)))
    | inr k ↦ or_right (goes_on before log (suc n)) (has before (suc n)) (subst (λ j. has before j ≡ true) (omega arith) b)
  ]
    where
      start : (z : Bool) → cond z (suc n) (text_start log n) ≤ from → from < suc n → (not z ≡ true) × (text_start log n ≤ from)
      start true s k = absurd (omega arith)
      start false s k = (refl, s)

-- no position stands up to the stop
pub none_reaches : (log before : List ℕ) (stop passed : ℕ) → passed ≡ 0 → stop ≤ length log → IsPassed before stop passed → false ≡ may_end before log stop
none_reaches log before stop passed z h p = not_so (may_end before log stop) (λ m. no (reached_there log before stop h m))
  where
    no : IsReached log before stop → ⊥
    no r =
        let a : stop < r.from = p.above r.from (subst (λ k. has (drop k before) r.from ≡ true) (sym z) r.begins) in
        let u : r.from ≤ stop = r.high in
        omega arith

-- if one does, the last that stands up to it
module _ (log before : List ℕ) (stop n start : ℕ) (a : ascends before ≡ true) (h : stop ≤ length log) (w : suc n ≤ length before) (p : IsPassed before stop (suc n))
    (e : start ≡ text_start log stop) where
  abbrev last : ℕ
  last = get_or before n 0

  last_there : has (take (suc n) before) last ≡ true
  last_there =
      ap (λ k. has (take k before) last) next ∙ taken before n last (omega arith)
      ∙ or_right (has (take n before) last) (eqb last last) (eq-eqb last last refl)
    where
      next : suc n ≡ n + 1
      next = omega arith

  no_later : last < start → IsReached log before stop → ⊥
  no_later l r = elim (or_cases (has (take (suc n) before) r.from) (has (drop (suc n) before) r.from) (sym (has_parts before (suc n) r.from) ∙ r.begins)) [
    | inl t ↦ (let u : r.from ≤ last = take_last before n r.from a (omega arith) t in let v : text_start log stop ≤ r.from = r.low in omega arith)
    | inr t ↦ (let u : stop < r.from = p.above r.from t in let v : r.from ≤ stop = r.high in omega arith)
  ]

  last_is : leb start last ≡ may_end before log stop
  last_is = elim (cases_lt last start) [
    | inl l ↦ lt-leb start last l ∙ not_so (may_end before log stop) (λ m. no_later l (reached_there log before stop h m))
    | inr l ↦ le-leb start last l ∙ sym (reached_back log before stop h last (stands before n (omega arith)) (omega arith) (p.below last last_there))
  ]

pub last_reaches : (log before : List ℕ) (stop passed start : ℕ) → ascends before ≡ true → stop ≤ length log → 0 < passed → passed ≤ length before → IsPassed before stop passed
    → start ≡ text_start log stop → leb start (get_or before (passed - 1) 0) ≡ may_end before log stop
last_reaches log before stop zero start a h z w p e = absurd (omega arith)
last_reaches log before stop (suc n) start a h z w p e =
    subst (λ k. leb start (get_or before k 0) ≡ may_end before log stop) one (last_is log before stop n start a h w p e)
  where
    one : n ≡ suc n - 1
    one = omega arith

-- ---- where texts end

pub has_passing : (test : ℕ → Bool) (n y : ℕ) → has (passing test n) y ≡ (ltb y n && test y)
has_passing test zero y = sym (ap (λ b. b && test y) (le-ltb y 0 (omega arith)))
has_passing test (suc n) y =
    subst (λ k. has (passing test (suc n)) y ≡ (ltb y k && test y)) next
    (ends_one test n y (has (passing test n) y) (has (passing test (suc n)) y) (test n) (has_passing test n y) refl (by (test n)))
  where
    next : n + 1 ≡ suc n
    next = omega arith

    swap : (a b : Bool) → (a || b) ≡ (b || a)
    swap true true = refl
    swap true false = refl
    swap false true = refl
    swap false false = refl

    by : (b : Bool) → has (cond b (n ∷ passing test n) (passing test n)) y ≡ (has (passing test n) y || (b && eqb n y))
    by true = swap (eqb n y) (has (passing test n) y)
    by false = sym (or_false (has (passing test n) y))

pub has_ends : (log before : List ℕ) (y : ℕ) → has (text_ends log before) y ≡ (ltb y (length log + 1) && may_end before log y)
has_ends log before y = has_passing (may_end before log) (length log + 1) y

pub ends_within : (log before : List ℕ) → AreWithin log (text_ends log before)
ends_within log before y m =
    let s : y < length log + 1 = ltb-true y (length log + 1) (and_parts (ltb y (length log + 1)) (may_end before log y) (sym (has_ends log before y) ∙ m)).0 in
    omega arith

-- behind a text that may end at some positions, a text ends at the same
same_goes : (log before : List ℕ) (n : ℕ) → goes_on (text_ends log before) log n ≡ goes_on before log n
same_goes log before zero = refl
same_goes log before (suc n) = by (is_printed log n) refl (same_goes log before n)
  where
    none : (a b : Bool) → (a && false) ≡ (b && false)
    none true true = refl
    none true false = refl
    none false true = refl
    none false false = refl

    twice : (g h : Bool) → (g || (g || h)) ≡ (g || h)
    twice true h = refl
    twice false h = refl

    by : (p : Bool) → is_printed log n ≡ p → goes_on (text_ends log before) log n ≡ goes_on before log n
        → ((goes_on (text_ends log before) log n || has (text_ends log before) n) && p) ≡ ((goes_on before log n || has before n) && p)
    by true e g =
        let l : n < length log = ltb-true n (length log) (and_parts (ltb n (length log)) (not (eqb (get_or log n 0) 0)) e).0 in
        let s : has (text_ends log before) n ≡ may_end before log n = has_ends log before n ∙ ap (λ b. b && may_end before log n) (lt-ltb n (length log + 1) (omega arith)) in
        (λ i. (g i || s i) && true) ∙ ap (λ b. b && true) (twice (goes_on before log n) (has before n))
    by false e g = none (goes_on (text_ends log before) log n || has (text_ends log before) n) (goes_on before log n || has before n)

same_ends : (log before : List ℕ) (y : ℕ) → has (text_ends log before) y ≡ (ltb y (length log + 1) && may_end (text_ends log before) log y)
same_ends log before y = has_ends log before y ∙ by (ltb y (length log + 1)) refl
  where
    twice : (g h : Bool) → (g || h) ≡ (g || (g || h))
    twice true h = refl
    twice false h = refl

    by : (b : Bool) → ltb y (length log + 1) ≡ b → (b && may_end before log y) ≡ (b && may_end (text_ends log before) log y)
    by true e =
        let s : has (text_ends log before) y ≡ may_end before log y = has_ends log before y ∙ ap (λ b. b && may_end before log y) e in
        twice (goes_on before log y) (has before y) ∙ sym (λ i. same_goes log before y i || s i)
    by false e = refl

module _ (flags : Flags) (log : List ℕ) (fits : (k : ℕ) → get_or log k 0 < 256) (before : List ℕ) where
  pub text_behind : AreWithin log before → EndsBehind (Converted (plain_text flags)) log before (text_ends log before)
  text_behind within = texts_end flags log fits before within (text_ends log before) (has_ends log before)

  pub text_again : EndsBehind (Converted (plain_text flags)) log (text_ends log before) (text_ends log before)
  text_again = texts_end flags log fits (text_ends log before) (ends_within log before) (text_ends log before) (same_ends log before)

-- ---- at stops

pub stops_none : (log before stops : List ℕ) (len y : ℕ) → (has [] y ≡ true) ↔ EndsAtStop log before (take 0 stops) len y
stops_none log before stops len y = (λ m. absurd cc, λ b. absurd (both_ways false refl b.stands))

module _ (log before stops : List ℕ) (i len : ℕ) (old now : List ℕ) (wanted : Bool) (h : i < length stops)
    (e : (y : ℕ) → (has old y ≡ true) ↔ EndsAtStop log before (take i stops) len y) (w : wanted ≡ may_end before log (get_or stops i 0))
    (n : (y : ℕ) → has now y ≡ (has old y || (wanted && eqb (get_or stops i 0 + len) y))) (y : ℕ) where
  abbrev stop : ℕ
  stop = get_or stops i 0

  there : has now y ≡ true → EndsAtStop log before (take (i + 1) stops) len y
  there m = elim (or_cases (has old y) (wanted && eqb (stop + len) y) (sym (n y) ∙ m)) [
    | inl o ↦ (let r = (e y).0 o in record { stop = r.stop; stands = taken stops i r.stop h ∙ or_left (has (take i stops) r.stop) (eqb stop r.stop) r.stands; text = r.text; is = r.is })
    | inr a ↦ (let p = and_parts wanted (eqb (stop + len) y) a in
        record { stop = stop; stands = taken stops i stop h ∙ or_right (has (take i stops) stop) (eqb stop stop) (eq-eqb stop stop refl); text = sym w ∙ p.0; is = sym (eqb-true (stop + len) y p.1) })
  ]

  back : EndsAtStop log before (take (i + 1) stops) len y → has now y ≡ true
  back r = n y ∙ elim (or_cases (has (take i stops) r.stop) (eqb stop r.stop) (sym (taken stops i r.stop h) ∙ r.stands)) [
    | inl o ↦ or_left (has old y) (wanted && eqb (stop + len) y) ((e y).1 (record { stop = r.stop; stands = o; text = r.text; is = r.is }))
    | inr s ↦ (let q : stop ≡ r.stop = eqb-true stop r.stop s in
        or_right (has old y) (wanted && eqb (stop + len) y) (and_from wanted (eqb (stop + len) y) (w ∙ ap (may_end before log) q ∙ r.text)
        (eq-eqb (stop + len) y (ap (λ k. k + len) q ∙ sym r.is))))
  ]

  pub stops_more : (has now y ≡ true) ↔ EndsAtStop log before (take (i + 1) stops) len y
  stops_more = (there, back)

-- where a literal stands behind a text
pub stop_behind : (bytes log before stops ends : List ℕ) → StandExactly bytes log stops → ((y : ℕ) → (has ends y ≡ true) ↔ EndsAtStop log before stops (length bytes) y)
    → EndsBehind (Literal bytes) log (text_ends log before) ends
stop_behind bytes log before stops ends s e end = (there, back)
  where
    there : has ends end ≡ true → IsBehind (Literal bytes) log (text_ends log before) end
    there m =
        let r = (e end).0 m in
        let p = and_parts (ltb r.stop (length log + 1)) (begins bytes (drop r.stop log)) (sym (s r.stop) ∙ r.stands) in
        let h : r.stop < length log + 1 = ltb-true r.stop (length log + 1) p.0 in
        record {
          from = r.stop;
          begins = has_ends log before r.stop ∙ and_from (ltb r.stop (length log + 1)) (may_end before log r.stop) p.0 r.text;
          spelled = record { args = []; have = tt; spells = subst (λ x. Spells bytes log r.stop x) (sym r.is) (spells_from bytes log r.stop (omega arith) p.1) };
        }

    back : IsBehind (Literal bytes) log (text_ends log before) end → has ends end ≡ true
    back b =
        let p = and_parts (ltb b.from (length log + 1)) (may_end before log b.from) (sym (has_ends log before b.from) ∙ b.begins) in
        (e end).1 (record {
          stop = b.from;
          stands = s b.from ∙ and_from (ltb b.from (length log + 1)) (begins bytes (drop b.from log)) p.0 (spells_begins bytes log b.from end b.spelled.spells);
          text = p.1;
          is = sym (spells_end bytes log b.from end b.spelled.spells);
        })

-- at all positions
pub stops_all : (log before all ends : List ℕ) → StandExactly [] log all → ((y : ℕ) → (has ends y ≡ true) ↔ EndsAtStop log before all 0 y)
    → (y : ℕ) → has ends y ≡ has (text_ends log before) y
stops_all log before all ends s e y = same_tests (has ends y) (has (text_ends log before) y) there back
  where
    there : has ends y ≡ true → has (text_ends log before) y ≡ true
    there m =
        let r = (e y).0 m in
        let p = and_parts (ltb r.stop (length log + 1)) true (sym (s r.stop) ∙ r.stands) in
        let q : y ≡ r.stop = r.is ∙ omega arith in
        subst (λ k. has (text_ends log before) k ≡ true) (sym q)
        (has_ends log before r.stop ∙ and_from (ltb r.stop (length log + 1)) (may_end before log r.stop) p.0 r.text)

    back : has (text_ends log before) y ≡ true → has ends y ≡ true
    back m =
        let p = and_parts (ltb y (length log + 1)) (may_end before log y) (sym (has_ends log before y) ∙ m) in
        (e y).1 (record { stop = y; stands = s y ∙ and_from (ltb y (length log + 1)) true p.0 refl; text = p.1; is = omega arith })

-- the end at a stop lies in the log
pub stop_within : (bytes log stops : List ℕ) → StandExactly bytes log stops → (stop : ℕ) → has stops stop ≡ true → stop + length bytes ≤ length log
stop_within bytes log stops s stop m =
    let p = and_parts (ltb stop (length log + 1)) (begins bytes (drop stop log)) (sym (s stop) ∙ m) in
    let h : stop < length log + 1 = ltb-true stop (length log + 1) p.0 in
    (spells_from bytes log stop (omega arith) p.1).within

-- the same of sets with the same positions
pub behind_same : (p : Piece) (log before others ends : List ℕ) → ((y : ℕ) → has before y ≡ has others y) → EndsBehind p log before ends → EndsBehind p log others ends
behind_same p log before others ends s e end = (
  λ m. (let r = (e end).0 m in record { from = r.from; begins = sym (s r.from) ∙ r.begins; spelled = r.spelled }),
  λ r. (e end).1 (record { from = r.from; begins = s r.from ∙ r.begins; spelled = r.spelled }),
)

-- the same from positions, or from where texts end
pub text_reached : (flags : Flags) (log : List ℕ) (fits : (k : ℕ) → get_or log k 0 < 256) (text : Bool) (before : List ℕ) → AreWithin log (reached log text before)
    → EndsBehind (Converted (plain_text flags)) log (reached log text before) (text_ends log before)
text_reached flags log fits true before w = text_again flags log fits before
text_reached flags log fits false before w = text_behind flags log fits before w
