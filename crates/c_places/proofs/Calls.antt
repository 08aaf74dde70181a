-- Calls by rule meet no place but those of their rooms.
use Rattle.std.proofs.Common.{◌≡◌, ◌≤◌, ℕ, zero, suc, ◌+◌, ◌*◌, ℤ, pos, negsuc, Bool, true, false, cond, List, [], ◌∷◌}
use Rattle.std.proofs.Common.{Option, Some, None, refl, arith, le_refl}
use Rattle.std.specs.Prelude.{not, ◌&&◌, nat_eq, nat_lt, drop}
use Rattle.plain_data.specs.declared.run.Undefined.TheVariants as undefined
use Rattle.plain_data.specs.declared.run.Finish.TheVariants as finish
use Rattle.c_language.specs.declared.class.Class.{Class}
use Rattle.c_language.specs.declared.class.Class.TheVariants as class
use Rattle.c_store.specs.Store.{start, end, object_of}
use Rattle.c_store.specs.Access.{can_access, can_write, can_free}
use Rattle.c_language.specs.declared.scope.Entry.{Entry}
use Rattle.c_means.specs.Parts.{State, Env, Level, Site, meet, with_store}
use Rattle.c_means.specs.Values.{address, class_in}
use Rattle.c_means.specs.declared.profile.FillAnswer.{FillAnswer}
use Rattle.c_means.specs.declared.profile.FillAnswer.TheVariants as answer
use Rattle.c_means.specs.declared.profile.FillFunction.{FillFunction}
use Rattle.c_means.specs.declared.profile.LogText.{LogText}
use Rattle.c_means.specs.Rules.{Library, Exit, Abort, Malloc, Calloc, Free}
use Rattle.c_means.specs.Calls.{answers, stopped, finished, asked, value_or_zero, meets, prints, prints_if, log_call}
use Rattle.c_means.specs.Calls.{log_pieces}
use Rattle.c_means.specs.Calls.{pointers_in, as_number, heap_object, freed, library_call, outside_object}
use Rattle.c_means.specs.Calls.{pointed, outside_pointer, outside_answer, fill_count, fills_at, filled, is_odd, fill_by}
use Rattle.c_means.specs.Calls.{outside_call, text_with, arguments_of, before_format, spoken}
use Rattle.c_places.specs.Places.{once}
use Rattle.c_places.proofs.Counts.{Rises, met, times-append}

-- a weight that counts a place
pub record Counts (w : ℕ → ℕ) (p : ℕ) : Type 0 where
  pub rises : Rises w
  pub step : (q : ℕ) → w q + once p q ≤ w (suc q)

pub met_one : (p q : ℕ) (d : State) → met p (meet q d) ≡ met p d + once p q
met_one p q d = omega (arith, times-append p d.met (q ∷ []))

pub meets_within : (w : ℕ → ℕ) (p : ℕ) → Counts w p → (q n : ℕ) (d : State) →
    met p (meets q n d) + w q ≤ met p d + w (q + n)
meets_within w p c q zero d = omega (arith, c.rises.more q (q + 0) (omega arith))
meets_within w p c q (suc n) d =
    omega (
      arith,
      meets_within w p c (suc q) n (meet q d),
      met_one p q d,
      c.step q,
      c.rises.more (suc q + n) (q + suc n) (omega arith),
    )

either : (p n : ℕ) (b : Bool) (x y : State) → met p x ≤ n → met p y ≤ n → met p (cond b x y) ≤ n
either p n true x y hx hy = hx
either p n false x y hx hy = hy

-- ---- log calls

prints_met : (p : ℕ) (l : Level) (named : List Entry) (g : Site) (env : Env) (text : List ℕ) (d : State) →
    met p (prints l named g env text d) ≡ met p d
prints_met p l named g env [] d = refl
prints_met p l named g env (b ∷ bs) d = refl

prints_if_met : (p : ℕ) (l : Level) (named : List Entry) (g : Site) (env : Env) (text : Option (List ℕ)) (d : State) →
    met p (prints_if l named g env text d) ≡ met p d
prints_if_met p l named g env None d = refl
prints_if_met p l named g env (Some text) d = prints_met p l named g env text d

pub log_within : (w : ℕ → ℕ) (p : ℕ) → Counts w p → (l : Level) (named : List Entry) (f : LogText) (g : Site)
    (env : Env)
    (vs : List ℤ) (base : ℕ) (d : State) →
    met p (log_call l named f g env vs base d) + w base ≤ met p d + w (base + (4 + pointers_in (log_pieces f g)))
log_within w p c l named f g env vs base d =
    let ps = log_pieces f g in
    let n = pointers_in ps in
    let text = text_with ps
    (arguments_of l ps (drop (before_format f) (spoken g.types vs)) (base + 4) d.store) in
    omega (
      arith,
      prints_if_met p l named g env text (meets (base + 4) n d),
      meets_within w p c (base + 4) n d,
      c.rises.more base (base + 4) (omega arith),
      c.rises.more (base + 4 + n) (base + (4 + n)) (omega arith),
    )

-- ---- functions of the library

heap_met : (p : ℕ) (l : Level) (g : Site) (n q : ℕ) (zeroes : Bool) (d : State) →
    met p (heap_object l g n q zeroes d) ≤ met p d + once p q
heap_met p l g n q zeroes d =
    let one = met_one p q d in
    either p (met p d + once p q) (nat_lt l.limits.heap n) (finished (finish.Left g.at) d) _ (omega arith)
    (either p (met p d + once p q) (nat_eq (asked l q) 0) (answers g (pos 0) (meet q d)) _ (omega (arith, one))
    (omega (arith, one)))

freed_met : (p : ℕ) (g : Site) (a : ℕ) (d : State) → met p (freed g a d) ≤ met p d
freed_met p g a d =
    either p (met p d) (can_free d.store a) (cond (nat_eq a 0) d (with_store (end (object_of a) d.store) d))
    (stopped g.at undefined.Free d)
    (either p (met p d) (nat_eq a 0) d (with_store (end (object_of a) d.store) d) (le_refl _) (le_refl _)) (le_refl _)

library_met : (p : ℕ) (l : Level) (f : Library) (g : Site) (vs : List ℤ) (q : ℕ) (d : State) →
    met p (library_call l f g vs q d) ≤ met p d + once p q
library_met p l Exit g vs q d = omega arith
library_met p l Abort g vs q d = omega arith
library_met p l Malloc g vs q d = heap_met p l g (as_number (value_or_zero vs 0)) q false d
library_met p l Calloc g vs q d =
    heap_met p l g (as_number (value_or_zero vs 0) * as_number (value_or_zero vs 1)) q true d
library_met p l Free g vs q d = omega (arith, freed_met p g (as_number (value_or_zero vs 0)) d)

pub library_within : (w : ℕ → ℕ) (p : ℕ) → Counts w p → (l : Level) (f : Library) (g : Site) (vs : List ℤ) (q : ℕ)
    (d : State) → met p (library_call l f g vs q d) + w q ≤ met p d + w (q + 4)
library_within w p c l f g vs q d =
    omega (arith, library_met p l f g vs q d, c.step q, c.rises.more (suc q) (q + 4) (omega arith))

-- ---- functions outside

outside_pointer_met : (p : ℕ) (l : Level) (b : Bool) (g : Site) (q : ℕ) (d : State) →
    met p (outside_pointer l b g q d) ≤ met p d
outside_pointer_met p l b g q d =
    either p (met p d) (nat_eq (asked l q) 0 && not b) (answers g (pos 0) d)
    (answers g (pos (start q)) (with_store (outside_object l g (pointed g.ctype) q d.store) d)) (le_refl _) (le_refl _)

answer_met : (p : ℕ) (k : Class) (l : Level) (b : Bool) (g : Site) (q : ℕ) (d : State) →
    met p (outside_answer k l b g q d) ≤ met p d + once p q
answer_met p class.Pointer l b g q d = omega (arith, outside_pointer_met p l b g q (meet q d), met_one p q d)
answer_met p class.Void l b g q d = omega arith
answer_met p k l b g q d = omega (arith, met_one p q d)

filled_met : (p n : ℕ) (l : Level) (g : Site) (q a size : ℕ) (f : State → State) (d : State) →
    ((d : State) → met p (f d) ≤ met p d + n) → met p (filled l g q a size f d) ≤ met p d + n
filled_met p n l g q a size f d h =
    either p (met p d + n) (can_access d.store a size)
    (cond (can_write d.store a size) (f (with_store (fills_at l q a size d.store) d))
    (stopped g.at undefined.LiteralWrite d))
    (stopped g.at undefined.Dereference d)
    (either p (met p d + n) (can_write d.store a size) (f (with_store (fills_at l q a size d.store) d))
    (stopped g.at undefined.LiteralWrite d) (h (with_store (fills_at l q a size d.store) d)) (omega arith))
    (omega arith)

fill_within : (w : ℕ → ℕ) (p : ℕ) → Counts w p → (f : FillAnswer) (l : Level) (b : Bool) (g : Site) (q a n : ℕ)
    (d : State) → met p (fill_by f l b g q a n d) + w q ≤ met p d + w (q + 4)
fill_within w p c answer.Free l b g q a n d =
    omega (
      arith,
      filled_met p (once p q) l g q a n (outside_answer (class_in g.ctype) l b g q) (meets (q + 1) 2 d)
          (answer_met p (class_in g.ctype) l b g q),
      meets_within w p c (q + 1) 2 d,
      c.step q,
      c.rises.more (suc q) (q + 1) (omega arith),
      c.rises.more (q + 1 + 2) (q + 4) (omega arith),
    )
fill_within w p c answer.Count l b g q a n d = by_fail (is_odd (asked l (q + 3)))
  where
    by_fail : (odd : Bool) → met p (cond odd (answers g (negsuc 0) (meet (q + 3) d))
        (filled l g q a n (answers g (pos n)) (meets (q + 1) 3 d))) + w q ≤ met p d + w (q + 4)
    by_fail true =
        omega (
          arith,
          met_one p (q + 3) d,
          c.step (q + 3),
          c.rises.more q (q + 3) (omega arith),
          c.rises.more (suc (q + 3)) (q + 4) (omega arith),
        )
    by_fail false =
        omega (
          arith,
          filled_met p 0 l g q a n (answers g (pos n)) (meets (q + 1) 3 d) (λ d. omega arith),
          meets_within w p c (q + 1) 3 d,
          c.rises.more q (q + 1) (omega arith),
          c.rises.more (q + 1 + 3) (q + 4) (omega arith),
        )

pub outside_within : (w : ℕ → ℕ) (p : ℕ) → Counts w p → (l : Level) (f : Option FillFunction) (b : Bool) (g : Site)
    (vs : List ℤ) (q : ℕ) (d : State) → met p (outside_call l f b g vs q d) + w q ≤ met p d + w (q + 4)
outside_within w p c l None b g vs q d =
    omega (arith, answer_met p (class_in g.ctype) l b g q d, c.step q, c.rises.more (suc q) (q + 4) (omega arith))
outside_within w p c l (Some f) b g vs q d =
    fill_within w p c f.answer l b g q (address (value_or_zero vs f.buffer))
    (fill_count l q (as_number (value_or_zero vs f.length))) d
