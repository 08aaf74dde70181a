-- What was found stays so as the table grows.
use Rattle.std.proofs.Common.{◌≡◌, ℕ, zero, suc, ◌+◌, ◌<◌, eqb, inl, inr, List, [], length, take, get_or, Option, Some, None, refl, sym, ap, subst, ◌∙◌}
use Rattle.std.proofs.lemmas.Bool.{or_cases, eqb-true}
use Rattle.core_tree.specs.declared.program.Function.{Function}
use Rattle.core_tree.specs.States.{Done, Calls, Acts}
use Rattle.core_tree.specs.Codes.{Item}
use Rattle.core_tree.specs.Values.{Value}
use Rattle.positions.specs.Sets.{has}
use Rattle.format_match.proofs.Reached.{taken}
use Rattle.log_expr.specs.declared.flow.Flow.{Flow}
use Rattle.log_expr.specs.declared.table.Ends.{Ends}
use Rattle.log_expr.specs.declared.table.Entry.{Entry}
use Rattle.log_expr.specs.Below.{Extends}
use Rattle.log_expr.specs.CodeWalks.{CoversTest, CoversActs}
use Rattle.log_expr.specs.Covers.{Whole, AgreeAt, Agree, Pair, CoversValue, CoversValues, CoversCode, CoversBody}
use Rattle.log_expr.specs.Flows.{Wider}
use Rattle.log_expr.specs.Logs.{CallsEnd}
use Rattle.log_expr.specs.Tables.{ends_at, known_at, Grows}

pub extends_same : (w : Whole) (rows : List (List Entry)) → Extends w rows rows
extends_same w rows = record { grows = λ f d i e h. h; closed = λ c. c }

pub extends_then : (w : Whole) (a b c : List (List Entry)) → Extends w a b → Extends w b c → Extends w a c
extends_then w a b c x y = record { grows = λ f d i e h. y.grows f d i e (x.grows f d i e h); closed = λ h. y.closed (x.closed h) }

at_grown : (x y : Option Ends) (a b : Option (Done ℕ)) → ((e : Ends) → x ≡ Some e → y ≡ Some e) → AgreeAt y a b → AgreeAt x a b
at_grown None y a b g h = tt
at_grown (Some e) y a b g h = subst (λ z. AgreeAt z a b) (g e refl) h

pub agree_grown : (old now : List (List Entry)) (n : ℕ) (a b : Option (Calls ℕ)) → Grows old now → Agree (known_at now n) a b → Agree (known_at old n) a b
agree_grown old now zero a b g h = h
agree_grown old now (suc n) None None g h = h
agree_grown old now (suc n) None (Some b) g h = h
agree_grown old now (suc n) (Some a) None g h = h
agree_grown old now (suc n) (Some a) (Some b) g h =
    λ f vs base s o. at_grown (ends_at old f (suc n) o) (ends_at now f (suc n) o) (a f vs base s o) (b f vs base s o) (g f (suc n) o) (h f vs base s o)

pub pair_grown : (old now : List (List Entry)) (n : ℕ) → Grows old now → Pair (known_at now n) → Pair (known_at old n)
pair_grown old now n g p = record { size = p.size; room = p.room; world = p.world; first = p.first; second = p.second; agree = agree_grown old now n p.first p.second g p.agree }

module _ (w : Whole) (turns n : ℕ) (old now : List (List Entry)) (g : Grows old now) where
  pub value_grown : (v : Value ℕ) (from to ended : List ℕ) → CoversValue w turns (known_at old n) v from to ended → CoversValue w turns (known_at now n) v from to ended
  unfolding pair_grown
  value_grown v from to ended c = record { alike = λ p env base d r m. c.alike (pair_grown old now n g p) env base d r m }

  pub values_grown : (vs : List (Value ℕ)) (from to ended : List ℕ) → CoversValues w turns (known_at old n) vs from to ended → CoversValues w turns (known_at now n) vs from to ended
  unfolding pair_grown
  values_grown vs from to ended c = record { alike = λ p env base d r m. c.alike (pair_grown old now n g p) env base d r m }

  pub code_grown : (x : Item ℕ) (s u : Flow) → CoversCode w turns (known_at old n) x s u → CoversCode w turns (known_at now n) x s u
  unfolding pair_grown
  code_grown x s u c = record { alike = λ p env base d h. c.alike (pair_grown old now n g p) env base d h }

  pub test_grown : (c : Option (Value ℕ)) (from to : List ℕ) (u : Flow) → CoversTest w turns (known_at old n) c from to u → CoversTest w turns (known_at now n) c from to u
  unfolding pair_grown
  test_grown c from to u h = record { alike = λ p env base d r m. h.alike (pair_grown old now n g p) env base d r m }

  pub acts_grown : (f : Acts ℕ) (s u : Flow) → CoversActs w turns (known_at old n) f s u → CoversActs w turns (known_at now n) f s u
  unfolding pair_grown
  acts_grown f s u h = record { alike = λ p env base d i. h.alike (pair_grown old now n g p) env base d i }

-- a key's runs; its turns don't count
pub body_grown : (w : Whole) (n : ℕ) (old now : List (List Entry)) → Grows old now → (fn : Function) (start : ℕ) (e : Ends) → CoversBody w (known_at old n) fn start e → CoversBody w (known_at now n) fn start e
unfolding pair_grown
body_grown w n old now g fn start e c = record { alike = λ p vs base s. c.alike (pair_grown old now n g p) vs base s }

-- ---- calls by body, from more positions on

pub calls_wider : (old now : List (List Entry)) (n f : ℕ) (from to to' ended ended' : List ℕ) → Grows old now → Wider to to' → Wider ended ended' → CallsEnd (known_at old n) f from to ended → CallsEnd (known_at now n) f from to' ended'
calls_wider old now zero f from to to' ended ended' g x e c = λ y m. e y (c y m)
calls_wider old now (suc n) f from to to' ended ended' g x e c = λ o m.
    let r = c o m in (r.0, g f (suc n) o r.0 r.1, (λ y h. x y (r.2 y h)), (λ y h. e y (r.3 y h)))

pub calls_none : (rows : List (List Entry)) (n f : ℕ) (to ended : List ℕ) → CallsEnd (known_at rows n) f [] to ended
calls_none rows zero f to ended = λ y m. absurd cc
calls_none rows (suc n) f to ended = λ o m. absurd cc

pub calls_ended : (rows : List (List Entry)) (n f : ℕ) (from to ended : List ℕ) → n ≡ 0 → Wider from ended → CallsEnd (known_at rows n) f from to ended
calls_ended rows n f from to ended z h = subst (λ n. CallsEnd (known_at rows n) f from to ended) (sym z) h

pub calls_more : (rows : List (List Entry)) (n f : ℕ) (from : List ℕ) (i : ℕ) (to ended : List ℕ) (e : Ends) → (n ≡ 0 → ⊥) → i < length from → CallsEnd (known_at rows n) f (take i from) to ended
    → ends_at rows f n (get_or from i 0) ≡ Some e → Wider e.back to → Wider e.ended ended → CallsEnd (known_at rows n) f (take (i + 1) from) to ended
calls_more rows zero f from i to ended e z h c q x y = absurd (z refl)
calls_more rows (suc n) f from i to ended e z h c q x y = λ o m.
    elim (or_cases (has (take i from) o) (eqb (get_or from i 0) o) (sym (taken from i o h) ∙ m)) [
      | inl a ↦ c o a
      | inr b ↦ (e, ap (ends_at rows f (suc n)) (sym (eqb-true (get_or from i 0) o b)) ∙ q, x, y)
    ]
