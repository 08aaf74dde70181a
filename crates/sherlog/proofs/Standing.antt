-- Each token of a source begins within it.
use Rattle.std.proofs.Common.{◌≡◌, ◌≤◌, ◌<◌, ℕ, zero, suc, List, [], ◌∷◌, length, Option, Some, None, arith, refl, subst}
use Rattle.std.specs.Prelude.{slice_get}
use Rattle.c_language.specs.declared.token.Token.{Token}
use Rattle.c_language.specs.Standing.{StandInOrder}
use Rattle.sherlog.specs.Sources.{start_at, start_or}

token_within : (from end : ℕ) (ts : List Token) (k : ℕ) (t : Token) → StandInOrder from end ts → slice_get ts k ≡ Some t →
    t.start ≤ end
token_within from end [] k t stand is = cc
token_within from end (u ∷ ts) zero t stand is =
    subst (λ (v : Token). v.start ≤ end) (some_is is) (omega (arith, stand.1, stand.2))
  where
    some_is : Some u ≡ Some t → u ≡ t
    some_is e = cc
token_within from end (u ∷ ts) (suc k) t stand is = token_within u.end end ts k t stand.3 is

start_below : (end : ℕ) (ts : List Token) (k : ℕ) (t : Option Token) → StandInOrder 0 end ts → slice_get ts k ≡ t →
    start_or end t ≤ end
start_below end ts k None stand is = omega arith
start_below end ts k (Some t) stand is = token_within 0 end ts k t stand is

-- where a token begins, or the end
pub start_within : (bytes : List ℕ) (ts : List Token) (k : ℕ) → StandInOrder 0 (length bytes) ts →
    start_at bytes ts k ≤ length bytes
start_within bytes ts k stand = start_below (length bytes) ts k (slice_get ts k) stand refl
