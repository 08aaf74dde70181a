-- How often a kind of word stands among words.
use Rattle.std.proofs.Common.{◌≡◌, refl, ◌∙◌, sym, ◌<◌, ◌+◌, ℕ, suc, nat_lt, List, [], ◌∷◌, Bool, true, false, cond, arith}
use Rattle.std.specs.List.{list_any, count_by}
use Rattle.std.proofs.lemmas.Bool.Decides.{nat_tests}
use Rattle.std.proofs.lemmas.List.Sums.{sum_by-cons}
use Rattle.c_language.specs.declared.expr.TypeWord.{TypeWord}
use Rattle.c_language.specs.declared.ctype.Domain.TheVariants as domain
use Rattle.c_language.specs.Declares.{
  count,
  has,
  is_char,
  is_short,
  is_long,
  is_signed,
  is_unsigned,
  is_complex,
  is_imaginary,
  char_kind,
  short_kind,
  wide_kind,
  unsigned_wide_kind,
  integer_kind,
  domain_of,
}

positive : (n : ℕ) → nat_lt 0 (suc n) ≡ true
positive n = let h : 0 < suc n = omega arith in grind (arith, nat_tests)

has_first : (b : Bool) (f : TypeWord → Bool) (x : TypeWord) (xs : List TypeWord) → f x ≡ b → has f xs ≡ list_any f xs
    → has f (x ∷ xs) ≡ list_any f (x ∷ xs)
has_first true f x xs is e = rw is (positive (count f xs))
has_first false f x xs is e = rw is e

pub has_any : (f : TypeWord → Bool) (xs : List TypeWord) → has f xs ≡ list_any f xs
has_any f [] = refl
has_any f (x ∷ xs) = has_first (f x) f x xs refl (has_any f xs)

counted_first : (b : Bool) (f : TypeWord → Bool) (x : TypeWord) (xs : List TypeWord) → f x ≡ b → count f xs ≡ count_by f xs
    → count f (x ∷ xs) ≡ cond (f x) 1 0 + count_by f xs
counted_first true f x xs is e = rw (is, e) (omega arith)
counted_first false f x xs is e = rw (is, e) (omega arith)

pub counted_by : (f : TypeWord → Bool) (xs : List TypeWord) → count f xs ≡ count_by f xs
counted_by f [] = refl
counted_by f (x ∷ xs) = counted_first (f x) f x xs refl (counted_by f xs) ∙ sym (sum_by-cons (λ y. cond (f y) 1 0) x xs)

pub integer_kind_by : (ws : List TypeWord) (c s u short : Bool) (n : ℕ) → c ≡ list_any is_char ws → s ≡ list_any is_signed ws
    → u ≡ list_any is_unsigned ws → short ≡ list_any is_short ws → n ≡ count_by is_long ws
    → cond c (char_kind s u) (cond short (short_kind u) (cond u (unsigned_wide_kind n) (wide_kind n))) ≡ integer_kind ws
integer_kind_by ws c s u short n p q r t e =
    rw (
      p ∙ sym (has_any is_char ws),
      q ∙ sym (has_any is_signed ws),
      r ∙ sym (has_any is_unsigned ws),
      t ∙ sym (has_any is_short ws),
      e ∙ sym (counted_by is_long ws),
    ) refl

pub domain_by : (ws : List TypeWord) (c i : Bool) → c ≡ list_any is_complex ws → i ≡ list_any is_imaginary ws
    → cond c domain.Complex (cond i domain.Imaginary domain.Real) ≡ domain_of ws
domain_by ws c i p q = rw (p ∙ sym (has_any is_complex ws), q ∙ sym (has_any is_imaginary ws)) refl
