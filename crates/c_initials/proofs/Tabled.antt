-- Entries of tables, and the members in front of a flexible array.
use Rattle.std.proofs.Common.{
  ◌≡◌,
  ℕ,
  zero,
  suc,
  ◌+◌,
  ◌<◌,
  List,
  [],
  ◌∷◌,
  ◌++◌,
  Option,
  Some,
  None,
  Bool,
  true,
  false,
  cond,
  ◌||◌,
  refl,
  ap,
  sym,
  ◌∙◌,
  take,
  drop,
  length,
  get_or,
  append_assoc,
  append-nil,
}
use Rattle.std.proofs.lemmas.Bool.{cond-true, cond-false}
use Rattle.std.proofs.Math.Seq.{take-suc, drop-cons}
use Rattle.std.specs.Prelude.{slice_get}
use Rattle.c_language.specs.declared.tables.Aggregate.{Aggregate}
use Rattle.c_language.specs.declared.tables.AggregateForm.{AggregateForm}
use Rattle.c_language.specs.declared.tables.AggregateForm.TheVariants as form_
use Rattle.c_language.specs.declared.tables.Member.{Member}
use Rattle.c_language.specs.declared.tables.Tables.{Tables}
use Rattle.c_language.specs.Layouts.{is_sized, is_opaque}
use Rattle.c_language.specs.Declares.{form_at}
use Rattle.c_language.specs.Initials.{sized_members}

abbrev form_or : Option Aggregate → AggregateForm
form_or None = form_.Structure
form_or (Some a) = a.form

form_got : (as_ : List Aggregate) (n : ℕ) → form_at as_ n ≡ form_or (slice_get as_ n)
form_got [] n = refl
form_got (a ∷ as_) zero = refl
form_got (a ∷ as_) (suc n) = form_got as_ n

pub form_found : (as_ : List Aggregate) (n : ℕ) (a : Aggregate) → slice_get as_ n ≡ Some a → form_at as_ n ≡ a.form
form_found as_ n a e = form_got as_ n ∙ ap form_or e

pub form_missing : (as_ : List Aggregate) (n : ℕ) → slice_get as_ n ≡ None → form_at as_ n ≡ form_.Structure
form_missing as_ n e = form_got as_ n ∙ ap form_or e

abbrev laid : Tables → Member → Bool
laid tables m = is_sized tables m.ctype || is_opaque tables m.ctype

behind : (tables : Tables) (ms : List Member) (n : ℕ) (m : Member) → n < length ms → get_or ms n m ≡ m
    → laid tables m ≡ true → sized_members tables (drop n ms) ≡ m ∷ sized_members tables (drop (suc n) ms)
behind tables ms n m inside got h =
    ap (sized_members tables) (drop-cons ms n m inside ∙ ap (λ x. x ∷ drop (suc n) ms) got)
    ∙ cond-true (laid tables m) (m ∷ sized_members tables (drop (suc n) ms)) [] h

none : (tables : Tables) (ms : List Member) (n : ℕ) (m : Member) → n < length ms → get_or ms n m ≡ m
    → laid tables m ≡ false → sized_members tables (drop n ms) ≡ []
none tables ms n m inside got h =
    ap (sized_members tables) (drop-cons ms n m inside ∙ ap (λ x. x ∷ drop (suc n) ms) got)
    ∙ cond-false (laid tables m) (m ∷ sized_members tables (drop (suc n) ms)) [] h

-- where the first members all have sizes, what is sized is these, and what is sized behind them
pub sized_further : (tables : Tables) (ms : List Member) (n : ℕ) (m : Member) → n < length ms
    → get_or ms n m ≡ m → laid tables m ≡ true
    → take n ms ++ sized_members tables (drop n ms) ≡ sized_members tables ms
    → take (suc n) ms ++ sized_members tables (drop (suc n) ms) ≡ sized_members tables ms
sized_further tables ms n m inside got h is =
    ap (λ xs. xs ++ sized_members tables (drop (suc n) ms)) (take-suc ms n m inside ∙ ap (λ x. take n ms ++ (x ∷ [])) got)
    ∙ append_assoc (take n ms) (m ∷ []) (sized_members tables (drop (suc n) ms))
    ∙ ap (λ xs. take n ms ++ xs) (sym (behind tables ms n m inside got h))
    ∙ is

pub sized_ends : (tables : Tables) (ms : List Member) (n : ℕ) (m : Member) → n < length ms
    → get_or ms n m ≡ m → laid tables m ≡ false
    → take n ms ++ sized_members tables (drop n ms) ≡ sized_members tables ms
    → take n ms ≡ sized_members tables ms
sized_ends tables ms n m inside got h is =
    sym (append-nil (take n ms)) ∙ ap (λ xs. take n ms ++ xs) (sym (none tables ms n m inside got h)) ∙ is
