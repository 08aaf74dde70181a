-- Frames are kept with the outermost first, and seen with the innermost first.
use Rattle.std.proofs.Common.{
  ◌≡◌,
  ℕ,
  zero,
  suc,
  Bool,
  true,
  false,
  not,
  List,
  [],
  ◌∷◌,
  ◌++◌,
  reverse,
  Option,
  Some,
  None,
  max,
  refl,
  ap,
  sym,
  ◌∙◌,
  take,
  append_assoc,
}
use Rattle.std.proofs.lemmas.Bool.{cond-true, cond-false, not-true, not-false}
use Rattle.std.proofs.lemmas.List.{reverse-append}
use Rattle.c_language.specs.declared.tables.Tables.{Tables}
use Rattle.c_language.specs.Initials.{Frame, outermost, high_of, has_part, with_part_left}
use Rattle.c_initials.specs.Filled.{only, full}

pub reverse_snoc : {A : Type 0} (xs : List A) (x : A) → reverse (xs ++ x ∷ []) ≡ x ∷ reverse xs
reverse_snoc xs x = rw reverse-append refl

reverse_cons : {A : Type 0} (xs : List A) (x : A) → reverse (x ∷ xs) ≡ reverse xs ++ x ∷ []
reverse_cons xs x = reverse-append (x ∷ []) xs

pub only_one : (f : Frame) → only (reverse (f ∷ [])) ≡ Some f
only_one f = refl

only_snoc : (fs : List Frame) (f g : Frame) → only (fs ++ f ∷ g ∷ []) ≡ None
only_snoc [] f g = refl
only_snoc (h ∷ []) f g = refl
only_snoc (h ∷ i ∷ fs) f g = refl

outermost_snoc : (fs : List Frame) (f : Frame) → outermost (fs ++ f ∷ []) ≡ f ∷ []
outermost_snoc [] f = refl
outermost_snoc (g ∷ []) f = refl
outermost_snoc (g ∷ h ∷ fs) f = outermost_snoc (h ∷ fs) f

high_snoc : (high : ℕ) (fs : List Frame) (f : Frame) → high_of high (fs ++ f ∷ []) ≡ max high f.next
high_snoc high [] f = refl
high_snoc high (g ∷ []) f = refl
high_snoc high (g ∷ h ∷ fs) f = high_snoc high (h ∷ fs) f

pub high_first : (high : ℕ) (fs : List Frame) (f : Frame) → high_of high (reverse (f ∷ fs)) ≡ max high f.next
high_first high fs f = ap (high_of high) (reverse_cons fs f) ∙ high_snoc high (reverse fs) f

pub outermost_kept : (fs : List Frame) → reverse (take 1 fs) ≡ outermost (reverse fs)
outermost_kept [] = refl
outermost_kept (f ∷ fs) = sym (ap outermost (reverse_cons fs f) ∙ outermost_snoc (reverse fs) f)

pub only_none : (f g : Frame) (fs : List Frame) → only (reverse (f ∷ g ∷ fs)) ≡ None
only_none f g fs = ap only (reverse_cons (g ∷ fs) f ∙ ap (λ xs. xs ++ f ∷ []) (reverse_cons fs g)
    ∙ append_assoc (reverse fs) (g ∷ []) (f ∷ []))
    ∙ only_snoc (reverse fs) g f

-- leaving a frame without a part
pub left_further : (tables : Tables) (f : Frame) (fs : List Frame) → not (has_part tables f.whole.type f.next) ≡ true
    → with_part_left tables (f ∷ fs) ≡ with_part_left tables fs
left_further tables f fs h =
    cond-false (has_part tables f.whole.type f.next) (f ∷ fs) (with_part_left tables fs) (not-true (has_part tables f.whole.type f.next) h)

pub left_here : (tables : Tables) (fs : List Frame) → full tables fs ≡ false → with_part_left tables fs ≡ fs
left_here tables [] h = refl
left_here tables (f ∷ fs) h =
    cond-true (has_part tables f.whole.type f.next) (f ∷ fs) (with_part_left tables fs) (not-false (has_part tables f.whole.type f.next) h)
