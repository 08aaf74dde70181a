-- One step down to the part that an expression initialises, and the literal in braces.
use Rattle.std.proofs.Common.{
  ◌≡◌,
  ℕ,
  zero,
  suc,
  ◌<◌,
  Bool,
  true,
  false,
  ◌||◌,
  List,
  [],
  ◌∷◌,
  Option,
  Some,
  None,
  Result,
  Ok,
  Err,
  refl,
  ap,
  sym,
  ◌∙◌,
}
use Rattle.c_language.specs.declared.tables.Tables.{Tables}
use Rattle.c_language.specs.Typing.{Typed}
use Rattle.c_language.specs.Initials.{
  Part,
  Frame,
  Found,
  part_at,
  is_scalar_part,
  is_whole_of,
  stepped,
  started,
  descends,
  with_part_left,
  is_braced_text,
  is_text_of,
}
use Rattle.c_initials.specs.Filled.{descent, only}

abbrev Steps : Type 0
Steps = Result (Part × List Frame) (List Frame)

deeper_by : (n : ℕ) (tables : Tables) (x : Typed) (p : Part) (gs ds : List Frame) (b : Bool)
    → (elim b as (λ _. Steps) [ true ↦ Ok (p, gs) | false ↦ Err (started p ∷ gs) ]) ≡ Err ds
    → (elim b as (λ _. Found) [ true ↦ Some (p, gs) | false ↦ descends n tables x (with_part_left tables (started p ∷ gs)) ])
    ≡ descends n tables x (with_part_left tables ds)
deeper_by n tables x p gs ds true h = cc
deeper_by n tables x p gs ds false h =
    let e : started p ∷ gs ≡ ds = cc in ap (λ fs. descends n tables x (with_part_left tables fs)) e

found_by : (n : ℕ) (tables : Tables) (x : Typed) (p : Part) (gs : List Frame) (q : Part × List Frame) (b : Bool)
    → (elim b as (λ _. Steps) [ true ↦ Ok (p, gs) | false ↦ Err (started p ∷ gs) ]) ≡ Ok q
    → (elim b as (λ _. Found) [ true ↦ Some (p, gs) | false ↦ descends n tables x (with_part_left tables (started p ∷ gs)) ])
    ≡ Some q
found_by n tables x p gs q true h = let e : (p, gs) ≡ q = cc in ap (λ r. Some r) e
found_by n tables x p gs q false h = cc

pub deeper : (levels n : ℕ) (tables : Tables) (x : Typed) (f : Frame) (fs ds : List Frame) → levels ≡ suc n
    → descent tables x f fs ≡ Err ds
    → descends levels tables x (f ∷ fs) ≡ descends n tables x (with_part_left tables ds)
deeper levels n tables x f fs ds e h =
    ap (λ m. descends m tables x (f ∷ fs)) e
    ∙ deeper_by n tables x (part_at tables f.whole f.next) (stepped tables f ∷ fs) ds
    (is_scalar_part (part_at tables f.whole f.next).type || is_whole_of (part_at tables f.whole f.next).type x) h

pub found : (levels n : ℕ) (tables : Tables) (x : Typed) (f : Frame) (fs : List Frame) (q : Part × List Frame)
    → levels ≡ suc n → descent tables x f fs ≡ Ok q → descends levels tables x (f ∷ fs) ≡ Some q
found levels n tables x f fs q e h =
    ap (λ m. descends m tables x (f ∷ fs)) e
    ∙ found_by n tables x (part_at tables f.whole f.next) (stepped tables f ∷ fs) q
    (is_scalar_part (part_at tables f.whole f.next).type || is_whole_of (part_at tables f.whole f.next).type x) h

pub at_the_end : (tables : Tables) (x : Typed) (fs : List Frame) → descends 0 tables x fs ≡ None
at_the_end tables x [] = refl
at_the_end tables x (f ∷ fs) = refl
