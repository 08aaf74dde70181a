-- Which elements of an array a designator may name.
use Rattle.std.proofs.Common.{◌≡◌, ℕ, zero, suc, ℤ, pos, negsuc, List, [], ◌∷◌, Option, Some, None, refl, ap}
use Rattle.c_language.specs.declared.ctype.Base.{Base}
use Rattle.c_language.specs.declared.ctype.Base.TheVariants as base
use Rattle.c_language.specs.declared.ctype.CType.{CType}
use Rattle.c_language.specs.declared.ctype.Derivation.{Derivation}
use Rattle.c_language.specs.declared.ctype.Derivation.TheVariants as d
use Rattle.c_language.specs.declared.tables.Tables.{Tables}
use Rattle.c_language.specs.Initials.{Frame, Filling, element_number, at_number, to_constant}
use Rattle.c_initials.specs.Filled.{below, element_in, value_next}

of_array : (tables : Tables) (t : CType) (length : Option ℕ) (ds : List Derivation) (z : ℤ)
    → element_number tables (record t { derivations = d.Array length ∷ ds }) (Some z) ≡ below length z
of_array tables t length ds (negsuc n) = refl
of_array tables t None ds (pos n) = refl
of_array tables t (Some m) ds (pos n) = refl

none_by : (tables : Tables) (t : CType) (b : Base) (z : ℤ)
    → element_number tables (record t { derivations = []; base = b }) (Some z) ≡ None
none_by tables t b (negsuc n) = refl
none_by tables t base.Void (pos n) = refl
none_by tables t (base.Integer k) (pos n) = refl
none_by tables t (base.Floating k) (pos n) = refl
none_by tables t base.VaList (pos n) = refl
none_by tables t (base.Enumerated k) (pos n) = refl
none_by tables t (base.Aggregate k) (pos n) = refl

element_by : (tables : Tables) (t : CType) (z : ℤ) (ds : List Derivation)
    → element_number tables (record t { derivations = ds }) (Some z) ≡ element_in ds z
element_by tables t z [] = none_by tables t t.base z
element_by tables t z (d.Array length ∷ ds) = of_array tables t length ds z
element_by tables t (pos n) (d.Pointer q ∷ ds) = refl
element_by tables t (negsuc n) (d.Pointer q ∷ ds) = refl
element_by tables t (pos n) (d.Function s ∷ ds) = refl
element_by tables t (negsuc n) (d.Function s ∷ ds) = refl

pub element_is : (tables : Tables) (t : CType) (z : ℤ)
    → element_number tables t (Some z) ≡ element_in t.derivations z
element_is tables t z = element_by tables t z t.derivations

pub value_named : (at : ℕ) (t : CType) (z : ℤ) (frames : List Frame) (y : Filling)
    → to_constant at (Some t) (Some z) frames y ≡ value_next at z frames y
value_named at t z [] y = refl
value_named at t z (f ∷ fs) y =
    ap (λ n. at_number at n (f ∷ fs) y) (element_is y.scope.tables f.whole.type z)
