-- The qualifiers of a type stand at the first derivation that makes no array, or at its base.
use Rattle.std.proofs.Common.{◌≡◌, ℕ, suc, Bool, true, false, cond, List, [], ◌∷◌, Option, Some, None, slice_get, slice_set, refl, ap, ◌∙◌}
use Rattle.c_language.specs.declared.ctype.Qualifiers.{Qualifiers}
use Rattle.c_language.specs.declared.ctype.CType.{CType}
use Rattle.c_language.specs.declared.ctype.Derivation.{Derivation}
use Rattle.c_language.specs.declared.ctype.Derivation.TheVariants as d
use Rattle.c_language.specs.Types.{unqualified, arrays_in, qualifiers_from, qualifiers_of, requalified_from, is_array_of_base, requalified}

abbrev pub found : Qualifiers → Option Derivation → Qualifiers
found q None = q
found q (Some (d.Pointer p)) = p
found q (Some (d.Array n)) = unqualified
found q (Some (d.Function s)) = unqualified

found_from : (q : Qualifiers) (ds : List Derivation) → qualifiers_from q ds ≡ found q (slice_get ds (arrays_in ds))
found_from q [] = refl
found_from q (d.Pointer p ∷ ds) = refl
found_from q (d.Array n ∷ ds) = found_from q ds
found_from q (d.Function s ∷ ds) = refl

pub qualifiers_found : (t : CType)
    → qualifiers_of t ≡ found t.qualifiers (slice_get t.derivations (arrays_in t.derivations))
qualifiers_found t = found_from t.qualifiers t.derivations

abbrev pub set_at : Qualifiers → ℕ → List Derivation → Option Derivation → List Derivation
set_at q k ds None = ds
set_at q k ds (Some (d.Pointer p)) = slice_set ds k (d.Pointer q)
set_at q k ds (Some (d.Array n)) = ds
set_at q k ds (Some (d.Function s)) = ds

behind : (q : Qualifiers) (k : ℕ) (x : Derivation) (ds : List Derivation) (o : Option Derivation)
    → x ∷ set_at q k ds o ≡ set_at q (suc k) (x ∷ ds) o
behind q k x ds None = refl
behind q k x ds (Some (d.Pointer p)) = refl
behind q k x ds (Some (d.Array n)) = refl
behind q k x ds (Some (d.Function s)) = refl

set_from : (q : Qualifiers) (ds : List Derivation)
    → requalified_from q ds ≡ set_at q (arrays_in ds) ds (slice_get ds (arrays_in ds))
set_from q [] = refl
set_from q (d.Pointer p ∷ ds) = refl
set_from q (d.Array n ∷ ds) =
    ap (λ r. d.Array n ∷ r) (set_from q ds) ∙ behind q (arrays_in ds) (d.Array n) ds (slice_get ds (arrays_in ds))
set_from q (d.Function s ∷ ds) = refl

abbrev pub is_base : Option Derivation → Bool
is_base None = true
is_base (Some x) = false

base_from : (ds : List Derivation) → is_array_of_base ds ≡ is_base (slice_get ds (arrays_in ds))
base_from [] = refl
base_from (d.Pointer p ∷ ds) = refl
base_from (d.Array n ∷ ds) = base_from ds
base_from (d.Function s ∷ ds) = refl

pub requalified_found : (q : Qualifiers) (t : CType)
    → requalified q t ≡ record {
      derivations =
          set_at q (arrays_in t.derivations) t.derivations (slice_get t.derivations (arrays_in t.derivations));
      base = t.base;
      qualifiers = cond (is_base (slice_get t.derivations (arrays_in t.derivations))) q t.qualifiers;
    }
requalified_found q t = λ i.
    record {
      derivations = set_from q t.derivations i;
      base = t.base;
      qualifiers = cond (base_from t.derivations i) q t.qualifiers;
    }
