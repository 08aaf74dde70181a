-- An empty list of parameters in a definition.
use Rattle.std.proofs.Common.{◌≡◌, ℕ, zero, suc, Bool, true, false, List, [], ◌∷◌, Option, Some, None, refl}
use Rattle.std.specs.Prelude.{slice_get}
use Rattle.c_language.specs.declared.ctype.CType.{CType}
use Rattle.c_language.specs.declared.ctype.Derivation.{Derivation}
use Rattle.c_language.specs.declared.ctype.Derivation.TheVariants as d
use Rattle.c_language.specs.declared.tables.Prototype.{Prototype}
use Rattle.c_language.specs.declared.tables.Prototype.TheVariants as prototype_
use Rattle.c_language.specs.declared.tables.Signature.{Signature}
use Rattle.c_language.specs.declared.tables.Tables.{Tables}
use Rattle.c_language.specs.Types.{function, rest_of}
use Rattle.c_language.specs.Scopes.{Scope, next_signature, with_signature}
use Rattle.c_language.specs.Declarations.{defined_signature}
use Rattle.c_declarations.specs.Views.{is_unspecified}

module _ (tables : Tables) (t : CType) (ds : List Derivation) (s : Scope) where
  abbrev new : CType × Scope
  new = (function (next_signature s) (rest_of t ds), with_signature prototype_.EmptyDefinition [] s)

  abbrev with_table : List Signature → Tables
  with_table gs = record tables { signatures = gs }

  first_found : (gs : List Signature) (ps : List CType) (p : Prototype)
      → is_unspecified (Some (record { prototype = p; parameters = ps })) ≡ true
      → defined_signature (with_table (record { prototype = p; parameters = ps } ∷ gs)) t (d.Function 0 ∷ ds) s ≡ new
  first_found gs ps prototype_.Unspecified h = refl
  first_found gs ps prototype_.Fixed h = cc
  first_found gs ps prototype_.Variadic h = cc
  first_found gs ps prototype_.EmptyDefinition h = cc

  first_other : (gs : List Signature) (ps : List CType) (p : Prototype)
      → is_unspecified (Some (record { prototype = p; parameters = ps })) ≡ false
      → defined_signature (with_table (record { prototype = p; parameters = ps } ∷ gs)) t (d.Function 0 ∷ ds) s ≡ (t, s)
  first_other gs ps prototype_.Unspecified h = cc
  first_other gs ps prototype_.Fixed h = refl
  first_other gs ps prototype_.Variadic h = refl
  first_other gs ps prototype_.EmptyDefinition h = refl

  found_in : (gs : List Signature) (n : ℕ) → is_unspecified (slice_get gs n) ≡ true
      → defined_signature (with_table gs) t (d.Function n ∷ ds) s ≡ new
  found_in [] n h = cc
  found_in (g ∷ gs) zero h = first_found gs g.parameters g.prototype h
  found_in (g ∷ gs) (suc n) h = found_in gs n h

  other_in : (gs : List Signature) (n : ℕ) → is_unspecified (slice_get gs n) ≡ false
      → defined_signature (with_table gs) t (d.Function n ∷ ds) s ≡ (t, s)
  other_in [] n h = refl
  other_in (g ∷ gs) zero h = first_other gs g.parameters g.prototype h
  other_in (g ∷ gs) (suc n) h = other_in gs n h

pub signed_found : (tables : Tables) (t : CType) (ds : List Derivation) (s : Scope) (n : ℕ)
    → is_unspecified (slice_get tables.signatures n) ≡ true
    → defined_signature tables t (d.Function n ∷ ds) s
    ≡ (function (next_signature s) (rest_of t ds), with_signature prototype_.EmptyDefinition [] s)
signed_found tables t ds s n h = found_in tables t ds s tables.signatures n h

pub signed_other : (tables : Tables) (t : CType) (ds : List Derivation) (s : Scope) (n : ℕ)
    → is_unspecified (slice_get tables.signatures n) ≡ false
    → defined_signature tables t (d.Function n ∷ ds) s ≡ (t, s)
signed_other tables t ds s n h = other_in tables t ds s tables.signatures n h
