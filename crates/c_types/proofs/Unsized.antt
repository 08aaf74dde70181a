-- A type has no size, and no alignment, exactly where it lacks a size.
use Rattle.std.proofs.Common.{◌≡◌, ℕ, Bool, true, false, not, List, [], ◌∷◌, Option, Some, None, refl, ◌∙◌}
use Rattle.c_language.specs.declared.ctype.Base.{Base}
use Rattle.c_language.specs.declared.ctype.Base.TheVariants as b
use Rattle.c_language.specs.declared.ctype.CType.{CType}
use Rattle.c_language.specs.declared.ctype.Derivation.{Derivation}
use Rattle.c_language.specs.declared.ctype.Derivation.TheVariants as d
use Rattle.c_language.specs.declared.tables.Content.{Content}
use Rattle.c_language.specs.declared.tables.Content.TheVariants as c
use Rattle.c_language.specs.declared.tables.Tables.{Tables}
use Rattle.c_language.specs.Types.{content_of, is_listed}
use Rattle.c_language.specs.Layouts.{
  size_of,
  size_from,
  size_in,
  base_size,
  array_size,
  enumerated_size,
  align_of,
  align_from,
  align_in,
  base_align,
}
use Rattle.c_types.specs.Sizes.{is_none, lacks_layout, lacks_size_base, lacks_size_from, lacks_size}

listed : (x : Bool) → is_none (enumerated_size x) ≡ not x
listed true = refl
listed false = refl

laid : (x : Content) → is_none (size_in x) ≡ lacks_layout x
laid c.Incomplete = refl
laid (c.Opaque cause) = refl
laid (c.Complete layout) = refl

aligned : (x : Content) → is_none (align_in x) ≡ lacks_layout x
aligned c.Incomplete = refl
aligned (c.Opaque cause) = refl
aligned (c.Complete layout) = refl

of_base : (tables : Tables) (base : Base) → is_none (base_size tables base) ≡ lacks_size_base tables base
of_base tables b.Void = refl
of_base tables (b.Integer kind) = refl
of_base tables (b.Floating kind) = refl
of_base tables b.VaList = refl
of_base tables (b.Enumerated n) = listed (is_listed tables n)
of_base tables (b.Aggregate n) = laid (content_of tables n)

align_base : (tables : Tables) (base : Base) → is_none (base_align tables base) ≡ lacks_size_base tables base
align_base tables b.Void = refl
align_base tables (b.Integer kind) = refl
align_base tables (b.Floating kind) = refl
align_base tables b.VaList = refl
align_base tables (b.Enumerated n) = listed (is_listed tables n)
align_base tables (b.Aggregate n) = aligned (content_of tables n)

of_array : (n : ℕ) (e : Option ℕ) → is_none (array_size (Some n) e) ≡ is_none e
of_array n None = refl
of_array n (Some m) = refl

size_lacks : (tables : Tables) (base : Base) (ds : List Derivation)
    → is_none (size_from tables base ds) ≡ lacks_size_from tables base ds
size_lacks tables base [] = of_base tables base
size_lacks tables base (d.Pointer q ∷ ds) = refl
size_lacks tables base (d.Array None ∷ ds) = refl
size_lacks tables base (d.Array (Some n) ∷ ds) = of_array n (size_from tables base ds) ∙ size_lacks tables base ds
size_lacks tables base (d.Function s ∷ ds) = refl

align_lacks : (tables : Tables) (base : Base) (ds : List Derivation)
    → is_none (align_from tables base ds) ≡ lacks_size_from tables base ds
align_lacks tables base [] = align_base tables base
align_lacks tables base (d.Pointer q ∷ ds) = refl
align_lacks tables base (d.Array None ∷ ds) = refl
align_lacks tables base (d.Array (Some n) ∷ ds) = align_lacks tables base ds
align_lacks tables base (d.Function s ∷ ds) = refl

pub no_size : (tables : Tables) (t : CType) → is_none (size_of tables t) ≡ lacks_size tables t
no_size tables t = size_lacks tables t.base t.derivations

pub no_align : (tables : Tables) (t : CType) → is_none (align_of tables t) ≡ lacks_size tables t
no_align tables t = align_lacks tables t.base t.derivations
