-- Types without a size (C99 6.2.5p1, p19, p22, 6.5.3.4p1).
use Rattle.std.specs.Prelude.{ℕ, Bool, true, false, not, List, [], ◌∷◌, Option, Some, None}
use Rattle.c_language.specs.declared.ctype.Base.{Base}
use Rattle.c_language.specs.declared.ctype.Base.TheVariants as b
use Rattle.c_language.specs.declared.ctype.CType.{CType}
use Rattle.c_language.specs.declared.ctype.Derivation.{Derivation}
use Rattle.c_language.specs.declared.ctype.Derivation.TheVariants as d
use Rattle.c_language.specs.declared.tables.Content.{Content}
use Rattle.c_language.specs.declared.tables.Content.TheVariants as c
use Rattle.c_language.specs.declared.tables.Tables.{Tables}
use Rattle.c_language.specs.Types.{content_of, is_listed}

abbrev pub is_none : Option ℕ → Bool
is_none None = true
is_none (Some n) = false

abbrev pub lacks_layout : Content → Bool
lacks_layout c.Incomplete = true
lacks_layout (c.Opaque cause) = true
lacks_layout (c.Complete layout) = false

-- void, the list of variable arguments, an enumerated type whose list hasn't ended, and a structure or union without
-- a known layout
abbrev pub lacks_size_base : Tables → Base → Bool
lacks_size_base tables b.Void = true
lacks_size_base tables (b.Integer kind) = false
lacks_size_base tables (b.Floating kind) = false
lacks_size_base tables b.VaList = true
lacks_size_base tables (b.Enumerated number) = not (is_listed tables number)
lacks_size_base tables (b.Aggregate number) = lacks_layout (content_of tables number)

-- an array of unknown length, an array of elements without a size, and a function
abbrev pub lacks_size_from : Tables → Base → List Derivation → Bool
lacks_size_from tables base [] = lacks_size_base tables base
lacks_size_from tables base (d.Pointer q ∷ ds) = false
lacks_size_from tables base (d.Array None ∷ ds) = true
lacks_size_from tables base (d.Array (Some n) ∷ ds) = lacks_size_from tables base ds
lacks_size_from tables base (d.Function s ∷ ds) = true

abbrev pub lacks_size : Tables → CType → Bool
lacks_size tables t = lacks_size_from tables t.base t.derivations
