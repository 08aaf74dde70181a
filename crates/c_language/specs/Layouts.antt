-- Sizes, alignments and where members lie (C99 6.2.5, 6.5.3.4, 6.7.2.1).
use Rattle.std.specs.Prelude.{ℕ, ◌+◌, ◌-◌, ◌*◌, ◌%◌, min, max, nat_lt, nat_eq, Bool, true, false, cond, ◌||◌, List, [], ◌∷◌, ◌++◌, Option, Some, None, slice_get}
use Rattle.std.specs.Str.{bytes_eq}
use Rattle.c_language.specs.declared.ctype.RealKind.{RealKind}
use Rattle.c_language.specs.declared.ctype.RealKind.TheVariants as r
use Rattle.c_language.specs.declared.ctype.Domain.{Domain}
use Rattle.c_language.specs.declared.ctype.Domain.TheVariants as m
use Rattle.c_language.specs.declared.ctype.FloatingKind.{FloatingKind}
use Rattle.c_language.specs.declared.ctype.IntegerKind.TheVariants as k
use Rattle.c_language.specs.declared.ctype.Base.{Base}
use Rattle.c_language.specs.declared.ctype.Base.TheVariants as b
use Rattle.c_language.specs.declared.ctype.Derivation.{Derivation}
use Rattle.c_language.specs.declared.ctype.Derivation.TheVariants as d
use Rattle.c_language.specs.declared.ctype.CType.{CType}
use Rattle.c_language.specs.declared.layouts.Extent.{Extent}
use Rattle.c_language.specs.declared.tables.AggregateForm.{AggregateForm}
use Rattle.c_language.specs.declared.tables.AggregateForm.TheVariants as f
use Rattle.c_language.specs.declared.tables.Content.{Content}
use Rattle.c_language.specs.declared.tables.Content.TheVariants as c
use Rattle.c_language.specs.declared.tables.Layout.{Layout}
use Rattle.c_language.specs.declared.tables.Member.{Member}
use Rattle.c_language.specs.declared.tables.Tables.{Tables}
use Rattle.c_language.specs.Types.{content_of, is_listed, aggregate_of, qualified, qualifiers_of}
use Rattle.c_language.specs.Integers.{bytes_of}

-- Bytes are counted up to 2^32 - 1: no object may have more than 1,048,576, so a size at the end is too large in any
-- case.
abbrev pub counted : ℕ → ℕ
counted n = min n 4294967295

abbrev pub object_limit : ℕ
object_limit = 1048576

-- ---- the data model

abbrev pub real_bytes : RealKind → ℕ
real_bytes r.Float = 4
real_bytes r.Double = 8
real_bytes r.LongDouble = 16
real_bytes r.Float32 = 4
real_bytes r.Float64 = 8
real_bytes r.Float32x = 8
real_bytes r.Float64x = 16
real_bytes r.Float128 = 16

-- a complex type is laid out as an array of two elements of the real type (C99 6.2.5p13)
abbrev pub floating_size : FloatingKind → ℕ
floating_size kind = parts kind.domain * real_bytes kind.real
  where
    parts : Domain → ℕ
    parts m.Real = 1
    parts m.Complex = 2
    parts m.Imaginary = 1

abbrev pub pointer_bytes : ℕ
pointer_bytes = 8

-- ---- sizes (C99 6.5.3.4): none of an incomplete or opaque type, nor of a function type

abbrev pub size_in : Content → Option ℕ
size_in c.Incomplete = None
size_in (c.Opaque cause) = None
size_in (c.Complete layout) = Some layout.size

abbrev pub enumerated_size : Bool → Option ℕ
enumerated_size true = Some (bytes_of k.Int)
enumerated_size false = None

abbrev pub base_size : Tables → Base → Option ℕ
base_size tables b.Void = None
base_size tables (b.Integer kind) = Some (bytes_of kind)
base_size tables (b.Floating kind) = Some (floating_size kind)
base_size tables b.VaList = None
base_size tables (b.Enumerated number) = enumerated_size (is_listed tables number)
base_size tables (b.Aggregate number) = size_in (content_of tables number)

abbrev pub array_size : Option ℕ → Option ℕ → Option ℕ
array_size None element = None
array_size (Some n) None = None
array_size (Some n) (Some size) = Some (counted (n * size))

abbrev pub size_from : Tables → Base → List Derivation → Option ℕ
size_from tables base [] = base_size tables base
size_from tables base (d.Pointer q ∷ ds) = Some pointer_bytes
size_from tables base (d.Array n ∷ ds) = array_size n (size_from tables base ds)
size_from tables base (d.Function s ∷ ds) = None

abbrev pub size_of : Tables → CType → Option ℕ
size_of tables t = size_from tables t.base t.derivations

-- ---- alignments: of an array that of its elements, of a structure or union the greatest of its members'

abbrev pub align_in : Content → Option ℕ
align_in c.Incomplete = None
align_in (c.Opaque cause) = None
align_in (c.Complete layout) = Some layout.align

abbrev pub base_align : Tables → Base → Option ℕ
base_align tables b.Void = None
base_align tables (b.Integer kind) = Some (bytes_of kind)
base_align tables (b.Floating kind) = Some (real_bytes kind.real)
base_align tables b.VaList = None
base_align tables (b.Enumerated number) = enumerated_size (is_listed tables number)
base_align tables (b.Aggregate number) = align_in (content_of tables number)

abbrev pub array_align : Option ℕ → Option ℕ → Option ℕ
array_align None element = None
array_align (Some n) element = element

abbrev pub align_from : Tables → Base → List Derivation → Option ℕ
align_from tables base [] = base_align tables base
align_from tables base (d.Pointer q ∷ ds) = Some pointer_bytes
align_from tables base (d.Array n ∷ ds) = array_align n (align_from tables base ds)
align_from tables base (d.Function s ∷ ds) = None

abbrev pub align_of : Tables → CType → Option ℕ
align_of tables t = align_from tables t.base t.derivations

-- ---- completeness (C99 6.2.5p1, p19, p22)

abbrev pub is_opaque_content : Content → Bool
is_opaque_content c.Incomplete = false
is_opaque_content (c.Opaque cause) = true
is_opaque_content (c.Complete layout) = false

abbrev pub is_opaque_base : Tables → Base → Bool
is_opaque_base tables b.Void = false
is_opaque_base tables (b.Integer kind) = false
is_opaque_base tables (b.Floating kind) = false
is_opaque_base tables b.VaList = true
is_opaque_base tables (b.Enumerated number) = false
is_opaque_base tables (b.Aggregate number) = is_opaque_content (content_of tables number)

abbrev pub is_opaque_from : Tables → Base → List Derivation → Bool
is_opaque_from tables base [] = is_opaque_base tables base
is_opaque_from tables base (d.Pointer q ∷ ds) = false
is_opaque_from tables base (d.Array n ∷ ds) = is_opaque_from tables base ds
is_opaque_from tables base (d.Function s ∷ ds) = false

-- the variable argument list, a structure or union of which no layout is known, and arrays of these
abbrev pub is_opaque : Tables → CType → Bool
is_opaque tables t = is_opaque_from tables t.base t.derivations

-- an object type whose size is known
abbrev pub is_sized : Tables → CType → Bool
is_sized tables t = has_size (size_of tables t)
  where
    has_size : Option ℕ → Bool
    has_size None = false
    has_size (Some n) = true

-- ---- the limit of an object's size

abbrev pub is_above_limit : Option ℕ → Bool
is_above_limit None = false
is_above_limit (Some n) = nat_lt object_limit n

abbrev pub is_too_large_from : Tables → Base → List Derivation → Bool
is_too_large_from tables base [] = is_above_limit (base_size tables base)
is_too_large_from tables base (x ∷ ds) =
    is_above_limit (size_from tables base (x ∷ ds)) || is_too_large_from tables base ds

-- the type, or one from which it is derived, has too many bytes
abbrev pub is_too_large : Tables → CType → Bool
is_too_large tables t = is_too_large_from tables t.base t.derivations

-- ---- members (C99 6.7.2.1p12 to p16)

-- the first multiple of the alignment that isn't before the offset
abbrev pub aligned : ℕ → ℕ → ℕ
aligned offset align = cond (nat_eq (offset % align) 0) offset (offset + (align - offset % align))

abbrev pub extent_with : Option ℕ → Option ℕ → Option Extent
extent_with None align = None
extent_with (Some size) None = None
extent_with (Some size) (Some align) = Some (record { size = size; align = align })

abbrev pub extent_of : Tables → CType → Option Extent
extent_of tables t = extent_with (size_of tables t) (align_of tables t)

-- a flexible array member takes no room, and is aligned as its elements are (C99 6.7.2.1p16)
abbrev pub member_extent_from : Tables → CType → List Derivation → Option Extent
member_extent_from tables t (d.Array None ∷ ds) = extent_with (Some 0) (align_from tables t.base ds)
member_extent_from tables t _ = extent_of tables t

abbrev pub member_extent : Tables → CType → Option Extent
member_extent tables t = member_extent_from tables t t.derivations

-- no members yet: size 0, alignment 1
abbrev pub no_members : Layout
no_members = record { size = 0; align = 1; members = [] }

abbrev pub with_member : Layout → ℕ → ℕ → ℕ → List ℕ → CType → Layout
with_member l offset end align name t =
    record {
      size = end;
      align = max l.align align;
      members = l.members ++ record { name = name; offset = offset; ctype = t } ∷ [];
    }

-- a structure's next member stands behind those before it, aligned; a union's stands at the beginning
abbrev pub placed : AggregateForm → Layout → Extent → List ℕ → CType → Layout
placed f.Structure l e name t =
    let offset = counted (aligned l.size e.align) in with_member l offset (counted (offset + e.size)) e.align name t
placed f.Union l e name t = with_member l 0 (max l.size e.size) e.align name t

-- behind the last member the size is rounded up to the alignment (C99 6.7.2.1p15)
abbrev pub finished : Layout → Layout
finished l = record l { size = counted (aligned l.size l.align) }

-- ---- the member that a name names (C99 6.5.2.3)

abbrev pub members_in : Content → List Member
members_in c.Incomplete = []
members_in (c.Opaque cause) = []
members_in (c.Complete layout) = layout.members

abbrev pub members_at : Tables → Option ℕ → List Member
members_at tables None = []
members_at tables (Some number) = members_in (content_of tables number)

-- the members of a complete structure or union, in order
abbrev pub members_of : Tables → CType → List Member
members_of tables t = members_at tables (aggregate_of t)

abbrev pub member_named : List ℕ → List Member → Option Member
member_named name [] = None
member_named name (m ∷ ms) = cond (bytes_eq m.name name) (Some m) (member_named name ms)

abbrev pub member_of : Tables → CType → List ℕ → Option Member
member_of tables t name = member_named name (members_of tables t)

-- a member has the qualifiers of the whole too (C99 6.5.2.3p3)
abbrev pub member_type : CType → Member → CType
member_type t m = qualified (qualifiers_of t) m.ctype

abbrev pub offset_in : Option Member → Option ℕ
offset_in None = None
offset_in (Some m) = Some m.offset

-- the offset of a member by its number, from 0
abbrev pub offset_of : Tables → CType → ℕ → Option ℕ
offset_of tables t index = offset_in (slice_get (members_of tables t) index)
