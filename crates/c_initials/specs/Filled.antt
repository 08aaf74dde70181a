-- What the code holds of a list in braces (C99 6.7.8): all but the scope behind it.
use Rattle.std.specs.Prelude.{
  ℕ,
  nat_lt,
  ℤ,
  pos,
  negsuc,
  Bool,
  true,
  false,
  cond,
  not,
  ◌||◌,
  List,
  [],
  ◌∷◌,
  Option,
  Some,
  None,
  Result,
  Ok,
  Err,
}
use Rattle.c_language.specs.declared.ctype.Derivation.{Derivation}
use Rattle.c_language.specs.declared.ctype.Derivation.TheVariants as d
use Rattle.c_language.specs.declared.tables.Tables.{Tables}
use Rattle.c_language.specs.declared.scope.Fault.{Fault}
use Rattle.c_language.specs.Scopes.{Scope}
use Rattle.c_language.specs.Typing.{Typed}
use Rattle.c_language.specs.Initials.{
  Part,
  Frame,
  Filling,
  Fills,
  at_number,
  has_part,
  part_at,
  is_scalar_part,
  is_whole_of,
  stepped,
  started,
  part_count,
}

pub record Filled : Type 0 where
  pub frames : List Frame
  pub high : ℕ
  pub parts : List Part
  pub faults : List Fault

-- in front of a scope
abbrev pub filling_in : Filled → Scope → Filling
filling_in x s = record { frames = x.frames; high = x.high; parts = x.parts; faults = x.faults; scope = s }

abbrev pub innermost : List Frame → Option Frame
innermost [] = None
innermost (f ∷ fs) = Some f

-- whether the innermost frame has no part left
abbrev pub full : Tables → List Frame → Bool
full tables [] = false
full tables (f ∷ fs) = not (has_part tables f.whole.type f.next)

-- the frame of the braces' object, where it is the only one
abbrev pub only : List Frame → Option Frame
only [] = None
only (f ∷ []) = Some f
only (f ∷ g ∷ fs) = None

-- one step down: the next part of a frame, where an expression initialises it, or the frames within that part
abbrev pub descent : Tables → Typed → Frame → List Frame → Result (Part × List Frame) (List Frame)
descent tables x f fs =
    let p = part_at tables f.whole f.next in
    elim (is_scalar_part p.type || is_whole_of p.type x) as (λ _. Result (Part × List Frame) (List Frame)) [
      | true ↦ Ok (p, stepped tables f ∷ fs)
      | false ↦ Err (started p ∷ stepped tables f ∷ fs)
    ]

-- a number from 0 that is below a length, where one is known
abbrev pub below : Option ℕ → ℤ → Option ℕ
below length (negsuc n) = None
below None (pos n) = Some (part_count n)
below (Some m) (pos n) = cond (nat_lt n m) (Some (part_count n)) None

-- the number of an element, where the derivations make an array
abbrev pub element_in : List Derivation → ℤ → Option ℕ
element_in (d.Array length ∷ ds) z = below length z
element_in _ z = None

-- nothing met so far
abbrev pub no_filling : Filled
no_filling = record { frames = []; high = 0; parts = []; faults = [] }

-- the element of a number is next
abbrev pub value_next : ℕ → ℤ → List Frame → Fills
value_next at z [] y = y
value_next at z (f ∷ fs) y = at_number at (element_in f.whole.type.derivations z) (f ∷ fs) y
