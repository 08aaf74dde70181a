-- The order of what stands at tokens: by token, and at one token first the sides of a branch, then the call, then its
-- prints, then the kinds of undefined behaviour by their numbers.
use Rattle.std.specs.Prelude.{ℕ, ◌+◌, Bool, List}
use Rattle.std.specs.List.Sorted.{IsPermutation, IsSortedBy, IsStableBy}
use Rattle.std.specs.Ordering.{is_lt, nat_cmp, ordering_then}
use Rattle.plain_data.specs.declared.run.Undefined.{Undefined}
use Rattle.plain_data.specs.declared.run.Undefined.TheVariants as undefined
use Rattle.core_marks.specs.declared.mark.Mark.{Mark}
use Rattle.core_marks.specs.declared.mark.Mark.TheVariants.{Branch, Call, Body, Log, Exit, Abort, Stop}
use Rattle.core_marks.specs.declared.ordering.Rank.{Rank}

abbrev pub kind_number : Undefined → ℕ
kind_number undefined.Overflow = 1
kind_number undefined.ZeroDivisor = 2
kind_number undefined.Shift = 3
kind_number undefined.PointerRange = 4
kind_number undefined.Dereference = 5
kind_number undefined.LiteralWrite = 6
kind_number undefined.Free = 7
kind_number undefined.PointerOrder = 8
kind_number undefined.MissingValue = 9

-- the byte offset of its token
abbrev pub at_of : Mark → ℕ
at_of (Branch at side) = at
at_of (Call at) = at
at_of (Body at function) = at
at_of (Log site) = site.at
at_of (Exit at) = at
at_of (Abort at) = at
at_of (Stop at kind) = at

-- a function's body is called: a value of it may be missing
abbrev pub class_of : Mark → ℕ
class_of (Branch at side) = 0
class_of (Call at) = 1
class_of (Log site) = 2
class_of (Exit at) = 2
class_of (Abort at) = 2
class_of (Stop at kind) = 2 + kind_number kind
class_of (Body at function) = 2 + kind_number undefined.MissingValue

abbrev pub rank_of : Mark → Rank
rank_of m = record { at = at_of m; class = class_of m }

abbrev pub comes_before : Mark → Mark → Bool
comes_before x y = is_lt (ordering_then (nat_cmp (at_of x) (at_of y)) (nat_cmp (class_of x) (class_of y)))

-- the same marks in that order; those that it doesn't tell apart, as the cases of a `switch`, stay as they stood
pub record IsInOrder (marks ordered : List Mark) : Type 0 where
  pub same : IsPermutation marks ordered
  pub sorted : IsSortedBy comes_before ordered
  pub stable : IsStableBy comes_before marks ordered
