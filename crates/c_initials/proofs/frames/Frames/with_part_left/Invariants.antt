use Rattle.std.proofs.Common.{◌≡◌, length}
use Rattle.c_language.specs.Initials.{with_part_left}
use Rattle.c_initials.proofs.frames.Frames.with_part_left.Given as goal

abbrev pub invariant-frames : goal.invariant-frames
invariant-frames l = with_part_left l.tables l.frames ≡ with_part_left l.tables l.fn.self

abbrev pub decreases-frames : goal.decreases-frames
decreases-frames l = length l.frames
