use Rattle.std.proofs.Common.{take}
use Rattle.program_facts.specs.Listing.{PutsMarks}
use Rattle.program_facts.proofs.marks.put_marks.Given as goal

abbrev pub invariant-marks : goal.invariant-marks
invariant-marks l = PutsMarks l.listing.functions.now l.listing.log.now l.listing.last (take l.mark-index l.marks) l.initial.out l.out
