use Rattle.std.proofs.Common.{◌≡◌, drop, map}
use Rattle.c_means.specs.Programs.{in_order, outer, program_of}
use Rattle.c_item_notes.specs.Levels.{judged}
use Rattle.c_program_notes.specs.Summaries.{goes_on, program_notes}
use Rattle.c_program_notes.proofs.outers.each_outer.Given as goal

abbrev pub invariant-loop-external : goal.invariant-loop-external
invariant-loop-external l =
    goes_on (judged l.source) l.outers (in_order (map outer (drop l.external-index l.externals)) l.scope)
    ≡ program_notes (judged l.source) (program_of l.externals)
