use Rattle.std.proofs.Common.{◌≡◌, [], drop, length}
use Rattle.c_names.specs.Needs.{step, steps, all_uses}
use Rattle.c_names.proofs.needs.needed_words.Given as goal

abbrev pub invariant-loop-names : goal.invariant-loop-names
invariant-loop-names l =
    steps l.outers (all_uses (drop l.names-index l.outers)) l.state
    ≡ steps l.outers (all_uses l.outers)
    (steps l.outers (length l.words) (step l.outers (record { todo = l.words; found = [] })))
