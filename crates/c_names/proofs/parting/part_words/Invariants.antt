use Rattle.std.proofs.Common.{◌≡◌, [], drop}
use Rattle.c_names.specs.Parting.{parted_by}
use Rattle.c_names.proofs.parting.part_words.Given as goal

abbrev pub invariant-loop-word : goal.invariant-loop-word
invariant-loop-word l =
    parted_by l.bindings (drop l.word-index l.words) l.parted
    ≡ parted_by l.bindings l.words (record { free = []; bound = [] })
