use Rattle.std.proofs.Common.{◌≡◌, take}
use Rattle.bitvectors.specs.Blasts.{words_of}
use Rattle.bitvectors.proofs.signals.root_bits.Given as goal

abbrev pub invariant-roots : goal.invariant-roots
invariant-roots l = l.words ≡ words_of l.signals (take l.index l.roots)
