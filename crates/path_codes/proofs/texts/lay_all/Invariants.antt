use Rattle.std.proofs.Common.{take}
use Rattle.c_means.specs.Initials.{text_byte}
use Rattle.path_codes.specs.Settings.{LaysAll}
use Rattle.path_codes.proofs.texts.lay_all.Given as goal

abbrev pub invariant-loop-state : goal.invariant-loop-state
invariant-loop-state l = LaysAll l.initial.bank l.bank l.size (text_byte l.text) (take l.state-index l.states) l.all
