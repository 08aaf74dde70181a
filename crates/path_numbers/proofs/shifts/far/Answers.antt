use Rattle.std.proofs.Common.{◌∙◌}
use Rattle.term_bank.proofs.TermLemmas.{term_grown}
use Rattle.path_numbers.proofs.Operated.{far_made}
use Rattle.path_numbers.proofs.shifts.far.Goals as goal

pub test-requires-clause-left : goal.test-requires-clause-left
test-requires-clause-left c = term_grown _ _ _ c.args.by.node c.in_ok-bits.ensures.grows c.requires.term

pub returns : goal.returns
returns c =
    far_made c.args.bank.now c.word.new.self c.test.new.self c.not.new.self c.args.word c.args.by c.in_ok-bits.bits c.in_ok-near.near
    c.in_ok-far.far c.from.result (c.from.ensures ∙ c.bits.ensures) c.requires c.in_ok-bits.ensures c.in_ok-near.ensures c.in_ok-far.ensures
