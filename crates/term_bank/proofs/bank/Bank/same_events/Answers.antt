use Rattle.term_bank.proofs.FoldLemmas.{part_first, part_second}
use Rattle.term_bank.proofs.bank.Bank.same_events.Goals as goal

pub returns-then-is_empty : goal.returns-then-is_empty
returns-then-is_empty c =
    let e = c.is_empty.ensures in
    part_second c.args.self.now c.args.first c.args.second e.bank c.requires (e.none c.if-is_empty.true)

pub returns-then-is_empty-2 : goal.returns-then-is_empty-2
returns-then-is_empty-2 c =
    let e = c.is_empty-else-is_empty.ensures in
    part_first c.args.self.now c.args.first c.args.second e.bank c.requires (e.none c.if-is_empty-2.true)
