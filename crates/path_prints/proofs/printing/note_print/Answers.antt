use Rattle.path_prints.proofs.PrintLemmas.{notes_nothing, notes_print}
use Rattle.path_prints.proofs.printing.note_print.Goals as goal

pub returns-then-length-eq0 : goal.returns-then-length-eq0
returns-then-length-eq0 c =
    notes_nothing c.args.bank.now c.args.at c.args.from c.args.length c.args.seen.now c.args.events c.if-length-eq0.true c.requires.events

pub returns : goal.returns
returns c =
    notes_print c.args.bank.now _ _ c.args.at c.args.from c.args.length c.args.seen.now c.args.events c.in_ok-numbers.numbers
    c.in_ok-noted.noted c.if-length-eq0.false c.in_ok-numbers.ensures c.in_ok-noted.ensures
