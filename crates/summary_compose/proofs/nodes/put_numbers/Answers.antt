use Rattle.std.proofs.Common.{take, get_or, sym, append-nil, false}
use Rattle.std.proofs.lemmas.List.{take_all, take_more}
use Rattle.term_bank.specs.declared.sort.Sort.TheVariants.{Truth}
use Rattle.plain_data.specs.declared.width.Width.TheVariants.{W8}
use Rattle.path_states.specs.declared.state.Number.{Number}
use Rattle.summary_compose.specs.Renaming.{number_node}
use Rattle.summary_compose.proofs.Lists.{grown_more}
use Rattle.summary_compose.proofs.nodes.put_numbers.Goals as goal

pub loop-number-init : goal.loop-number-init
loop-number-init c = sym (append-nil c.args.nodes.now)

pub loop-number-preserved : goal.loop-number-preserved
loop-number-preserved c =
    let none : Number = record { node = record { index = 0; sort = Truth }; word = record { width = W8; is_signed = false } } in
    let i = c.loop-number.number-index in
    rw (take_more c.args.numbers.now i none c.loop-number-test.true)
    (grown_more number_node c.args.nodes.now c.loop-number.nodes c.push.new.self (take i c.args.numbers.now)
    (get_or c.args.numbers.now i none) c.loop-number.invariant c.in_ok-push.ensures.ok)

pub returns : goal.returns
returns c = rw (take_all c.loop-number.number-index c.args.numbers.now c.loop-number-test.false) at c.loop-number.invariant
