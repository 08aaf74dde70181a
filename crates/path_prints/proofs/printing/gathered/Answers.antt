use Rattle.std.proofs.Common.{take, get_or, false}
use Rattle.std.proofs.lemmas.List.{take_all, take_more}
use Rattle.plain_data.specs.declared.width.Width.TheVariants.{W8}
use Rattle.term_bank.specs.declared.sort.Sort.TheVariants.{Truth}
use Rattle.path_states.specs.declared.state.Number.{Number}
use Rattle.path_states.proofs.Chosen.{number_at}
use Rattle.path_states.proofs.Growth.{numbers_grown}
use Rattle.path_prints.proofs.PrintLemmas.{gathers_none, gathers_more}
use Rattle.path_prints.proofs.printing.gathered.Goals as goal

none : Number
none = record { node = record { index = 0; sort = Truth }; word = record { width = W8; is_signed = false } }

pub loop-number-init : goal.loop-number-init
loop-number-init c = gathers_none _ _ c.in_ok-all.all c.in_ok-all.ensures

pub number_behind-requires-clause-word : goal.number_behind-requires-clause-word
unfolding none
number_behind-requires-clause-word c =
    (number_at _ c.args.numbers.now c.loop-number.number-index none (numbers_grown c.loop-number.invariant.grows c.args.numbers.now c.requires)
    c.loop-number-test.true).term

pub loop-number-preserved : goal.loop-number-preserved
unfolding none
loop-number-preserved c =
    let i = c.loop-number.number-index in
    rw (take_more c.args.numbers.now i none c.loop-number-test.true)
    (gathers_more _ _ _ (take i c.args.numbers.now) (get_or c.args.numbers.now i none) c.loop-number.all c.in_ok-all-2.all
    c.loop-number.invariant c.in_ok-all-2.ensures)

pub returns : goal.returns
returns c = rw (take_all c.loop-number.number-index c.args.numbers.now c.loop-number-test.false) at c.loop-number.invariant
