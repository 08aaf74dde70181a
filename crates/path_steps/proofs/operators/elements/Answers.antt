use Rattle.std.proofs.Common.{sym, ◌∙◌}
use Rattle.path_states.proofs.Growth.{number_grown}
use Rattle.path_steps.proofs.PointerTerms.{none_between_made, between_made}
use Rattle.path_steps.proofs.operators.elements.Goals as goal

pub returns-then-not-is_measured : goal.returns-then-not-is_measured
returns-then-not-is_measured c =
    none_between_made c.args.bank.now c.constant.new.bank c.in_ok-none.none c.args.left c.args.right c.args.size
    (sym c.is_measured.ensures ∙ c.if-not-is_measured.true) c.in_ok-none.ensures

pub worked-requires-2-clause-left : goal.worked-requires-2-clause-left
worked-requires-2-clause-left c = number_grown c.in_ok-wide.ensures.grows c.in_ok-bytes.bytes c.in_ok-bytes.ensures.number

pub returns : goal.returns
returns c =
    between_made c.args.bank.now c.worked.new.bank c.wrapped.new.bank c.number_of_size.new.bank c.worked-2.new.bank c.args.left c.args.right
    c.in_ok-bytes.bytes c.in_ok-wide.wide c.in_ok-difference.difference c.in_ok-elements.elements c.args.size
    (sym c.is_measured.ensures ∙ c.if-not-is_measured.false) c.in_ok-difference.ensures c.in_ok-bytes.ensures
    c.in_ok-wide.ensures c.in_ok-elements.ensures
