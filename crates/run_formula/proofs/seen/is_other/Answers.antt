use Rattle.term_bank.proofs.TermLemmas.{term_grown}
use Rattle.run_formula.proofs.Asked.{not_so}
use Rattle.run_formula.proofs.SeenLaws.{differs-from, never-same, seen-term}
use Rattle.run_formula.proofs.seen.is_other.Goals as goal

pub test-requires-clause-left : goal.test-requires-clause-left
test-requires-clause-left c =
    term_grown _ _ _ _ c.in_ok-other.ensures.grows (seen-term c.args.bank.now c.args.seen c.requires)

pub returns-then-not-is_value : goal.returns-then-not-is_value
returns-then-not-is_value c =
    never-same c.args.bank.now _ c.args.seen c.args.value.now c.wrap-word.result c.in_ok-always.always c.keeps_bank.ensures c.requires
    c.wrap-word.ensures.value (not_so c.is_value.result c.if-not-is_value.true c.is_value.ensures) c.in_ok-always.ensures

pub returns : goal.returns
returns c =
    differs-from c.args.bank.now _ _ _ c.args.seen c.args.value.now c.wrap-word.result c.in_ok-other.other c.in_ok-equal.equal c.in_ok-unequal.unequal
    c.keeps_bank.ensures c.requires c.wrap-word.ensures.within (c.is_value.ensures.0 c.if-not-is_value.false) c.in_ok-other.ensures
    c.in_ok-equal.ensures c.in_ok-unequal.ensures
