use Rattle.std.proofs.Common.{arith}
use Rattle.std.specs.Int.{w64}
use Rattle.std.proofs.lemmas.Int.{ints, to_z-of_z}
use Rattle.plain_data.specs.declared.width.Width.TheVariants.{W64}
use Rattle.term_bank.proofs.BankLemmas.{grows_on}
use Rattle.term_bank.proofs.TermLemmas.{term_grown}
use Rattle.path_numbers.proofs.DivisionLaws.{is_fit}
use Rattle.path_prints.proofs.ConditionLemmas.{met_between}
use Rattle.path_prints.proofs.conditions.is_between.Goals as goal

pub test-requires-clause-left : goal.test-requires-clause-left
test-requires-clause-left c =
    term_grown _ _ _ c.in_ok-word.word (grows_on c.in_ok-least.ensures.grows c.in_ok-most.ensures.grows) c.in_ok-word.ensures.term

pub test-requires-clause-right : goal.test-requires-clause-right
test-requires-clause-right c = term_grown _ _ _ c.in_ok-least.least c.in_ok-most.ensures.grows c.in_ok-least.ensures.term

pub test-requires-2-clause-left : goal.test-requires-2-clause-left
test-requires-2-clause-left c = term_grown _ _ _ c.in_ok-most.most c.in_ok-below.ensures.grows c.in_ok-most.ensures.term

pub test-requires-2-clause-right : goal.test-requires-2-clause-right
test-requires-2-clause-right c =
    term_grown _ _ _ c.in_ok-word.word
    (grows_on c.in_ok-least.ensures.grows (grows_on c.in_ok-most.ensures.grows c.in_ok-below.ensures.grows)) c.in_ok-word.ensures.term

pub connect-requires-clause-left : goal.connect-requires-clause-left
connect-requires-clause-left c = term_grown _ _ _ c.in_ok-below.below c.in_ok-above.ensures.grows c.in_ok-below.ensures.node

pub returns : goal.returns
returns c =
    let least = rw (to_z-of_z w64 c.args.low c.ranges.low) at c.in_ok-least.ensures in
    let most = rw (to_z-of_z w64 c.args.high c.ranges.high) at c.in_ok-most.ensures in
    met_between c.args.bank.now c.wrapped.new.bank c.in_width.new.bank c.signed_word.new.bank c.signed_word-2.new.bank c.test.new.self c.test-2.new.self
    c.connect.new.self c.not.new.self c.args.number c.in_ok-int.int c.in_ok-word.word c.in_ok-least.least c.in_ok-most.most c.in_ok-below.below
    c.in_ok-above.above c.in_ok-outside.outside c.in_ok-within.within c.args.low c.args.high
    (is_fit W64 c.args.low (omega (arith, ints, c.ranges.low.sfits))) (is_fit W64 c.args.high (omega (arith, ints, c.ranges.high.sfits)))
    c.in_ok-int.ensures c.in_ok-word.ensures least most c.in_ok-below.ensures c.in_ok-above.ensures c.in_ok-outside.ensures
    c.in_ok-within.ensures
