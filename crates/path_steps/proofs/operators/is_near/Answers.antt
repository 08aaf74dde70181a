use Rattle.std.proofs.Common.{ap}
use Rattle.std.specs.Prelude.{nat_eq}
use Rattle.path_steps.proofs.PointerLaws.{other}
use Rattle.path_steps.proofs.PointerTerms.{always_near, near_made}
use Rattle.term_bank.proofs.TermLemmas.{term_grown}
use Rattle.path_steps.proofs.operators.is_near.Goals as goal

pub returns-then-size-eq0 : goal.returns-then-size-eq0
returns-then-size-eq0 c =
    always_near c.args.bank.now c.truth.new.self c.args.count c.args.size c.in_ok-always.always (ap (λ n. nat_eq n 0) c.if-size-eq0.true) c.in_ok-always.ensures

pub test-requires-clause-right : goal.test-requires-clause-right
test-requires-clause-right c = term_grown _ _ _ c.in_ok-steps.steps c.in_ok-most.ensures.grows c.in_ok-steps.ensures.term

pub returns : goal.returns
returns c =
    near_made c.args.bank.now c.natural.new.bank c.word.new.self c.test.new.self c.not.new.self c.args.count c.args.size c.in_ok-steps.steps
    c.in_ok-most.most c.in_ok-far.far c.in_ok-near.near (other c.args.size 0 c.if-size-eq0.false) c.in_ok-steps.ensures c.in_ok-most.ensures c.in_ok-far.ensures
    c.in_ok-near.ensures
