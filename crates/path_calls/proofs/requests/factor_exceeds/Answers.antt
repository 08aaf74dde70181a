use Rattle.std.proofs.Common.{nat_eq, nat_lt}
use Rattle.term_bank.proofs.BankLemmas.{grows_on}
use Rattle.term_bank.proofs.TermLemmas.{term_grown}
use Rattle.path_calls.proofs.RequestLemmas.{factor_found}
use Rattle.path_calls.proofs.requests.factor_exceeds.Goals as goal

pub is_zero-requires : goal.is_zero-requires
is_zero-requires c = term_grown _ _ _ c.args.other c.in_ok-above.ensures.grows c.requires.other

pub connect-requires-clause-left : goal.connect-requires-clause-left
connect-requires-clause-left c =
    term_grown _ _ _ c.in_ok-above.above (grows_on c.in_ok-none.ensures.grows c.in_ok-some.ensures.grows) c.in_ok-above.ensures.term

pub returns : goal.returns
returns c =
    factor_found c.args.bank.now c.word_exceeds.new.bank c.is_zero.new.bank c.not.new.self c.connect.new.self c.in_ok-above.above c.in_ok-none.none
    c.in_ok-some.some c.in_ok-node.node (λ v. nat_lt c.args.most (v c.args.factor.index).word) (λ v. nat_eq (v c.args.other.index).word 0)
    c.in_ok-above.ensures c.in_ok-none.ensures c.in_ok-some.ensures c.in_ok-node.ensures
