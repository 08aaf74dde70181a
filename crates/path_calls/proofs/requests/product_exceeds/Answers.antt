use Rattle.std.proofs.Common.{ℕ, Bool, true, false, cond, not, nat_eq, nat_lt}
use Rattle.term_bank.specs.Values.{Values}
use Rattle.term_bank.proofs.BankLemmas.{grows_on}
use Rattle.term_bank.proofs.TermLemmas.{term_grown}
use Rattle.path_calls.proofs.RequestLemmas.{either_found}
use Rattle.path_calls.proofs.requests.product_exceeds.Goals as goal

pub factor_exceeds-requires-2-clause-factor : goal.factor_exceeds-requires-2-clause-factor
factor_exceeds-requires-2-clause-factor c = term_grown _ _ _ c.args.right c.in_ok-one.ensures.grows c.requires.right

pub factor_exceeds-requires-2-clause-other : goal.factor_exceeds-requires-2-clause-other
factor_exceeds-requires-2-clause-other c = term_grown _ _ _ c.args.left c.in_ok-one.ensures.grows c.requires.left

pub connect-requires-clause-left : goal.connect-requires-clause-left
connect-requires-clause-left c = term_grown _ _ _ c.in_ok-one.one c.in_ok-other.ensures.grows c.in_ok-one.ensures.term

pub word_exceeds-requires : goal.word_exceeds-requires
word_exceeds-requires c =
    term_grown _ _ _ c.args.product
    (grows_on c.in_ok-one.ensures.grows (grows_on c.in_ok-other.ensures.grows c.in_ok-factors.ensures.grows)) c.requires.product

pub connect-requires-2-clause-left : goal.connect-requires-2-clause-left
connect-requires-2-clause-left c = term_grown _ _ _ c.in_ok-factors.factors c.in_ok-word.ensures.grows c.in_ok-factors.ensures.node

pub returns : goal.returns
returns c =
    let most = c.args.most in
    let a : Values → ℕ = λ v. (v c.args.left.index).word in
    let b : Values → ℕ = λ v. (v c.args.right.index).word in
    let x : Values → Bool = λ v. cond (nat_lt most (a v)) (not (nat_eq (b v) 0)) false in
    let y : Values → Bool = λ v. cond (nat_lt most (b v)) (not (nat_eq (a v) 0)) false in
    let factors =
    either_found c.args.bank.now c.factor_exceeds.new.bank c.factor_exceeds-2.new.bank c.connect.new.self c.in_ok-one.one c.in_ok-other.other
    c.in_ok-factors.factors x y c.in_ok-one.ensures c.in_ok-other.ensures c.in_ok-factors.ensures in
    either_found c.args.bank.now c.connect.new.self c.word_exceeds.new.bank c.connect-2.new.self c.in_ok-factors.factors c.in_ok-word.word
    c.in_ok-node.node (λ v. cond (x v) true (y v)) (λ v. nat_lt most (v c.args.product.index).word) factors c.in_ok-word.ensures c.in_ok-node.ensures
