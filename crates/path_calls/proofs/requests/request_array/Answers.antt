use Rattle.std.proofs.Common.{arith}
use Rattle.c_means.specs.Values.{address}
use Rattle.term_bank.proofs.BankLemmas.{grows_on}
use Rattle.term_bank.proofs.TermLemmas.{term_grown}
use Rattle.path_states.specs.States.{number_in}
use Rattle.path_states.proofs.Growth.{number_grown}
use Rattle.path_calls.proofs.RequestLemmas.{array_requested}
use Rattle.path_calls.proofs.requests.request_array.Goals as goal

pub address-requires-2 : goal.address-requires-2
address-requires-2 c = number_grown c.in_ok-left.ensures.grows c.args.size c.requires.size

pub binary-requires-clause-left : goal.binary-requires-clause-left
binary-requires-clause-left c = term_grown _ _ _ c.in_ok-left.left c.in_ok-right.ensures.grows c.in_ok-left.ensures.term

pub product_exceeds-requires-clause-left : goal.product_exceeds-requires-clause-left
product_exceeds-requires-clause-left c =
    term_grown _ _ _ c.in_ok-left.left (grows_on c.in_ok-right.ensures.grows c.in_ok-product.ensures.grows) c.in_ok-left.ensures.term

pub product_exceeds-requires-clause-right : goal.product_exceeds-requires-clause-right
product_exceeds-requires-clause-right c =
    term_grown _ _ _ c.in_ok-right.right c.in_ok-product.ensures.grows c.in_ok-right.ensures.term

pub returns : goal.returns
returns c =
    array_requested c.args.bank.now c.address.new.bank c.address-2.new.bank c.binary.new.self c.product_exceeds.new.bank c.args.most c.in_ok-left.left
    c.in_ok-right.right c.in_ok-product.product c.in_ok-exceeds.exceeds (λ v. address (number_in v c.args.count))
    (λ v. address (number_in v c.args.size)) (omega (arith, c.ranges.most.fits)) c.in_ok-left.ensures c.in_ok-right.ensures c.in_ok-product.ensures
    c.in_ok-exceeds.ensures
