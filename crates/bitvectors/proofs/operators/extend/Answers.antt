use Rattle.bitvectors.proofs.OperatorLemmas.{zero-result, sign-result}
use Rattle.bitvectors.proofs.operators.extend.Goals as goal

pub returns-in-Zero : goal.returns-in-Zero
returns-in-Zero c = zero-result c.args.gates.now c.args.from c.args.to c.args.a.now c.args.extension c.zero_extended.result c.in-Zero.is c.zero_extended.ensures

pub returns-in-Sign : goal.returns-in-Sign
returns-in-Sign c = sign-result c.args.gates.now c.args.from c.args.to c.args.a.now c.args.extension c.sign_extended.result c.in-Sign.is c.sign_extended.ensures
