use Rattle.gates.proofs.GateLemmas.{input-free}
use Rattle.gates.proofs.gates.Gates.input.Goals as goal

pub returns : goal.returns
returns c = input-free c.args.self.now _ c.in_ok-x.x c.in_ok-x.ensures.below c.in_ok-x.ensures.clauses c.in_ok-x.ensures.count c.in_ok-x.ensures.literal
