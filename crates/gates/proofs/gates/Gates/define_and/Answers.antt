use Rattle.std.proofs.Common.{◌∙◌}
use Rattle.gates.proofs.GateLemmas.{and-gate}
use Rattle.gates.proofs.gates.Gates.define_and.Goals as goal

pub returns : goal.returns
returns c =
    and-gate c.args.self.now _ c.in_ok-x.x c.negated-off.result c.args.a c.args.b c.negated-not_a.result c.negated-not_b.result _ _ _ c.in_ok-x.ensures.below c.requires.a c.requires.b
    (c.add-3.ensures.count ∙ c.add-2.ensures.count ∙ c.add.ensures.count ∙ c.in_ok-x.ensures.count)
    c.in_ok-x.ensures.literal c.negated-off.ensures c.negated-not_a.ensures c.negated-not_b.ensures c.in_ok-x.ensures.clauses c.in_ok-add.ensures.clauses c.in_ok-add-2.ensures.clauses c.in_ok-add-3.ensures.clauses
