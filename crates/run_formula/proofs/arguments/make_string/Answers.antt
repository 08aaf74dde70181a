use Rattle.std.proofs.Common.{ap, arith, ◌+◌}
use Rattle.run_formula.proofs.ArgumentTerms.{string_made}
use Rattle.run_formula.proofs.arguments.make_string.Goals as goal

pub returns : goal.returns
returns c =
    let outside = c.args.bounds.now.outside in
    string_made _ _ _ c.args.memory c.in_ok-made.made c.in_ok-node.node outside c.args.place _ _ (omega arith)
    (ap (λ q. q + outside) c.start_of.ensures) c.in_ok-made.ensures c.in_ok-node.ensures
