use Rattle.std.proofs.Common.{arith}
use Rattle.run_formula.proofs.ArgumentTerms.{array_made}
use Rattle.run_formula.proofs.arguments.make_array.Goals as goal

pub make_at-requires : goal.make_at-requires
make_at-requires c = c.in_ok-strings.ensures.term

pub zero_object-requires-clause-memory : goal.zero_object-requires-clause-memory
zero_object-requires-clause-memory c = c.in_ok-array.ensures.term

pub returns : goal.returns
returns c =
    let bounds = c.args.bounds.now in
    array_made _ _ _ _ c.args.memory c.in_ok-strings.strings c.in_ok-array.array c.in_ok-node.node bounds.arguments bounds.outside c.args.place
    _ _ _ (omega arith) (omega arith) (omega arith) c.in_ok-strings.ensures c.in_ok-array.ensures c.in_ok-node.ensures
