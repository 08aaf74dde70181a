use Rattle.std.proofs.Common.{arith, ◌∷◌, [], refl}
use Rattle.run_formula.proofs.ArgumentTerms.{binds_true}
use Rattle.run_formula.proofs.arguments.with_arguments.Goals as goal

pub returns : goal.returns
returns c =
    let array = rw c.start_of.ensures at c.in_ok-array.ensures in
    rw (c.in_ok-push-2.ensures.ok, c.in_ok-push.ensures.ok, c.new-parameters.ensures)
    (binds_true _ _ _ _ c.args.memory c.in_ok-array.array c.in_ok-base.base c.in_ok-furnished.furnished _ c.args.bounds.now c.args.place _
    c.requires.place (omega arith) refl c.in_ok-furnished.ensures array c.in_ok-base.ensures)
