use Rattle.std.proofs.Common.{refl, arith}
use Rattle.positions.proofs.Order.{index_found, behind_none}
use Rattle.positions.proofs.merging.index_of.Goals as goal

pub back-init : goal.back-init
back-init c = record {
  within = omega arith;
  behind = λ y m. behind_none c.args.xs.now _ c.args.position y refl m;
}

pub returns-then-xs-index : goal.returns-then-xs-index
returns-then-xs-index c =
    index_found c.args.xs.now c.back.index c.args.position c.requires c.back-test.true c.back.invariant.within c.if-xs-index.true c.back.invariant.behind
