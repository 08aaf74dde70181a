use Rattle.std.proofs.Common.{refl, length, ap, arith}
use Rattle.cdcl.proofs.Resting.{rests-none}
use Rattle.cdcl.proofs.search.Search.forget.Goals as goal

pub returns-clause-resting : goal.returns-clause-resting
returns-clause-resting c =
    let t = c.forget.ensures in
    let w = c.new-3.ensures in
    rests-none _ _ (omega arith) c.new.ensures t.trail t.entries t.level t.room w.lists (omega (arith, ap length w.lists, c.new-3.result.lists.ok.0)) w.given w.learnt refl
