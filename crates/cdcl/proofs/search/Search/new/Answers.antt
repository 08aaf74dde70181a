use Rattle.std.proofs.Common.{refl, length, ap, arith}
use Rattle.cdcl.proofs.Resting.{rests-none}
use Rattle.cdcl.proofs.search.Search.new.Goals as goal

pub returns-clause-resting : goal.returns-clause-resting
returns-clause-resting c =
    let t = c.new-4.ensures in
    let w = c.new-6.ensures in
    rests-none 0 _ (omega arith) c.new-3.ensures t.trail t.entries t.level t.room w.lists (omega (arith, ap length w.lists, c.new-6.result.lists.ok.0)) w.given w.learnt refl
