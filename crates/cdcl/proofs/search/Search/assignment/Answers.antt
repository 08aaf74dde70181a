use Rattle.std.proofs.Common.{arith}
use Rattle.cdcl.proofs.Assuming.{satisfied}
use Rattle.cdcl.proofs.search.Search.assignment.Goals as goal

pub returns : goal.returns
returns c =
    let m = c.requires in
    let t = m.ready.trail in
    rw c.from_vec.ensures (satisfied c.args.self.now.trail c.loop-variable.values.items c.args.self.now.clauses.given c.args.self.now.clauses.assumed
    (record { distinct = t.distinct; in_room = t.in_room; are_placed = t.are_placed; same = λ v h. c.loop-variable.invariant.same v (omega (arith, c.loop-variable-test.false, c.len-variable-end.ensures)) })
    m.satisfied (m.ready.holds m.above))
