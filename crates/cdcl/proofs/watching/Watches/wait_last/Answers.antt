use Rattle.std.proofs.Common.{arith, ℕ, subst}
use Rattle.cdcl.specs.declared.clauses.ClauseId.TheVariants.{Learnt}
use Rattle.cdcl.specs.Watches.{IsWaiting}
use Rattle.cdcl.proofs.Searching.{item-read}
use Rattle.cdcl.proofs.Lists.{last-waits}
use Rattle.cdcl.proofs.watching.Watches.wait_last.Goals as goal

pub returns : goal.returns
returns c =
    let e = c.in_ok-add.ensures in
    let first = item-read c.args.clause.now 0 c.index-clause-0.result (omega (arith, c.if-clause-lt2.false)) c.index-clause-0.is in
    let second = item-read c.args.clause.now 1 c.index-clause-1.result (omega (arith, c.if-clause-lt2.false)) c.index-clause-1.is in
    let P : ℕ → Type 0 = λ n. IsWaiting (Learnt n) c.index-clause-0.result c.index-clause-1.result c.add.new.self c.wait.new.self in
    last-waits c.args.clause.now c.index-clause-0.result c.index-clause-1.result c.args.self.now c.add.new.self c.wait.new.self e.place e.pairs e.lists e.given first second (subst P c.len.ensures c.in_ok-wait.ensures)
