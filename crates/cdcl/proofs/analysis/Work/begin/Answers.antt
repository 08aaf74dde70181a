use Rattle.std.proofs.Common.{length, ap, ◌∙◌, ◌||◌}
use Rattle.cdcl.specs.Trails.{names}
use Rattle.cdcl.specs.Sources.{named}
use Rattle.cdcl.proofs.Derivations.{falsified-fits, conflict-read, begin-derives, begin-within}
use Rattle.cdcl.proofs.Jumping.{stage-begin}
use Rattle.cdcl.proofs.analysis.Work.begin.Goals as goal

pub mark-requires : goal.mark-requires
mark-requires c =
    rw (c.in_ok-seen.ensures.room, c.len.ensures) (falsified-fits _ c.args.trail.now.entries.items (length c.args.trail.now.entries.items) _ c.requires.room
    (conflict-read c.args.from c.args.clauses.now c.args.trail.now.entries.items c.args.conflict _ c.requires.conflict c.clause.ensures).1)

pub returns-clause-occurs : goal.returns-clause-occurs
returns-clause-occurs c = λ vars w. begin-within vars (named c.args.from c.args.clauses.now) c.args.conflict c.clause.result.now _ c.in_ok-seen.seen.items c.mark.new.seen.items
    (conflict-read c.args.from c.args.clauses.now c.args.trail.now.entries.items c.args.conflict _ c.requires.conflict c.clause.ensures).0 c.new.ensures.items c.in_ok-seen.ensures.marks c.mark.ensures.marks w

pub returns-clause-derives : goal.returns-clause-derives
returns-clause-derives c =
    begin-derives c.args.from c.args.clauses.now c.args.trail.now.entries.items c.args.conflict _ _ _ _ _ c.clause.result.now c.requires.conflict c.clause.ensures c.in_ok-push.ensures.items c.new-hints.ensures.items c.new.ensures.items c.in_ok-seen.ensures.marks c.mark.ensures.marks

pub returns-clause-stage : goal.returns-clause-stage
returns-clause-stage c = λ top.
    rw c.new.ensures.items (stage-begin c.args.clauses.now c.args.trail.now c.args.conflict c.mark.new.seen.items c.clause.result.now top c.clause.ensures
    (λ v. c.mark.ensures.marks v ∙ ap (λ b. b || names v c.clause.result.now) (c.in_ok-seen.ensures.marks v)))
