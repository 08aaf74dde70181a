use Rattle.std.proofs.Common.{reverse, sym, ◌∙◌, ap, refl, cond, eqb}
use Rattle.cdcl.specs.Trails.{seen_at}
use Rattle.cdcl.specs.Sources.{named}
use Rattle.cdcl.proofs.Naming.{named-some}
use Rattle.cdcl.proofs.Derivations.{Derives-skip, implied-fits, reason-read, resolve-derives, resolve-within, keep-derives, keep-within, entry-read, entry-literal}
use Rattle.cdcl.proofs.Jumping.{stage-skip, stage-resolve, stage-keep, weighs-true, weighs-false}
use Rattle.cdcl.proofs.analysis.Work.descend.Goals as goal

pub is_marked-requires : goal.is_marked-requires
is_marked-requires c = rw (c.deref.ensures.len, c.requires.seen) (c.requires.trail.in_room c.args.index c.index-entry.result.now.literal (entry-literal c.args.trail.now.entries.items c.args.index c.index-entry.result.now (entry-read c.args.trail.now.entries.items c.args.index c.index-entry.result.now c.requires.index c.index-entry.ensures)))

pub returns-then-not-is_marked-clause-derives : goal.returns-then-not-is_marked-clause-derives
returns-then-not-is_marked-clause-derives c =
    Derives-skip (named c.args.from c.args.clauses.now) c.args.trail.now.entries.items c.args.index c.args.self.now.seen.items c.args.self.now.kept.items (reverse c.args.self.now.hints.items) c.index-entry.result.now.literal
    (entry-literal c.args.trail.now.entries.items c.args.index c.index-entry.result.now (entry-read c.args.trail.now.entries.items c.args.index c.index-entry.result.now c.requires.index c.index-entry.ensures))
    (ap (λ s. seen_at s c.index-entry.result.now.literal.variable) (sym c.deref.ensures.value) ∙ sym c.is_marked.ensures ∙ c.if-not-is_marked.true)
    c.requires.derives

pub clause-requires : goal.clause-requires
clause-requires c =
    let r = c.requires.trail.reasons c.args.index c.index-entry.result.now c.in-Some.reason (entry-read c.args.trail.now.entries.items c.args.index c.index-entry.result.now c.requires.index c.index-entry.ensures) c.in-Some.ensures.reason.0 in
    named-some 0 c.args.clauses.now c.in-Some.reason r.0 r.1.0

pub resolve-requires-clause-fits : goal.resolve-requires-clause-fits
resolve-requires-clause-fits c =
    rw c.requires.seen (implied-fits _ c.args.trail.now.entries.items c.args.index c.index-entry.result.now.literal _ c.requires.trail.in_room
    (entry-literal c.args.trail.now.entries.items c.args.index c.index-entry.result.now (entry-read c.args.trail.now.entries.items c.args.index c.index-entry.result.now c.requires.index c.index-entry.ensures))
    (reason-read c.args.from c.args.clauses.now c.args.trail.now.entries.items c.args.index c.index-entry.result.now c.in-Some.reason c.clause.result.now c.requires.trail.reasons
    (entry-read c.args.trail.now.entries.items c.args.index c.index-entry.result.now c.requires.index c.index-entry.ensures) c.in-Some.ensures.reason.0 c.in-Some.ensures.reason.1 c.clause.ensures).1)

pub returns-in_ok-resolve-in-Some-clause-occurs : goal.returns-in_ok-resolve-in-Some-clause-occurs
returns-in_ok-resolve-in-Some-clause-occurs c = λ vars w before. resolve-within vars (named c.args.from c.args.clauses.now) c.in-Some.reason c.clause.result.now c.args.self.now.kept.items _ c.index-entry.result.now.literal.variable c.args.self.now.seen.items c.resolve.new.self.seen.items
    (reason-read c.args.from c.args.clauses.now c.args.trail.now.entries.items c.args.index c.index-entry.result.now c.in-Some.reason c.clause.result.now c.requires.trail.reasons
    (entry-read c.args.trail.now.entries.items c.args.index c.index-entry.result.now c.requires.index c.index-entry.ensures) c.in-Some.ensures.reason.0 c.in-Some.ensures.reason.1 c.clause.ensures).0
    (ap (λ k. k.items) c.in_ok-resolve-in-Some.ensures.kept) c.in_ok-resolve-in-Some.ensures.off c.in_ok-resolve-in-Some.ensures.marks w before

pub returns-in_ok-resolve-in-Some-clause-derives : goal.returns-in_ok-resolve-in-Some-clause-derives
returns-in_ok-resolve-in-Some-clause-derives c =
    resolve-derives c.args.from c.args.clauses.now c.args.trail.now.entries.items c.args.index c.args.self.now.seen.items c.resolve.new.self.seen.items c.args.self.now.kept.items _ c.in-Some.reason _ _ c.index-entry.result.now c.clause.result.now c.requires.trail.distinct c.requires.trail.reasons
    (entry-read c.args.trail.now.entries.items c.args.index c.index-entry.result.now c.requires.index c.index-entry.ensures) c.in-Some.ensures.reason.0 c.in-Some.ensures.reason.1 c.clause.ensures
    c.in_ok-resolve-in-Some.ensures.hints (ap (λ k. k.items) c.in_ok-resolve-in-Some.ensures.kept) c.in_ok-resolve-in-Some.ensures.off c.in_ok-resolve-in-Some.ensures.marks c.requires.derives

pub returns-in_ok-keep-in-None-clause-kept : goal.returns-in_ok-keep-in-None-clause-kept
returns-in_ok-keep-in-None-clause-kept c = λ root all.
    absurd (all c.args.index c.index-entry.result.now (entry-read c.args.trail.now.entries.items c.args.index c.index-entry.result.now c.requires.index c.index-entry.ensures) (c.in-None.ensures.nothing refl (c.is_wanted-wanted.ensures.all root) root))

pub returns-in_ok-keep-in-None-clause-occurs : goal.returns-in_ok-keep-in-None-clause-occurs
returns-in_ok-keep-in-None-clause-occurs c = λ vars w before.
    keep-within vars c.args.self.now.kept.items _ c.index-entry.result.now.literal c.args.self.now.seen.items c.keep.new.self.seen.items c.in_ok-keep-in-None.ensures.kept
    (ap (λ s. seen_at s c.index-entry.result.now.literal.variable) (sym c.deref.ensures.value) ∙ sym c.is_marked.ensures ∙ c.if-not-is_marked.false)
    c.in_ok-keep-in-None.ensures.off c.in_ok-keep-in-None.ensures.marks before

pub returns-in_ok-keep-in-None-clause-derives : goal.returns-in_ok-keep-in-None-clause-derives
returns-in_ok-keep-in-None-clause-derives c =
    keep-derives (named c.args.from c.args.clauses.now) c.args.trail.now.entries.items c.args.index c.args.self.now.seen.items c.keep.new.self.seen.items c.args.self.now.kept.items _ _ c.args.self.now.hints.items c.index-entry.result.now.literal c.requires.trail.distinct
    (entry-literal c.args.trail.now.entries.items c.args.index c.index-entry.result.now (entry-read c.args.trail.now.entries.items c.args.index c.index-entry.result.now c.requires.index c.index-entry.ensures))
    (ap (λ k. k.items) c.in_ok-keep-in-None.ensures.hints) c.in_ok-keep-in-None.ensures.kept c.in_ok-keep-in-None.ensures.off c.in_ok-keep-in-None.ensures.marks c.requires.derives

pub is_wanted-wanted-requires-clause-room : goal.is_wanted-wanted-requires-clause-room
is_wanted-wanted-requires-clause-room c = rw c.requires.seen c.requires.trail.in_room

pub returns-then-not-is_marked-clause-stage : goal.returns-then-not-is_marked-clause-stage
returns-then-not-is_marked-clause-stage c = λ one top stage.
    stage-skip c.args.trail.now.entries.items c.args.trail.now.level c.args.index c.args.self.now.seen.items c.args.self.now.kept.items c.args.self.now.level c.index-entry.result.now
    (entry-read c.args.trail.now.entries.items c.args.index c.index-entry.result.now c.requires.index c.index-entry.ensures)
    (ap (λ s. seen_at s c.index-entry.result.now.literal.variable) (sym c.deref.ensures.value) ∙ sym c.is_marked.ensures ∙ c.if-not-is_marked.true)
    stage

pub returns-in_ok-resolve-in-Some-clause-stage : goal.returns-in_ok-resolve-in-Some-clause-stage
returns-in_ok-resolve-in-Some-clause-stage c = λ one top stage.
    let e = c.index-entry.result.now in
    let t = c.args.trail.now in
    let at = entry-read t.entries.items c.args.index e c.requires.index c.index-entry.ensures in
    let s = c.in_ok-resolve-in-Some.ensures in
    rw (s.level, s.kept) (stage-resolve t.entries.items t.level c.args.index c.args.self.now.seen.items c.resolve.new.self.seen.items c.args.self.now.kept.items c.args.self.now.level e c.clause.result.now c.requires.trail.have_levels c.requires.trail.distinct at
    (ap (λ s. seen_at s e.literal.variable) (sym c.deref.ensures.value) ∙ sym c.is_marked.ensures ∙ c.if-not-is_marked.false)
    (λ l. weighs-true t.entries.items t.level c.args.index c.args.self.now.seen.items c.is_wanted-wanted.result c.in-Some.ensures.wanted (c.is_wanted-wanted.ensures.top one e at l)) s.marks stage)

pub returns-in_ok-keep-in-None-clause-stage : goal.returns-in_ok-keep-in-None-clause-stage
returns-in_ok-keep-in-None-clause-stage c = λ one top stage.
    let e = c.index-entry.result.now in
    let t = c.args.trail.now in
    let at = entry-read t.entries.items c.args.index e c.requires.index c.index-entry.ensures in
    let s = c.in_ok-keep-in-None.ensures in
    stage-keep t.entries.items t.level c.args.index c.args.self.now.seen.items c.keep.new.self.seen.items c.args.self.now.kept.items c.keep.new.self.kept.items c.args.self.now.level c.keep.new.self.level e c.requires.trail.have_levels c.requires.trail.distinct at
    (ap (λ s. seen_at s e.literal.variable) (sym c.deref.ensures.value) ∙ sym c.is_marked.ensures ∙ c.if-not-is_marked.false)
    (λ l. weighs-false c.args.clauses.now t c.args.index c.args.self.now.seen.items c.is_wanted-wanted.result e c.requires.trail top at l (c.in-None.ensures.uncited refl) (c.is_wanted-wanted.ensures.top one e at l)) s.marks s.kept (s.level ∙ ap (λ n. cond (eqb n 1) e.level c.args.self.now.level) c.args.self.now.kept.ok.0) stage
