use Rattle.cdcl.specs.Sources.{named}
use Rattle.cdcl.proofs.Derivations.{analyzed}
use Rattle.cdcl.proofs.Jumping.{stage-end}
use Rattle.cdcl.proofs.analysis.analyze.Goals as goal

pub returns-clause-apart : goal.returns-clause-apart
returns-clause-apart c = c.in_ok-run.ensures.derives.apart

pub returns-clause-occurs : goal.returns-clause-occurs
returns-clause-occurs c = λ vars w. (c.in_ok-run.ensures.occurs vars w (c.in_ok-work.ensures.occurs vars w)).literals

pub returns-clause-valid : goal.returns-clause-valid
returns-clause-valid c = analyzed (named c.args.from c.args.clauses.now) c.args.trail.now.entries.items c.run.new.self.seen.items c.run.new.self.kept.items c.run.new.self.hints.items _ c.in_ok-run.ensures.derives c.reverse.ensures.items

pub returns-clause-jump : goal.returns-clause-jump
returns-clause-jump c = λ one top has.
    stage-end c.args.trail.now.entries.items c.args.trail.now.level c.run.new.self.seen.items c.run.new.self.kept.items c.run.new.self.level
    (c.in_ok-run.ensures.stage one top (c.in_ok-work.ensures.stage has))
