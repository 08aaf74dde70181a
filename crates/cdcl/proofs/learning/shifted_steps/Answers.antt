use Rattle.std.proofs.Common.{◌∙◌, ap, map}
use Rattle.cdcl.specs.Sources.{shifted}
use Rattle.cdcl.proofs.Numbering.{shifted-more}
use Rattle.cdcl.proofs.learning.shifted_steps.Goals as goal

pub loop-index-preserved : goal.loop-index-preserved
loop-index-preserved c =
    shifted-more c.args.given c.args.listed c.args.steps.now c.loop-index.index c.step-step.result c.deref.result.now c.loop-index.moved c.push.new.self c.step.inside.clause.now c.step-step.ensures c.loop-index.invariant
    (c.deref.ensures.value ∙ c.in_ok-hints.ensures ∙ ap (λ s. map (shifted c.args.given c.args.listed) s.hints) c.step.view_is) (ap (λ s. s.clause) c.step.view_is) c.in_ok-push.ensures.ok
