use Rattle.std.proofs.Common.{ap, ◌∙◌}
use Rattle.std.proofs.lemmas.Result.{IfOk-weaker}
use Rattle.core_tree.specs.declared.program.LastingObject.{LastingObject}
use Rattle.c_item_notes.specs.Levels.{judged}
use Rattle.c_program_notes.specs.declared.whole.Overview.{Overview}
use Rattle.c_program_notes.specs.Wholes as spec
use Rattle.c_program_notes.proofs.Together.{made_are, met_is}
use Rattle.c_program_notes.proofs.whole.prepare.Goals as goal

pub returns : goal.returns
returns c =
    let j = judged c.args.source.now in
    record {
      met = IfOk-weaker c.prepared.result _ _ (λ x h. ap (λ z. z.met) h
          ∙ ap (λ (o : Overview). (spec.prepared o).met) c.requires ∙ met_is j) c.prepared.ensures;
      objects = IfOk-weaker c.prepared.result _ _ (λ x h. ap (λ z. z.objects) h
          ∙ ap (λ (o : Overview). (spec.prepared o).objects) c.requires ∙ made_are j) c.prepared.ensures;
    }
