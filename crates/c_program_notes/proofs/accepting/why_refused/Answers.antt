use Rattle.std.proofs.Common.{reverse, ap, ◌∙◌}
use Rattle.std.proofs.lemmas.Result.{IfOk-weaker}
use Rattle.c_item_notes.specs.Levels.{judged}
use Rattle.c_program_notes.specs.declared.whole.Overview.{Overview}
use Rattle.c_program_notes.specs.Refused as spec
use Rattle.c_program_notes.specs.Wholes as wholes
use Rattle.c_program_notes.proofs.Refusing.{refusal_is}
use Rattle.c_program_notes.proofs.accepting.why_refused.Goals as goal

pub returns : goal.returns
returns c =
    IfOk-weaker c.refusal_in.result _ _ (λ r h. h
    ∙ ap (λ (o : Overview). spec.refusal_by (reverse (wholes.functions_in o.program.outers)) o) c.requires
    ∙ refusal_is (judged c.args.source.now)) c.refusal_in.ensures
