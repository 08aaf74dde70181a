use Rattle.std.proofs.Common.{◌∙◌}
use Rattle.std.proofs.lemmas.Result.{IfOk-weaker}
use Rattle.c_item_notes.specs.Levels.{judged}
use Rattle.c_program_notes.proofs.Together.{overview_is}
use Rattle.c_program_notes.proofs.whole.read_source.Goals as goal

pub returns : goal.returns
returns c =
    IfOk-weaker c.overview_of.result _ _ (λ x h. h
    ∙ overview_is (judged c.args.source.now) c.in_ok-program.program c.in_ok-program.ensures) c.overview_of.ensures
