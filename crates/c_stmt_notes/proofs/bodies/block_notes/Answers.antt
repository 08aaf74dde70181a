use Rattle.std.proofs.Common.{List, None, false, ap₂, ◌∙◌}
use Rattle.std.proofs.lemmas.Result.{IfOk-weaker}
use Rattle.c_means.specs.Items.{Label}
use Rattle.c_means.specs.Statements.{stmt}
use Rattle.c_item_notes.specs.Levels.{judged}
use Rattle.c_item_notes.specs.ItemTellings.{summed}
use Rattle.c_stmt_notes.proofs.bodies.block_notes.Goals as goal

pub returns : goal.returns
returns c =
    IfOk-weaker c.content_notes.result _ _ (λ n h. h
    ∙ ap₂ (λ (own : List Label) (every : List Label).
    summed (judged c.args.source.now) ((stmt c.args.block.now).content (record {
      scope = c.args.scope.now;
      labels = own;
      every = every;
      breaks = false;
      continues = false;
      chooses = None;
      result = c.args.returned.now;
    }))) (c.in_ok-labels.ensures ∙ c.in_ok-own.ensures) (c.as_slice.ensures ∙ c.in_ok-every.ensures)) c.content_notes.ensures
