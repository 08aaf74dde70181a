use Rattle.std.proofs.Common.{ap, ◌∙◌}
use Rattle.c_item_notes.specs.Levels.{judged}
use Rattle.c_program_notes.specs.declared.whole.Overview.{Overview}
use Rattle.unread_forms.specs.Needed.{kept_noted}
use Rattle.unread_forms.proofs.SameNeeded.{kept_in}
use Rattle.unread_forms.proofs.needed.kept.Goals as goal

pub returns : goal.returns
returns c =
    rw (c.as_slice.ensures, c.as_slice-2.ensures, c.as_slice-3.ensures) at c.in_ok-found.ensures
    ∙ ap (λ (o : Overview). kept_noted o.words o.reached o.program.outers c.args.source.now.externals.now) c.requires
    ∙ kept_in (judged c.args.source.now)
