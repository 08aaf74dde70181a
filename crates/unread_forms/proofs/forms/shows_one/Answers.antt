use Rattle.std.proofs.Common.{ap, sym, ◌∙◌}
use Rattle.unread_forms.specs.Forms.{shows_by}
use Rattle.unread_forms.proofs.forms.shows_one.Goals as goal

pub returns-in_ok-asked-in-Ok : goal.returns-in_ok-asked-in-Ok
returns-in_ok-asked-in-Ok c =
    (rw (c.as_slice-in-Ok.ensures, c.in_ok-asked-in-Ok.ensures) at c.some_is_text_or_pointer.ensures)
    ∙ ap shows_by (sym (rw c.as_slice.ensures at c.in-Ok.ensures.ok))
