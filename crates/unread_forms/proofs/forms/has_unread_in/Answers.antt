use Rattle.std.proofs.Common.{◌||◌, ap, sym, ◌∙◌}
use Rattle.unread_forms.specs.Forms.{define_structures, shows_some}
use Rattle.unread_forms.specs.Needed.{kept}
use Rattle.unread_forms.proofs.forms.has_unread_in.Goals as goal

pub returns-then-defines : goal.returns-then-defines
returns-then-defines c =
    sym (ap (λ b. b || shows_some c.args.source.now.externals.now c.args.source.now.profile.now)
    (sym (rw (c.as_slice.ensures, c.in_ok-needed.ensures) at c.in_ok-defines.ensures) ∙ c.if-defines.true))

pub returns : goal.returns
returns c =
    c.in_ok-shows.ensures
    ∙ sym (ap (λ b. b || shows_some c.args.source.now.externals.now c.args.source.now.profile.now)
    (sym (rw (c.as_slice.ensures, c.in_ok-needed.ensures) at c.in_ok-defines.ensures) ∙ c.if-defines.false))
