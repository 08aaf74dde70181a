use Rattle.std.proofs.Common.{◌≡◌, drop}
use Rattle.std.specs.List.{list_any}
use Rattle.unread_forms.specs.Forms.{shows_text_or_pointer}
use Rattle.unread_forms.proofs.forms.some_shows_one.Given as goal

abbrev pub invariant-loop-site : goal.invariant-loop-site
invariant-loop-site l = list_any shows_text_or_pointer (drop l.site-index l.sites) ≡ list_any shows_text_or_pointer l.sites
