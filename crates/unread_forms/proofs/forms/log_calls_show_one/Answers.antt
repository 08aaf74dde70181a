use Rattle.std.proofs.Common.{sym, ◌∙◌}
use Rattle.std.proofs.lemmas.List.Sorted.{list_any-IsPermutation}
use Rattle.source_sites.specs.Sites.{program_sites}
use Rattle.c_means.specs.Units.{least, machine_of, silent}
use Rattle.unread_forms.specs.Forms.{shows_some, shows_text_or_pointer}
use Rattle.unread_forms.proofs.forms.log_calls_show_one.Goals as goal

pub returns : goal.returns
unfolding shows_some
returns c =
    let source = c.args.source.now in
    (rw c.as_slice.ensures at c.in_ok-shows.ensures)
    ∙ sym (list_any-IsPermutation shows_text_or_pointer
    (program_sites (machine_of source.externals.now source.profile.now silent least 1)) c.in_ok-found.found
    c.in_ok-found.ensures.same)
