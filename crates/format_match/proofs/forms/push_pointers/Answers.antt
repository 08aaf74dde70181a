use Rattle.std.proofs.Common.{◌++◌, ◌∙◌}
use Rattle.printf_text.specs.declared.kind.Kind.TheVariants as kind
use Rattle.printf_text.specs.declared.piece.Form.TheVariants as form
use Rattle.format_match.specs.Ways.{formed_end, null_end, shown_end}
use Rattle.format_match.proofs.Printing.{null_or_shown}
use Rattle.format_match.proofs.MetEnds.{sized_same, sized_append, Adds-same, Adds-both}
use Rattle.format_match.proofs.forms.push_pointers.Goals as goal

pub returns : goal.returns
returns c =
    let a = c.args in
    Adds-same _ (Adds-both c.in_ok-push_null.ensures c.in_ok-push_shown.ensures)
    (λ args h. sized_append a.sizes (null_end a.flags a.sizes a.slice.now a.end) (shown_end a.flags a.sizes a.slice.now a.end) args
    ∙ sized_same a.sizes kind.Pointer (λ x. null_end a.flags a.sizes a.slice.now a.end x ++ shown_end a.flags a.sizes a.slice.now a.end x) (formed_end a.flags form.Pointer a.sizes a.slice.now a.end)
    (null_or_shown a.flags a.sizes a.slice.now a.end) args h)
