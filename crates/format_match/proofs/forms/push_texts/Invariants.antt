use Rattle.format_match.specs.Ways.{Adds, sizes_kinds, sizes_marks, sized_ends, padded_end, upto}
use Rattle.printf_text.specs.declared.piece.Form.TheVariants as form
use Rattle.format_match.proofs.forms.push_texts.Given as goal

abbrev pub invariant-paddings : goal.invariant-paddings
invariant-paddings l =
    Adds (sizes_kinds l.sizes form.Text) (sizes_marks l.sizes) (sized_ends l.sizes (λ a. upto (λ padding. padded_end l.flags l.sizes l.slice l.end padding a) l.padding)) l.fn.out l.out
