use Rattle.std.proofs.Common.{◌≡◌, true, false, refl, sym, ◌∙◌, rules}
use Rattle.printf_text.specs.Texts.{form_kind}
use Rattle.printf_text.specs.declared.piece.Arg.TheVariants as arg
use Rattle.format_match.specs.Ways.{formed_end}
use Rattle.format_match.specs.declared.split.Constraint.TheVariants.{Equal}
use Rattle.format_match.proofs.Printing.{word_added, word_left_out, word_met, word_kind}
use Rattle.format_match.proofs.MetEnds.{sized_split, sized_none, Adds-one, Adds-nothing}
use Rattle.format_match.proofs.forms.push_integer.Goals as goal

pub prints-requires : goal.prints-requires
prints-requires c = word_kind c.args.form c.word_read-bits.result c.form_width-width.result c.requires.integer c.form_width-width.ensures c.word_read-bits.ensures.below

pub returns : goal.returns
returns c =
    let a = c.args in
    let n = c.word_read-bits.result in
    let w = c.form_width-width.result in
    let printed : c.in_ok-prints.field-0 ≡ true = search rules in
    Adds-one _ _ _ c.in_ok-push_way.ensures
    (sized_split a.sizes (form_kind a.form) (formed_end a.flags a.form a.sizes a.slice.now a.end) (Equal n w) a.end (arg.Word n w false) c.requires.held refl
    (word_kind a.form n w c.requires.integer c.form_width-width.ensures c.word_read-bits.ensures.below)
    (word_met a.flags a.form a.sizes a.slice.now a.end n w c.requires.integer c.form_width-width.ensures c.word_read-bits.ensures.below c.word_read-bits.ensures.value)
    (word_added a.flags a.form a.sizes a.slice.now a.end n w c.requires.integer c.form_width-width.ensures c.word_read-bits.ensures.below c.word_read-bits.ensures.value (sym c.in_ok-prints.ensures ∙ printed)))

pub returns-then-not-branch : goal.returns-then-not-branch
returns-then-not-branch c =
    let a = c.args in
    let printed : c.in_ok-prints.field-0 ≡ false = search rules in
    Adds-nothing _ _
    (sized_none a.sizes (form_kind a.form) (formed_end a.flags a.form a.sizes a.slice.now a.end)
    (word_left_out a.flags a.form a.sizes a.slice.now a.end c.word_read-bits.result c.form_width-width.result c.requires.integer c.form_width-width.ensures c.word_read-bits.ensures.below c.word_read-bits.ensures.value (sym c.in_ok-prints.ensures ∙ printed)))
