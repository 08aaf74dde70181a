use Rattle.std.proofs.Common.{◌≡◌, unsigned_abs, ap, ◌∙◌, ◌+◌, arith, rules, w64, to_z, of_z}
use Rattle.printf_text.specs.declared.kind.Kind.TheVariants as kind
use Rattle.printf_text.specs.declared.piece.Form.TheVariants as form
use Rattle.format_match.specs.Ways.{padded_end, formed_end, upto}
use Rattle.format_match.proofs.Padding.{all_paddings}
use Rattle.format_match.proofs.MetEnds.{sized_upto_none, sized_upto_more, sized_same, Adds-same}
use Rattle.format_match.proofs.forms.push_texts.Goals as goal

pub paddings-init : goal.paddings-init
paddings-init c = sized_upto_none c.args.sizes kind.Text (λ a padding. padded_end c.args.flags c.args.sizes c.args.slice.now c.args.end padding a) c.args.out.now

pub paddings-preserved : goal.paddings-preserved
paddings-preserved c =
    sized_upto_more c.args.sizes kind.Text (λ a padding. padded_end c.args.flags c.args.sizes c.args.slice.now c.args.end padding a) c.paddings.padding _ _ _ c.paddings.invariant c.in_ok-push_text.ensures

pub returns : goal.returns
returns c =
    let fits : to_z w64 (of_z w64 c.args.sizes.width.value) ≡ c.args.sizes.width.value = search rules in
    let n : c.paddings.padding ≡ c.most_padding-most.result + 1 = omega arith in
    Adds-same _ c.paddings.invariant
    (sized_same c.args.sizes kind.Text (λ a. upto (λ padding. padded_end c.args.flags c.args.sizes c.args.slice.now c.args.end padding a) c.paddings.padding) (formed_end c.args.flags form.Text c.args.sizes c.args.slice.now c.args.end)
    (λ a h. ap (upto (λ padding. padded_end c.args.flags c.args.sizes c.args.slice.now c.args.end padding a)) n
    ∙ all_paddings c.args.flags c.args.sizes c.args.slice.now c.args.end c.most_padding-most.result (λ e. c.most_padding-most.ensures.filled (ap unsigned_abs fits ∙ e)) a h))
