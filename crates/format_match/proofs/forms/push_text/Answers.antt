use Rattle.std.proofs.Common.{◌≡◌, ◌<◌, Some, None, All, sym, ap, ◌∙◌, refl, arith, rules}
use Rattle.std.proofs.lemmas.List.Elements.{All-from_get_or}
use Rattle.printf_text.specs.declared.kind.Kind.TheVariants as kind
use Rattle.printf_text.specs.declared.piece.Arg.TheVariants as arg
use Rattle.format_match.specs.Ways.{padded_end, unpadded, text_ended}
use Rattle.format_match.specs.declared.split.Constraint.TheVariants.{Text}
use Rattle.format_match.proofs.Padding.{padded_prints, padded_cut, padded_not, unpadded_all, text_kind, text_met, ended_plain}
use Rattle.format_match.proofs.MetEnds.{sized_split, sized_none, Adds-one, Adds-nothing}
use Rattle.format_match.proofs.forms.push_text.Goals as goal

pub returns-in_default : goal.returns-in_default
returns-in_default c =
    let a = c.args in
    let none : unpadded a.flags a.sizes a.slice.now a.padding ≡ None = search rules in
    Adds-nothing _ _ (sized_none a.sizes kind.Text (padded_end a.flags a.sizes a.slice.now a.end a.padding) (padded_not a.flags a.sizes a.slice.now a.end a.padding none))

pub returns-in_default-text_ended : goal.returns-in_default-text_ended
returns-in_default-text_ended c =
    let a = c.args in
    let t = c.in-Some.text.now in
    let beside : unpadded a.flags a.sizes a.slice.now a.padding ≡ Some t = search rules in
    let none : text_ended a.sizes.precision.value t ≡ None = search rules in
    Adds-nothing _ _ (sized_none a.sizes kind.Text (padded_end a.flags a.sizes a.slice.now a.end a.padding) (padded_cut a.flags a.sizes a.slice.now a.end a.padding t c.requires.padding beside none))

pub returns : goal.returns
returns c =
    let a = c.args in
    let t = c.of-bytes.result in
    let ended = c.in-Some-text_ended.ended in
    let beside : unpadded a.flags a.sizes a.slice.now a.padding ≡ Some c.in-Some.text.now = search rules in
    let beside' : unpadded a.flags a.sizes a.slice.now a.padding ≡ Some t = beside ∙ ap Some (sym c.of-bytes.ensures) in
    let some : text_ended a.sizes.precision.value c.in-Some.text.now ≡ Some ended = search rules in
    let some' : text_ended a.sizes.precision.value t ≡ Some ended = ap (text_ended a.sizes.precision.value) c.of-bytes.ensures ∙ some in
    let bytes : All (λ b. b < 256) a.slice.now = All-from_get_or (λ b. b < 256) a.slice.now 0 (λ i h. omega (arith, c.type_inv.slice i)) in
    Adds-one _ _ _ c.in_ok-push_way.ensures
    (sized_split a.sizes kind.Text (padded_end a.flags a.sizes a.slice.now a.end a.padding) (Text t ended) a.end (arg.Text t) c.requires.held refl
    (text_kind t (ended_plain a.sizes.precision.value t ended some') (unpadded_all (λ b. b < 256) a.flags a.sizes a.slice.now t a.padding c.requires.padding beside' bytes))
    (text_met t ended)
    (padded_prints a.flags a.sizes a.slice.now a.end a.padding t c.requires.padding beside' ended some'))
