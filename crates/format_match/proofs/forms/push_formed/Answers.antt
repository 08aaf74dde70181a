use Rattle.std.proofs.Common.{◌≡◌, [], ◌∷◌, length, cond, sym, ap, ◌∙◌, rules, w64, to_z, of_z, ltb}
use Rattle.std.specs.Int.RustNames.{unsigned_abs}
use Rattle.std.proofs.lemmas.Bool.{ltb-true}
use Rattle.printf_text.specs.Texts.{form_kind}
use Rattle.format_match.specs.Ways.{formed_end}
use Rattle.format_match.proofs.MetEnds.{sized_none, Adds-nothing}
use Rattle.format_match.proofs.Padding.{too_wide}
use Rattle.format_match.proofs.forms.push_formed.Goals as goal

pub returns-then-is_wider : goal.returns-then-is_wider
returns-then-is_wider c =
    let a = c.args in
    let fits : to_z w64 (of_z w64 a.sizes.width.value) ≡ a.sizes.width.value = search rules in
    let wide = ltb-true _ _ (ap (λ z. ltb (length a.slice.now) (unsigned_abs z)) (sym fits) ∙ sym c.is_wider.ensures ∙ c.if-is_wider.true) in
    Adds-nothing _ _
    (sized_none a.sizes (form_kind a.form) (formed_end a.flags a.form a.sizes a.slice.now a.end)
    (λ x k. ap (λ b. cond b (a.end ∷ []) []) (too_wide a.flags a.form a.sizes x a.slice.now wide)))
