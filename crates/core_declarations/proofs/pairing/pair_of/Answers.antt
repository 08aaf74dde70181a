use Rattle.std.proofs.Common.{sym, ap, ◌∙◌, subst}
use Rattle.std.proofs.lemmas.Result.{IfOk-weaker}
use Rattle.std.specs.Prelude.{◌&&◌}
use Rattle.c_language.specs.Types.{element_of}
use Rattle.c_language.specs.declared.ctype.CType.{CType}
use Rattle.c_language.specs.Initials.{Part, is_byte_type}
use Rattle.core_declarations.specs.Pairing.{IsPair}
use Rattle.core_declarations.proofs.Pairs.{text_is_set, value_is_set}
use Rattle.core_declarations.proofs.pairing.pair_of.Goals as goal

pub returns-then-whole_text : goal.returns-then-whole_text
returns-then-whole_text c = λ numbering n h t.
    let p = c.args.part.now in
    let x = c.args.source in
    let whole = sym (c.in_ok-whole_text.ensures
    ∙ ap (λ (t : CType). x.is_literal && is_byte_type (element_of t)) (c.get.ensures ∙ ap (λ (p : Part). p.type) c.part.view_is))
    ∙ c.if-whole_text.true
    in
    IfOk-weaker c.text_pair.result _ _ (λ y is. subst (λ y. IsPair numbering y p n) (sym is)
    (text_is_set numbering c.args.tables.now p n x h t whole)) c.text_pair.ensures

pub returns-else-whole_text : goal.returns-else-whole_text
returns-else-whole_text c = λ numbering n h t.
    let p = c.args.part.now in
    let x = c.args.source in
    let other = sym (c.in_ok-whole_text.ensures
    ∙ ap (λ (t : CType). x.is_literal && is_byte_type (element_of t)) (c.get.ensures ∙ ap (λ (p : Part). p.type) c.part.view_is))
    ∙ c.if-whole_text.false
    in
    IfOk-weaker c.value_pair.result _ _ (λ y is. subst (λ y. IsPair numbering y p n) (sym is)
    (value_is_set numbering c.args.tables.now p n x h t other)) c.value_pair.ensures
