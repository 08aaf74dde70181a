use Rattle.std.proofs.Common.{[], ◌∷◌, ◌++◌, Some, sym, ap, ◌∙◌, subst}
use Rattle.std.proofs.lemmas.Result.{IfOk-weaker}
use Rattle.std.specs.Option.{option_copied}
use Rattle.std.specs.Prelude.{slice_get}
use Rattle.c_language.specs.Scopes.{Scope}
use Rattle.core_declarations.specs.Pairing.{Holds}
use Rattle.core_declarations.proofs.Pairs.{held_count, last_held, no_more, one_more, waits_held}
use Rattle.core_declarations.proofs.pairing.and_source.Goals as goal

pub returns-in-None : goal.returns-in-None
returns-in-None c = λ numbering ns ps n h after held grown.
    let qs = c.args.parts.now in
    let x = c.args.paired in
    let s = c.args.scope.now in
    let same = no_more ps qs grown (ap (slice_get qs) (sym (c.len.ensures ∙ held_count numbering ns ps x held))
    ∙ sym c.get.ensures.value ∙ ap option_copied c.in-None.is)
    in
    IfOk-weaker c.waits.result _ _ (λ y is. subst (λ ps. Holds numbering (ns ++ n ∷ []) ps y) (sym same)
    (subst (λ y. Holds numbering (ns ++ n ∷ []) ps y) (sym is)
    (waits_held numbering ns ps x s c.args.source n held h after))) c.waits.ensures

pub returns-then-is_empty : goal.returns-then-is_empty
returns-then-is_empty c = λ numbering ns ps n h after held grown.
    let qs = c.args.parts.now in
    let x = c.args.paired in
    let s = c.args.scope.now in
    let p = c.get-then-is_empty.result.now in
    let more = one_more ps qs p grown (ap (slice_get qs) (sym (c.len.ensures ∙ held_count numbering ns ps x held))
    ∙ sym c.get.ensures.value ∙ ap option_copied c.in-Some.is ∙ ap (λ q. Some q) (sym c.get-then-is_empty.ensures))
    in
    IfOk-weaker c.with_part.result _ _ (λ y has. subst (λ ps. Holds numbering (ns ++ n ∷ []) ps y) (sym more)
    (last_held numbering ns ps x s c.args.source n p y held h after (c.is_empty.ensures.0 c.if-is_empty.true)
    (λ m i a. has numbering m i (c.tables.ensures ∙ ap (λ (s : Scope). s.tables) a)))) c.with_part.ensures

pub returns-else-is_empty : goal.returns-else-is_empty
returns-else-is_empty c = λ numbering ns ps n h after held grown.
    let qs = c.args.parts.now in
    let x = c.args.paired in
    let p = c.get-else-is_empty.result.now in
    let more = one_more ps qs p grown (ap (slice_get qs) (sym (c.len.ensures ∙ held_count numbering ns ps x held))
    ∙ sym c.get.ensures.value ∙ ap option_copied c.in-Some.is ∙ ap (λ q. Some q) (sym c.get-else-is_empty.ensures))
    in
    IfOk-weaker c.first_with_part.result _ _ (λ y k. subst (λ ps. Holds numbering (ns ++ n ∷ []) ps y) (sym more) k)
    (c.first_with_part.ensures numbering ns ps n h after held)
