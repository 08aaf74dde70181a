use Rattle.std.proofs.Common.{[], ◌∷◌, Err, sym, ap, ◌∙◌, refl, subst}
use Rattle.c_language.specs.Initials.{Filling}
use Rattle.c_initials.specs.Filled.{Filled}
use Rattle.core_declarations.specs.declared.pairing.Paired.{Paired}
use Rattle.core_declarations.specs.Pairing.{AreGrown, Holds}
use Rattle.core_declarations.proofs.Pairs.{none_held, source_of}
use Rattle.core_declarations.proofs.initials.as_whole.Goals as goal

pub returns-clause-goes : goal.returns-clause-goes
returns-clause-goes c = λ numbering n h.
    let s = c.args.scope.now in
    let x = c.args.x in
    subst (λ (g : Filled). Holds numbering (n ∷ []) g.parts c.in_ok-paired.paired) c.filling.view_is
    (c.in_ok-paired.ensures numbering [] [] n
    (source_of numbering x n s c.is_literal.result h c.is_literal.ensures) h.after
    (subst (λ (y : Paired). Holds numbering [] [] y) (sym c.none_paired.ensures) (none_held numbering))
    (subst (AreGrown [])
    (sym (ap (λ (g : Filled). g.parts) c.filling.view_is ∙ ap (λ (y : Filling). y.parts) c.in_ok-filling.ensures))
    (Err (record { part = c.args.whole; is = refl }))))
