use Rattle.std.proofs.Common.{[], ◌∷◌, ◌++◌, sym, ap, ◌∙◌, subst}
use Rattle.c_language.specs.Initials.{Filling}
use Rattle.c_language.specs.Scopes.{empty}
use Rattle.c_language.specs.Typing.{typed_in}
use Rattle.c_initials.specs.Filled.{Filled, filling_in}
use Rattle.core_declarations.specs.Pairing.{AreGrown, Holds}
use Rattle.core_declarations.proofs.Pairs.{added, source_of}
use Rattle.core_declarations.proofs.initials.and_next.Goals as goal

pub returns-clause-goes : goal.returns-clause-goes
returns-clause-goes c = λ numbering n h ns held.
    let f = c.args.found.filling in
    let s = c.args.scope.now in
    let x = c.args.x in
    subst (λ (g : Filled). Holds numbering (ns ++ n ∷ []) g.parts c.in_ok-paired.paired) c.filling.view_is
    (c.in_ok-paired.ensures numbering ns f.parts n
    (source_of numbering x n s c.is_literal.result h c.is_literal.ensures) h.after held
    (subst (AreGrown f.parts)
    (sym (ap (λ (g : Filled). g.parts) c.filling.view_is ∙ ap (λ (y : Filling). y.parts) c.in_ok-filling.ensures))
    (added (typed_in x.told s) (filling_in f empty))))
