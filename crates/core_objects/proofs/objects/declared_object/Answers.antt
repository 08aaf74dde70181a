use Rattle.std.proofs.Common.{[], ◌∷◌, Some, ap, ◌∙◌, subst}
use Rattle.std.proofs.lemmas.Result.{IfOk-weaker}
use Rattle.c_language.specs.declared.scope.Duration.TheVariants as duration
use Rattle.c_language.specs.declared.scope.Means.TheVariants as means
use Rattle.c_means.specs.Values.{bytes_of}
use Rattle.c_means.specs.Statements as statements
use Rattle.core_objects.specs.Begun.{IsBegun}
use Rattle.core_objects.specs.Given.{IsInitial}
use Rattle.core_objects.proofs.DeclaredObjects.{means_begun, nothing_is}
use Rattle.core_objects.proofs.objects.declared_object.Goals as goal

pub returns-in-Automatic : goal.returns-in-Automatic
returns-in-Automatic g c = λ at x h.
    let n = g.P.Places.numbering c.args.places.now in
    let en = c.args.entry.now in
    let s = c.args.scope.now in
    let m = means.Object c.in-Object.ctype duration.Automatic c.in-Object.linkage in
    let is = c.in-Object.is ∙ ap (λ d. means.Object c.in-Object.ctype d c.in-Object.linkage) c.in-Automatic.is in
    let i = subst (λ m. IsInitial m n c.args.initial x) is h in
    IfOk-weaker c.automatic.result _ _ (λ y k. means_begun n at en m c.args.is_defined x s y is
    (subst (λ b. IsBegun n y (statements.automatic en b x s) s)
    (c.bytes_of-bytes.ensures ∙ ap (λ t. bytes_of t (Some c.get.result.now)) c.tables.ensures
    ∙ ap (λ t. bytes_of s.tables (Some t)) c.get.ensures) k))
    (c.automatic.ensures n x s i.zeroed i.given)

pub returns-in-Static : goal.returns-in-Static
returns-in-Static g c = λ at x h.
    let n = g.P.Places.numbering c.args.places.now in
    let en = c.args.entry.now in
    let s = c.args.scope.now in
    let m = means.Object c.in-Object.ctype duration.Static c.in-Object.linkage in
    let is = c.in-Object.is ∙ ap (λ d. means.Object c.in-Object.ctype d c.in-Object.linkage) c.in-Static.is in
    let i = subst (λ m. IsInitial m n c.args.initial x) is h in
    IfOk-weaker c.lasting.result _ _ (λ y k. means_begun n at en m c.args.is_defined x s y is k)
    (c.lasting.ensures at (bytes_of s.tables (Some c.in-Object.ctype)) c.in-Object.linkage x s i.given)

pub returns-in-Function : goal.returns-in-Function
returns-in-Function g c = λ at x h.
    let n = g.P.Places.numbering c.args.places.now in
    let en = c.args.entry.now in
    means_begun n at en (means.Function c.in-Function.ctype c.in-Function.linkage) c.args.is_defined x c.args.scope.now
    c.nothing_begun.result c.in-Function.is
    (nothing_is n (en.name ∷ []) c.args.scope.now c.nothing_begun.result c.nothing_begun.ensures)

pub returns-in-Typedef : goal.returns-in-Typedef
returns-in-Typedef g c = λ at x h.
    let n = g.P.Places.numbering c.args.places.now in
    means_begun n at c.args.entry.now (means.Typedef c.in-Typedef.ctype) c.args.is_defined x c.args.scope.now
    c.nothing_begun-in-Typedef.result c.in-Typedef.is
    (nothing_is n [] c.args.scope.now c.nothing_begun-in-Typedef.result c.nothing_begun-in-Typedef.ensures)

pub returns-in-Constant : goal.returns-in-Constant
returns-in-Constant g c = λ at x h.
    let n = g.P.Places.numbering c.args.places.now in
    means_begun n at c.args.entry.now (means.Constant c.in-Constant.value) c.args.is_defined x c.args.scope.now
    c.nothing_begun-in-Constant.result c.in-Constant.is
    (nothing_is n [] c.args.scope.now c.nothing_begun-in-Constant.result c.nothing_begun-in-Constant.ensures)

pub returns-in-Faulty : goal.returns-in-Faulty
returns-in-Faulty g c = λ at x h.
    let n = g.P.Places.numbering c.args.places.now in
    means_begun n at c.args.entry.now means.Faulty c.args.is_defined x c.args.scope.now
    c.nothing_begun-in-Faulty.result c.in-Faulty.is
    (nothing_is n [] c.args.scope.now c.nothing_begun-in-Faulty.result c.nothing_begun-in-Faulty.ensures)
