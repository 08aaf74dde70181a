use Rattle.std.proofs.lemmas.Result.{IfOk-weaker}
use Rattle.core_objects.proofs.DeclaredObjects.{lasting_begun}
use Rattle.core_objects.proofs.objects.lasting.Goals as goal

pub returns : goal.returns
returns g c = λ at bytes k x s h.
    let n = g.P.Places.numbering c.args.places.now in
    IfOk-weaker c.one_begun.result _ _ (λ y is. lasting_begun n at c.args.entry.now bytes k c.args.is_defined
    c.args.initial x s c.place-place.result c.in_ok-code.code c.in_ok-settings.settings y c.place-place.ensures
    c.in_ok-settings.ensures c.in_ok-code.ensures is h) c.one_begun.ensures
