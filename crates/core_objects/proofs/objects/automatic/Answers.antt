use Rattle.std.proofs.Common.{ap, ◌∙◌}
use Rattle.std.proofs.lemmas.Result.{IfOk-weaker}
use Rattle.core_objects.specs.Begun.{one_begun}
use Rattle.core_objects.proofs.DeclaredObjects.{automatic_begun}
use Rattle.core_objects.proofs.objects.automatic.Goals as goal

pub returns : goal.returns
returns c = λ numbering x s zeroed h.
    let i = c.args.initial in
    IfOk-weaker c.one_begun.result _ _ (λ y is. automatic_begun numbering c.args.entry.now c.args.bytes i.is_zeroed
    i.settings x s c.in_ok-code.code y c.in_ok-code.ensures
    (is ∙ ap (λ xs. one_begun c.in_ok-code.code xs) c.new.ensures) zeroed h) c.one_begun.ensures
