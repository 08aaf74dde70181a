use Rattle.std.proofs.Common.{◌≡◌, ℕ, ◌<◌, List, [], false, length, drop, sym, ap, ◌∙◌}
use Rattle.std.proofs.Math.Seq.{drop-cons}
use Rattle.std.proofs.lemmas.List.{nil_from_length}
use Rattle.printf_text.specs.declared.kind.Kind.{Kind}
use Rattle.printf_text.specs.declared.kind.Kind.TheVariants as kind
use Rattle.c_means.specs.Checks.{are_of_kinds}
use Rattle.c_checks.proofs.calls.are_of_kinds.Goals as goal

short : (ks : List Kind) (i : ℕ) → i < length ks → are_of_kinds (drop i ks) [] ≡ false
short ks i h = ap (λ xs. are_of_kinds xs []) (drop-cons ks i kind.Integer h)

pub returns-in-None : goal.returns-in-None
returns-in-None c =
    sym (short c.args.kinds.now c.loop-kind.kind-index c.loop-kind-test.true)
    ∙ ap (are_of_kinds (drop c.loop-kind.kind-index c.args.kinds.now)) (sym (nil_from_length c.loop-kind.rest.now c.in-None.ensures.cases))
    ∙ c.loop-kind.invariant
