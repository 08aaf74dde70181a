use Rattle.std.proofs.Common.{arith, ap, ◌∙◌, FitsSigned, ℤ, to_z, of_z}
use Rattle.std.specs.Int.{w64, w128}
use Rattle.std.proofs.lemmas.Int.{ints, to_z-of_z}
use Rattle.path_prints.proofs.ConditionLemmas.{word_made}
use Rattle.path_prints.proofs.conditions.signed_word.Goals as goal

pub returns : goal.returns
returns c =
    let fits : FitsSigned w128 c.args.value = record { sfits = omega (arith, ints, c.ranges.value.sfits) } in
    let wide : ℤ → ℤ = λ z. to_z w128 (of_z w128 z) in
    word_made c.args.bank.now c.word.new.self c.wrap.result c.args.value _ c.in_ok-node.node c.wrap.ensures.value
    (ap wide c.from.ensures ∙ ap wide (to_z-of_z w64 c.args.value c.ranges.value) ∙ to_z-of_z w128 c.args.value fits) c.in_ok-node.ensures
