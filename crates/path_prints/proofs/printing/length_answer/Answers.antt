use Rattle.std.proofs.Common.{pos, arith, ap, ◌∙◌, FitsSigned, to_z, of_z}
use Rattle.std.specs.Int.{w128}
use Rattle.std.proofs.lemmas.Int.{ints, to_z-of_z}
use Rattle.path_prints.proofs.PrintLemmas.{answers_length}
use Rattle.path_prints.proofs.printing.length_answer.Goals as goal

pub returns : goal.returns
returns c =
    let fits : FitsSigned w128 (pos c.args.length) = record { sfits = omega (arith, ints, c.ranges.length.fits) } in
    answers_length c.args.bank.now c.constant.new.bank c.wrapped.new.bank c.converted.new.bank c.in_ok-count.count c.in_ok-short.short c.in_ok-last.last
    c.args.to _ c.args.length (ap (λ z. to_z w128 (of_z w128 z)) c.from.ensures ∙ to_z-of_z w128 (pos c.args.length) fits) c.in_ok-count.ensures
    c.in_ok-short.ensures c.in_ok-last.ensures
