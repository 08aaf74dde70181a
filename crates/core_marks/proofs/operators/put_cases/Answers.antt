use Rattle.std.proofs.Common.{get_or, pos}
use Rattle.std.proofs.lemmas.List.{get_or_default}
use Rattle.plain_data.specs.declared.run.Side.TheVariants.{Case}
use Rattle.core_marks.specs.Marks.{one_side}
use Rattle.core_marks.proofs.Loops as loops
use Rattle.core_marks.proofs.operators.put_cases.Goals as goal

pub cases-init : goal.cases-init
cases-init c = loops.begins (λ z. one_side c.args.at (Case z)) c.args.cases.now c.args.out.now

pub cases-preserved : goal.cases-preserved
cases-preserved c =
    let cases = c.args.cases.now in
    let i = c.cases.value-index in
    let z = get_or cases i (pos 0) in
    loops.goes_on (λ z. one_side c.args.at (Case z)) cases i z c.args.out.now c.cases.out c.put_case.new.out c.cases-test.true
    (get_or_default cases i (pos 0) z c.cases-test.true) c.in_ok-put_case.ensures c.cases.invariant

pub returns : goal.returns
returns c =
    loops.ends (λ z. one_side c.args.at (Case z)) c.args.cases.now c.cases.value-index c.args.out.now c.cases.out c.cases-test.false c.cases.invariant
