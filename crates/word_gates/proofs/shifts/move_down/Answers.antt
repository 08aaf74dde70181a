use Rattle.std.proofs.Common.{◌≡◌, ◌<◌, ◌++◌, ◌∙◌, ap, arith, length}
use Rattle.word_gates.proofs.ShiftLemmas.{stage-fits, down-start, down-more, down-whole}
use Rattle.word_gates.proofs.shifts.move_down.Goals as goal

pub stages-init : goal.stages-init
stages-init c = down-start c.args.gates.now c.args.a.now c.args.by.now _ c.args.fill.now (c.in_ok-extend_from_slice.ensures.ok ∙ ap (λ t. t ++ c.args.a.now) c.no_bits-word.ensures) c.requires.a

pub move_down_if-requires-clause-by : goal.move_down_if-requires-clause-by
move_down_if-requires-clause-by c = stage-fits c.power.result c.stages.stage c.args.stages (length c.args.a.now) (length c.as_slice.result.now) c.power.ensures c.stages-test.true c.requires.width (ap length c.as_slice.ensures ∙ c.stages.invariant.width)

pub stages-preserved : goal.stages-preserved
stages-preserved c =
    let within : c.stages.stage < length c.args.by.now = omega arith in
    down-more c.args.gates.now c.stages.gates _ c.args.a.now c.args.by.now c.stages.word c.as_slice.result.now _ c.args.fill.now c.stages.stage c.power.result c.index-by-place.result within c.index-by-place.is c.power.ensures c.stages.invariant c.as_slice.ensures c.in_ok-word.ensures

pub returns : goal.returns
returns c =
    let at_end : c.stages.stage ≡ c.args.stages = omega arith in
    down-whole c.args.gates.now c.stages.gates c.args.a.now c.args.by.now c.stages.word c.args.fill.now c.stages.stage c.args.stages at_end c.stages.invariant
