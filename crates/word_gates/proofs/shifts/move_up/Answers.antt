use Rattle.std.proofs.Common.{◌≡◌, ◌<◌, ◌++◌, ◌∙◌, ap, arith, length}
use Rattle.word_gates.proofs.ShiftLemmas.{stage-fits, up-start, up-more, up-whole}
use Rattle.word_gates.proofs.shifts.move_up.Goals as goal

pub stages-init : goal.stages-init
stages-init c = up-start c.args.gates.now c.args.a.now c.args.by.now _ (c.in_ok-extend_from_slice.ensures.ok ∙ ap (λ t. t ++ c.args.a.now) c.no_bits-word.ensures) c.requires.a

pub move_up_if-requires-clause-by : goal.move_up_if-requires-clause-by
move_up_if-requires-clause-by c = stage-fits c.power.result c.stages.stage c.args.stages (length c.args.a.now) (length c.as_slice.result.now) c.power.ensures c.stages-test.true c.requires.width (ap length c.as_slice.ensures ∙ c.stages.invariant.width)

pub stages-preserved : goal.stages-preserved
stages-preserved c =
    let within : c.stages.stage < length c.args.by.now = omega arith in
    up-more c.args.gates.now c.stages.gates _ c.args.a.now c.args.by.now c.stages.word c.as_slice.result.now _ c.stages.stage c.power.result c.index-by-place.result within c.index-by-place.is c.power.ensures c.stages.invariant c.as_slice.ensures c.in_ok-word.ensures

pub returns : goal.returns
returns c =
    let at_end : c.stages.stage ≡ c.args.stages = omega arith in
    up-whole c.args.gates.now c.stages.gates c.args.a.now c.args.by.now c.stages.word c.stages.stage c.args.stages at_end c.stages.invariant
