use Rattle.std.proofs.Common.{suc, ◌+◌, sym, ap, ◌∙◌, option_map, arith}
use Rattle.core_tree.specs.Codes.{code}
use Rattle.core_tree.specs.Values.{value}
use Rattle.core_running.specs.Frames.{env_of}
use Rattle.core_running.specs.Settings.{level}
use Rattle.code_steps.proofs.Places.{test_room, step_room}
use Rattle.run_codes.specs.Turns.{step_of}
use Rattle.run_codes.proofs.Turning.{turn_ends, turn_over, left_by_body, turned}
use Rattle.run_codes.proofs.below.Steps.turn.Goals as goal

pub returns-in-None-clause-turns : goal.returns-in-None-clause-turns
returns-in-None-clause-turns g c = λ n.
    turn_ends c.args.at (option_map value c.args.test.now) (code c.args.body.now) (step_of c.args.step.now)
    (level (g.L.Scene.setting c.args.self.now.scene.now)) (env_of c.args.frame.now) (suc n) _ _ _
    (rw c.in-None.is at c.in_ok-side.ensures.sides)

pub returns-in-Some-false-clause-turns : goal.returns-in-Some-false-clause-turns
returns-in-Some-false-clause-turns g c = λ n.
    turn_over c.args.at (option_map value c.args.test.now) (code c.args.body.now) (step_of c.args.step.now)
    (level (g.L.Scene.setting c.args.self.now.scene.now)) (env_of c.args.frame.now) (suc n) _ _ _
    (rw (c.in-Some-false.is, c.in-Some-false.field-0-test) at c.in_ok-side.ensures.sides)

pub returns-then-not-is_running-clause-turns : goal.returns-then-not-is_running-clause-turns
returns-then-not-is_running-clause-turns g c = λ n.
    left_by_body c.args.at (option_map value c.args.test.now) (code c.args.body.now) (step_of c.args.step.now)
    (level (g.L.Scene.setting c.args.self.now.scene.now)) (env_of c.args.frame.now) n c.args.base _ _ _ _ _
    (ap (λ k. c.args.base + k)
    (c.requires.turn.body_at ∙ sym (test_room (g.L.Scene.setting c.args.self.now.scene.now) c.args.test.now)))
    (rw (c.in-Some-true.is, c.in-Some-true.field-0-test) at c.in_ok-side.ensures.sides)
    c.in_ok-next.ensures.runs c.past_continue.ensures.goes (sym c.is_running.ensures ∙ c.if-not-is_running.true)

pub returns-clause-turns : goal.returns-clause-turns
returns-clause-turns g c =
    turned c.args.at (option_map value c.args.test.now) (code c.args.body.now) (step_of c.args.step.now)
    (level (g.L.Scene.setting c.args.self.now.scene.now)) (env_of c.args.frame.now) c.is_running-2.result c.args.base
    _ _ c.args.rooms.whole _ _ _ _ _ _
    (ap (λ k. c.args.base + k)
    (c.requires.turn.body_at ∙ sym (test_room (g.L.Scene.setting c.args.self.now.scene.now) c.args.test.now)))
    (omega (
      arith,
      c.in_ok-next.ensures.next,
      c.requires.turn.body_at,
      test_room (g.L.Scene.setting c.args.self.now.scene.now) c.args.test.now,
    ))
    (omega (
      arith,
      c.requires.turn.whole,
      test_room (g.L.Scene.setting c.args.self.now.scene.now) c.args.test.now,
      step_room (g.L.Scene.setting c.args.self.now.scene.now) c.args.step.now,
    ))
    c.in_ok-next.ensures.env
    (rw (c.in-Some-true.is, c.in-Some-true.field-0-test) at c.in_ok-side.ensures.sides)
    c.in_ok-next.ensures.runs c.past_continue.ensures.goes (sym c.is_running.ensures ∙ c.if-not-is_running.false)
    c.in_ok-step.ensures.runs c.is_running-2.ensures
