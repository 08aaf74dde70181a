use Rattle.std.proofs.Common.{sym, ◌∙◌}
use Rattle.core_tree.specs.Codes.{code}
use Rattle.core_tree.specs.Values.{value}
use Rattle.core_running.specs.Frames.{env_of}
use Rattle.core_running.specs.Settings.{level}
use Rattle.run_codes.proofs.Turning.{round_left, round_ends, rounded}
use Rattle.run_codes.proofs.below.Steps.round.Goals as goal

pub returns-then-not-is_running-clause-turns : goal.returns-then-not-is_running-clause-turns
returns-then-not-is_running-clause-turns g c = λ n.
    round_left c.args.at (code c.args.body.now) (value c.args.test.now)
    (level (g.L.Scene.setting c.args.self.now.scene.now)) (env_of c.args.frame.now) n c.args.base _ _ _
    c.in_ok-next.ensures.runs c.past_continue.ensures.goes (sym c.is_running.ensures ∙ c.if-not-is_running.true)

pub returns-in-None-clause-turns : goal.returns-in-None-clause-turns
returns-in-None-clause-turns g c = λ n.
    round_ends c.args.at (code c.args.body.now) (value c.args.test.now)
    (level (g.L.Scene.setting c.args.self.now.scene.now)) (env_of c.args.frame.now) n c.args.base _ _ _ _ _ _
    c.in_ok-next.ensures.next c.in_ok-next.ensures.env c.in_ok-next.ensures.runs c.past_continue.ensures.goes
    (sym c.is_running.ensures ∙ c.if-not-is_running.false) (rw c.in-None.is at c.in_ok-side_of.ensures.sides)

pub returns-in-Some-clause-turns : goal.returns-in-Some-clause-turns
returns-in-Some-clause-turns g c =
    rounded c.args.at (code c.args.body.now) (value c.args.test.now)
    (level (g.L.Scene.setting c.args.self.now.scene.now)) (env_of c.args.frame.now) c.in-Some.side c.args.base
    _ c.args.whole _ _ _ _ _
    c.in_ok-next.ensures.next c.requires.round c.in_ok-next.ensures.env c.in_ok-next.ensures.runs
    c.past_continue.ensures.goes (sym c.is_running.ensures ∙ c.if-not-is_running.false)
    (rw c.in-Some.is at c.in_ok-side_of.ensures.sides)
