use Rattle.run_callees.proofs.callees.call_body.Goals as goal

pub returns-clause-runs : goal.returns-clause-runs
returns-clause-runs g c = λ o is. c.requires.bodies.runs _ _ _ _ _ _ _ _ c.body.ensures o is
