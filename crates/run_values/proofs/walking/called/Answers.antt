use Rattle.run_values.proofs.walking.called.Goals as goal

pub returns-clause-runs : goal.returns-clause-runs
returns-clause-runs g c = λ o is. c.requires.calls.runs _ _ _ _ _ _ _ _ _ _ c.call.ensures o is
