use Rattle.run_callees.proofs.answers.+meet_all.Given as goal

abbrev pub decreases-meet_all : goal.decreases-meet_all
decreases-meet_all l = l.count
