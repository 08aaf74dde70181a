use Rattle.run_programs.proofs.entry.+meet_places.Given as goal

abbrev pub decreases-meet_places : goal.decreases-meet_places
decreases-meet_places l = l.count
