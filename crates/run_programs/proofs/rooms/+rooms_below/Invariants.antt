use Rattle.run_programs.proofs.rooms.+rooms_below.Given as goal

abbrev pub decreases-rooms_below : goal.decreases-rooms_below
decreases-rooms_below l = l.left
