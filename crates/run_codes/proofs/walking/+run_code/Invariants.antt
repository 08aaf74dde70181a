use Rattle.run_codes.proofs.walking.+run_code.Given as goal

abbrev pub decreases-run_code : goal.decreases-run_code
decreases-run_code g l = l.here.now.height
