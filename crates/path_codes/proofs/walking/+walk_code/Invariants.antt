use Rattle.path_codes.proofs.walking.+walk_code.Given as goal

abbrev pub decreases-walk_code : goal.decreases-walk_code
decreases-walk_code g l = l.height
