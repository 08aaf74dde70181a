use Rattle.std.proofs.Common.{refl, negsuc}
use Rattle.format_match.proofs.StarLaws.{held_by}
use Rattle.format_match.proofs.stars.push_no_precision.Goals as goal

pub push_sizes-requires : goal.push_sizes-requires
push_sizes-requires c = record { width = c.requires; precision = held_by (negsuc 0) (negsuc 2147483647) (negsuc 0) refl refl }
