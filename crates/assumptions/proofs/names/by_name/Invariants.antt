use Rattle.std.proofs.Common.{◌≡◌, drop}
use Rattle.std.specs.Prelude.{map, fold}
use Rattle.std.specs.Ordering.{nat_cmp}
use Rattle.std.specs.Cmp.Lexicographic.{slice_cmp}
use Rattle.std.specs.BTreeSet.{insert_key}
use Rattle.assumptions.specs.Assumed.{by_name}
use Rattle.assumptions.proofs.names.by_name.Given as goal

abbrev pub invariant-loop-name : goal.invariant-loop-name
invariant-loop-name l =
    fold (insert_key (slice_cmp nat_cmp)) (map (λ name. name.items) l.set.keys) (drop l.name-index l.names)
    ≡ by_name l.names
