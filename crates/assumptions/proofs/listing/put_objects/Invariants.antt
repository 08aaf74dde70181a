use Rattle.std.proofs.Common.{◌≡◌, ◌++◌}
use Rattle.std.specs.Prelude.{map}
use Rattle.assumptions.specs.Assumed.{object}
use Rattle.assumptions.proofs.listing.put_objects.Given as goal

abbrev pub invariant-loop-name : goal.invariant-loop-name
invariant-loop-name l =
    l.all ++ map object (map (λ name. name.items) l.name-iterator)
    ≡ l.fn.all ++ map object (map (λ name. name.items) l.names.keys)
