use Rattle.std.proofs.Common.{rules, nat_lt, sym, ap, ◌∙◌, subst}
use Rattle.std.specs.Ordering.{nat_cmp}
use Rattle.std.specs.List.Sorted.{IsStrictlySortedBy}
use Rattle.std.proofs.lemmas.List.Sorted.{IsPartitionPoint-from_clause}
use Rattle.c_means.specs.Runs.{place_in}
use Rattle.core_programs.proofs.OffsetLaws.{place_at, sorted_divides}
use Rattle.core_programs.proofs.places.PlaceTable.place.Goals as goal

-- src/places.rt:51:5
pub returns : goal.returns
returns c =
    place_at c.deref.result.now c.args.at c.partition_point.result
    (IsPartitionPoint-from_clause (λ y. nat_lt y c.args.at) _ _ c.partition_point.ensures.partitioned
    (sorted_divides c.deref.result.now c.args.at
    (subst (IsStrictlySortedBy nat_cmp) (sym c.deref.ensures.value) c.self.invariant))
    (λ a r q k. search rules)) c.partition_point.ensures.bound
    ∙ ap (λ xs. place_in xs c.args.at) (c.deref.ensures.value ∙ c.self.view_is)
