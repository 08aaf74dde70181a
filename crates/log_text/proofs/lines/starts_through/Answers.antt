use Rattle.std.proofs.Common.{rules, of_calls, nat_le, sym}
use Rattle.std.proofs.lemmas.List.Sorted.{IsPartitionedBy-leb, IsPartitionPoint-from_clause}
use Rattle.log_text.proofs.LineLemmas.{counted_to}
use Rattle.log_text.proofs.lines.starts_through.Goals as goal

pub returns : goal.returns
returns c =
    let xs = c.args.starts.now in
    let at = c.args.position in
    let i = c.partition_point.result in
    sym (counted_to (λ s. nat_le s at) xs i c.partition_point.ensures.bound
    (IsPartitionPoint-from_clause (λ s. nat_le s at) xs i c.partition_point.ensures.partitioned
    (IsPartitionedBy-leb (λ s. s) xs at c.requires) (λ a r f h. search (rules, of_calls))))
