use Rattle.std.proofs.Common.{ℕ, ◌≡◌, ◌<◌, ◌≤◌, min, length, arith}
use Rattle.std.proofs.lemmas.List.{take_all, take_more}
use Rattle.term_bank.specs.declared.sort.Node.{Node}
use Rattle.term_bank.specs.declared.sort.Sort.TheVariants.{Truth}
use Rattle.summary_compose.proofs.Roots.{table_more, images_long}
use Rattle.summary_compose.proofs.images.table_of.Goals as goal

within : (i n m k : ℕ) → k ≡ min n m → i < k → i < n
within i n m k h l = omega (arith, h, l)

past : (i n m k : ℕ) → k ≡ min n m → n ≡ m → k ≤ i → n ≤ i
past i n m k h same l = omega (arith, h, same, l)

pub loop-index-preserved : goal.loop-index-preserved
loop-index-preserved c =
    let none : Node = record { index = 0; sort = Truth } in
    let i = c.loop-index.index in
    let roots = c.args.roots.now in
    let inside : i < length roots = within i (length roots) (length c.args.nodes.now) c.min-count.result c.min-count.ensures c.loop-index-test.true in
    λ old new put are.
    rw (take_more roots i none inside)
    (table_more old new put c.loop-index.images c.set_image.new.images roots c.args.nodes.now i none are inside
    c.in_ok-set_image.ensures (c.loop-index.invariant old new put are))

pub returns : goal.returns
returns c =
    let roots = c.args.roots.now in
    λ old new put are.
    let all : length roots ≤ c.loop-index.index =
    past c.loop-index.index (length roots) (length c.args.nodes.now) c.min-count.result c.min-count.ensures (images_long old new put roots c.args.nodes.now are) c.loop-index-test.false in
    rw (take_all c.loop-index.index roots all) at (c.loop-index.invariant old new put are)
