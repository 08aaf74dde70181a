use Rattle.std.proofs.Common.{◌∙◌, sym}
use Rattle.assumptions.proofs.NameSets.{one_more}
use Rattle.assumptions.proofs.names.by_name.Goals as goal

pub loop-name-preserved : goal.loop-name-preserved
loop-name-preserved c =
    one_more c.loop-name.set.keys c.insert.new.self.keys c.in_ok-from_slice.field-0 c.name-item.result c.args.names.now
    c.loop-name.name-index _ c.loop-name-test.true (sym c.name-item.is)
    (c.in_ok-from_slice.ensures.items ∙ c.as_slice.ensures ∙ c.get.ensures) c.in_ok-insert.ensures.keys
    c.loop-name.invariant
