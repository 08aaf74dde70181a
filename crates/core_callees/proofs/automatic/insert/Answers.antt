use Rattle.core_callees.proofs.AutomaticLaws.{put_in, is_in}
use Rattle.core_callees.proofs.automatic.insert.Goals as goal

pub returns-in_ok-insert-in-Some : goal.returns-in_ok-insert-in-Some
returns-in_ok-insert-in-Some c =
    put_in c.args.entry.now c.get.result.now c.in_ok-clone-in-Some.field-0 c.args.found.now.items
    c.as_slice.result.now c.insert.new.self.items c.in-Some.index c.get.ensures c.as_slice.ensures.value
    c.in-Some.ensures.gap c.in_ok-clone-in-Some.ensures.cases c.in_ok-insert-in-Some.ensures.items

pub returns-in-None : goal.returns-in-None
returns-in-None c =
    is_in c.args.entry.now c.get.result.now c.args.found.now.items c.as_slice.result.now c.get.ensures
    c.as_slice.ensures.value c.in-None.ensures.gap
