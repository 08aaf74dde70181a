use Rattle.std.proofs.Common.{ap, ◌∙◌, arith}
use Rattle.std.specs.List.{slice_get}
use Rattle.cdcl.specs.Watches.{list_of}
use Rattle.cdcl.proofs.Lists.{list-more, pairs-more}
use Rattle.cdcl.proofs.watching.Watches.grow.Goals as goal

pub loop-list-preserved : goal.loop-list-preserved
loop-list-preserved c =
    let i = c.loop-list.invariant in
    record {
      lists = omega (arith, c.in_ok-push.ensures.len, i.lists);
      within = omega (arith, c.loop-list-test.true);
      waits = λ k. ap (λ t. list_of (slice_get t k)) c.in_ok-push.ensures.items ∙ list-more c.loop-list.self.lists.items c.new.result c.new.ensures.items k ∙ i.waits k;
      given = i.given;
      learnt = i.learnt;
    }

pub returns-clause-pairs : goal.returns-clause-pairs
returns-clause-pairs c =
    let items = rw c.loop-list.invariant.given at c.in_ok-resize.ensures.items in
    pairs-more c.args.self.now.given.items c.resize.new.self.items _ c.args.given (omega (arith, c.requires.given, c.args.self.now.given.ok.0)) items
