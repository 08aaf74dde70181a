use Rattle.std.proofs.Common.{◌≡◌, take}
use Rattle.query_core.specs.Claims.{GoesOn}
use Rattle.must_facts.specs.Inquiries.{matter_of}
use Rattle.must_facts.specs.Knowing.{WeighsAll}
use Rattle.must_facts.proofs.weighing.weigh_all.Given as goal

-- the query is as it was, but for the steps that are kept, and each fact so far has its verdict
abbrev pub invariant-loop-index : goal.invariant-loop-index
invariant-loop-index l = (GoesOn l.fn.query l.query)
    × WeighsAll (matter_of l.inquiry l.fn.query) (take l.index l.inquiry.facts.now) l.known l.query.solver.kept l.verdicts
