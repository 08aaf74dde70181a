use Rattle.std.proofs.Common.{take, get_or, refl, arith}
use Rattle.std.proofs.lemmas.List.{take_all, take_more}
use Rattle.term_bank.specs.declared.sort.Node.{Node}
use Rattle.term_bank.specs.declared.sort.Sort.TheVariants as sort
use Rattle.run_formula.specs.declared.observing.Observation.{Observation}
use Rattle.run_formula.proofs.Sights.{observed_more}
use Rattle.run_formula.proofs.observing.observed.Goals as goal

pub lists-init : goal.lists-init
lists-init c = rw c.new-all.ensures tt

pub lists-preserved : goal.lists-preserved
lists-preserved c =
    let i = c.lists.index in
    let first : Node = record { index = 0; sort = sort.Truth } in
    let less = c.lists-test.true in
    let same = c.requires in
    let one : Observation = record { happens = get_or c.args.truths.now i first; seen = c.in_ok-seen.seen } in
    rw (c.in_ok-push.ensures.ok, take_more c.args.lists.now i 0 less, take_more c.args.truths.now i first (omega (arith, less, same)))
    (observed_more c.args.bank.now c.args.place (take i c.args.lists.now) (take i c.args.truths.now) c.lists.all (get_or c.args.lists.now i 0)
    (get_or c.args.truths.now i first) one c.lists.invariant refl c.in_ok-seen.ensures)

pub returns : goal.returns
returns c =
    let past = c.lists-test.false in
    let same = c.requires in
    rw (take_all c.lists.index c.args.lists.now past, take_all c.lists.index c.args.truths.now (rw same past)) at c.lists.invariant
