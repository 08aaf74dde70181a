use Rattle.std.proofs.Common.{take, get_or, sym, arith}
use Rattle.std.proofs.lemmas.List.{take_all, take_more}
use Rattle.term_bank.specs.declared.sort.Node.{Node}
use Rattle.term_bank.specs.declared.sort.Sort.TheVariants as sort
use Rattle.run_formula.proofs.Sights.{other_more, other_none, takes_alike, term_at, terms_grown}
use Rattle.run_formula.proofs.observing.shows_other.Goals as goal

pub lists-init : goal.lists-init
lists-init c = other_none _ _ c.args.place c.args.value.now c.in_ok-any.any c.in_ok-any.ensures

pub or_other-requires-clause-shown : goal.or_other-requires-clause-shown
or_other-requires-clause-shown c =
    let less = c.lists-test.true in
    let same = c.requires.same in
    term_at _ c.args.truths.now c.lists.index _ (omega (arith, less, same)) (terms_grown _ _ c.args.truths.now c.lists.invariant.grows c.requires.truths)

pub lists-preserved : goal.lists-preserved
lists-preserved c =
    let i = c.lists.index in
    let first : Node = record { index = 0; sort = sort.Truth } in
    let less = c.lists-test.true in
    let same = c.requires.same in
    rw (take_more c.args.lists.now i 0 less, take_more c.args.truths.now i first (omega (arith, less, same)))
    (other_more _ _ _ (take i c.args.lists.now) (take i c.args.truths.now) (get_or c.args.lists.now i 0) (get_or c.args.truths.now i first)
    c.args.place c.args.value.now c.lists.any c.in_ok-any-2.any (sym (takes_alike c.args.lists.now c.args.truths.now i less same)) c.lists.invariant c.in_ok-any-2.ensures)

pub returns : goal.returns
returns c =
    let past = c.lists-test.false in
    let same = c.requires.same in
    rw (take_all c.lists.index c.args.lists.now past, take_all c.lists.index c.args.truths.now (rw same past)) at c.lists.invariant
