use Rattle.std.proofs.Common.{take, get_or, arith}
use Rattle.std.proofs.lemmas.List.{take_all, take_more}
use Rattle.term_bank.specs.declared.sort.Node.{Node}
use Rattle.term_bank.specs.declared.sort.Sort.TheVariants as sort
use Rattle.run_formula.proofs.Sights.{how_grown, joins_more, joins_none, takes_alike, term_at, terms_grown}
use Rattle.run_formula.proofs.joining.join_all.Goals as goal

pub pairs-init : goal.pairs-init
pairs-init c = rw c.new-all.ensures (joins_none c.args.bank.now c.args.how)

pub joined-requires-clause-how : goal.joined-requires-clause-how
joined-requires-clause-how c = how_grown _ _ c.args.how c.pairs.invariant.grows c.requires.how

pub joined-requires-clause-one : goal.joined-requires-clause-one
joined-requires-clause-one c =
    term_at _ c.args.ones.now c.pairs.index _ c.pairs-test.true (terms_grown _ _ c.args.ones.now c.pairs.invariant.grows c.requires.ones)

pub joined-requires-clause-other : goal.joined-requires-clause-other
joined-requires-clause-other c =
    let less = c.pairs-test.true in
    let same = c.requires.same in
    term_at _ c.args.others.now c.pairs.index _ (omega (arith, less, same)) (terms_grown _ _ c.args.others.now c.pairs.invariant.grows c.requires.others)

pub pairs-preserved : goal.pairs-preserved
pairs-preserved c =
    let i = c.pairs.index in
    let first : Node = record { index = 0; sort = sort.Truth } in
    let less = c.pairs-test.true in
    let same = c.requires.same in
    rw (c.in_ok-push.ensures.ok, take_more c.args.ones.now i first less, take_more c.args.others.now i first (omega (arith, less, same)))
    (joins_more _ _ _ c.args.how (take i c.args.ones.now) (take i c.args.others.now) (get_or c.args.ones.now i first) (get_or c.args.others.now i first)
    c.in_ok-node.node c.pairs.all (takes_alike c.args.ones.now c.args.others.now i less same) c.pairs.invariant c.in_ok-node.ensures)

pub returns : goal.returns
returns c =
    let past = c.pairs-test.false in
    let same = c.requires.same in
    rw (take_all c.pairs.index c.args.ones.now past, take_all c.pairs.index c.args.others.now (rw same past)) at c.pairs.invariant
