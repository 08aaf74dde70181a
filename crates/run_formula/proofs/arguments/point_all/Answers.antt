use Rattle.std.proofs.Common.{rules, ◌≡◌, arith, suc}
use Rattle.c_store.specs.Store.{start}
use Rattle.term_bank.proofs.TermLemmas.{term_grown}
use Rattle.run_formula.proofs.ArgumentTerms.{pointed_none, pointed_next}
use Rattle.run_formula.proofs.arguments.point_all.Goals as goal

pub pointers-init : goal.pointers-init
pointers-init c = (pointed_none c.args.bank.now c.args.count c.args.memory (start c.args.array) (suc c.args.array) c.requires.memory, (search rules))

pub point-requires-clause-memory : goal.point-requires-clause-memory
point-requires-clause-memory c = c.pointers.invariant.0.term

pub point-requires-clause-count : goal.point-requires-clause-count
point-requires-clause-count c = term_grown _ _ _ c.args.count c.pointers.invariant.0.grows c.requires.count

pub pointers-preserved : goal.pointers-preserved
pointers-preserved c = (
  pointed_next _ _ _ c.args.count c.args.memory c.pointers.pointed c.in_ok-pointed.pointed (start c.args.array) (suc c.args.array)
      c.pointers.index c.pointers.invariant.0 c.in_ok-pointed.ensures,
  (search rules),
)

pub returns : goal.returns
returns c =
    let all : c.pointers.index ≡ c.args.bounds.now.arguments = omega (arith, c.pointers-test.false, c.pointers.invariant.1) in
    rw all at c.pointers.invariant.0
