use Rattle.std.proofs.Common.{rules, ◌≡◌, arith}
use Rattle.run_formula.proofs.ArgumentTerms.{strings_none, strings_next}
use Rattle.run_formula.proofs.arguments.make_strings.Goals as goal

pub strings-init : goal.strings-init
strings-init c = (strings_none c.args.bank.now c.args.memory c.args.bounds.now.outside c.args.place c.requires.memory, (search rules))

pub make_string-requires-clause-memory : goal.make_string-requires-clause-memory
make_string-requires-clause-memory c = c.strings.invariant.0.term

pub strings-preserved : goal.strings-preserved
strings-preserved c = (
  strings_next _ _ _ c.args.memory c.strings.made c.in_ok-made.made c.args.bounds.now.outside c.args.place c.strings.index
      c.strings.invariant.0 c.in_ok-made.ensures,
  (search rules),
)

pub returns : goal.returns
returns c =
    let all : c.strings.index ≡ c.args.bounds.now.arguments = omega (arith, c.strings-test.false, c.strings.invariant.1) in
    rw all at c.strings.invariant.0
