use Rattle.bitvectors.proofs.WalkLemmas.{known-none}
use Rattle.bitvectors.proofs.FormulaLemmas.{blasted-of, ready-of}
use Rattle.bitvectors.proofs.blasting.blast.Goals as goal

pub walk-requires-clause-known : goal.walk-requires-clause-known
walk-requires-clause-known c = known-none c.args.bank.now c.new-gates.result c.new-inputs.result c.new-none.result c.new-none.ensures.empty

pub returns-clause-blasted : goal.returns-clause-blasted
returns-clause-blasted c =
    blasted-of c.args.bank.now c.args.roots.now c.new-gates.result c.walk.new.gates c.new-inputs.result c.walk.new.inputs c.in_ok-signals.signals c.in_ok-words.words c.into_formula-formula.result c.assert_all.new.formula c.assert_all-2.new.formula _ c.as_slice.result.now c.as_slice-2.result.now
    c.requires.roots c.new-gates.ensures.clauses c.new-inputs.ensures c.in_ok-signals.ensures c.in_ok-words.ensures c.into_formula-formula.ensures c.as_slice.ensures c.as_slice-2.ensures c.in_ok-assert_all.ensures c.in_ok-assert_all-2.ensures (λ i. record {
      formula = c.assert_all-2.new.formula;
      roots = c.in_ok-words.words;
      inputs = c.walk.new.inputs;
      signals = c.in_ok-signals.signals;
      count = c.count-count.ensures.count i;
    })

pub returns-clause-ready : goal.returns-clause-ready
returns-clause-ready c =
    ready-of c.args.bank.now c.args.roots.now c.new-gates.result c.walk.new.gates c.new-inputs.result c.walk.new.inputs c.in_ok-signals.signals c.in_ok-words.words c.into_formula-formula.result c.assert_all.new.formula c.assert_all-2.new.formula _ c.as_slice.result.now c.as_slice-2.result.now
    c.count-count.ensures.below c.count-count.ensures.within c.in_ok-signals.ensures c.into_formula-formula.ensures c.as_slice.ensures c.as_slice-2.ensures c.in_ok-assert_all.ensures c.in_ok-assert_all-2.ensures (λ i. record {
      formula = c.assert_all-2.new.formula;
      roots = c.in_ok-words.words;
      inputs = c.walk.new.inputs;
      signals = c.in_ok-signals.signals;
      count = c.count-count.ensures.count i;
    })
