use Rattle.std.proofs.Common.{◌∙◌, ◌++◌, ap, refl, subst, sym, take}
use Rattle.bitvectors.specs.Signals.{AreInputs, AreKnown}
use Rattle.bitvectors.specs.Blasts.{net_of}
use Rattle.bitvectors.proofs.MoreLemmas.{inputs-copied, known-copied, more-of, net-of}
use Rattle.bitvectors.proofs.blasting.Blasted.go_on.Goals as goal

pub walk-requires-clause-known : goal.walk-requires-clause-known
walk-requires-clause-known c =
    let b = c.args.self.now in
    let begun = net-of b c.over-gates.result (c.over-gates.ensures.clauses ∙ c.in_ok-copy.ensures) c.over-gates.ensures.count in
    subst (λ n. AreKnown c.args.bank.now n c.in_ok-inputs.inputs b.signals) (sym begun)
    (known-copied c.args.bank.now (net_of b) b.inputs c.in_ok-inputs.inputs b.signals c.in_ok-inputs.ensures c.requires.ready.known)

pub walk-requires-clause-inputs : goal.walk-requires-clause-inputs
walk-requires-clause-inputs c =
    let b = c.args.self.now in
    let begun = net-of b c.over-gates.result (c.over-gates.ensures.clauses ∙ c.in_ok-copy.ensures) c.over-gates.ensures.count in
    subst (λ n. AreInputs n c.in_ok-inputs.inputs) (sym begun)
    (inputs-copied (net_of b) b.inputs c.in_ok-inputs.inputs c.in_ok-inputs.ensures c.requires.ready.inputs)

pub returns : goal.returns
returns c =
    more-of c.args.bank.now c.args.roots.now c.args.self.now c.in_ok-inputs.inputs c.walk.new.inputs c.over-gates.result c.walk.new.gates
    c.in_ok-signals.signals c.in_ok-words.words c.in_ok-copy.copy c.into_formula-whole.result c.in_ok-formula.formula c.assert_all.new.formula
    c.assert_all-2.new.formula c.as_slice.result.now c.as_slice-2.result.now _
    c.requires.roots c.in_ok-inputs.ensures c.in_ok-copy.ensures c.over-gates.ensures.clauses c.over-gates.ensures.count c.in_ok-signals.ensures
    c.in_ok-words.ensures c.into_formula-whole.ensures
    (ap (λ n. take n c.into_formula-whole.result ++ c.in_ok-formula.formula) (sym c.len.ensures) ∙ c.in_ok-formula.ensures) c.as_slice.ensures c.as_slice-2.ensures
    c.in_ok-assert_all.ensures c.in_ok-assert_all-2.ensures refl
