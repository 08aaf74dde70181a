use Rattle.std.proofs.Common.{◌∙◌, ◌++◌, refl, ap, sym}
use Rattle.std.specs.Prelude.{slice_get}
use Rattle.std.proofs.lemmas.List.{append-nil, take_all}
use Rattle.program_facts.specs.Entries.{all_watched}
use Rattle.program_facts.proofs.Gathering.{variable_more}
use Rattle.program_facts.proofs.entries.put_variables.Goals as goal

pub variables-init : goal.variables-init
variables-init c = sym (append-nil c.args.out.now)

pub variables-preserved : goal.variables-preserved
variables-preserved c =
    let shown = c.args.shown.now in
    let i = c.variables.index in
    variable_more c.args.number shown i (slice_get shown i) c.args.out.now c.variables.out c.put_variable.new.out c.variables-test.true refl
    c.in_ok-put_variable.ensures c.variables.invariant

pub returns : goal.returns
returns c =
    c.variables.invariant
    ∙ ap (λ xs. c.args.out.now ++ all_watched c.args.number xs) (take_all c.variables.index c.args.shown.now c.variables-test.false)
