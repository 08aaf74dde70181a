use Rattle.std.proofs.Common.{rules, ◌≡◌, ◌∷◌, subst}
use Rattle.std.proofs.lemmas.List.{nil_from_length}
use Rattle.path_states.specs.States.{AreNumbers}
use Rattle.path_codes.proofs.Functions.{passes_none, passes_over, passes_more}
use Rattle.path_codes.proofs.bodies.+pass_all.Goals as goal

pub pass_one-requires-clause-arguments : goal.pass_one-requires-clause-arguments
pass_one-requires-clause-arguments t c =
    let split : c.args.arguments.now ≡ c.in-Some-split_first.argument.now ∷ c.in-Some-split_first.more.now = search rules in
    subst (λ xs. AreNumbers c.args.bank.now xs) split c.requires.arguments

pub returns-in_ok-all-in-Some-split_first : goal.returns-in_ok-all-in-Some-split_first
returns-in_ok-all-in-Some-split_first t c =
    let parameters : c.args.parameters.now ≡ c.in-Some.parameter.now ∷ c.in-Some.rest.now = search rules in
    let arguments : c.args.arguments.now ≡ c.in-Some-split_first.argument.now ∷ c.in-Some-split_first.more.now = search rules in
    rw (parameters, arguments)
    (passes_more c.args.room c.in-Some.parameter.now c.in-Some.rest.now c.in-Some-split_first.argument.now c.in-Some-split_first.more.now
    c.args.offset c.in_ok-next-in-Some-split_first.next c.args.bank.now _ _ c.args.states _ _
    c.in_ok-next-in-Some-split_first.ensures c.in_ok-set-in-Some-split_first.ensures c.in_ok-all-in-Some-split_first.ensures)

pub returns-in_ok-all-in-None-split_first : goal.returns-in_ok-all-in-None-split_first
returns-in_ok-all-in-None-split_first t c =
    let parameters : c.args.parameters.now ≡ c.in-Some.parameter.now ∷ c.in-Some.rest.now = search rules in
    let arguments = nil_from_length c.args.arguments.now c.in-None-split_first.ensures.cases in
    let passed = (rw c.as_slice.ensures at c.in_ok-all-in-None-split_first.ensures) c.args.room c.args.bank.now c.requires.states in
    rw (parameters, arguments)
    (passes_over c.args.room c.in-Some.parameter.now c.in-Some.rest.now c.args.offset c.args.bank.now c.args.states _ passed)

pub returns-in_ok-all-in-None : goal.returns-in_ok-all-in-None
returns-in_ok-all-in-None t c =
    let parameters = nil_from_length c.args.parameters.now c.in-None.ensures.cases in
    let passed = (rw c.as_slice-in-None.ensures at c.in_ok-all-in-None.ensures) c.args.room c.args.bank.now c.requires.states in
    rw parameters (passes_none c.args.room c.args.arguments.now c.args.offset c.args.bank.now c.args.states _ passed)
