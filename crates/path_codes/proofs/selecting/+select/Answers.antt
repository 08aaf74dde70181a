use Rattle.std.proofs.Common.{rules, ◌≡◌, ◌∷◌}
use Rattle.std.proofs.lemmas.List.{nil_from_length}
use Rattle.path_codes.proofs.Cases.{selects_last}
use Rattle.path_codes.proofs.selecting.+select.Goals as goal

pub returns-in_ok-select-in-Some : goal.returns-in_ok-select-in-Some
returns-in_ok-select-in-Some t c =
    let split : c.args.cases.now ≡ c.in-Some.case.now ∷ c.in-Some.rest.now = search rules in
    rw split (c.in_ok-other-in-Some.ensures.next _ c.in-Some.rest.now _ c.in_ok-select-in-Some.ensures)

pub returns-in_ok-push-in-None : goal.returns-in_ok-push-in-None
returns-in_ok-push-in-None t c =
    rw (nil_from_length c.args.cases.now c.in-None.ensures.cases, c.in_ok-push-in-None.ensures.ok)
    (selects_last c.args.at c.args.word c.args.number c.args.state.now c.args.bank.now _ c.args.all.now c.in_ok-last-in-None.last
    c.requires.state c.requires.all c.in_ok-last-in-None.ensures)
