use mir.Val.{SFits}
use mir.Syntax.{w128}
use Rattle.std.proofs.Common.{rules, sym, ◌∙◌}
use Rattle.std.proofs.lemmas.Int.{to_z-of_z}
use Rattle.path_states.proofs.Growth.{number_grown}
use Rattle.path_codes.proofs.Cases.{tells_case}
use Rattle.path_codes.proofs.selecting.is_case.Goals as goal

pub worked-requires-clause-left : goal.worked-requires-clause-left
worked-requires-clause-left c = number_grown c.in_ok-label.ensures.grows c.args.number c.requires

pub returns : goal.returns
returns c =
    let fits : SFits w128 c.args.case.now = search rules in
    let e = to_z-of_z w128 c.args.case.now fits in
    let has = rw e at c.has.ensures in
    let label = rw e at c.in_ok-label.ensures in
    tells_case c.args.bank.now _ _ _ c.args.word c.args.number c.in_ok-label.label c.in_ok-tested.tested c.in_ok-same.same c.args.case.now
    (sym has ∙ c.if-not-has.false) label c.in_ok-tested.ensures c.in_ok-same.ensures
