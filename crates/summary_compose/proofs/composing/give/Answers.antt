use Rattle.std.proofs.Common.{sym, ◌∙◌}
use Rattle.summary_compose.proofs.Resumed.{gives_some, gives_zero, gives_missing}
use Rattle.summary_compose.proofs.composing.give.Goals as goal

pub returns-in_ok-walked-in-Some : goal.returns-in_ok-walked-in-Some
returns-in_ok-walked-in-Some c =
    gives_some c.args.bank.now c.args.site c.args.value c.in-Some.number c.args.state c.in_ok-walked-in-Some.walked c.requires.state
    c.requires.value c.in-Some.is c.in_ok-walked-in-Some.ensures

pub returns-then-is_needed : goal.returns-then-is_needed
returns-then-is_needed c =
    gives_missing c.args.bank.now c.args.site c.args.value c.args.state c.in_ok-walked-in-None.walked c.requires.state
    (sym c.is_needed.ensures ∙ c.if-is_needed.true) c.in-None.is c.in_ok-walked-in-None.ensures

pub returns-in_ok-walked-in-None-2 : goal.returns-in_ok-walked-in-None-2
returns-in_ok-walked-in-None-2 c =
    gives_zero c.args.bank.now c.constant.new.bank c.args.site c.args.value c.in_ok-zero-in-None.zero c.args.state
    c.in_ok-walked-in-None-2.walked c.requires.state c.in_ok-zero-in-None.ensures (sym c.is_needed.ensures ∙ c.if-is_needed.false)
    c.in-None.is c.in_ok-walked-in-None-2.ensures
