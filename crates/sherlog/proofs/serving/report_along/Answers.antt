use Rattle.std.proofs.Common.{ap, Err}
use Rattle.std.proofs.lemmas.Result.{err_from_is_err_and}
use Rattle.sherlog.proofs.Outputs.{log_not_read_of, not_served, report_formed, too_large_to_diagnose}
use Rattle.sherlog.proofs.serving.report_along.Goals as goal

pub returns-in_err-log : goal.returns-in_err-log
returns-in_err-log g c =
    let p = err_from_is_err_and c.from_residual.result c.from_residual.ensures.1 in
    rw p.1 (log_not_read_of _ _ _ _ _ _ _ _ _ _ c.requires.command c.requires.traced c.in_err-log.ensures p.2)

pub returns-in-Ok : goal.returns-in-Ok
returns-in-Ok g c =
    report_formed _ _ _ _ _ _ _ _ c.in_ok-log.log c.in-Ok.output c.requires.command c.requires.traced c.in_ok-log.ensures
    c.in-Ok.ensures.report

pub returns-in-Err-TooLarge : goal.returns-in-Err-TooLarge
returns-in-Err-TooLarge g c =
    too_large_to_diagnose _ _ _ _ _ _ _ _ c.in_ok-log.log c.requires.command c.requires.traced c.in_ok-log.ensures
    (c.in-Err-TooLarge.ensures.large (ap Err c.in-Err-TooLarge.field-0-is))

pub returns-in-Err-Unwalked : goal.returns-in-Err-Unwalked
returns-in-Err-Unwalked g c =
    not_served _ _ _ _ _ _ _ _ c.in_ok-log.log c.unserved.result c.requires.command c.requires.traced c.in_ok-log.ensures
    c.unserved.ensures
