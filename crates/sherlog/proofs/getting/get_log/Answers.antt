use Rattle.std.proofs.lemmas.Result.{err_from_is_err_and}
use Rattle.sherlog.proofs.CauseLemmas.{log_got, log_not_got, log_not_stripped}
use Rattle.sherlog.proofs.getting.get_log.Goals as goal

pub returns-in_err-bytes : goal.returns-in_err-bytes
returns-in_err-bytes g c =
    let p = err_from_is_err_and c.from_residual.result c.from_residual.ensures.1 in
    rw p.1 (log_not_got _ _ _ _ _ _ _ c.in_err-bytes.ensures p.2)

pub returns-in_err-log : goal.returns-in_err-log
returns-in_err-log g c =
    let p = err_from_is_err_and c.from_residual-in_err-log.result c.from_residual-in_err-log.ensures.1 in
    rw p.1 (log_not_stripped _ _ _ _ _ c.in_ok-bytes.bytes _ _ c.in_ok-bytes.ensures
    (rw c.as_slice.ensures at c.in_err-log.ensures) p.2)

pub returns : goal.returns
returns g c =
    log_got _ _ _ _ _ c.in_ok-bytes.bytes c.in_ok-log.log c.in_ok-bytes.ensures (rw c.as_slice.ensures at c.in_ok-log.ensures)
