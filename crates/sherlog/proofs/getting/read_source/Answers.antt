use Rattle.std.proofs.lemmas.Result.{err_from_is_err_and}
use Rattle.sherlog.proofs.CauseLemmas.{source_not_got}
use Rattle.sherlog.proofs.getting.read_source.Goals as goal

pub returns-in_err-bytes : goal.returns-in_err-bytes
returns-in_err-bytes g c =
    let p = err_from_is_err_and c.from_residual-in_err-bytes.result c.from_residual-in_err-bytes.ensures.1 in
    rw p.1 (source_not_got _ _ _ _ _ _ _ c.in_ok-config.ensures c.in_err-bytes.ensures p.2)
