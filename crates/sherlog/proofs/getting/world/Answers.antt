use Rattle.std.proofs.lemmas.Result.{err_from_is_err_and}
use Rattle.sherlog.proofs.CauseLemmas.{world_not_got}
use Rattle.sherlog.proofs.getting.world.Goals as goal

pub returns-in_err-text : goal.returns-in_err-text
returns-in_err-text g c =
    let p = err_from_is_err_and c.from_residual.result c.from_residual.ensures.1 in
    rw p.1 (world_not_got _ _ _ _ _ c.in_err-text.ensures p.2)
