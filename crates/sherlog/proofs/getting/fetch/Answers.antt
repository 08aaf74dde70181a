use Rattle.sherlog.proofs.CauseLemmas.{fetched_long}
use Rattle.sherlog.proofs.getting.fetch.Goals as goal

pub returns-in-Err-TooLong : goal.returns-in-Err-TooLong
returns-in-Err-TooLong g c =
    fetched_long _ _ _ _ _ _ _ c.name.ensures c.limit.ensures c.in-Err-TooLong.ensures c.in-Err-TooLong.field-0-is
