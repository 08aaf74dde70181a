use Rattle.sherlog.proofs.Outputs.{broke_off}
use Rattle.sherlog.proofs.serving.serve.Goals as goal

pub returns-in-Err-Failed : goal.returns-in-Err-Failed
returns-in-Err-Failed g c =
    broke_off _ _ _ _ _ _ _ c.in_ok-output.output c.in_ok-output.ensures c.in-Err-Failed.ensures.failed
    (rw c.as_slice.ensures at c.in-Err-Failed.ensures.front)
