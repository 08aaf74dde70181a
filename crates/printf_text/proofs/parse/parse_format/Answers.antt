use Rattle.printf_text.proofs.Parsing.{IsReading-more, IsReading-fault, IsReading-end, step_short, some_left, none_left}
use Rattle.printf_text.proofs.parse.parse_format.Goals as goal

pub pieces-smaller : goal.pieces-smaller
pieces-smaller c = step_short _ _ _ _ (some_left _ _ c.is_empty.ensures c.pieces-test.true) c.in-Ok.ensures.ok

pub pieces-preserved : goal.pieces-preserved
pieces-preserved c =
    rw c.in-Ok-push.ensures.ok
    (IsReading-more _ _ _ _ _ _ c.pieces.invariant (some_left _ _ c.is_empty.ensures c.pieces-test.true) c.in-Ok.ensures.ok)

pub returns-clause-ok : goal.returns-clause-ok
returns-clause-ok c = IsReading-end _ _ _ _ _ c.pieces.invariant (none_left _ _ c.is_empty.ensures c.pieces-test.false)

pub returns-in-Err-clause-fault : goal.returns-in-Err-clause-fault
returns-in-Err-clause-fault c =
    λ other. IsReading-fault _ _ _ _ _ _ c.pieces.invariant (some_left _ _ c.is_empty.ensures c.pieces-test.true) (c.in-Err.ensures.fault other)
