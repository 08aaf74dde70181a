use Rattle.std.proofs.Common.{◌%◌, ap, ◌∙◌}
use Rattle.printf_text.specs.Texts.{digit}
use Rattle.printf_text.proofs.Digits.{IsWriting-start, IsWriting-room, IsWriting-more}
use Rattle.printf_text.proofs.printing.write_digits.Goals as goal

pub digits-init : goal.digits-init
digits-init c = IsWriting-start _ _ _ c.ranges.n.fits c.requires

pub overflow_sub-at : goal.overflow_sub-at
overflow_sub-at c = IsWriting-room _ _ _ _ _ c.digits.invariant c.digits-test.true

pub digits-preserved : goal.digits-preserved
digits-preserved c =
    rw c.base-base.ensures
    (IsWriting-more _ _ _ _ _ _ c.digits.invariant c.digits-test.true (c.digit.ensures ∙ ap (λ b. digit c.args.radix (c.digits.n % b)) c.base-base.ensures))
