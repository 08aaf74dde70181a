use Rattle.std.proofs.Common.{arith, subst, sym}
use Rattle.path_codes.specs.Settings.{Storable}
use Rattle.path_codes.proofs.Stored.{storable}
use Rattle.path_codes.proofs.storing.is_storable.Goals as goal

pub returns-in-Truth : goal.returns-in-Truth
returns-in-Truth c = λ h. subst (λ t. Storable t c.args.bytes) (sym c.in-Truth.is) (storable _ c.args.bytes tt (grind (arith, h)))

pub returns-in-Word : goal.returns-in-Word
returns-in-Word c = λ h. subst (λ t. Storable t c.args.bytes) (sym c.in-Word.is) (storable _ c.args.bytes tt (grind (arith, h)))

pub returns-in-Pointer : goal.returns-in-Pointer
returns-in-Pointer c = λ h. subst (λ t. Storable t c.args.bytes) (sym c.in-Pointer.is) (storable _ c.args.bytes tt (grind (arith, h)))
