use Rattle.std.proofs.Common.{◌≡◌, ◌∙◌, Some, ap, sym, subst, slice_get}
use Rattle.term_bank.specs.declared.shape.Shape.TheVariants.{InitialByte}
use Rattle.flat_reads.specs.declared.table.Row.{Row}
use Rattle.flat_reads.specs.Tables.{Lists}
use Rattle.flat_reads.proofs.ListLemmas.{lists_row}
use Rattle.flat_reads.proofs.table.add_row.Goals as goal

pub returns-in_ok-push-clause-listed : goal.returns-in_ok-push-clause-listed
returns-in_ok-push-clause-listed c =
    let row : Row = record { row = c.in-Some-InitialByte.row; address = c.in-Some-InitialByte.address; byte = c.args.number } in
    let is : slice_get c.args.bank.now c.args.number ≡ Some (InitialByte c.in-Some-InitialByte.row c.in-Some-InitialByte.address) = sym c.shape.ensures.shape ∙ c.in-Some-InitialByte.is ∙ ap (λ t. Some t) c.in-Some-InitialByte.field-0-is in
    subst (Lists c.args.bank.now c.args.number c.args.table.now) (sym c.in_ok-push.ensures.ok) (lists_row c.args.bank.now c.args.table.now row is)
