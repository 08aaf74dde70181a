use Rattle.std.proofs.Common.{◌≡◌, ◌<◌, ◌+◌, ℕ, suc, List, Some, get_or, length, arith, sym, subst}
use Rattle.std.specs.Prelude.{slice_get}
use Rattle.std.proofs.lemmas.Option.{slice_get-get_or}
use Rattle.term_bank.specs.declared.sort.Node.{Node}
use Rattle.term_bank.specs.declared.shape.Shape.TheVariants.{InitialByte}
use Rattle.term_bank.proofs.BankLemmas.{grows_on}
use Rattle.flat_reads.specs.declared.table.Row.{Row}
use Rattle.flat_reads.specs.Tables.{IsAgreed}
use Rattle.flat_reads.proofs.TableLemmas.{Keeps, table_row, row_grown, keeps_more, agreed_next, place_below}
use Rattle.flat_reads.proofs.table.constrain.Goals as goal

abbrev none : Row
none = record { row = 0; address = 0; byte = 0 }

pub agreement-requires-clause-one : goal.agreement-requires-clause-one
agreement-requires-clause-one c =
    let i = c.loop-other.other-index in
    let other : Row = get_or c.args.table.now i none in
    let h = c.loop-other.invariant in
    h.grows.kept other.byte (InitialByte other.row other.address) (c.requires.rows i other (slice_get-get_or c.args.table.now i none c.loop-other-test.true))

pub loop-other-preserved : goal.loop-other-preserved
loop-other-preserved c =
    let h = c.loop-other.invariant in
    let e = c.in_ok-node.ensures in
    let old = c.args.bank.now in
    let mid = c.loop-other.bank in
    let new = c.agreement.new.bank in
    let table = c.args.table.now in
    let row = c.args.row in
    let i = c.loop-other.other-index in
    let now = c.loop-other.constraints in
    let node = c.in_ok-node.node in
    let other : Row = get_or table i none in
    let at = slice_get-get_or table i none c.loop-other-test.true in
    let next : (j : ℕ) → j < i + 1 → j < suc i = λ j less. omega (arith, less) in
    record {
      grows = grows_on h.grows e.grows;
      bank = e.bank;
      keeps = subst (λ (cs : List Node). Keeps old new table row c.args.constraints.now cs) (sym c.in_ok-push.ensures.ok) (keeps_more old mid new table row other i c.args.constraints.now now node h.grows e.grows at e.node h.keeps);
      agreed = subst (λ (cs : List Node). (j : ℕ) (x : Row) → j < i + 1 → slice_get table j ≡ Some x → IsAgreed new cs x row) (sym c.in_ok-push.ensures.ok)
          (λ j x less here. agreed_next mid new table row other i now node e.grows at e.node h.agreed j x (next j less) here);
    }

pub returns-clause-table : goal.returns-clause-table
returns-clause-table c =
    let h = c.loop-other.invariant in
    let passed : (i : ℕ) → i < length c.args.table.now → i < c.loop-other.other-index = λ i less. omega (arith, less, c.loop-other-test.false) in
    λ ps t r. table_row c.loop-other.bank ps c.args.table.now c.loop-other.constraints c.args.row (h.keeps ps t r) (row_grown c.args.bank.now c.loop-other.bank ps c.args.row h.grows r)
    (λ i x at. h.agreed i x (passed i (place_below c.args.table.now i x at)) at)
