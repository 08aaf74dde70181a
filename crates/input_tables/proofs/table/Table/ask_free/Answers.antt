use Rattle.std.proofs.Common.{◌∙◌, subst, refl, length}
use Rattle.input_tables.specs.Rows.{Constrains, Member}
use Rattle.input_tables.proofs.RowLemmas.{member_back, member_front, row-grown}
use Rattle.input_tables.proofs.TableLemmas.{others-stand, added-free}
use Rattle.input_tables.proofs.table.Table.ask_free.Goals as goal

pub constrain-requires-clause-rows : goal.constrain-requires-clause-rows
constrain-requires-clause-rows c = others-stand c.args.gates.now _ c.args.self.now c.args.key.now c.as_slice.result.now c.in_ok-row.row c.requires.table c.in_ok-row.ensures (λ x m. member_front x c.args.self.now.fixed c.args.self.now.free (subst (Member x) c.as_slice.ensures m))

pub constrain-requires-2-clause-rows : goal.constrain-requires-2-clause-rows
constrain-requires-2-clause-rows c x m =
    row-grown _ _ (length c.in_ok-row.row.value) x c.in_ok-constrain.ensures.grows
    (others-stand c.args.gates.now c.new_row.new.gates c.args.self.now c.args.key.now c.as_slice-2.result.now c.in_ok-row.row c.requires.table c.in_ok-row.ensures (λ y n. member_back y c.args.self.now.fixed c.args.self.now.free (subst (Member y) c.as_slice-2.ensures n)) x m)

pub returns : goal.returns
returns c =
    added-free c.args.gates.now _ _ _ c.args.self.now _ c.args.key.now c.in_ok-row.row c.in_ok-value.value c.constrain.new.conditions c.requires.table c.requires.key c.requires.width c.in_ok-row.ensures
    (subst (λ rows. Constrains c.new_row.new.gates c.constrain.new.gates rows c.in_ok-row.row c.args.self.now.conditions c.constrain.new.conditions) c.as_slice.ensures c.in_ok-constrain.ensures)
    (subst (λ rows. Constrains c.constrain.new.gates c.constrain-2.new.gates rows c.in_ok-row.row c.constrain.new.conditions c.constrain-2.new.conditions) c.as_slice-2.ensures c.in_ok-constrain-2.ensures)
    refl refl refl c.in_ok-push.ensures.ok (c.in_ok-value.ensures ∙ c.as_slice-3.ensures)
