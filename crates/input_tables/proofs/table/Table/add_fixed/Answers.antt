use Rattle.std.proofs.Common.{◌∙◌, subst, refl}
use Rattle.input_tables.specs.Rows.{Constrains, Member, Puts}
use Rattle.input_tables.proofs.RowLemmas.{member_back}
use Rattle.input_tables.proofs.TableLemmas.{others-stand, added-fixed}
use Rattle.input_tables.proofs.table.Table.add_fixed.Goals as goal

pub constrain-requires-clause-rows : goal.constrain-requires-clause-rows
constrain-requires-clause-rows c = others-stand c.args.gates.now _ c.args.self.now c.args.key.now c.as_slice.result.now c.in_ok-row.row c.requires.table c.in_ok-row.ensures (λ x m. member_back x c.args.self.now.fixed c.args.self.now.free (subst (Member x) c.as_slice.ensures m))

pub returns : goal.returns
returns c =
    added-fixed c.args.gates.now _ _ c.args.self.now _ c.args.key.now c.args.number c.in_ok-row.row c.in_ok-value.value c.requires.table c.requires.key c.requires.width c.requires.known c.requires.fresh c.in_ok-row.ensures
    (subst (λ rows. Constrains c.new_row.new.gates c.constrain.new.gates rows c.in_ok-row.row c.args.self.now.conditions c.constrain.new.conditions) c.as_slice.ensures c.in_ok-constrain.ensures)
    refl c.in_ok-push.ensures.ok (subst (Puts c.args.self.now.index c.put.new.index c.args.number) c.len.ensures c.in_ok-put.ensures) refl (c.in_ok-value.ensures ∙ c.as_slice-2.ensures)
