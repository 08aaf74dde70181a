use Rattle.std.proofs.Common.{◌∙◌, ◌<◌, length, subst, sym}
use Rattle.input_tables.proofs.TableLemmas.{met-place, asked-again}
use Rattle.input_tables.proofs.table.Table.ask_fixed.Goals as goal

pub value_at-requires : goal.value_at-requires
value_at-requires c = subst (λ rows. c.in-Some.place < length rows) (sym c.as_slice.ensures) (met-place c.args.gates.now c.args.self.now c.args.number c.in-Some.place c.requires.table (sym c.get.ensures.value ∙ sym c.copied.ensures ∙ c.in-Some.is))

pub returns-in_ok-value-in-Some : goal.returns-in_ok-value-in-Some
returns-in_ok-value-in-Some c = asked-again c.args.gates.now c.args.self.now c.args.key.now c.args.number c.in-Some.place c.as_slice.result.now c.in_ok-value-in-Some.value c.value_at.result.now c.requires.table c.requires.known (sym c.get.ensures.value ∙ sym c.copied.ensures ∙ c.in-Some.is) c.as_slice.ensures c.value_at.ensures c.in_ok-value-in-Some.ensures
