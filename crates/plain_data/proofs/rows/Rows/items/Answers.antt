use Rattle.std.proofs.Common.{sym, ap, ◌∙◌}
use Rattle.std.specs.List.{flat_map}
use Rattle.plain_data.proofs.Cuts.{items-cut}
use Rattle.plain_data.proofs.rows.Rows.items.Goals as goal

pub returns : goal.returns
returns g c = c.as_slice.ensures.value ∙ sym (items-cut c.self.inside.items.items 0 c.self.inside.ends.items c.self.invariant) ∙ ap (λ rows. flat_map (λ row. row) rows) c.self.view_is
