use Rattle.std.proofs.Common.{arith, ap, length}
use Rattle.plain_data.proofs.Cuts.{length-cut}
use Rattle.plain_data.proofs.rows.Rows.len.Goals as goal

pub returns : goal.returns
returns g c = omega (arith, length-cut c.self.inside.items.items 0 c.self.inside.ends.items, ap (λ rows. length rows) c.self.view_is, c.self.inside.ends.ok.0)
