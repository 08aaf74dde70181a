use Rattle.std.proofs.Common.{◌≡◌, ◌≤◌, arith, ap, ◌∙◌, length, take}
use Rattle.plain_data.specs.Cut.{start_of}
use Rattle.plain_data.proofs.Cuts.{length-cut, cut-truncate, IsCut-truncate}
use Rattle.plain_data.proofs.rows.Rows.truncate.Goals as goal

pub start_at-end-requires : goal.start_at-end-requires
start_at-end-requires g c = omega (arith, length-cut c.self.inside.items.items 0 c.self.inside.ends.items, ap (λ rows. length rows) c.self.view_is, c.self.inside.ends.ok.0, c.deref.ensures.len)

pub invariant_of-self : goal.invariant_of-self
invariant_of-self g c =
    let items = c.self.inside.items.items in
    let ends = c.self.inside.ends.items in
    let inside : c.args.len ≤ length ends = omega (arith, length-cut items 0 ends, ap (λ rows. length rows) c.self.view_is) in
    let end : c.start_at-end.result ≡ start_of 0 ends c.args.len = rw c.deref.ensures.value at c.start_at-end.ensures in
    rw (c.truncate.ensures.items, c.truncate-then-len.ensures.items) (IsCut-truncate items 0 ends c.args.len c.start_at-end.result c.self.invariant inside end)

pub returns-then-len : goal.returns-then-len
returns-then-len g c =
    let items = c.self.inside.items.items in
    let ends = c.self.inside.ends.items in
    let inside : c.args.len ≤ length ends = omega (arith, length-cut items 0 ends, ap (λ rows. length rows) c.self.view_is) in
    let end : c.start_at-end.result ≡ start_of 0 ends c.args.len = rw c.deref.ensures.value at c.start_at-end.ensures in
    rw (c.truncate.ensures.items, c.truncate-then-len.ensures.items) (cut-truncate items 0 ends c.args.len c.start_at-end.result c.self.invariant inside end ∙ ap (take c.args.len) c.self.view_is)
