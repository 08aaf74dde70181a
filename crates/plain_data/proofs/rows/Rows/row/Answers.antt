use Rattle.std.proofs.Common.{◌≡◌, ◌<◌, arith, ap, length, get_or}
use Rattle.std.proofs.lemmas.List.{get_or_read}
use Rattle.plain_data.specs.Cut.{start_of}
use Rattle.plain_data.proofs.Cuts.{length-cut, start-below_end, end-within, row-between}
use Rattle.plain_data.proofs.rows.Rows.row.Goals as goal

pub start_at-start-requires : goal.start_at-start-requires
start_at-start-requires g c = omega (arith, length-cut c.self.inside.items.items 0 c.self.inside.ends.items, ap (λ rows. length rows) c.self.view_is, c.self.inside.ends.ok.0, c.deref.ensures.len)

pub index-requires : goal.index-requires
index-requires g c = omega (arith, length-cut c.self.inside.items.items 0 c.self.inside.ends.items, ap (λ rows. length rows) c.self.view_is, c.self.inside.ends.ok.0)

pub between-requires-clause-ordered : goal.between-requires-clause-ordered
between-requires-clause-ordered g c =
    let items = c.self.inside.items.items in
    let ends = c.self.inside.ends.items in
    let inside : c.args.index < length ends = omega (arith, length-cut items 0 ends, ap (λ rows. length rows) c.self.view_is) in
    let end : c.index.result.now ≡ get_or ends c.args.index 0 = get_or_read ends _ _ inside c.index.ensures 0 in
    let start : c.start_at-start.result ≡ start_of 0 ends c.args.index = rw c.deref.ensures.value at c.start_at-start.ensures in
    rw (start, end) (start-below_end items 0 ends c.args.index c.self.invariant inside)

pub between-requires-clause-within : goal.between-requires-clause-within
between-requires-clause-within g c =
    let items = c.self.inside.items.items in
    let ends = c.self.inside.ends.items in
    let inside : c.args.index < length ends = omega (arith, length-cut items 0 ends, ap (λ rows. length rows) c.self.view_is) in
    let end : c.index.result.now ≡ get_or ends c.args.index 0 = get_or_read ends _ _ inside c.index.ensures 0 in
    rw (end, c.deref-2.ensures.value) (end-within items 0 ends c.args.index c.self.invariant inside)

pub returns : goal.returns
returns g c =
    let items = c.self.inside.items.items in
    let ends = c.self.inside.ends.items in
    let inside : c.args.index < length ends = omega (arith, length-cut items 0 ends, ap (λ rows. length rows) c.self.view_is) in
    let end : c.index.result.now ≡ get_or ends c.args.index 0 = get_or_read ends _ _ inside c.index.ensures 0 in
    row-between items c.deref-2.result.now c.between.result.now c.args.self.now ends c.deref.result.now c.args.index c.start_at-start.result c.index.result.now c.self.invariant c.self.view_is inside c.deref.ensures.value c.start_at-start.ensures end c.deref-2.ensures.value c.between.ensures
