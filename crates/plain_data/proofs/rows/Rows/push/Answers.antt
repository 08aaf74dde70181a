use Rattle.std.proofs.Common.{◌≡◌, ◌+◌, arith, length, ap, ◌∙◌, ◌++◌, ◌∷◌, [], length-append}
use Rattle.plain_data.proofs.Cuts.{cut-push, IsCut-push}
use Rattle.plain_data.proofs.rows.Rows.push.Goals as goal

pub invariant_of-self-2 : goal.invariant_of-self-2
invariant_of-self-2 g c =
    let items = c.self.inside.items.items in
    let grown : c.extend_from_slice.new.self.items ≡ items ++ c.args.row.now = c.in_ok-extend_from_slice.ensures.items in
    let ended : c.push.new.self.items ≡ c.self.inside.ends.items ++ c.len.result ∷ [] = rw (c.unwrap.ensures, c.reserve.ensures.items) at c.push.ensures.items in
    let more : c.len.result ≡ length items + length c.args.row.now = omega (arith, length-append items c.args.row.now, ap (λ xs. length xs) grown, c.extend_from_slice.new.self.ok.0) in
    rw (grown, ended) (IsCut-push items c.args.row.now 0 c.self.inside.ends.items c.len.result c.self.invariant more)

pub returns-clause-ok : goal.returns-clause-ok
returns-clause-ok g c =
    let items = c.self.inside.items.items in
    let grown : c.extend_from_slice.new.self.items ≡ items ++ c.args.row.now = c.in_ok-extend_from_slice.ensures.items in
    let ended : c.push.new.self.items ≡ c.self.inside.ends.items ++ c.len.result ∷ [] = rw (c.unwrap.ensures, c.reserve.ensures.items) at c.push.ensures.items in
    let more : c.len.result ≡ length items + length c.args.row.now = omega (arith, length-append items c.args.row.now, ap (λ xs. length xs) grown, c.extend_from_slice.new.self.ok.0) in
    rw (grown, ended) (cut-push items c.args.row.now 0 c.self.inside.ends.items c.len.result c.self.invariant more ∙ ap (λ rows. rows ++ c.args.row.now ∷ []) c.self.view_is)
