use Rattle.std.proofs.Common.{◌-◌, arith, sym, ap, ◌∙◌}
use Rattle.cdcl.specs.Trails.{seen_at}
use Rattle.cdcl.proofs.Searching.{item-read}
use Rattle.cdcl.proofs.Guarding.{literal-of}
use Rattle.cdcl.proofs.Jumping.{none-next, marked-at}
use Rattle.cdcl.proofs.analysis.Work.is_another.Goals as goal

pub is_marked-requires : goal.is_marked-requires
is_marked-requires c =
    let entries = c.args.trail.now.entries.items in
    let e = c.index-entry.result.now in
    let at = item-read entries (c.entries.next - 1) e (omega (arith, c.entries-test.true, c.entries.invariant.within, c.requires.end)) c.index-entry.ensures in
    rw c.deref.ensures.len (c.requires.room (c.entries.next - 1) e.literal (literal-of entries (c.entries.next - 1) e at))

pub returns-then-is_marked : goal.returns-then-is_marked
returns-then-is_marked c =
    let entries = c.args.trail.now.entries.items in
    let e = c.index-entry.result.now in
    let at = item-read entries (c.entries.next - 1) e (omega (arith, c.entries-test.true, c.entries.invariant.within, c.requires.end)) c.index-entry.ensures in
    marked-at entries c.args.trail.now.level (c.entries.next - 1) c.args.end e c.args.self.now.seen.items (omega (arith, c.entries-test.true, c.entries.invariant.within)) at c.if-entry-trail.false
    (ap (λ s. seen_at s e.literal.variable) (sym c.deref.ensures.value) ∙ sym c.is_marked.ensures ∙ c.if-is_marked.true)

pub entries-preserved : goal.entries-preserved
entries-preserved c =
    let entries = c.args.trail.now.entries.items in
    let e = c.index-entry.result.now in
    let at = item-read entries (c.entries.next - 1) e (omega (arith, c.entries-test.true, c.entries.invariant.within, c.requires.end)) c.index-entry.ensures in
    record {
      within = omega (arith, c.entries.invariant.within);
      none = none-next entries c.args.trail.now.level (c.entries.next - 1) c.entries.next c.args.end e c.args.self.now.seen.items (omega (arith, c.entries-test.true)) at
          (ap (λ s. seen_at s e.literal.variable) (sym c.deref.ensures.value) ∙ sym c.is_marked.ensures ∙ c.if-is_marked.false) c.entries.invariant.none;
    }
