use Rattle.std.proofs.Common.{◌≡◌, ◌∙◌, ap, false, ◌<◌, length, vec_len, arith}
use Rattle.cnf_core.specs.Literal.{code_of}
use Rattle.std.proofs.Math.ListN.{set}
use Rattle.std.proofs.Common.{true}
use Rattle.cdcl.proofs.Placements.{distinct-push, reasons-push, room-push, placed-push, known-set, code-within}
use Rattle.cdcl.proofs.Opening.{open-push}
use Rattle.cdcl.proofs.Entries.{next-reason, next-levels}
use Rattle.cdcl.proofs.assigned.Assigned.push.Goals as goal

pub returns-clause-trail : goal.returns-clause-trail
returns-clause-trail c = λ clauses t next.
    let e = c.args.entry in
    let entries = c.args.self.now.entries.items in
    let taken = c.args.self.now.taken.items in
    let h : code_of e.literal < length taken = omega (arith, c.args.self.now.taken.ok.0, code-within e.literal (vec_len c.args.self.now.levels) (vec_len c.args.self.now.taken) c.requires.room c.requires.paired) in
    let unset : c.close.new.self.unset ≡ set c.args.self.now.scores.unset e.literal.variable false = ap (λ s. s.unset) c.close.ensures ∙ ap (λ n. set c.args.self.now.scores.unset n false) c.variable-2.ensures.value in
    record {
      distinct = rw c.in_ok-push.ensures.items (distinct-push entries taken e t.distinct t.are_placed c.requires.open);
      reasons = rw c.in_ok-push.ensures.items (reasons-push clauses entries e t.reasons (next-reason clauses c.args.self.now e next));
      in_room = rw c.in_ok-push.ensures.items (room-push (vec_len c.args.self.now.levels) entries e t.in_room c.requires.room);
      have_levels = rw c.in_ok-push.ensures.items (next-levels clauses c.args.self.now e t.have_levels next);
      are_placed = rw (c.in_ok-push.ensures.items, c.code.ensures) (placed-push entries taken (set taken (code_of e.literal) true) e t.are_placed (known-set taken e.literal h));
      paired = t.paired;
      are_open = rw (unset, c.code.ensures) (open-push c.args.self.now.scores.unset taken (set taken (code_of e.literal) true) (vec_len c.args.self.now.levels) e.literal t.are_open (known-set taken e.literal h));
      small = t.small;
    }
