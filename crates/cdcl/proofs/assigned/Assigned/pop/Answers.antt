use Rattle.std.proofs.Common.{◌∙◌, ap, true, ◌≡◌, ◌<◌, ◌++◌, ◌∷◌, [], length, vec_len, arith, false}
use Rattle.cnf_core.specs.Literal.{code_of}
use Rattle.std.proofs.Math.ListN.{set}
use Rattle.cdcl.proofs.Placements.{distinct-pop, reasons-pop, room-pop, room-last, levels-pop, placed-pop, known-unset, code-within}
use Rattle.cdcl.proofs.Opening.{open-pop, last-alone}
use Rattle.cdcl.proofs.assigned.Assigned.pop.Goals as goal

pub index_mut-requires : goal.index_mut-requires
index_mut-requires c =
    let cut : c.args.self.now.entries.items ≡ c.pop.new.self.items ++ c.in-Some.entry ∷ [] = c.in-Some.ensures.items in
    let t = c.requires.1 in
    let in_room = rw cut at t.in_room in
    rw c.code.ensures (code-within c.in-Some.entry.literal (vec_len c.args.self.now.levels) (vec_len c.args.self.now.taken) (room-last (vec_len c.args.self.now.levels) c.pop.new.self.items c.in-Some.entry in_room) t.paired)

pub returns-clause-trail : goal.returns-clause-trail
returns-clause-trail c = λ clauses t.
    let cut : c.args.self.now.entries.items ≡ c.pop.new.self.items ++ c.in-Some.entry ∷ [] = c.in-Some.ensures.items in
    let rest = c.pop.new.self.items in
    let e = c.in-Some.entry in
    let taken = c.args.self.now.taken.items in
    let in_room = rw cut at t.in_room in
    let distinct = rw cut at t.distinct in
    let are_placed = rw cut at t.are_placed in
    let h : code_of e.literal < length taken = omega (arith, c.args.self.now.taken.ok.0, code-within e.literal (vec_len c.args.self.now.levels) (vec_len c.args.self.now.taken) (room-last (vec_len c.args.self.now.levels) rest e in_room) t.paired) in
    let unset : c.reopen.new.self.unset ≡ set c.args.self.now.scores.unset e.literal.variable true = ap (λ s. s.unset) c.reopen.ensures ∙ ap (λ n. set c.args.self.now.scores.unset n true) c.variable.ensures.value in
    record {
      distinct = distinct-pop rest e distinct;
      reasons = reasons-pop clauses rest e (rw cut at t.reasons);
      in_room = room-pop (vec_len c.args.self.now.levels) rest e in_room;
      have_levels = levels-pop rest e c.args.self.now.level (rw cut at t.have_levels);
      are_placed = rw c.code.ensures (placed-pop rest taken (set taken (code_of e.literal) false) e distinct are_placed (known-unset taken e.literal h));
      paired = t.paired;
      are_open = rw (unset, c.code.ensures) (open-pop c.args.self.now.scores.unset taken (set taken (code_of e.literal) false) (vec_len c.args.self.now.levels) e.literal t.are_open (omega (arith, c.variable.ensures)) (room-last (vec_len c.args.self.now.levels) rest e in_room) (last-alone rest taken e distinct are_placed) (known-unset taken e.literal h));
      small = t.small;
    }
