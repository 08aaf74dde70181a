use Rattle.std.proofs.Common.{◌≡◌, ◌≤◌, ◌*◌, ◌∙◌, sym, arith, vec_len, length, ℕ, subst}
use Rattle.cnf_core.specs.Literal.{Literal, code_of}
use Rattle.cdcl.specs.Known.{known}
use Rattle.cdcl.specs.Trails.{AreOpen}
use Rattle.cdcl.proofs.Opening.{known-grown, known-outside, open-grown}
use Rattle.cdcl.proofs.assigned.Assigned.grow.Goals as goal

pub returns-clause-trail : goal.returns-clause-trail
returns-clause-trail c = λ clauses t.
    let s = c.args.self.now in
    let taken = s.taken.items in
    let next = c.resize.new.self.items in
    let long : length taken ≤ 2 * c.args.room = omega (arith, s.taken.ok.0, c.requires.paired, c.requires.least) in
    let same : (l : Literal) → known next l ≡ known taken l = λ l. rw c.in_ok-resize.ensures.items (known-grown taken (2 * c.args.room) _ (code_of l) long) in
    let room : vec_len c.resize-2.new.self ≡ c.args.room = c.in_ok-resize-2.ensures.len in
    let P : ℕ → Type 0 = λ n. AreOpen c.grow.new.self.unset next n in
    record {
      distinct = t.distinct;
      reasons = t.reasons;
      in_room = λ i l at. omega (arith, t.in_room i l at, c.requires.least, room);
      have_levels = t.have_levels;
      are_placed = record {
        placed = λ l k. t.are_placed.placed l (sym (same l) ∙ k);
        kept = λ i l at. same l ∙ t.are_placed.kept i l at;
      };
      paired = omega (arith, room, c.in_ok-resize.ensures.len);
      are_open = subst P (sym room) (open-grown s.scores.unset c.grow.new.self.unset taken next (vec_len s.levels) c.args.room t.are_open c.in_ok-grow.ensures.unset c.requires.least same (known-outside s.entries.items taken (vec_len s.levels) t.are_placed t.in_room));
      small = omega (arith, room, c.requires.small);
    }
