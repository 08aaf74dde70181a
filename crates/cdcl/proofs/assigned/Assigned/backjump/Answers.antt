use Rattle.std.proofs.Common.{◌∙◌, refl}
use Rattle.cdcl.proofs.Placements.{levels-jump, cutting-none, cutting-shorter, cut-jump}
use Rattle.cdcl.proofs.assigned.Assigned.backjump.Goals as goal

pub pop-requires : goal.pop-requires
pop-requires c = (c.requires.0, c.entries.invariant.trail c.requires.0 c.requires.1)

pub entries-init : goal.entries-init
entries-init c = record {
  trail = λ clauses t. t;
  cut = cutting-none c.args.self.now.entries.items c.args.level;
  room = refl;
}

pub entries-preserved : goal.entries-preserved
entries-preserved c = record {
  trail = λ clauses t. c.pop.ensures.trail clauses (c.entries.invariant.trail clauses t);
  cut = cutting-shorter c.args.self.now.entries.items c.entries.self.entries.items c.pop.new.self.entries.items c.args.level c.last_level.result c.entries.invariant.cut c.pop.ensures.shorter c.last_level.ensures c.entries-test.true;
  room = c.pop.ensures.room ∙ c.entries.invariant.room;
}

pub returns-clause-trail : goal.returns-clause-trail
returns-clause-trail c = λ clauses u.
    let t = c.entries.invariant.trail clauses u in
    record {
      distinct = t.distinct;
      reasons = t.reasons;
      in_room = t.in_room;
      have_levels = levels-jump c.entries.self.entries.items c.args.level c.entries.self.level c.last_level.result t.have_levels c.last_level.ensures c.entries-test.false;
      are_placed = t.are_placed;
      paired = t.paired;
      are_open = t.are_open;
      small = t.small;
    }

pub returns-clause-cut : goal.returns-clause-cut
returns-clause-cut c =
    let t = c.entries.invariant.trail c.requires.0 c.requires.1 in
    cut-jump c.args.self.now.entries.items c.entries.self.entries.items c.args.level c.entries.self.level c.last_level.result t.have_levels c.entries.invariant.cut c.last_level.ensures c.entries-test.false
