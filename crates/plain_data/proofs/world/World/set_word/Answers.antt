use Rattle.std.proofs.Common.{◌≡◌, true}
use Rattle.std.specs.Ordering.{nat_cmp}
use Rattle.std.specs.BTreeMap.{is_at}
use Rattle.plain_data.specs.Worlds.{has_no_zero}
use Rattle.plain_data.proofs.Tables.{has_no_zero-remove_entry, has_no_zero-insert_entry}
use Rattle.plain_data.proofs.world.World.set_word.Goals as goal
use Rattle.plain_data.proofs.world.World.set_word.Goals.{in-Ok, in-Err}

pub invariant_of-self : goal.invariant_of-self
invariant_of-self c = (rw c.remove.ensures.entries (has_no_zero-remove_entry (is_at (nat_cmp c.args.place)) c.self.inside.words.entries c.self.invariant.0), c.self.invariant.1)

pub invariant_of-self-2 : goal.invariant_of-self-2
invariant_of-self-2 c =
    let words : has_no_zero c.insert.new.self.entries ≡ true = elim c.match-insert.branch [
      | in-Ok w ↦ rw w.in-Ok.ensures.entries (has_no_zero-insert_entry c.self.inside.words.entries c.args.place c.args.value c.if-value-eq0.false c.self.invariant.0)
      | in-Err w ↦ rw w.in-Err.ensures.err c.self.invariant.0
    ] in
    (words, c.self.invariant.1)
