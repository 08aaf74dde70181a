use Rattle.std.proofs.Common.{◌≡◌, true}
use Rattle.std.specs.Ordering.{nat_cmp}
use Rattle.std.specs.BTreeMap.{is_at}
use Rattle.plain_data.specs.Worlds.{has_no_zero}
use Rattle.plain_data.proofs.Tables.{has_no_zero-remove_entry, has_no_zero-insert_entry}
use Rattle.plain_data.proofs.world.World.set_byte.Goals as goal
use Rattle.plain_data.proofs.world.World.set_byte.Goals.{in-Ok, in-Err}

pub invariant_of-self : goal.invariant_of-self
invariant_of-self c = (c.self.invariant.0, rw c.remove.ensures.entries (has_no_zero-remove_entry (is_at (nat_cmp c.args.address)) c.self.inside.bytes.entries c.self.invariant.1))

pub invariant_of-self-2 : goal.invariant_of-self-2
invariant_of-self-2 c =
    let bytes : has_no_zero c.insert.new.self.entries ≡ true = elim c.match-insert.branch [
      | in-Ok w ↦ rw w.in-Ok.ensures.entries (has_no_zero-insert_entry c.self.inside.bytes.entries c.args.address c.args.value c.if-value-eq0.false c.self.invariant.1)
      | in-Err w ↦ rw w.in-Err.ensures.err c.self.invariant.1
    ] in
    (c.self.invariant.0, bytes)
