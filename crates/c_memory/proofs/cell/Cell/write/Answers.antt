use Rattle.std.proofs.Common.{arith, ap, ◌∙◌, ◌+◌, ◌%◌, ◌≡◌}
use Rattle.c_store.specs.Store.{byte_of, object_of}
use Rattle.c_memory.specs.Memories.{initial_bytes}
use Rattle.c_memory.proofs.Cells.{lays_more, rest_later}
use Rattle.c_memory.proofs.cell.Cell.write.Goals as goal

pub bytes-preserved : goal.bytes-preserved
bytes-preserved c =
    let same : object_of (c.args.address + c.bytes.i) ≡ object_of c.args.address = omega arith in
    let start : 0 + c.bytes.i ≡ c.bytes.i = omega arith in
    record {
      rest = rest_later c.bytes.rest c.args.value c.bytes.i c.bytes.invariant.rest;
      laid = lays_more (initial_bytes c.args.world.now) c.args.self.now c.bytes.self c.set.new.self c.args.address
          c.bytes.i (c.bytes.i + 1) (c.bytes.rest % 256) (byte_of c.args.value) (omega arith)
          (c.bytes.invariant.rest 0 ∙ ap (byte_of c.args.value) start) same c.bytes.invariant.laid
          c.in_ok-set.ensures;
    }
