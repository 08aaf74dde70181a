use Rattle.std.proofs.Common.{arith, ◌-◌, ◌+◌, ◌*◌, ◌<◌, ◌^◌}
use Rattle.c_memory.specs.Memories.{byte_in, initial_bytes}
use Rattle.c_memory.proofs.Cells.{spelt_fits}
use Rattle.c_memory.proofs.cell.Cell.read.Goals as goal

pub overflow_mul-value : goal.overflow_mul-value
overflow_mul-value c =
    let h : c.bytes.value * 256 + 0 < 2 ^ 64 =
    spelt_fits (byte_in (initial_bytes c.args.world.now) c.args.self.now) (c.args.address + c.bytes.left)
    (c.args.width - c.bytes.left) c.bytes.value 0 (omega arith) c.bytes.invariant.value (omega arith) in
    omega arith

pub overflow_add-value : goal.overflow_add-value
overflow_add-value c =
    let h : c.bytes.value * 256 + c.from.result < 2 ^ 64 =
    spelt_fits (byte_in (initial_bytes c.args.world.now) c.args.self.now) (c.args.address + c.bytes.left)
    (c.args.width - c.bytes.left) c.bytes.value c.from.result (omega arith) c.bytes.invariant.value
    (omega arith) in
    omega arith
