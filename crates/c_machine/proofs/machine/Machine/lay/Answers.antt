use Rattle.std.proofs.Common.{rules, ap, ◌∙◌, ◌≡◌, ◌≤◌, ◌+◌, ◌^◌, length}
use Rattle.std.specs.Prelude.{unsigned_abs}
use Rattle.c_store.specs.Store.{offset_of}
use Rattle.c_means.specs.Parts.{with_store}
use Rattle.c_memory.specs.Memories.{store_of, initial_bytes}
use Rattle.c_memory.proofs.Cells.{on_ok}
use Rattle.c_machine.specs.States.{state}
use Rattle.c_machine.specs.Worth.{worth}
use Rattle.c_machine.proofs.Spelling.{laid_bytes, laid_count}
use Rattle.c_machine.proofs.machine.Machine.lay.Goals as goal

pub lay-requires : goal.lay-requires
lay-requires c =
    let n : length c.as_slice.result.now ≡ c.args.count =
    ap length c.as_slice.ensures ∙ laid_count c.args.count (unsigned_abs (worth c.args.value.now)) c.in_ok-bytes.bytes c.in_ok-bytes.ensures in
    let room : offset_of c.args.address + c.args.count ≤ 2 ^ 32 = search rules in
    record { room = rw n room }

pub returns-clause-stores : goal.returns-clause-stores
unfolding state
returns-clause-stores c =
    on_ok c.lay.result
    (λ laid.
    ap (λ s. with_store s (state c.args.self.now))
    (laid ∙ laid_bytes c.args.count c.args.address (unsigned_abs (worth c.args.value.now)) c.in_ok-bytes.bytes
    c.as_slice.result.now (store_of (initial_bytes c.args.self.now.world) c.args.self.now.memory.cells)
    c.in_ok-bytes.ensures c.as_slice.ensures))
    c.lay.ensures
