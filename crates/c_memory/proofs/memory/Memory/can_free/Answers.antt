use Rattle.std.proofs.Common.{arith, ap, ◌∙◌, ◌≡◌, ℕ, true, false, nat_eq, refl}
use Rattle.c_store.specs.Store.{object_of}
use Rattle.c_store.specs.Access.{is_heap}
use Rattle.c_memory.specs.Memories.{store_of}
use Rattle.c_memory.proofs.memory.Memory.can_free.Goals as goal

no : (n : ℕ) → (n ≡ 0 → ⊥) → nat_eq n 0 ≡ false
no n some = grind (arith, some)

pub returns-then-is_heap : goal.returns-then-is_heap
returns-then-is_heap c =
    λ world.
    let heap : true ≡ is_heap ((store_of world c.args.self.now.cells).objects (object_of c.args.address)) =
    c.if-is_heap.ensures ∙ ap is_heap (c.object.ensures world) in
    rw (no c.args.address c.if-address-eq0.false, ← heap) refl

pub returns-else-is_heap : goal.returns-else-is_heap
returns-else-is_heap c =
    λ world.
    let heap : false ≡ is_heap ((store_of world c.args.self.now.cells).objects (object_of c.args.address)) =
    c.if-is_heap.ensures ∙ ap is_heap (c.object.ensures world) in
    rw (no c.args.address c.if-address-eq0.false, ← heap) c.if-is_heap.false
