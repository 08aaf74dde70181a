use Rattle.std.proofs.Common.{arith, ap, ◌∙◌, ◌≡◌, ℕ, false, nat_eq, not}
use Rattle.c_store.specs.Access.{is_literal}
use Rattle.c_memory.proofs.memory.Memory.can_write.Goals as goal

no : (n : ℕ) → (n ≡ 0 → ⊥) → nat_eq n 0 ≡ false
no n some = grind (arith, some)

pub returns-else-length-eq0 : goal.returns-else-length-eq0
returns-else-length-eq0 c =
    λ world.
    rw (no c.args.length c.if-length-eq0.false)
    (ap not (c.is_literal.ensures ∙ ap is_literal (c.object.ensures world)))
