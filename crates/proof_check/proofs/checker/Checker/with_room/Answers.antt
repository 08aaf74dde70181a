use Rattle.std.proofs.Common.{◌≡◌, List, ℕ, sym, subst}
use Rattle.std.specs.Prelude.{Contains}
use Rattle.proof_check.specs.Room.{Covers, Occurs}
use Rattle.proof_check.proofs.RoomLemmas.{covers-all}
use Rattle.proof_check.proofs.checker.Checker.with_room.Goals as goal

pub returns-in-Ok-with_room-clause-covers : goal.returns-in-Ok-with_room-clause-covers
returns-in-Ok-with_room-clause-covers c =
    let all = rw c.steps.ensures at c.in-Ok.ensures.all in
    let room : c.in-Ok-with_room.marks.variables.items ≡ c.in-Ok.variables.items = c.in-Ok-with_room.ensures in
    let P : List ℕ → Type 0 = λ r. Covers r c.args.formula.now c.args.refutation.now in
    subst P (sym room) (covers-all c.in-Ok.variables.items c.args.formula.now c.args.refutation.now all)

pub returns-in-Ok-with_room-clause-only : goal.returns-in-Ok-with_room-clause-only
returns-in-Ok-with_room-clause-only c =
    let only = rw c.steps.ensures at c.in-Ok.ensures.only in
    let room : c.in-Ok-with_room.marks.variables.items ≡ c.in-Ok.variables.items = c.in-Ok-with_room.ensures in
    let P : List ℕ → Type 0 = λ r. (v : ℕ) → Contains r v → Occurs c.args.formula.now c.args.refutation.now v in
    subst P (sym room) only
