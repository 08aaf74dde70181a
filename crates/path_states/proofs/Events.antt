-- One more event, and events behind others.
use Rattle.std.proofs.Common.{ℕ, List, ap}
use Rattle.std.specs.Prelude.{Ok}
use Rattle.plain_data.specs.declared.run.Event.{Event}
use Rattle.plain_data.specs.declared.run.Happening.TheVariants as happening
use Rattle.plain_data.specs.declared.run.Side.{Side}
use Rattle.term_bank.specs.declared.sort.Node.{Node}
use Rattle.term_bank.specs.declared.shape.Shape.{Shape}
use Rattle.term_bank.specs.declared.shape.Shape.TheVariants.{BranchEvent, CallEvent}
use Rattle.term_bank.specs.Terms.{Makes}
use Rattle.term_bank.specs.Values.{Worth}
use Rattle.path_states.specs.Ways.{Happened}

pub branch_happened : (a b : List Shape) (old new : Node) (n at : ℕ) (side : Side) → Makes a b (BranchEvent old.index n at side) (Ok new)
    → Happened a b old new (record { what = happening.Branch at side; printed = n })
branch_happened a b old new n at side h = record {
  grows = h.grows;
  term = h.node;
  is = λ e v m. ap (λ (w : Worth). w.events) (h.value.is e v m);
}

pub call_happened : (a b : List Shape) (old new : Node) (n at : ℕ) → Makes a b (CallEvent old.index n at) (Ok new)
    → Happened a b old new (record { what = happening.Call at; printed = n })
call_happened a b old new n at h = record {
  grows = h.grows;
  term = h.node;
  is = λ e v m. ap (λ (w : Worth). w.events) (h.value.is e v m);
}
