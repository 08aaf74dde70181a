use Rattle.std.proofs.Common.{ℕ, Some, take}
use Rattle.core_tree.specs.States.{dead}
use Rattle.path_states.specs.Ways.{Goes}
use Rattle.path_arrows.specs.Arrows.{by_arrow}
use Rattle.path_arrows.specs.Objects.{Fit, made_at}
use Rattle.term_bank.specs.Values.{Grows}
use Rattle.path_arrows.proofs.objects.bury.Given as goal

abbrev pub invariant-loop-state : goal.invariant-loop-state
invariant-loop-state l = record {
  grows : Grows l.initial.bank l.bank;
  goes : (room : ℕ) → Fit room l.objects → Goes room l.initial.bank l.bank (take l.state-index l.states) l.all (by_arrow (λ e d. Some (dead (made_at e.base l.objects) d)));
}
