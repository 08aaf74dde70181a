use Rattle.std.proofs.Common.{refl, []}
use Rattle.c_means.specs.declared.kind.Kind.TheVariants as k
use Rattle.std.specs.Prelude.{None}
use Rattle.path_states.specs.declared.kinds.StateKind.TheVariants.{Known}
use Rattle.path_states.specs.declared.state.State.{State}
use Rattle.run_formula.proofs.Readied.{begun_one}
use Rattle.run_formula.proofs.settings.begin.Goals as goal

pub returns : goal.returns
returns c =
    let first : State = record {
      guard = c.in_ok-guard.guard;
      kind = Known k.Running;
      value = None;
      position = 0;
      memory = c.in_ok-memory.memory;
      events = c.in_ok-events.events;
      operands = [];
    } in
    λ log.
    rw (c.in_ok-states.ensures, c.new.ensures)
    (begun_one log _ _ _ _ c.in_ok-guard.guard c.in_ok-memory.memory c.in_ok-events.events first refl c.in_ok-guard.ensures
    c.in_ok-memory.ensures c.in_ok-events.ensures)
