-- The state of a caller while the function that it called runs.
use Rattle.std.specs.Prelude.{ℕ}
use Rattle.c_store.specs.Store.{Store}
use Rattle.c_means.specs.Parts.{State}
use Rattle.c_machine.specs.declared.calls.Caller.{Caller}

-- all but its store and its count, which the called function changes
abbrev pub state_in : Caller → Store → ℕ → State
state_in c s n = record {
  kind = c.kind;
  value = c.value;
  store = s;
  count = n;
  printed = c.printed;
  events = c.events;
  met = c.met;
}
