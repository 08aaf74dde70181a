-- Calls inside an expression: the values on top of the operands are the arguments, the last one on top.
use Rattle.std.specs.Prelude.{◌≡◌, ℕ, zero, suc, ◌+◌, ℤ, List, [], ◌∷◌, ◌++◌, false}
use Rattle.plain_data.specs.declared.run.Happening.TheVariants as happening
use Rattle.core_tree.specs.declared.expr.Callee.{Callee}
use Rattle.core_tree.specs.States.{Outcome, ◌>>=◌, note, along, Done}
use Rattle.core_tree.specs.Values.{acting, needed}
use Rattle.term_bank.specs.declared.shape.Shape.{Shape}
use Rattle.term_bank.specs.Values.{Environment, Values, Models, Grows}
use Rattle.path_states.specs.declared.state.State.{State}
use Rattle.path_states.specs.declared.state.Walked.{Walked}
use Rattle.path_states.specs.States.{IsState}
use Rattle.path_states.specs.Ways.{Trial, Goes, stay}
use Rattle.path_steps.specs.Operands.{pushed, top, under}
use Rattle.path_forms.specs.declared.calling.CallSite.{CallSite}
use Rattle.path_forms.specs.declared.frame.Placed.{Placed}
use Rattle.path_forms.specs.Around.{Around, level_at, env_at}
use Rattle.path_forms.specs.Reaching.{Ready}

-- what is so of a bank, and of all that it grows to
abbrev pub Stays : (List Shape → Type 0) → List Shape → Type 0
Stays P a = (b : List Shape) → Grows a b → P b

-- the last values that were put, so many, in order
abbrev pub taken : ℕ → List ℤ → List ℤ
taken zero zs = []
taken (suc n) zs = taken n (under zs) ++ top zs ∷ []

-- those that stand below them
abbrev pub below : ℕ → List ℤ → List ℤ
below zero zs = zs
below (suc n) zs = below n (under zs)

-- the event, what is called, and the value that is needed (C99 6.5.2.2)
abbrev pub called_with : Around → List Placed → Callee → CallSite → Environment → List ℤ → Done ℕ → Outcome ℕ ℤ
called_with x frame c site e vs d = do
  w ← acting c site.at site.answer (level_at x e) (env_at frame e) vs (e.base + site.place)
      (note (along x.log) (happening.Call site.at) d)
  needed site.is_used site.at site.answer w.0 w.1

abbrev pub call_way : Around → List Placed → Callee → CallSite → Trial
call_way x frame c site e v h =
    pushed (below site.count h.operands) (called_with x frame c site e (taken site.count h.operands) h.done)

-- ---- states

-- a state in which no run stands
pub record IsNobody (a b : List Shape) (s : State) : Type 0 where
  pub grows : Grows a b
  pub state : IsState b s
  pub nobody : (e : Environment) (v : Values) → Models b e v → (v s.guard.index).truth ≡ false

-- the states that go on, joined
pub record Joins (a b : List Shape) (w u : Walked) : Type 0 where
  pub ready : Ready b u
  pub joined : (room : ℕ) → Goes room a b w.going u.going stay
  pub ended : u.ended ≡ w.ended
