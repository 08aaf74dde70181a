-- Steps of one state that has no operands behind them.
use Rattle.std.proofs.Common.{◌≡◌, ℕ, List, [], ◌∷◌, ◌++◌, true, cond, Some, refl, sym, ap, ◌∙◌}
use Rattle.c_means.specs.declared.kind.Kind.{Kind}
use Rattle.c_means.specs.declared.kind.Kind.TheVariants as k
use Rattle.core_tree.specs.States.{Done, arrive}
use Rattle.term_bank.specs.declared.sort.Sort.TheVariants.{Memory}
use Rattle.term_bank.specs.declared.sort.Node.{Node}
use Rattle.term_bank.specs.declared.shape.Shape.{Shape}
use Rattle.term_bank.specs.Terms.{IsTerm}
use Rattle.term_bank.specs.Values.{Environment, Values, Models, Grows}
use Rattle.term_bank.proofs.BankLemmas.{weaken, stays}
use Rattle.path_states.specs.declared.kinds.StateKind.{StateKind}
use Rattle.path_states.specs.declared.kinds.StateKind.TheVariants.{Known, Exited}
use Rattle.path_states.specs.declared.state.Number.{Number}
use Rattle.path_states.specs.declared.state.State.{State}
use Rattle.path_states.specs.States.{Held, IsStateKind, IsState, IsRoomy, IsSized, kind_in, run_in, done_in, onto, number_in}
use Rattle.path_states.specs.Ways.{Steps, Goes, to_list}
use Rattle.path_states.proofs.Growth.{state_grown}
use Rattle.path_states.proofs.Paths.{goes_none}
use Rattle.path_steps.specs.Operands.{Pops, top}
use Rattle.path_steps.proofs.Trials.{done_same}
use Rattle.path_arrows.specs.Arrows.{bare, by_arrow, gives, returning}
use Rattle.path_arrows.specs.declared.points.Point.{Point}
use Rattle.path_arrows.specs.declared.points.Point.TheVariants as point
use Rattle.path_arrows.specs.Points.{at_point, state_kind_at}

-- another kind
pub marks_one : (room : ℕ) (a : List Shape) (s : State) (f : Kind → Kind) (kind : StateKind) → IsState a s → IsStateKind a kind
    → ((v : Values) → kind_in v kind ≡ f (kind_in v s.kind))
    → Steps room a a s (record s { kind = kind; operands = [] } ∷ []) (by_arrow (λ e d. Some (arrive f d)))
marks_one room a s f kind is h same = record {
  grows = stays;
  states = (record { guard = is.guard; kind = h; memory = is.memory; value = is.value; events = is.events; operands = tt }, tt);
  stands = λ e v m r d. ap (λ q. cond (v s.guard.index).truth (bare (record (done_in v s) { kind = q }) ∷ []) []) (same v);
  sized = λ e v m r h d. d;
}

pub marks_none : (room : ℕ) (a : List Shape) (f : Kind → Kind) → Goes room a a [] [] (by_arrow (λ e d. Some (arrive f d)))
marks_none room a f = goes_none room a (by_arrow (λ e d. Some (arrive f d))) (λ e v m r h d. d)

-- the value on top is given back
pub gives_one : (room : ℕ) (a b : List Shape) (s t : State) (x : Number) → Pops a b s t x
    → Steps room a b s (record t { kind = Known k.Returning; value = Some x; operands = [] } ∷ []) returning
gives_one room a b s t x h = record {
  grows = h.grows;
  states = (record { guard = h.state.guard; kind = tt; memory = h.state.memory; value = h.number; events = h.state.events; operands = tt }, tt);
  stands = λ e v m r d.
      ap (λ (u : State). cond (v u.guard.index).truth (bare (record (done_in v t) { kind = k.Returning; value = Some (number_in v x) }) ∷ []) []) h.same
      ∙ ap (λ z. cond (v s.guard.index).truth (bare (record (done_in v t) { kind = k.Returning; value = Some z }) ∷ []) []) (h.is e v m)
      ∙ ap (λ (q : Done ℕ). cond (v s.guard.index).truth
      (bare (record q { kind = k.Returning; value = Some (top (onto v [] s.operands)) }) ∷ []) []) (done_same v s t h.same);
  sized = λ e v m r q d. d;
}

pub gives_none : (room : ℕ) (a : List Shape) → Goes room a a [] [] returning
gives_none room a = goes_none room a returning (λ e v m r h d. d)

-- ---- the kind behind a point

pub kind_behind : (p : Point) (kind : StateKind) (v : Values) → kind_in v (state_kind_at p kind) ≡ at_point p (kind_in v kind)
kind_behind p (Known kind) v = refl
kind_behind (point.Label name) (Exited status) v = refl
kind_behind (point.Case value) (Exited status) v = refl
kind_behind point.Default (Exited status) v = refl
kind_behind point.BehindLoop (Exited status) v = refl
kind_behind point.EndOfTurn (Exited status) v = refl
kind_behind point.BehindSwitch (Exited status) v = refl
kind_behind point.Back (Exited status) v = refl

pub is_kind_behind : (a : List Shape) (p : Point) (kind : StateKind) → IsStateKind a kind → IsStateKind a (state_kind_at p kind)
is_kind_behind a p (Known kind) h = tt
is_kind_behind a p (Exited status) h = h
