-- An expression from states of which one stands at most, and what stays as a bank grows.
use Rattle.std.proofs.Common.{ℕ, List, [], Some}
use Rattle.std.specs.Prelude.{Ok}
use Rattle.core_tree.specs.declared.expr.Expr.{Expr}
use Rattle.term_bank.specs.declared.shape.Shape.{Shape}
use Rattle.term_bank.specs.Values.{Grows}
use Rattle.term_bank.proofs.BankLemmas.{grows_on}
use Rattle.path_states.specs.declared.state.State.{State}
use Rattle.path_states.specs.declared.state.Walked.{Walked}
use Rattle.path_states.specs.States.{AreStates}
use Rattle.path_forms.specs.declared.frame.Placed.{Placed}
use Rattle.path_forms.specs.Around.{Around}
use Rattle.path_forms.specs.Calling.{Stays}
use Rattle.path_forms.specs.Reaching.{Evaluates, WalksValue}
use Rattle.path_forms.proofs.Reached.{walks_start}

pub valued : (x : Around) (frame : List Placed) (room : ℕ) (t : Expr) (a b : List Shape) (ss : List State) (u : Walked) (place next : ℕ)
    → AreStates a ss → Evaluates x frame room t a b (record { going = ss; ended = [] }) u place next
    → WalksValue x frame room t a b ss u place next
valued x frame room t a b ss u place next are h =
    let all = h.reach.reaches a ss (λ e v y. Some (Ok y)) (walks_start room a ss are) in
    record { grows = h.reach.grows; going = h.ready.going; ended = all.ended.states; after = h.after; walks = all }

pub stays_on : {P : List Shape → Type 0} {a b : List Shape} → Stays P a → Grows a b → Stays P b
stays_on h g c k = h c (grows_on g k)
