-- What states over other nodes say.
use Rattle.std.proofs.Common.{◌≡◌, ℤ, List, [], ◌∷◌, ◌++◌, Option, Some, None, refl, sym, ap, ◌∙◌}
use Rattle.std.specs.Prelude.{map}
use Rattle.std.specs.Option.{option_map}
use Rattle.plain_data.specs.declared.run.Finish.TheVariants as finish
use Rattle.c_means.specs.declared.kind.Kind.TheVariants as kind
use Rattle.term_bank.specs.declared.binding.Binding.{Binding}
use Rattle.term_bank.specs.declared.shape.Shape.{Shape}
use Rattle.term_bank.specs.declared.sort.Sort.{Sort}
use Rattle.term_bank.specs.declared.sort.Node.{Node}
use Rattle.term_bank.specs.Bindings.{HasImage, bound}
use Rattle.term_bank.specs.Terms.{IsTerm}
use Rattle.term_bank.specs.Values.{Environment, Values, Models}
use Rattle.term_bank.proofs.TermLemmas.{term_of}
use Rattle.path_states.specs.declared.kinds.StateKind.{StateKind}
use Rattle.path_states.specs.declared.kinds.StateKind.TheVariants.{Known, Exited}
use Rattle.path_states.specs.declared.state.Number.{Number}
use Rattle.path_states.specs.declared.state.State.{State}
use Rattle.path_states.specs.States.{AreNumbers, IsMaybeNumber, IsStateKind, IsState, AreStates, number_in, maybe_number, kind_in, onto, run_in, standing}
use Rattle.summary_compose.specs.Renaming.{each_of, number_node, maybe_node, kind_node, state_nodes, other_number, other_kind, other_state, Pictures}
use Rattle.summary_compose.proofs.Lists.{all_front, all_back}

module _ (old new : List Shape) (put : Binding) (f : Node → Node) where
  abbrev Has : List Node → Type 0
  Has roots = Pictures old new put f roots

  abbrev P : Node → Type 0
  P n = HasImage old new put n.index (f n)

  -- ---- what they say

  module _ (e : Environment) (v w : Values) (m : Models new e v) (k : Models old (bound e v put) w) where
    same_node : (n : Node) → P n → v (f n).index ≡ w n.index
    same_node n h = h.value e v w m k

    same_number : (x : Number) → P x.node → number_in v (other_number f x) ≡ number_in w x
    same_number x h = rw (same_node x.node h) refl

    same_onto : (zs : List ℤ) (xs : List Number) → Has (each_of number_node xs) → onto v zs (map (other_number f) xs) ≡ onto w zs xs
    same_onto zs [] h = refl
    same_onto zs (x ∷ xs) h =
        ap (λ z. onto v (z ∷ zs) (map (other_number f) xs)) (same_number x h.0) ∙ same_onto (number_in w x ∷ zs) xs h.1

    same_maybe : (x : Option Number) → Has (maybe_node x) → maybe_number v (option_map (other_number f) x) ≡ maybe_number w x
    same_maybe None h = refl
    same_maybe (Some x) h = ap (λ z. Some z) (same_number x h.0)

    same_kind : (k : StateKind) → Has (kind_node k) → kind_in v (other_kind f k) ≡ kind_in w k
    same_kind (Known known) h = refl
    same_kind (Exited status) h = ap (λ z. kind.Ended (finish.Exit z)) (same_number status h.0)

    pub same_run : (s : State) → Has (state_nodes s) → run_in v (other_state f s) ≡ run_in w s
    same_run s h =
        let value : List Node = maybe_node s.value in
        let operands : List Node = each_of number_node s.operands in
        let behind = all_back P (kind_node s.kind) (value ++ operands) h.1.1.1 in
        rw (
          same_onto [] s.operands (all_back P value operands behind),
          same_maybe s.value (all_front P value operands behind),
          same_kind s.kind (all_front P (kind_node s.kind) (value ++ operands) h.1.1.1),
          same_node s.events h.1.1.0,
          same_node s.memory h.1.0,
        ) refl

    pub same_standing : (ss : List State) → Has (each_of state_nodes ss) → standing v (map (other_state f) ss) ≡ standing w ss
    same_standing [] h = refl
    same_standing (s ∷ ss) h =
        let one : Has (state_nodes s) = all_front P (state_nodes s) (each_of state_nodes ss) h in
        rw (
          same_node s.guard one.0,
          same_run s one,
          same_standing ss (all_back P (state_nodes s) (each_of state_nodes ss) h),
        ) refl

  -- ---- that they stand in the bank

  other_term : (sort : Sort) (n : Node) → IsTerm old sort n → P n → IsTerm new sort (f n)
  other_term sort n h k =
      let same : Some (f n).sort ≡ Some sort = sym k.sort ∙ h.stands in
      term_of new sort (f n) k.stands (cc)

  are_numbers : (xs : List Number) → AreNumbers old xs → Has (each_of number_node xs) → AreNumbers new (map (other_number f) xs)
  are_numbers [] h k = tt
  are_numbers (x ∷ xs) h k = (record { term = other_term _ x.node h.0.term k.0 }, are_numbers xs h.1 k.1)

  is_maybe : (x : Option Number) → IsMaybeNumber old x → Has (maybe_node x) → IsMaybeNumber new (option_map (other_number f) x)
  is_maybe None h k = tt
  is_maybe (Some x) h k = record { term = other_term _ x.node h.term k.0 }

  is_kind : (k : StateKind) → IsStateKind old k → Has (kind_node k) → IsStateKind new (other_kind f k)
  is_kind (Known known) h k = tt
  is_kind (Exited status) h k = record { term = other_term _ status.node h.term k.0 }

  is_state : (s : State) → IsState old s → Has (state_nodes s) → IsState new (other_state f s)
  is_state s h k =
      let value : List Node = maybe_node s.value in
      let operands : List Node = each_of number_node s.operands in
      let behind = all_back P (kind_node s.kind) (value ++ operands) k.1.1.1 in
      record {
        guard = other_term _ s.guard h.guard k.0;
        kind = is_kind s.kind h.kind (all_front P (kind_node s.kind) (value ++ operands) k.1.1.1);
        memory = other_term _ s.memory h.memory k.1.0;
        value = is_maybe s.value h.value (all_front P value operands behind);
        events = other_term _ s.events h.events k.1.1.0;
        operands = are_numbers s.operands h.operands (all_back P value operands behind);
      }

  pub are_states : (ss : List State) → AreStates old ss → Has (each_of state_nodes ss) → AreStates new (map (other_state f) ss)
  are_states [] h k = tt
  are_states (s ∷ ss) h k = (
    is_state s h.0 (all_front P (state_nodes s) (each_of state_nodes ss) k),
    are_states ss h.1 (all_back P (state_nodes s) (each_of state_nodes ss) k),
  )
