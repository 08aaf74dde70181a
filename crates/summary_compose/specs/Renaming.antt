-- States whose nodes are those that stand for a summary's nodes where it is put in.
use Rattle.std.specs.Prelude.{List, [], ◌∷◌, ◌++◌, map, Option, Some, None}
use Rattle.std.specs.Option.{option_map}
use Rattle.term_bank.specs.declared.binding.Binding.{Binding}
use Rattle.term_bank.specs.declared.shape.Shape.{Shape}
use Rattle.term_bank.specs.declared.sort.Node.{Node}
use Rattle.term_bank.specs.Bindings.{HasImage}
use Rattle.term_bank.specs.Shapes.{Each}
use Rattle.path_states.specs.declared.kinds.StateKind.{StateKind}
use Rattle.path_states.specs.declared.kinds.StateKind.TheVariants.{Known, Exited}
use Rattle.path_states.specs.declared.state.Number.{Number}
use Rattle.path_states.specs.declared.state.State.{State}

-- ---- the nodes of states, in order

-- what a list for each gives, one behind the other
abbrev pub each_of : {A B : Type 0} → (A → List B) → List A → List B
each_of f [] = []
each_of f (x ∷ xs) = f x ++ each_of f xs

abbrev pub number_node : Number → List Node
number_node x = x.node ∷ []

abbrev pub maybe_node : Option Number → List Node
maybe_node None = []
maybe_node (Some x) = x.node ∷ []

abbrev pub kind_node : StateKind → List Node
kind_node (Known kind) = []
kind_node (Exited status) = status.node ∷ []

abbrev pub state_nodes : State → List Node
state_nodes s =
    s.guard ∷ (s.memory ∷ (s.events ∷ (kind_node s.kind ++ (maybe_node s.value ++ each_of number_node s.operands))))

-- ---- states over other nodes

abbrev pub other_number : (Node → Node) → Number → Number
other_number f x = record x { node = f x.node }

abbrev pub other_kind : (Node → Node) → StateKind → StateKind
other_kind f (Known kind) = Known kind
other_kind f (Exited status) = Exited (other_number f status)

abbrev pub other_state : (Node → Node) → State → State
other_state f s = record s {
  guard = f s.guard;
  kind = other_kind f s.kind;
  value = option_map (other_number f) s.value;
  memory = f s.memory;
  events = f s.events;
  operands = map (other_number f) s.operands;
}

-- a node stands for each root as by the binding
abbrev pub Pictures : List Shape → List Shape → Binding → (Node → Node) → List Node → Type 0
Pictures old new put f roots = Each (λ n. HasImage old new put n.index (f n)) roots
