-- Nodes put in for the entry memory, the parameters and the base.
use Rattle.std.specs.Prelude.{◌≡◌, ◌%◌, ◌^◌, ℕ, List, map, Some}
use Rattle.plain_data.specs.Words.{bits}
use Rattle.plain_data.specs.declared.width.Width.{Width}
use Rattle.plain_data.specs.declared.width.Width.TheVariants.{W64}
use Rattle.term_bank.specs.declared.sort.Sort.TheVariants.{Word, Memory}
use Rattle.term_bank.specs.declared.sort.Node.{Node}
use Rattle.term_bank.specs.declared.shape.Shape.{Shape}
use Rattle.term_bank.specs.declared.binding.Binding.{Binding}
use Rattle.term_bank.specs.Shapes.{Each, IsNode, sort_at, sort_of}
use Rattle.term_bank.specs.Values.{Environment, Values, Models, worth, of_word}

-- the binding's nodes stand in the list, the memory and the base under their sorts
pub record IsBinding (shapes : List Shape) (put : Binding) : Type 0 where
  pub entry : IsNode shapes put.entry
  pub entry_sort : put.entry.sort ≡ Memory
  pub parameters : Each (IsNode shapes) put.parameters
  pub base : IsNode shapes put.base
  pub base_sort : put.base.sort ≡ Word W64

-- the environment in which the entry memory, the parameters and the base have the values of what is put in
abbrev pub bound : Environment → Values → Binding → Environment
bound e v put = record {
  entry = (v put.entry.index).store;
  parameters = map (λ n. (v n.index).word) put.parameters;
  base = (v put.base.index).word;
  words = e.words;
  bytes = e.bytes;
  rows = e.rows;
}

-- the node has another's word modulo 2^N
pub record HasWordOf (shapes : List Shape) (other : Node) (w : Width) (node : Node) : Type 0 where
  pub stands : IsNode shapes node
  pub sort : node.sort ≡ Word w
  pub value : (e : Environment) (v : Values) → Models shapes e v → v node.index ≡ of_word ((v other.index).word % 2 ^ bits w)

-- the node has the value that the shape over what stands for its parts has in the environment of the binding
pub record IsPutIn (shapes : List Shape) (put : Binding) (f : ℕ → ℕ) (shape : Shape) (node : Node) : Type 0 where
  pub stands : IsNode shapes node
  pub sort : node.sort ≡ sort_of shape
  pub value : (e : Environment) (v : Values) → Models shapes e v → v node.index ≡ worth (bound e v put) (λ n. v (f n)) shape

-- The node of the new list has, in every environment, the value that the node of this number of the old list has in the
-- environment of the binding.
pub record HasImage (old new : List Shape) (put : Binding) (n : ℕ) (node : Node) : Type 0 where
  pub stands : IsNode new node
  pub sort : sort_at old n ≡ Some node.sort
  pub value : (e : Environment) (v w : Values) → Models new e v → Models old (bound e v put) w → v node.index ≡ w n
