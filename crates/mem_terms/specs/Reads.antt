-- What a read of a memory finds.
use Rattle.std.specs.Prelude.{◌≡◌, ◌+◌, ◌≤◌, ◌<◌, ◌^◌, ◌⊎◌, ℕ, List}
use Rattle.term_bank.specs.declared.sort.Node.{Node}
use Rattle.term_bank.specs.declared.shape.Shape.{Shape}
use Rattle.term_bank.specs.Memories.{read}
use Rattle.term_bank.specs.Shapes.{IsNode, memory}
use Rattle.term_bank.specs.Values.{Environment, Values, Models}
use Rattle.term_bank.specs.Under.{IsUnder}

-- n addresses from a on and m from b on share none, and neither go round behind the last address
pub record IsApart (a n b m : ℕ) : Type 0 where
  pub first : a + n ≤ 2 ^ 64
  pub second : b + m ≤ 2 ^ 64
  pub beside : (b + m ≤ a) ⊎ (a + n ≤ b)

-- in every environment two nodes' ranges are apart
pub record AreApart (shapes : List Shape) (from n other m : ℕ) : Type 0 where
  pub are : (e : Environment) (v : Values) → Models shapes e v → IsApart (v from).word n (v other).word m

-- n bytes at an address are the same in two memories
pub record ReadsAlike (shapes : List Shape) (n : ℕ) (address : Node) (one other : ℕ) : Type 0 where
  pub alike : (e : Environment) (v : Values) → Models shapes e v → read n (v one).store (v address.index).word ≡ read n (v other).store (v address.index).word

-- an earlier memory, in which n bytes at an address are the same
pub record IsBefore (shapes : List Shape) (n : ℕ) (address : Node) (now before : ℕ) : Type 0 where
  pub smaller : before < now
  pub stands : IsNode shapes (memory before)
  pub alike : ReadsAlike shapes n address now before
  pub under : IsUnder shapes now before
