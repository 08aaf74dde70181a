-- Nodes of a sort, and what a call that makes one says.
use Rattle.std.specs.Prelude.{◌≡◌, List, Some, Result, IfOk, OnErr}
use Rattle.term_bank.specs.declared.sort.Sort.{Sort}
use Rattle.term_bank.specs.declared.sort.Node.{Node}
use Rattle.term_bank.specs.declared.bank.BankFault.{BankFault}
use Rattle.term_bank.specs.declared.shape.Shape.{Shape}
use Rattle.term_bank.specs.Shapes.{sort_at, sort_of}
use Rattle.term_bank.specs.Values.{Grows, IsWorth}
use Rattle.term_bank.specs.Banks.{IsBank}

-- a node of the list, of this sort
pub record IsTerm (shapes : List Shape) (sort : Sort) (node : Node) : Type 0 where
  pub stands : sort_at shapes node.index ≡ Some sort
  pub same : node.sort ≡ sort

-- The answer is a node of the shape's sort and value; only want of memory fails, and then nothing was made.
pub record Makes (old new : List Shape) (shape : Shape) (result : Result Node BankFault) : Type 0 where
  pub node : IfOk result (IsTerm new (sort_of shape))
  pub value : IfOk result (IsWorth new shape)
  pub grows : Grows old new
  pub err : OnErr result (new ≡ old)
  pub bank : IsBank new
