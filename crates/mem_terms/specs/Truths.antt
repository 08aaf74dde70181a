-- What a call that makes a term says of its value.
use Rattle.std.specs.Prelude.{◌≡◌, List, Result, IfOk}
use Rattle.term_bank.specs.declared.sort.Sort.{Sort}
use Rattle.term_bank.specs.declared.sort.Node.{Node}
use Rattle.term_bank.specs.declared.bank.BankFault.{BankFault}
use Rattle.term_bank.specs.declared.shape.Shape.{Shape}
use Rattle.term_bank.specs.Values.{Environment, Worth, Values, Models, Grows}
use Rattle.term_bank.specs.Terms.{IsTerm}
use Rattle.term_bank.specs.Banks.{IsBank}

-- in every environment the node is worth what the values of earlier nodes say
pub record HasWorth (shapes : List Shape) (x : Values → Worth) (node : Node) : Type 0 where
  pub is : (e : Environment) (v : Values) → Models shapes e v → v node.index ≡ x v

-- The answer is a node of this sort and worth. Only want of memory fails.
pub record Gives (old new : List Shape) (sort : Sort) (x : Values → Worth) (result : Result Node BankFault) : Type 0 where
  pub node : IfOk result (IsTerm new sort)
  pub value : IfOk result (HasWorth new x)
  pub grows : Grows old new
  pub bank : IsBank new
