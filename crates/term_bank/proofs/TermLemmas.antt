-- Nodes of a sort.
use Rattle.std.proofs.Common.{◌≡◌, List, Some, sym, ap, ◌∙◌}
use Rattle.std.specs.Prelude.{Result, Ok, Err, IfOk, OnErr}
use Rattle.term_bank.specs.declared.sort.Sort.{Sort}
use Rattle.term_bank.specs.declared.sort.Node.{Node}
use Rattle.term_bank.specs.declared.bank.BankFault.{BankFault}
use Rattle.term_bank.specs.declared.shape.Shape.{Shape}
use Rattle.term_bank.specs.Shapes.{IsNode, sort_of}
use Rattle.term_bank.specs.Values.{Grows, IsWorth}
use Rattle.term_bank.specs.Banks.{IsBank}
use Rattle.term_bank.specs.Terms.{IsTerm, Makes}
use Rattle.term_bank.proofs.BankLemmas.{node_grown}

pub part_of : (shapes : List Shape) (s : Sort) (n : Node) → IsTerm shapes s n → IsNode shapes (record { index = n.index; sort = s })
part_of shapes s n h = record { sorted = h.stands }

pub node_of : (shapes : List Shape) (s : Sort) (n : Node) → IsTerm shapes s n → IsNode shapes n
node_of shapes s n h = record { sorted = h.stands ∙ ap (λ t. Some t) (sym h.same) }

pub term_of : (shapes : List Shape) (s : Sort) (n : Node) → IsNode shapes n → n.sort ≡ s → IsTerm shapes s n
term_of shapes s n h k = record { stands = h.sorted ∙ ap (λ t. Some t) k; same = k }

pub term_grown : (a b : List Shape) (s : Sort) (n : Node) → Grows a b → IsTerm a s n → IsTerm b s n
term_grown a b s n g h = record { stands = (node_grown a b (record { index = n.index; sort = s }) g (part_of a s n h)).sorted; same = h.same }

terms : (shapes : List Shape) (s : Sort) (r : Result Node BankFault) → IfOk r (IsNode shapes) → IfOk r (λ n. n.sort ≡ s) → IfOk r (IsTerm shapes s)
terms shapes s (Ok n) h k = term_of shapes s n h k
terms shapes s (Err e) h k = tt

-- what `add` says, as one fact
pub made : (a b : List Shape) (shape : Shape) (r : Result Node BankFault) → IfOk r (IsNode b) → IfOk r (λ n. n.sort ≡ sort_of shape) → IfOk r (IsWorth b shape) → Grows a b → OnErr r (b ≡ a) → IsBank b → Makes a b shape r
made a b shape r h k w g e bank = record { node = terms b (sort_of shape) r h k; value = w; grows = g; err = e; bank = bank }
