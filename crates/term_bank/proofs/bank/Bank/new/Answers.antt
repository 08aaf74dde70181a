use Rattle.std.proofs.Common.{[]}
use Rattle.term_bank.specs.Banks.{IsBank}
use Rattle.term_bank.specs.Values.{of_word}
use Rattle.term_bank.proofs.BankLemmas.{bank_of}
use Rattle.term_bank.proofs.bank.Bank.new.Goals as goal

empty : IsBank []
empty = bank_of [] (λ i s e. absurd (cc)) (λ i j s e f. absurd (cc)) (λ e. (λ i. of_word 0, record { has = λ i s is. absurd (cc) }))

pub invariant_of-result : goal.invariant_of-result
invariant_of-result c = rw c.new.ensures.empty empty
