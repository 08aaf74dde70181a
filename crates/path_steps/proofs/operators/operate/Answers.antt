use Rattle.std.proofs.Common.{ap}
use Rattle.core_tree.specs.declared.types.Arithmetic.TheVariants as o
use Rattle.core_tree.specs.Memory.{operated}
use Rattle.core_tree.specs.Numbers.{worked}
use Rattle.core_tree.specs.declared.types.Operator.TheVariants as op
use Rattle.core_tree.specs.States.{found, or_stop}
use Rattle.term_bank.proofs.BankLemmas.{stays}
use Rattle.path_states.specs.States.{number_in}
use Rattle.path_steps.proofs.OperatorLemmas.{operates_as}
use Rattle.path_steps.proofs.PointerLaws.{pointer}
use Rattle.path_steps.proofs.PointerTerms.{same_number, other_number}
use Rattle.path_steps.proofs.operators.operate.Goals as goal

pub returns-in_ok-operated-in-Numbers : goal.returns-in_ok-operated-in-Numbers
returns-in_ok-operated-in-Numbers c =
    rw c.in-Numbers.is (c.in_ok-operated-in-Numbers.ensures (λ v. (v c.args.memory.index).store))

pub returns-in_ok-operated-in-Same : goal.returns-in_ok-operated-in-Same
returns-in_ok-operated-in-Same c =
    rw c.in-Same.is
    (operates_as c.args.bank.now c.args.bank.now c.on_numbers-in-Same.new.bank (λ v. (v c.args.memory.index).store) c.in_ok-operated-in-Same.operated
    (λ v d. or_stop c.args.at (worked o.Equal pointer (number_in v c.args.left) (number_in v c.args.right)) d)
    (λ v d. operated c.args.at op.Same (number_in v c.args.left) (number_in v c.args.right) d) stays
    (c.in_ok-operated-in-Same.ensures (λ v. (v c.args.memory.index).store))
    (λ e v m d k. ap (λ z. found z d) (same_number (number_in v c.args.left) (number_in v c.args.right))))

pub returns-in_ok-operated-in-Different : goal.returns-in_ok-operated-in-Different
returns-in_ok-operated-in-Different c =
    rw c.in-Different.is
    (operates_as c.args.bank.now c.args.bank.now c.on_numbers-in-Different.new.bank (λ v. (v c.args.memory.index).store)
    c.in_ok-operated-in-Different.operated
    (λ v d. or_stop c.args.at (worked o.NotEqual pointer (number_in v c.args.left) (number_in v c.args.right)) d)
    (λ v d. operated c.args.at op.Different (number_in v c.args.left) (number_in v c.args.right) d) stays
    (c.in_ok-operated-in-Different.ensures (λ v. (v c.args.memory.index).store))
    (λ e v m d k. ap (λ z. found z d) (other_number (number_in v c.args.left) (number_in v c.args.right))))
