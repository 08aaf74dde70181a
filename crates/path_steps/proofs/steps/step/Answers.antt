use Rattle.std.proofs.Common.{ℤ, subst}
use Rattle.core_tree.specs.States.{found}
use Rattle.path_states.specs.Ways.{Tries}
use Rattle.path_steps.specs.Operands.{on_none}
use Rattle.path_steps.proofs.LeafLemmas.{within_type}
use Rattle.path_steps.proofs.steps.step.Goals as goal

pub constant_step-requires-clause-least : goal.constant_step-requires-clause-least
constant_step-requires-clause-least c =
    let h = rw c.in-Constant.is at c.requires.leaf in rw (within_type c.in-Constant.value h) h.least

pub constant_step-requires-clause-most : goal.constant_step-requires-clause-most
constant_step-requires-clause-most c =
    let h = rw c.in-Constant.is at c.requires.leaf in rw (within_type c.in-Constant.value h) h.most

pub returns-in_ok-walked-in-Constant : goal.returns-in_ok-walked-in-Constant
returns-in_ok-walked-in-Constant c =
    let h = rw c.in-Constant.is at c.requires.leaf in
    let same = within_type c.in-Constant.value h in
    rw c.in-Constant.is
    (record {
      tries = λ room k.
          let P : ℤ → Type 0 = λ z. Tries room c.args.bank.now c.constant_step.new.bank c.args.state c.in_ok-walked-in-Constant.walked
          (on_none (λ e d. found z d)) in
          subst P same (c.in_ok-walked-in-Constant.ensures room);
    })

pub returns-in_ok-walked-in-Local : goal.returns-in_ok-walked-in-Local
returns-in_ok-walked-in-Local c = rw c.in-Local.is (record { tries = λ room h. c.in_ok-walked-in-Local.ensures room h })

pub returns-in_ok-walked-in-Convert : goal.returns-in_ok-walked-in-Convert
returns-in_ok-walked-in-Convert c = rw c.in-Convert.is (record { tries = λ room h. c.in_ok-walked-in-Convert.ensures room })

pub returns-in_ok-walked-in-Not : goal.returns-in_ok-walked-in-Not
returns-in_ok-walked-in-Not c = rw c.in-Not.is (record { tries = λ room h. c.in_ok-walked-in-Not.ensures room })

pub returns-in_ok-walked-in-Turn : goal.returns-in_ok-walked-in-Turn
returns-in_ok-walked-in-Turn c = rw c.in-Turn.is (record { tries = λ room h. c.in_ok-walked-in-Turn.ensures room })

pub returns-in_ok-walked-in-Numbers : goal.returns-in_ok-walked-in-Numbers
returns-in_ok-walked-in-Numbers c = rw c.in-Numbers.is (record { tries = λ room h. c.in_ok-walked-in-Numbers.ensures room })

pub returns-in_ok-walked-in-Fixed : goal.returns-in_ok-walked-in-Fixed
returns-in_ok-walked-in-Fixed c = rw c.in-Fixed.is (record { tries = λ room h. c.in_ok-walked-in-Fixed.ensures room })

pub returns-in_ok-walked-in-Offset : goal.returns-in_ok-walked-in-Offset
returns-in_ok-walked-in-Offset c = rw c.in-Offset.is (record { tries = λ room h. c.in_ok-walked-in-Offset.ensures room })

pub returns-in_ok-walked-in-Load : goal.returns-in_ok-walked-in-Load
returns-in_ok-walked-in-Load c = rw c.in-Load.is (record { tries = λ room h. c.in_ok-walked-in-Load.ensures room })

pub returns-in_ok-walked-in-Put : goal.returns-in_ok-walked-in-Put
returns-in_ok-walked-in-Put c = rw c.in-Put.is (record { tries = λ room h. c.in_ok-walked-in-Put.ensures room })

pub returns-in_ok-walked-in-Again : goal.returns-in_ok-walked-in-Again
returns-in_ok-walked-in-Again c = rw c.in-Again.is (record { tries = λ room h. c.in_ok-walked-in-Again.ensures room })

pub returns-in_ok-walked-in-Tuck : goal.returns-in_ok-walked-in-Tuck
returns-in_ok-walked-in-Tuck c = rw c.in-Tuck.is (record { tries = λ room h. c.in_ok-walked-in-Tuck.ensures room })

pub returns-in_ok-walked-in-Drop : goal.returns-in_ok-walked-in-Drop
returns-in_ok-walked-in-Drop c = rw c.in-Drop.is (record { tries = λ room h. c.in_ok-walked-in-Drop.ensures room })

pub fixed_step-requires-clause-place : goal.fixed_step-requires-clause-place
fixed_step-requires-clause-place c = rw c.in-Fixed.is at c.requires.leaf

pub load_step-requires-clause-scalar : goal.load_step-requires-clause-scalar
load_step-requires-clause-scalar c = rw c.in-Load.is at c.requires.leaf

pub put_step-requires-clause-scalar : goal.put_step-requires-clause-scalar
put_step-requires-clause-scalar c = rw c.in-Put.is at c.requires.leaf
