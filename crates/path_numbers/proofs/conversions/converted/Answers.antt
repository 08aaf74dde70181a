use Rattle.std.proofs.Common.{not}
use Rattle.c_language.specs.Integers.{is_zero}
use Rattle.path_states.specs.States.{number_in}
use Rattle.path_numbers.proofs.Nodes.{numbered_flag, numbered_address}
use Rattle.path_numbers.proofs.conversions.converted.Goals as goal

pub returns-in_ok-number-in-Truth : goal.returns-in_ok-number-in-Truth
returns-in_ok-number-in-Truth c =
    rw c.in-Truth.is
    (numbered_flag _ _ _ c.in_ok-truth-in-Truth.truth _ (λ v. not (is_zero (number_in v c.args.number))) c.in_ok-truth-in-Truth.ensures
    c.in_ok-number-in-Truth.ensures)

pub returns-in_ok-node-in-Pointer : goal.returns-in_ok-node-in-Pointer
returns-in_ok-node-in-Pointer c =
    rw c.in-Pointer.is (numbered_address _ _ _ (λ v. number_in v c.args.number) c.in_ok-node-in-Pointer.ensures)
