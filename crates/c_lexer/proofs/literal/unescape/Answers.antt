use Rattle.std.proofs.Common.{◌≡◌, ◌≤◌, length, Some, arith, sym, ◌∙◌}
use Rattle.std.proofs.lemmas.Bool.Decides.{nat_tests}
use Rattle.std.proofs.lemmas.List.{take_rest}
use Rattle.c_lexer.specs.Literal.{unit}
use Rattle.c_lexer.proofs.Literals.{unit_more}
use Rattle.c_lexer.proofs.literal.unescape.Goals as goal

pub loop-text-preserved : goal.loop-text-preserved
loop-text-preserved c =
    let text = c.loop-text.text.now in
    let value = c.in_ok-value.value in
    let len = c.in_ok-value.len in
    let some : 1 ≤ length text = grind (arith, nat_tests) in
    let found = c.in_ok-value.ensures.ok_part in
    let is : unit text ≡ Some (value, len) = sym c.unit.ensures.value ∙ found in
    let within = rw found at c.unit.ensures.within in
    let step = unit_more c.loop-text.meant.items c.loop-text.at text value len some is within.0 within.1 in
    (rw (take_rest text len, c.in_ok-push.ensures.items) (sym step ∙ c.loop-text.invariant.0), omega (arith, within.1))
