use Rattle.std.proofs.Common.{◌≡◌, length, Ok, sym, ap, arith, ◌∙◌}
use Rattle.std.proofs.lemmas.Bool.Decides.{nat_tests}
use Rattle.c_lexer.proofs.Walking.{at_last}
use Rattle.c_lexer.proofs.lexer.tokens_of.Goals as goal

pub returns : goal.returns
returns c =
    let l = c.pieces.lexer in
    let ended : length l.walk.rest.now ≡ 0 = grind (arith, nat_tests) in
    sym c.pieces.invariant.whole_is
    ∙ at_last l ended
    ∙ ap (λ fs. Ok (record { files = fs; tokens = l.collected.tokens.items })) (sym c.from_vec.ensures)
    ∙ ap (λ ts. Ok (record { files = c.from_vec.result; tokens = ts })) (sym c.from_vec-2.ensures)
