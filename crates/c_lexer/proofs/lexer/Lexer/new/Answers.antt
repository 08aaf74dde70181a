use Rattle.std.proofs.Common.{◌≡◌, [], ◌∷◌, ◌++◌, length, ◌-◌, true, ap, ◌∙◌}
use Rattle.c_lexer.specs.Division.{divide}
use Rattle.c_lexer.specs.Places.{beginning}
use Rattle.c_lexer.specs.Reading.{read, lexed}
use Rattle.c_lexer.specs.Walks.{completed, spot_of}
use Rattle.c_lexer.proofs.Walking.{at_first}
use Rattle.c_lexer.proofs.lexer.Lexer.new.Goals as goal

pub returns-clause-ok : goal.returns-clause-ok
unfolding lexed
returns-clause-ok c =
    let c2 = c.new-3.result in
    let w = c.new.result in
    let names : c.push.new.self.items ≡ c.args.source.now ∷ [] =
    c.in_ok-push.ensures.items ∙ ap (λ xs. xs ++ c.in_ok-name.field-0 ∷ []) c.new-files.ensures.items
    ∙ ap (λ x. x ∷ []) c.in_ok-name.ensures.value in
    ap (λ fs. completed fs c2 (read (length fs - 1) w.at (spot_of w.here) (divide 0 w.fresh w.rest.now))) names
    ∙ ap (λ a. completed (c.args.source.now ∷ []) c2 (read 0 a (spot_of w.here) (divide 0 w.fresh w.rest.now)))
    c.new.ensures.at
    ∙ ap (λ s. completed (c.args.source.now ∷ []) c2 (read 0 0 s (divide 0 w.fresh w.rest.now))) c.new.ensures.here
    ∙ ap (λ f. completed (c.args.source.now ∷ []) c2 (read 0 0 (beginning c.args.source.now) (divide 0 f w.rest.now)))
    c.new.ensures.fresh
    ∙ ap (λ r. completed (c.args.source.now ∷ []) c2 (read 0 0 (beginning c.args.source.now) (divide 0 true r)))
    c.new.ensures.rest
    ∙ at_first c.args.source.now c2 c.new-3.ensures.tokens c.new-3.ensures.open_groups c.new-3.ensures.after_word
    (read 0 0 (beginning c.args.source.now) (divide 0 true c.args.bytes.now))
