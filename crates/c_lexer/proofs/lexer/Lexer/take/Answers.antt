use Rattle.std.proofs.Common.{◌≡◌, ◌-◌, ◌++◌, length, refl, ap, arith, ◌∙◌}
use Rattle.std.proofs.lemmas.Grind.{common_steps}
use Rattle.c_lexer.specs.Attributes.{keep}
use Rattle.c_lexer.specs.Collected.{collected}
use Rattle.c_lexer.specs.Reading.{token_at}
use Rattle.c_lexer.proofs.Walking.{take_whole}
use Rattle.c_lexer.proofs.lexer.Lexer.take.Goals as goal

pub returns-clause-ok : goal.returns-clause-ok
returns-clause-ok c =
    let old = c.args.self.now in
    let new = c.step-lexeme.new.self in
    let count : c.len.result ≡ length old.files.items = grind (arith, common_steps) in
    take_whole old c.step-lexeme.result.0 c.step-lexeme.result.1.now new c.requires.some c.step-lexeme.ensures.piece
    (record {
      walk = new;
      words = c.meaning.new.words;
      files = c.name_file.new.files;
      collected =
          c.collect.new.tokens;
    }) refl
    c.requires.valid.some c.in_ok-kind.kind c.in_ok-kind.ensures.value c.in_ok-name_file.ensures.ok
    (λ rest. c.in_ok-collect.ensures.ok rest
    ∙ ap (λ n. collected old.collected
    (keep (token_at (record { file = n - 1; line = old.walk.here.line; column = old.walk.here.column }) old.walk.at
    new.at c.in_ok-kind.kind ++ rest))) count)
