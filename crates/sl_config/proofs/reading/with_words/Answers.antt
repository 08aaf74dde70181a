use Rattle.std.proofs.Common.{◌≡◌, ◌∙◌, string_bytes, Ok, Err, ap, rules, arith}
use Rattle.std.proofs.lemmas.Result.{err_from_is_err_and}
use Rattle.sl_config.specs.Words.{with_word}
use Rattle.sl_config.specs.declared.job.WordsFault.TheVariants.{Memory}
use Rattle.sl_config.proofs.Steps.{step_ok, step_fail, steps_end}
use Rattle.sl_config.proofs.reading.with_words.Goals as goal

pub returns-in_err-given : goal.returns-in_err-given
returns-in_err-given c =
    let bytes : c.as_str.result.now ≡ string_bytes c.word-item.result = search rules in
    let p = err_from_is_err_and c.from_residual.result c.from_residual.ensures.1 in
    step_fail c.args.command c.words.given c.args.words.now c.word-item.result c.words.word-index _ c.from_residual.result _ c.in_err-given.field-0.0 p.1 p.2
    (λ m. c.in_err-given.ensures m ∙ ap (with_word c.args.command c.words.given) bytes) c.words-test.true c.word-item.is c.words.invariant

pub words-preserved : goal.words-preserved
words-preserved c =
    let bytes : c.as_str.result.now ≡ string_bytes c.word-item.result = search rules in
    let ok = c.in_ok-given.ensures (λ m. let e : Ok c.in_ok-given.given ≡ Err Memory = m in cc) ∙ ap (with_word c.args.command c.words.given) bytes in
    step_ok c.args.command c.words.given c.in_ok-given.given c.args.words.now c.word-item.result c.words.word-index _ c.words-test.true c.word-item.is ok c.words.invariant

pub returns : goal.returns
returns c = λ m. steps_end c.args.command c.words.given c.args.words.now c.words.word-index _ (omega arith) c.words.invariant
