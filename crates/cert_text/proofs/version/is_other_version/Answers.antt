use Rattle.std.proofs.Common.{◌≡◌, ◌++◌, ◌∷◌, [], Some, not, sym, ap, ◌∙◌}
use Rattle.std.specs.Prelude.{codes}
use Rattle.std.specs.Str.{bytes_eq}
use Rattle.std.proofs.lemmas.Bool.Decides.{Decides-eqb}
use Rattle.std.proofs.lemmas.Slice.Eq.{strip_prefix_is, strip_suffix_is}
use Rattle.cert_text.proofs.VersionLemmas.{other_is}
use Rattle.cert_text.proofs.version.is_other_version.Goals as goal

pub returns-then-is_numeral : goal.returns-then-is_numeral
returns-then-is_numeral c =
    let front : c.args.line.now ≡ codes "sherlog world " ++ c.in-Some.tail.now = strip_prefix_is Decides-eqb c.args.line.now (codes "sherlog world ") (Some c.in-Some.tail) c.in-Some.ensures.cases in
    let end : c.in-Some.tail.now ≡ c.in-Some-strip_suffix.number.now ++ 10 ∷ [] = strip_suffix_is Decides-eqb c.in-Some.tail.now (10 ∷ []) (Some c.in-Some-strip_suffix.number) c.in-Some-strip_suffix.ensures.cases in
    other_is c.args.line.now c.in-Some.tail.now c.in-Some-strip_suffix.number.now c.ne.result front end (sym c.is_numeral.ensures ∙ c.if-is_numeral.true) (c.ne.ensures ∙ ap (λ t. not (bytes_eq c.in-Some-strip_suffix.number.now t)) c.as_slice.ensures)
