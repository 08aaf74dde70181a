use Rattle.std.proofs.Common.{length, sym, ap, ◌∙◌}
use Rattle.std.proofs.lemmas.Bool.{false≢true}
use Rattle.printf_text.proofs.KindLemmas.{HaveKinds-length}
use Rattle.printf_text.proofs.kind.have_kinds.Goals as goal

pub returns-then-kinds-args : goal.returns-then-kinds-args
returns-then-kinds-args c =
    (λ f. absurd (false≢true f), λ h. absurd (c.if-kinds-args.true (ap length c.as_slice-kinds.ensures ∙ HaveKinds-length _ _ h ∙ sym (ap length c.as_slice-args.ensures))))
