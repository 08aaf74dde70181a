use Rattle.std.proofs.Common.{◌≡◌, OnOk, ap, subst, ◌∙◌}
use Rattle.std.proofs.lemmas.Result.{IfOk-weaker}
use Rattle.c_language.specs.Scopes.{Scope}
use Rattle.c_language.specs.Declarations.{FunctionSaid}
use Rattle.c_program_notes.specs.Summaries.{head_of}
use Rattle.c_program_notes.proofs.outers.into_body.Goals as goal

pub returns : goal.returns
returns c =
    record {
      head = IfOk-weaker c.head_of.result _ _ (λ h e. e ∙ ap head_of c.in_ok-said.ensures) c.head_of.ensures.head;
      scope = subst (λ (s : Scope). OnOk c.head_of.result (c.head_of.new.scope ≡ s))
          (ap (λ (f : FunctionSaid). f.inside) c.in_ok-said.ensures) c.head_of.ensures.scope;
    }
