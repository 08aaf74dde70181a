use Rattle.std.proofs.Common.{sym, ap, ◌∙◌}
use Rattle.c_language.specs.Scopes.{Name}
use Rattle.c_reach.specs.Reaching.{named_in}
use Rattle.c_program_notes.specs.Refused.{call_by, counted_call}
use Rattle.c_program_notes.proofs.accepting.call_breach.Goals as goal

pub returns-in-Some : goal.returns-in-Some
returns-in-Some c =
    let x = c.args.call.now in
    let fs = c.args.named.now in
    c.body_call.ensures
    ∙ ap (λ (name : Name). counted_call x c.in-Some.arguments (named_in fs name)) (c.as_slice.ensures ∙ c.get.ensures)
    ∙ ap (call_by fs x) (sym c.in-Some.is)
