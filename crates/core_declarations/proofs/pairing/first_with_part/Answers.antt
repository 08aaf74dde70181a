use Rattle.std.proofs.Common.{List, ap, ◌∙◌}
use Rattle.std.proofs.lemmas.Result.{IfOk-weaker}
use Rattle.c_language.specs.Scopes.{Scope}
use Rattle.core_declarations.specs.declared.pairing.Paired.{Paired}
use Rattle.core_declarations.specs.declared.pairing.Waiting.{Waiting}
use Rattle.core_declarations.proofs.Pairs.{removed_held}
use Rattle.core_declarations.proofs.pairing.first_with_part.Goals as goal

abbrev with_waiting : Paired → List Waiting → Paired
with_waiting x ws = record x { waiting = ws }

pub returns : goal.returns
returns c = λ numbering ns ps n h after held.
    let x = c.in_ok-paired.paired in
    IfOk-weaker c.with_part.result _ _ (λ y has. removed_held numbering ns ps c.args.paired x
    (with_waiting x c.remove-first.new.self) c.args.scope.now c.args.source c.remove-first.result n c.args.part.now y
    held h after c.in_ok-paired.ensures c.remove-first.ensures.item (ap (with_waiting x) c.remove-first.ensures.rest)
    (λ m i a. has numbering m i (c.tables.ensures ∙ ap (λ (s : Scope). s.tables) a))) c.with_part.ensures
