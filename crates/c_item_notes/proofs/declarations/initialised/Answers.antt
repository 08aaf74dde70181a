use Rattle.std.proofs.Common.{[], None, sym, ap, ◌∙◌, true}
use Rattle.std.proofs.lemmas.Result.{IfOk-weaker}
use Rattle.c_language.specs.Declarations.{Declared}
use Rattle.c_declarations.specs.Beginnings.{begins_in, filled}
use Rattle.c_means.specs.Initials.{initially}
use Rattle.c_item_notes.specs.declared.initials.InitialNotes.{InitialNotes}
use Rattle.c_item_notes.specs.Levels.{judged}
use Rattle.c_item_notes.specs.ItemTellings.{declared_notes}
use Rattle.c_item_notes.proofs.DeclaredItems.{unfilled_item, object_item}
use Rattle.c_item_notes.proofs.declarations.initialised.Goals as goal

pub returns-in_ok-declared-in-None : goal.returns-in_ok-declared-in-None
returns-in_ok-declared-in-None c =
    let j = judged c.args.source.now in
    let b = c.args.begun in
    let s = c.args.scope.now in
    IfOk-weaker c.declared_notes.result _ _ (λ n h. h
    ∙ ap (λ (w : Declared). declared_notes c.args.at true w c.no_notes.result) c.in_ok-declared-in-None.ensures
    ∙ ap (λ (k : InitialNotes). declared_notes c.args.at true
    (filled b.named b.faults (record { length = None; faults = []; after = s })) k) c.no_notes.ensures
    ∙ unfilled_item j c.args.at (begins_in b s) (initially c.args.initializer.now)
    (sym c.in_ok-object.ensures ∙ c.in-None.is)) c.declared_notes.ensures

pub returns-in_ok-declared-in-Some : goal.returns-in_ok-declared-in-Some
returns-in_ok-declared-in-Some c =
    let j = judged c.args.source.now in
    let b = c.args.begun in
    let s = c.args.scope.now in
    let x = c.in_ok-found-in-Some.found in
    IfOk-weaker c.declared_notes-in-Some.result _ _ (λ n h. h
    ∙ ap (λ (w : Declared). declared_notes c.args.at true w x.notes) c.in_ok-declared-in-Some.ensures
    ∙ object_item j c.args.at (begins_in b s) (initially c.args.initializer.now) c.in-Some.ctype x.filling x.notes
    c.filled_notes.new.scope (sym c.in_ok-object.ensures ∙ c.in-Some.is) c.in_ok-found-in-Some.ensures.says
    c.in_ok-found-in-Some.ensures.notes) c.declared_notes-in-Some.ensures
