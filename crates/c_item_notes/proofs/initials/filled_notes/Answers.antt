use Rattle.std.proofs.Common.{map, ap, ◌∙◌}
use Rattle.std.proofs.lemmas.Result.{IfOk-weaker}
use Rattle.c_language.specs.declared.expr.Expr.{Expr}
use Rattle.c_language.specs.Initials.{fills_all}
use Rattle.c_initials.specs.Filled.{filling_in}
use Rattle.c_means.specs.Initials.{all_elements, all_fills, listed_item}
use Rattle.c_means.specs.Notes.{noted}
use Rattle.c_item_notes.specs.declared.initials.InitialNotes.{InitialNotes}
use Rattle.c_item_notes.specs.Levels.{judged, heard}
use Rattle.c_item_notes.specs.InitialTellings.{and_value, no_notes, see, seen_in}
use Rattle.c_item_notes.proofs.Filling.{alone_says, alone_notes, value_seen, list_whole, list_seen}
use Rattle.c_item_notes.proofs.initials.filled_notes.Goals as goal

pub returns-in_ok-x-in-Value-clause-says : goal.returns-in_ok-x-in-Value-clause-says
returns-in_ok-x-in-Value-clause-says c =
    let j = judged c.args.source.now in
    IfOk-weaker c.as_whole.result _ _ (λ z h. h ∙ alone_says j c.args.initializer.now c.in-Value.value c.in_ok-x-in-Value.x
    c.args.scope.now c.heard.new.scope c.in_ok-whole.whole c.args.ctype c.in-Value.is
    (c.in_ok-x-in-Value.ensures ∙ ap (λ (e : Expr). heard j (noted e c.args.scope.now)) c.get.ensures)
    c.in_ok-whole.ensures) c.as_whole.ensures.says

pub returns-in_ok-x-in-Value-clause-notes : goal.returns-in_ok-x-in-Value-clause-notes
returns-in_ok-x-in-Value-clause-notes c =
    let j = judged c.args.source.now in
    let x = c.in_ok-x-in-Value.x in
    let s = c.args.scope.now in
    IfOk-weaker c.as_whole.result _ _ (λ z h. h ∙ alone_notes j c.args.initializer.now c.args.ctype s c.heard.new.scope
    (and_value x.told x.notes no_notes) (value_seen j c.args.initializer.now c.in-Value.value x s c.heard.new.scope no_notes
    c.in-Value.is (c.in_ok-x-in-Value.ensures ∙ ap (λ (e : Expr). heard j (noted e s)) c.get.ensures))) c.as_whole.ensures.notes

pub returns-in_ok-filling-in-List-clause-says : goal.returns-in_ok-filling-in-List-clause-says
returns-in_ok-filling-in-List-clause-says c =
    let s = c.args.scope.now in
    let f = c.in_ok-filling-in-List.filling in
    IfOk-weaker c.fills_all.result _ _ (λ z h. h
    ∙ ap (λ xs. fills_all (all_fills (map listed_item xs)) (filling_in f s)) c.as_slice.ensures
    ∙ list_whole c.args.initializer.now c.in-List.at c.in-List.items c.in-List.trailing f c.in_ok-whole.whole c.args.ctype s
    c.in-List.is c.in_ok-whole.ensures c.in_ok-filling-in-List.ensures) c.fills_all.ensures.says

pub returns-in_ok-filling-in-List-clause-notes : goal.returns-in_ok-filling-in-List-clause-notes
returns-in_ok-filling-in-List-clause-notes c =
    let j = judged c.args.source.now in
    let s = c.args.scope.now in
    IfOk-weaker c.fills_all.result _ _ (λ z h. alone_notes j c.args.initializer.now c.args.ctype s c.fills_all.new.scope z.notes
    (h ∙ ap (λ xs. see j (all_elements (map listed_item xs)) (seen_in c.no_notes.result s)) c.as_slice.ensures
    ∙ ap (λ (n : InitialNotes). see j (all_elements (map listed_item c.in-List.items)) (seen_in n s)) c.no_notes.ensures
    ∙ list_seen j c.args.initializer.now c.in-List.at c.in-List.items c.in-List.trailing (seen_in no_notes s) c.in-List.is))
    c.fills_all.ensures.seen
