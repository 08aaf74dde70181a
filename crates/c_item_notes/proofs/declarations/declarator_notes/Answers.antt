use Rattle.std.proofs.Common.{ℕ, Option, not, sym, ap, ◌∙◌}
use Rattle.std.proofs.lemmas.Result.{IfOk-weaker}
use Rattle.std.specs.Prelude.{option_map}
use Rattle.c_language.specs.declared.unit.Initializer.{Initializer}
use Rattle.c_language.specs.Declarations.{is_extern}
use Rattle.c_declares.specs.Views.{formed_in}
use Rattle.c_declarations.specs.Beginnings.{Begins, begins_in, plainly}
use Rattle.c_means.specs.Initials.{initially}
use Rattle.c_means.specs.Statements.{name_offset}
use Rattle.c_item_notes.specs.Levels.{judged}
use Rattle.c_item_notes.specs.InitialTellings.{no_notes}
use Rattle.c_item_notes.specs.ItemTellings.{begun_item, declared_notes, item_as, summed}
use Rattle.c_item_notes.proofs.Declaring.{filled_item}
use Rattle.c_item_notes.proofs.DeclaredItems.{plain_item}
use Rattle.c_item_notes.proofs.declarations.declarator_notes.Goals as goal

pub returns-in_ok-begun-in-None : goal.returns-in_ok-begun-in-None
returns-in_ok-begun-in-None c =
    let j = judged c.args.source.now in
    let e = not (is_extern c.args.storage) in
    let f = formed_in c.args.formed c.args.scope.now in
    IfOk-weaker c.plain.result _ _ (λ n h. h
    ∙ ap (λ (k : ℕ). declared_notes k e (plainly (begins_in c.in_ok-begun-in-None.begun c.declared_first.new.scope)) no_notes)
    c.name_offset-at.ensures
    ∙ ap (λ (b : Begins). declared_notes (name_offset f.name) e (plainly b) no_notes) c.in_ok-begun-in-None.ensures
    ∙ plain_item j c.args.storage c.args.specified.now f
    ∙ ap (λ (o : Option Initializer). summed j (item_as c.args.storage c.args.specified.now f (option_map initially o)))
    (sym c.in-None.is)) c.plain.ensures

pub returns-in_ok-begun-in-Some : goal.returns-in_ok-begun-in-Some
returns-in_ok-begun-in-Some c =
    let j = judged c.args.source.now in
    let f = formed_in c.args.formed c.args.scope.now in
    let i = initially c.in-Some.initializer in
    IfOk-weaker c.initialised.result _ _ (λ n h. h
    ∙ ap (λ (k : ℕ). summed j (begun_item k (begins_in c.in_ok-begun-in-Some.begun c.declared_first-in-Some.new.scope) i))
    c.name_offset-at.ensures
    ∙ ap (λ (b : Begins). summed j (begun_item (name_offset f.name) b i)) c.in_ok-begun-in-Some.ensures
    ∙ ap (summed j) (filled_item c.args.storage c.args.specified.now f i)
    ∙ ap (λ (o : Option Initializer). summed j (item_as c.args.storage c.args.specified.now f (option_map initially o)))
    (sym c.in-Some.is)) c.initialised.ensures
