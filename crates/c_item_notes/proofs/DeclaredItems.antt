-- What is noted of a declarator, and of a whole declaration, from what the code has found of it.
use Rattle.std.proofs.Common.{◌≡◌, ℕ, true, false, List, [], Bool, not, ◌||◌, map, Option, Some, None, refl, sym, ap, ◌∙◌}
use Rattle.c_language.specs.declared.expr.StorageClass.{StorageClass}
use Rattle.c_language.specs.declared.unit.Declaration.{Declaration}
use Rattle.c_language.specs.declared.ctype.CType.{CType}
use Rattle.c_language.specs.Scopes.{Scope, empty}
use Rattle.c_language.specs.Initials.{Filling, filling_of}
use Rattle.c_language.specs.Declares.{Said, Saying, Formed, derived_from, formed_type, said_by, specified}
use Rattle.c_language.specs.Declarations.{Declared, initialised_by, is_extern}
use Rattle.c_language.specs.Trees.{specifier_says}
use Rattle.c_language.specs.Units.{initialises, initialised}
use Rattle.c_declares.specs.declared.said.Said.{Said as Held}
use Rattle.c_declares.specs.Views.{said_in}
use Rattle.c_declarations.specs.Beginnings.{Begins, begun, filled, filled_by, object_of, plainly}
use Rattle.c_declarations.specs.Views.{declares_as}
use Rattle.c_declarations.proofs.BegunLaws.{plainly_is}
use Rattle.c_declarations.proofs.Wholes.{specified_free}
use Rattle.c_initials.specs.Filled.{Filled, filling_in}
use Rattle.c_means.specs.Items.{Item, typing, with_breaches}
use Rattle.c_means.specs.Initials.{Initially, initialising, initialising_if, uninitialised}
use Rattle.c_means.specs.Notes.{specifier_noted}
use Rattle.c_means.specs.Statements.{Declaring, declaring, declaration, declares_all, is_alone}
use Rattle.c_means.specs.Statements.{name_offset}
use Rattle.c_checks.specs.Refusals.{least_of}
use Rattle.c_item_notes.specs.declared.initials.InitialNotes.{InitialNotes}
use Rattle.c_item_notes.specs.declared.items.ItemNotes.{ItemNotes}
use Rattle.c_item_notes.specs.Levels.{Judged}
use Rattle.c_item_notes.specs.InitialTellings.{initial_notes, no_notes}
use Rattle.c_item_notes.specs.ItemTellings.{Summed, summed, summed_in, item_notes, breaking, both, nothing_noted}
use Rattle.c_item_notes.specs.ItemTellings.{begun_item, declared_notes, item_as, items_from, and_item}
use Rattle.c_item_notes.proofs.ItemLaws.{breaking_is, declared_is, front_breaking, items_are}
use Rattle.c_item_notes.proofs.Declaring.{specifiers_are}

-- ---- with an initializer

-- by the type of the object that it fills
abbrev by_object : Judged → ℕ → Begins → Initially → Option CType → Summed
by_object j at b i o =
    declared_notes at true (filled b.named b.faults (initialised_by (initialises i.says) o b.after))
    (initial_notes j (initialising_if (Some i) o b.after))

object_is : (j : Judged) (at : ℕ) (b : Begins) (i : Initially) →
    by_object j at b i (object_of b.named) ≡ summed j (begun_item at b i)
object_is j at b i =
    sym (declared_is j at true (filled_by b (initialises i.says)) (initialising_if (Some i) (object_of b.named) b.after))

pub unfilled_item : (j : Judged) (at : ℕ) (b : Begins) (i : Initially) → object_of b.named ≡ None →
    declared_notes at true (filled b.named b.faults (record { length = None; faults = []; after = b.after })) no_notes
    ≡ summed j (begun_item at b i)
unfilled_item j at b i e = ap (by_object j at b i) (sym e) ∙ object_is j at b i

pub object_item : (j : Judged) (at : ℕ) (b : Begins) (i : Initially) (t : CType) (f : Filled) (n : InitialNotes)
    (s1 : Scope) → object_of b.named ≡ Some t → filling_in f s1 ≡ filling_of i.says t b.after →
    n ≡ initial_notes j (initialising i t b.after) →
    declared_notes at true (filled b.named b.faults (record { length = Some f.high; faults = f.faults; after = s1 })) n
    ≡ summed j (begun_item at b i)
object_item j at b i t f n s1 e says noted =
    ap (λ (y : Filling). declared_notes at true (filled b.named b.faults (initialised y)) n) says
    ∙ ap (λ (k : InitialNotes). declared_notes at true (filled b.named b.faults (initialises i.says t b.after)) k) noted
    ∙ ap (by_object j at b i) (sym e) ∙ object_is j at b i

-- ---- without one

or_false : (b : Bool) → not b ≡ (not b || false)
or_false true = refl
or_false false = refl

pub plain_item : (j : Judged) (storage : Option StorageClass) (t : Option CType) (f : Formed) →
    declared_notes (name_offset f.name) (not (is_extern storage))
    (plainly (begun storage f.name (formed_type f.after.tables (derived_from f.derivations t)) false f.faults f.after)) no_notes
    ≡ summed j (item_as storage t f None)
plain_item j storage t f =
    let at = name_offset f.name in
    let w = declares_as storage t f None in
    ap (λ (x : Declared). declared_notes at (not (is_extern storage)) x no_notes)
    (plainly_is storage f.name (formed_type f.after.tables (derived_from f.derivations t)) f.faults f.after)
    ∙ ap (λ (d : Bool). declared_notes at d w no_notes) (or_false (is_extern storage))
    ∙ sym (declared_is j at (not (is_extern storage) || false) w uninitialised)

-- ---- one more declarator, and all of them

pub one_more : (j : Judged) (before m n : ItemNotes) (s s1 : Scope) (x : Item) → n ≡ both before m →
    summed_in m s1 ≡ summed j x → summed_in n s1 ≡ and_item j (summed_in before s) x
one_more j before m n s s1 x two h =
    ap (λ (k : ItemNotes). summed_in k s1) two ∙ ap (λ (z : Summed). summed_in (both before z.notes) z.after) h

abbrev behind_said : Said → Summed
behind_said said = summed_in (breaking (least_of (typing said.faults)) nothing_noted) said.scope

all_items : (j : Judged) (said : Said) (xs : List Declaring) →
    items_from j said.storage (specified said) (behind_said said) xs
    ≡ summed j (with_breaches (typing said.faults) (declares_all said xs said.scope))
all_items j said xs =
    let x = declares_all said xs said.scope in
    items_are j said (behind_said said) xs
    ∙ ap (λ (n : ItemNotes). summed_in n x.after)
    (front_breaking (least_of (typing said.faults)) (item_notes j x) ∙ sym (breaking_is j (typing said.faults) x))

pub whole_item : (j : Judged) (d : Declaration) (s t : Scope) (said : Held) (alone : Bool) →
    said_in said t ≡ said_by (map specifier_says d.specifiers) alone [] s →
    alone ≡ is_alone (map declaring d.declarators) →
    items_from j said.storage (specified (said_in said empty))
    (summed_in (breaking (least_of (typing said.faults)) nothing_noted) t) (map declaring d.declarators)
    ≡ summed j (declaration d s)
whole_item j d s t said alone e f =
    let xs = map declaring d.declarators in
    let said_noted : List Saying → Bool → Said = λ ss b. said_by ss b [] s in
    let by : Said → Summed = λ y. summed j (with_breaches (typing y.faults) (declares_all y xs y.scope)) in
    ap (λ (u : Option CType). items_from j said.storage u (behind_said (said_in said t)) xs) (specified_free said empty t)
    ∙ all_items j (said_in said t) xs
    ∙ ap by (e ∙ ap (λ (ss : List Saying). said_noted ss alone) (sym (specifiers_are d.specifiers))
    ∙ ap (λ (b : Bool). said_noted (map specifier_noted d.specifiers) b) f)
