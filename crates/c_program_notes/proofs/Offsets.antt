-- The offsets of what lives throughout the run, as a list in the order of the source, are those of `c_means`.
use Rattle.std.proofs.Common.{◌≡◌, ℕ, List, [], ◌∷◌, ◌++◌, Option, Some, None, map, reverse, refl, sym, ap, ◌∙◌}
use Rattle.std.proofs.lemmas.List.{reverse-append}
use Rattle.std.specs.Prelude.{option_map}
use Rattle.c_language.specs.declared.scope.Linked.{Linked}
use Rattle.c_language.specs.Scopes.{Name, Scope, linked_as}
use Rattle.c_means.specs.Items.{Item, Lasting}
use Rattle.c_means.specs.Names.{Literal}
use Rattle.c_means.specs.Names as names
use Rattle.c_means.specs.Programs.{Function, Outer, Program, Text, Needs}
use Rattle.c_means.specs.Runs.{with_offset, linked_offsets, lasting_offsets, literal_offsets, function_offsets}
use Rattle.c_means.specs.Runs.{outer_offsets, offsets_of, linked_offset, name_offsets, text_offsets}
use Rattle.core_programs.specs.Offsets.{offsets_from, offsets_in}
use Rattle.c_item_notes.specs.ItemTellings.{item_notes, lasting_notes}
use Rattle.c_item_notes.specs.Levels.{Judged}
use Rattle.c_names.specs.Kept.{kept}
use Rattle.c_reach.specs.Summaries.{function_notes}
use Rattle.c_program_notes.specs.Needed.{needs_notes}
use Rattle.c_program_notes.specs.Summaries.{outer_notes, program_notes}
use Rattle.c_program_notes.specs.Placed as spec

-- the first of them is put in last
abbrev put : List ℕ → List ℕ → List ℕ
put [] ats = ats
put (x ∷ xs) ats = with_offset x (put xs ats)

put_both : (xs ys ats : List ℕ) → put (xs ++ ys) ats ≡ put xs (put ys ats)
put_both [] ys ats = refl
put_both (x ∷ xs) ys ats = ap (with_offset x) (put_both xs ys ats)

from_both : (xs ys ats : List ℕ) → offsets_from ats (xs ++ ys) ≡ offsets_from (offsets_from ats xs) ys
from_both [] ys ats = refl
from_both (x ∷ xs) ys ats = from_both xs ys (with_offset x ats)

put_is : (xs ats : List ℕ) → offsets_from ats (reverse xs) ≡ put xs ats
put_is [] ats = refl
put_is (x ∷ xs) ats =
    ap (offsets_from ats) (reverse-append (x ∷ []) xs) ∙ from_both (reverse xs) (x ∷ []) ats
    ∙ ap (with_offset x) (put_is xs ats)

-- ---- list by list

lasting_is : (xs : List Lasting) (ats : List ℕ) →
    put (spec.lasting_list (lasting_notes xs)) ats ≡ lasting_offsets xs ats
lasting_is [] ats = refl
lasting_is (x ∷ xs) ats = ap (with_offset x.entry.at) (lasting_is xs ats)

literals_are : (xs : List Literal) (ats : List ℕ) → put (spec.literal_list xs) ats ≡ literal_offsets xs ats
literals_are [] ats = refl
literals_are (x ∷ xs) ats = ap (with_offset x.at) (literals_are xs ats)

linked_are : (xs : List Linked) (ats : List ℕ) → put (spec.linked_list xs) ats ≡ linked_offsets xs ats
linked_are [] ats = refl
linked_are (x ∷ xs) ats = ap (with_offset x.at) (linked_are xs ats)

texts_are : (xs : List Text) (ats : List ℕ) → put (spec.text_list xs) ats ≡ text_offsets xs ats
texts_are [] ats = refl
texts_are (x ∷ xs) ats = ap (with_offset x.at) (texts_are xs ats)

one_linked : (x : Option Linked) (ats : List ℕ) → put (spec.linked_at x) ats ≡ linked_offset x ats
one_linked None ats = refl
one_linked (Some x) ats = refl

names_are : (s : Scope) (xs : List Name) (ats : List ℕ) → put (spec.name_list s xs) ats ≡ name_offsets s xs ats
names_are s [] ats = refl
names_are s (x ∷ xs) ats =
    put_both (spec.linked_at (linked_as s x)) (spec.name_list s xs) ats
    ∙ one_linked (linked_as s x) (put (spec.name_list s xs) ats)
    ∙ ap (linked_offset (linked_as s x)) (names_are s xs ats)

-- ---- the program's

part_is : (j : Judged) (x : Item) (w : names.Names) (ats : List ℕ) →
    put (spec.part_list (item_notes j x) (kept w)) ats ≡ lasting_offsets x.lasting (literal_offsets w.literals ats)
part_is j x w ats =
    put_both (spec.lasting_list (lasting_notes x.lasting)) (spec.literal_list w.literals) ats
    ∙ lasting_is x.lasting (put (spec.literal_list w.literals) ats)
    ∙ ap (lasting_offsets x.lasting) (literals_are w.literals ats)

function_is : (j : Judged) (f : Option Function) (ats : List ℕ) →
    put (spec.function_list (option_map (function_notes j) f)) ats ≡ function_offsets f ats
function_is j None ats = refl
function_is j (Some f) ats = part_is j f.body f.names ats

outers_are : (j : Judged) (xs : List Outer) (ats : List ℕ) →
    put (spec.outers_list (map (outer_notes j) xs)) ats ≡ outer_offsets xs ats
outers_are j [] ats = refl
outers_are j (x ∷ xs) ats =
    let f = spec.function_list (option_map (function_notes j) x.function) in
    let more = spec.outers_list (map (outer_notes j) xs) in
    put_both (spec.outer_list (outer_notes j x)) more ats
    ∙ put_both (spec.part_list (item_notes j x.item) (kept x.names)) f (put more ats)
    ∙ part_is j x.item x.names (put f (put more ats))
    ∙ ap (λ ats. lasting_offsets x.item.lasting (literal_offsets x.names.literals ats))
    (function_is j x.function (put more ats) ∙ ap (function_offsets x.function) (outers_are j xs ats))

-- the offsets of what lives throughout the run
pub offsets_are : (j : Judged) (p : Program) →
    offsets_in (reverse (spec.program_list (program_notes j p))) ≡ offsets_of p
offsets_are j p =
    put_is (spec.program_list (program_notes j p)) []
    ∙ put_both (spec.outers_list (map (outer_notes j) p.outers)) (spec.linked_list p.scope.linked) []
    ∙ outers_are j p.outers (put (spec.linked_list p.scope.linked) [])
    ∙ ap (outer_offsets p.outers) (linked_are p.scope.linked [])

-- those of what is made before `main` is called
pub needed_are : (s : Scope) (x : Needs) →
    offsets_in (reverse (spec.needed_list s (needs_notes x)))
    ≡ name_offsets s x.links (lasting_offsets x.lasting (text_offsets x.texts []))
needed_are s x =
    let lasting = spec.lasting_list (lasting_notes x.lasting) in
    put_is (spec.needed_list s (needs_notes x)) []
    ∙ put_both (spec.name_list s x.links) (lasting ++ spec.text_list x.texts) []
    ∙ names_are s x.links (put (lasting ++ spec.text_list x.texts) [])
    ∙ ap (name_offsets s x.links)
    (put_both lasting (spec.text_list x.texts) [] ∙ lasting_is x.lasting (put (spec.text_list x.texts) [])
    ∙ ap (lasting_offsets x.lasting) (texts_are x.texts []))
