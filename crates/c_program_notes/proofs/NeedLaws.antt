-- What is reached, needed and made, over summaries, is what `c_means` says.
use Rattle.std.proofs.Common.{◌≡◌, ℕ, Bool, true, false, cond, not, List, [], ◌∷◌, ◌++◌, Option, Some, None, map, refl, sym, ap, ◌∙◌}
use Rattle.std.specs.Prelude.{option_map, nat_eq, ◌||◌}
use Rattle.std.proofs.lemmas.List.{append-nil, append_assoc}
use Rattle.c_store.specs.declared.object.ObjectKind.TheVariants as object
use Rattle.c_language.specs.declared.scope.Entry.{Entry}
use Rattle.c_language.specs.Scopes.{Name, entry_in}
use Rattle.c_means.specs.Items.{Item, Lasting}
use Rattle.c_means.specs.Names.{Word}
use Rattle.c_means.specs.Names as names
use Rattle.c_means.specs.Programs.{Function, Outer, Program, Text, Needs, all_needs, and_needs, declared_needs}
use Rattle.c_means.specs.Programs.{declares_some, function_needs, has_function, item_needs, no_needs, texts_of}
use Rattle.c_means.specs.Programs as programs
use Rattle.c_means.specs.Runs.{Machine, final_size, places_of}
use Rattle.core_tree.specs.declared.program.LastingObject.{LastingObject}
use Rattle.core_programs.specs.Programs.{contents_if, link_objects, object_of, objects_of, only_if, text_object}
use Rattle.core_programs.specs.Programs as core
use Rattle.c_item_notes.specs.declared.items.LastingNote.{LastingNote}
use Rattle.c_item_notes.specs.ItemTellings.{item_notes, lasting_note, lasting_notes}
use Rattle.c_item_notes.specs.Levels.{Judged}
use Rattle.c_names.specs.Kept.{kept}
use Rattle.c_reach.specs.declared.summaries.FunctionNotes.{FunctionNotes}
use Rattle.c_reach.specs.Summaries.{function_notes}
use Rattle.c_reach.specs.Reaching.{has_at}
use Rattle.c_program_notes.specs.declared.needing.Needs.{Needs as Held}
use Rattle.c_program_notes.specs.Needed.{needs_notes}
use Rattle.c_program_notes.specs.Needed as spec
use Rattle.c_program_notes.specs.Placed as placed
use Rattle.c_program_notes.specs.Summaries.{outer_notes}

-- ---- needs one behind the other

abbrev held : List Name → List LastingNote → List Text → Held
held a b c = record { links = a; lasting = b; texts = c }

held_same : (a a' : List Name) (b b' : List LastingNote) (c c' : List Text) → a ≡ a' → b ≡ b' → c ≡ c' →
    held a b c ≡ held a' b' c'
held_same a a' b b' c c' p q r =
    ap (λ x. held x b c) p ∙ ap (λ x. held a' x c) q ∙ ap (λ x. held a' b' x) r

abbrev pub after : Held → Needs → Held
after x y = held (x.links ++ y.links) (x.lasting ++ lasting_notes y.lasting) (x.texts ++ y.texts)

lasting_both : (xs ys : List Lasting) → lasting_notes (xs ++ ys) ≡ lasting_notes xs ++ lasting_notes ys
lasting_both [] ys = refl
lasting_both (x ∷ xs) ys = ap (λ zs. lasting_note x ∷ zs) (lasting_both xs ys)

after_both : (x : Held) (y z : Needs) → after (after x y) z ≡ after x (and_needs y z)
after_both x y z =
    held_same _ _ _ _ _ _ (append_assoc x.links y.links z.links)
    (append_assoc x.lasting (lasting_notes y.lasting) (lasting_notes z.lasting)
    ∙ ap (λ zs. x.lasting ++ zs) (sym (lasting_both y.lasting z.lasting)))
    (append_assoc x.texts y.texts z.texts)

after_none : (x : Held) → after x no_needs ≡ x
after_none x = held_same _ _ _ _ _ _ (append-nil x.links) (append-nil x.lasting) (append-nil x.texts)

if_needed : (b : Bool) (x : Held) (y : Needs) (z : Held) → z ≡ after x y →
    cond b z x ≡ after x (cond b y no_needs)
if_needed true x y z h = h
if_needed false x y z h = sym (after_none x)

declared_is : (j : Judged) (ws : List Word) (o : Outer) (x : Held) →
    spec.and_declared ws (outer_notes j o) x ≡ after x (declared_needs ws o)
declared_is j ws o x =
    if_needed (declares_some o.names.declares ws) x (item_needs [] o.item [] o.names)
    (spec.with_item (item_notes j o.item) [] (kept o.names) x) refl

with_function_is : (j : Judged) (f : Function) (x : Held) →
    spec.with_function (function_notes j f) x ≡ after x (item_needs (f.name ∷ []) f.body f.name f.names)
with_function_is j f x =
    ap (λ names. held names (x.lasting ++ lasting_notes f.body.lasting) (x.texts ++ texts_of f.name f.names.literals))
    (append_assoc x.links (f.name ∷ []) f.body.links)

has_is : (j : Judged) (f : Function) (found : List Function) →
    has_at f.at (map (function_notes j) found) ≡ has_function f found
has_is j f [] = refl
has_is j f (g ∷ gs) = ap (λ b. nat_eq f.at g.at || b) (has_is j f gs)

reached_is : (j : Judged) (found : List Function) (f : Option Function) (x : Held) →
    spec.and_reached (map (function_notes j) found) (option_map (function_notes j) f) x
    ≡ after x (function_needs found f)
reached_is j found None x = sym (after_none x)
reached_is j found (Some f) x =
    ap (λ b. cond b (spec.with_function (function_notes j f) x) x) (has_is j f found)
    ∙ if_needed (has_function f found) x (item_needs (f.name ∷ []) f.body f.name f.names)
    (spec.with_function (function_notes j f) x) (with_function_is j f x)

each_is : (j : Judged) (ws : List Word) (found : List Function) (os : List Outer) (x : Held) →
    spec.all_needs ws (map (function_notes j) found) (map (outer_notes j) os) x ≡ after x (all_needs ws found os)
each_is j ws found [] x = sym (after_none x)
each_is j ws found (o ∷ os) x =
    let y = declared_needs ws o in
    let z = function_needs found o.function in
    let more = all_needs ws found os in
    ap (λ (h : Held). spec.all_needs ws (map (function_notes j) found) (map (outer_notes j) os) h)
    (ap (λ (h : Held). spec.and_reached (map (function_notes j) found) (option_map (function_notes j) o.function) h)
    (declared_is j ws o x) ∙ reached_is j found o.function (after x y))
    ∙ each_is j ws found os (after (after x y) z)
    ∙ after_both (after x y) z more
    ∙ after_both x y (and_needs z more)

-- what lives throughout the run
pub needs_are : (j : Judged) (ws : List Word) (found : List Function) (os : List Outer) →
    spec.all_needs ws (map (function_notes j) found) (map (outer_notes j) os) spec.no_needs
    ≡ needs_notes (all_needs ws found os)
needs_are j ws found os = each_is j ws found os spec.no_needs

-- ---- objects

size_is : (m : Machine) (x : Lasting) (e : Option Entry) →
    placed.size_at_end m.program.scope.tables (lasting_note x) e ≡ final_size m.program x e
size_is m x None = refl
size_is m x (Some e) = refl

object_is : (m : Machine) (x : Lasting) →
    placed.object_of (places_of m.program) m.program.scope (lasting_note x) ≡ object_of m x
object_is m x =
    ap (λ n. record {
      place = places_of m.program x.entry.at;
      kind = object.Static;
      size = n;
      contents = contents_if x.is_defined;
    }) (size_is m x (entry_in m.program.scope.file x.entry.name))

declared_are : (m : Machine) (xs : List Lasting) →
    placed.declared_objects (places_of m.program) m.program.scope (lasting_notes xs) ≡ core.declared_objects m xs
declared_are m [] = refl
declared_are m (x ∷ xs) =
    ap (λ (y : LastingObject). only_if (not x.is_defined) y
    (placed.declared_objects (places_of m.program) m.program.scope (lasting_notes xs))) (object_is m x)
    ∙ ap (λ (ys : List LastingObject). only_if (not x.is_defined) (object_of m x) ys) (declared_are m xs)

defined_are : (m : Machine) (xs : List Lasting) →
    placed.defined_objects (places_of m.program) m.program.scope (lasting_notes xs) ≡ core.defined_objects m xs
defined_are m [] = refl
defined_are m (x ∷ xs) =
    ap (λ (y : LastingObject). only_if x.is_defined y
    (placed.defined_objects (places_of m.program) m.program.scope (lasting_notes xs))) (object_is m x)
    ∙ ap (λ (ys : List LastingObject). only_if x.is_defined (object_of m x) ys) (defined_are m xs)

-- the objects that are made before `main` is called
pub objects_are : (m : Machine) (x : Needs) →
    placed.objects (places_of m.program) m.program.scope (needs_notes x) ≡ objects_of m x
objects_are m x =
    let links = link_objects (places_of m.program) m.program.scope x.links in
    let texts = map (text_object (places_of m.program)) x.texts in
    ap (λ (ys : List LastingObject). links ++ (texts ++
    (ys ++ placed.defined_objects (places_of m.program) m.program.scope (lasting_notes x.lasting))))
    (declared_are m x.lasting)
    ∙ ap (λ (ys : List LastingObject). links ++ (texts ++ (core.declared_objects m x.lasting ++ ys)))
    (defined_are m x.lasting)
