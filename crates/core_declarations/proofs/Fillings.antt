-- Initializers, from what the code has found of their parts.
use Rattle.std.proofs.Common.{◌≡◌, ℕ, suc, add-one, ◌+◌, ◌<◌, ◌≤◌, Bool, true, false, List, [], ◌∷◌, ◌++◌, map, length, drop, get_or}
use Rattle.std.proofs.Common.{Option, Some, None, drop-cons, refl, sym, ap, ap₂, ◌∙◌, subst}
use Rattle.std.proofs.lemmas.List.{drop_all}
use Rattle.c_language.specs.declared.expr.Expr.{Expr as Tree}
use Rattle.c_language.specs.declared.unit.Initializer.{Initializer}
use Rattle.c_language.specs.declared.unit.Initializer.TheVariants as initial
use Rattle.c_language.specs.declared.unit.InitializerItem.{InitializerItem}
use Rattle.c_language.specs.declared.ctype.CType.{CType}
use Rattle.c_language.specs.declared.tables.Tables.{Tables}
use Rattle.c_language.specs.Scopes.{Scope, empty}
use Rattle.c_language.specs.Typing.{Typed, typed_in}
use Rattle.c_language.specs.declared.shown.Told.{Told}
use Rattle.c_language.specs.Initials.{Fills, Filling, Frame, Part, fills_all, fills_value, filling_of, list_says, value_alone}
use Rattle.c_language.specs.Initials.{with_part_left}
use Rattle.c_initials.specs.Filled.{Filled, filling_in, no_filling}
use Rattle.c_initials.specs.Said.{Goes as GoesOn, closed, goes_on, opened}
use Rattle.c_initials.proofs.Listed.{scope_free}
use Rattle.c_means.specs.Parts.{State, Env}
use Rattle.c_means.specs.Parts as c
use Rattle.c_means.specs.Notes.{Noted, noted}
use Rattle.c_means.specs.Initials.{Initially, Listed, Element, initially, initialising, initial_of, evaluated, listed_item}
use Rattle.c_means.specs.Initials.{all_elements, designated, indices}
use Rattle.c_means.specs.Initials as runs
use Rattle.c_means.proofs.RunEquations.{initially-Value, initially-List, listed-Item}
use Rattle.c_item_notes.proofs.Designating.{by_notes, by_tree, same_by}
use Rattle.c_item_notes.proofs.Filling.{list_within}
use Rattle.core_tree.specs.declared.code.Setting.{Setting}
use Rattle.core_tree.specs.declared.expr.Expr.{Expr}
use Rattle.core_tree.specs.States.{Output, Level, onward, running}
use Rattle.core_tree.specs.Values.{value}
use Rattle.core_tree.specs.Values as values
use Rattle.core_tree.specs.Codes as core
use Rattle.core_marks.specs.Marks.{settings_marks, values_marks}
use Rattle.elaborate.specs.Means.{Numbering, Like, SameMarks, as_done}
use Rattle.elaborate.proofs.Codes.{running_same}
use Rattle.core_forms.proofs.Marks.{as_told, marks_then, no_marks}
use Rattle.core_declarations.specs.declared.initials.Walked.{Walked}
use Rattle.core_declarations.specs.declared.pairing.Paired.{Paired}
use Rattle.core_objects.specs.Given.{IsCounted, IsGiven}
use Rattle.core_declarations.specs.Pairing.{Holds, Step, counted_of, none_paired, noted_of, parts_of, settings_of}
use Rattle.core_declarations.specs.Walked.{HasGone, Walks}
use Rattle.core_declarations.proofs.DesignatedParts.{designated_parts}
use Rattle.core_declarations.proofs.Pairs.{none_held}
use Rattle.core_declarations.proofs.Walking.{walks_both, walks_designated, walks_from, walks_none, walks_one}

-- ---- an expression without braces

value_of : (i : Initializer) (v : Tree) → i ≡ initial.Value v → initially i ≡ runs.value_initially (noted v)
value_of i v is = ap initially is ∙ initially-Value v

pub value_says : (i : Initializer) (v : Tree) (told : Told) (s s1 : Scope) (f : Filled) → i ≡ initial.Value v
    → typed_in told s1 ≡ (noted v s).part.typed
    → fills_value (typed_in told s1) (filling_in f empty) ≡ (initially i).says.fills (filling_in f s)
value_says i v told s s1 f is h =
    scope_free (typed_in told s1) f empty s
    ∙ ap (λ (x : Typed). fills_value x (filling_in f s)) h
    ∙ sym (ap (λ (k : Initially). k.says.fills (filling_in f s)) (value_of i v is))

-- for a whole object
pub alone_says : (i : Initializer) (v : Tree) (told : Told) (s s1 : Scope) (p : Part) (t : CType) → i ≡ initial.Value v
    → typed_in told s1 ≡ (noted v s).part.typed → p ≡ record { type = t; offset = 0 }
    → value_alone (typed_in told s1) p (filling_in no_filling empty) ≡ filling_of (initially i).says t s
alone_says i v told s s1 p t is h whole =
    ap (λ (x : Typed). value_alone x p (filling_in no_filling empty)) h
    ∙ ap (λ (q : Part). value_alone (noted v s).part.typed q (filling_in no_filling empty)) whole
    ∙ sym (ap (λ (k : Initially). filling_of k.says t s) (value_of i v is))

pub value_walks : (n : Numbering) (i : Initializer) (v : Tree) (x y : Walked) (s t : Scope) → i ≡ initial.Value v
    → ((ns : List Noted) → HasGone n ns x → HasGone n (ns ++ noted v s ∷ []) y) → t ≡ (noted v s).part.typed.after
    → Walks n (initially i).elements x s y t
value_walks n i v x y s t is h after =
    subst (λ (k : Initially). Walks n k.elements x s y t) (sym (value_of i v is))
    (walks_one n (noted v) x y s t h after)

-- ---- a list in braces

pub list_walks : (n : Numbering) (i : Initializer) (at : ℕ) (items : List InitializerItem) (trailing : Bool)
    (x y : Walked) (s t : Scope) → i ≡ initial.List at items trailing
    → Walks n (all_elements (map listed_item items)) x s y t → Walks n (initially i).elements x s y t
list_walks n i at items trailing x y s t is h =
    subst (λ (k : Initially). Walks n k.elements x s y t) (sym (ap initially is ∙ initially-List at items trailing)) h

opened_parts : (at : ℕ) (tables : Tables) (fs : List Frame) (f : Filled) → (opened at tables fs f).parts ≡ f.parts
opened_parts at tables [] f = refl
opened_parts at tables (g ∷ fs) f = refl

closed_parts : (o : Option GoesOn) (y : Filling) → (closed o y).parts ≡ y.parts
closed_parts None y = refl
closed_parts (Some g) y = refl

pub list_says_it : (at : ℕ) (fs : List Fills) (f f1 inside z r : Filled) (o : Option GoesOn) (s t : Scope)
    → f1 ≡ record f { frames = with_part_left s.tables f.frames } → inside ≡ opened at s.tables f1.frames f1
    → o ≡ goes_on s.tables f1.frames f1.high → filling_in z t ≡ fills_all fs (filling_in inside s)
    → filling_in r t ≡ closed o (filling_in z t) → filling_in r t ≡ (list_says at fs).fills (filling_in f s)
list_says_it at fs f f1 inside z r o s t left begun behind filled ended =
    ended ∙ ap (closed o) filled
    ∙ ap (λ (o : Option GoesOn). closed o (fills_all fs (filling_in inside s))) behind
    ∙ ap (λ (g : Filled). closed (goes_on s.tables f1.frames f1.high) (fills_all fs (filling_in g s))) begun
    ∙ ap (λ (g : Filled). closed (goes_on s.tables g.frames g.high) (fills_all fs (filling_in (opened at s.tables g.frames g) s))) left
    ∙ list_within at fs f s

-- within braces
pub within_walks : (n : Numbering) (es : List Element) (x inside y z : Walked) (s t : Scope) (at : ℕ) (tables : Tables)
    (fs hs : List Frame) (o : Option GoesOn)
    → inside.filling ≡ opened at tables fs (record x.filling { frames = hs }) → inside.paired ≡ x.paired
    → Walks n es inside s y t → filling_in z.filling t ≡ closed o (filling_in y.filling t) → z.paired ≡ y.paired
    → Walks n es x s z t
within_walks n es x inside y z s t at tables fs hs o begun paired h ended paired' =
    walks_from n es x inside z y s t
    (sym (ap (λ (f : Filled). f.parts) begun ∙ opened_parts at tables fs (record x.filling { frames = hs })))
    (sym paired)
    (ap (λ (f : Filling). f.parts) ended ∙ closed_parts o (filling_in y.filling t))
    paired' h

-- ---- an item of a list

pub item_walks : (n : Numbering) (x : InitializerItem) (w w1 z : Walked) (s s1 t : Scope) → w1.paired ≡ w.paired
    → filling_in w1.filling s1 ≡ by_tree x.designators (filling_in w.filling s)
    → Walks n (initially x.value).elements w1 s1 z t → Walks n (listed_item x).elements w s z t
item_walks n x w w1 z s s1 t paired h k =
    let y = filling_in w.filling s in
    let parts = ap (λ (f : Filling). f.parts) h ∙ designated_parts x.designators y in
    subst (λ (l : Listed). Walks n l.elements w s z t) (sym (listed-Item x))
    (walks_designated n x.designators (initially x.value).elements y w z t
    (walks_from n (initially x.value).elements w w1 z z (by_notes x.designators y).scope t (sym parts) (sym paired) refl
    refl (subst (λ u. Walks n (initially x.value).elements w1 u z t)
    (ap (λ (f : Filling). f.scope) (h ∙ same_by x.designators y)) k)))

-- ---- items in turn

abbrev pub Leads : Numbering → List InitializerItem → Walked → Scope → List InitializerItem → Walked → Scope → Type 0
Leads n all x s items y t =
    (z : Walked) (u : Scope) → Walks n (all_elements (map listed_item items)) y t z u
    → Walks n (all_elements (map listed_item all)) x s z u

cut : (xs : List InitializerItem) (i : ℕ) (x : InitializerItem) → i < length xs → x ≡ get_or xs i x
    → drop i xs ≡ x ∷ drop (i + 1) xs
cut xs i x within is =
    drop-cons xs i x within
    ∙ ap (λ (z : InitializerItem). z ∷ drop (suc i) xs) (sym is)
    ∙ ap (λ (k : ℕ). x ∷ drop k xs) (sym (add-one i))

pub an_item : (n : Numbering) (xs : List InitializerItem) (x : Walked) (s : Scope) (i : ℕ) (e e' : InitializerItem)
    (y z : Walked) (t u : Scope) → i < length xs → e ≡ get_or xs i e → e' ≡ e → Leads n xs x s (drop i xs) y t
    → Walks n (listed_item e').elements y t z u → Leads n xs x s (drop (i + 1) xs) z u
an_item n xs x s i e e' y z t u within is same leads h w v g =
    subst (λ es. Leads n xs x s es y t) (cut xs i e within is) leads w v
    (walks_both n (listed_item e).elements (all_elements (map listed_item (drop (i + 1) xs))) y z w t u v
    (subst (λ e. Walks n (listed_item e).elements y t z u) same h) g)

pub all_items : (n : Numbering) (xs : List InitializerItem) (x : Walked) (s : Scope) (i : ℕ) (y : Walked) (t : Scope)
    → length xs ≤ i → Leads n xs x s (drop i xs) y t → Walks n (all_elements (map listed_item xs)) x s y t
all_items n xs x s i y t over leads =
    subst (λ es. Leads n xs x s es y t) (drop_all i xs over) leads y t (walks_none n y t)

-- ---- a whole initializer

module _ (n : Numbering) where
  all_sizes : (xs : List (Step n)) (ms : List Noted) (l : c.Level) (k : Level Output) → Like n l k
      → (core.all_needs Output (settings_of n xs)).size k.measures
      ≡ runs.all_sizes (parts_of n xs) (noted_of n xs ++ ms) l
  all_sizes [] ms l k like = refl
  all_sizes (x ∷ xs) ms l k like = ap₂ (λ a b. a + b) (x.is_pair.set.size l k like) (all_sizes xs ms l k like)

  all_rooms : (xs : List (Step n)) (ms : List Noted) (l : c.Level) (k : Level Output) → Like n l k
      → (core.all_needs Output (settings_of n xs)).room k.measures
      ≡ runs.all_rooms (parts_of n xs) (noted_of n xs ++ ms) l
  all_rooms [] ms l k like = refl
  all_rooms (x ∷ xs) ms l k like = ap₂ (λ a b. a + b) (x.is_pair.set.room l k like) (all_rooms xs ms l k like)

  all_counted : (xs : List (Step n)) (ms : List Noted) (l : c.Level) (k : Level Output) → Like n l k
      → values.all_sizes (map (value {O = Output}) (counted_of n xs)) k.measures
      ≡ runs.all_sizes (parts_of n xs) (noted_of n xs ++ ms) l
  all_counted [] ms l k like = refl
  all_counted (x ∷ xs) ms l k like = ap₂ (λ a b. a + b) (x.is_pair.size l k like) (all_counted xs ms l k like)

  all_marks : (xs : List (Step n)) (ms : List Noted)
      → SameMarks n (settings_marks (settings_of n xs)) (runs.each_marks (parts_of n xs) (noted_of n xs ++ ms))
  all_marks [] ms = no_marks n
  all_marks (x ∷ xs) ms = marks_then n x.is_pair.set.marks (all_marks xs ms)

  counted_marks : (xs : List (Step n)) (ms : List Noted)
      → SameMarks n (values_marks (counted_of n xs)) (runs.each_marks (parts_of n xs) (noted_of n xs ++ ms))
  counted_marks [] ms = no_marks n
  counted_marks (x ∷ xs) ms = marks_then n x.is_pair.marks (counted_marks xs ms)

  all_set : (xs : List (Step n)) (ms : List Noted) (l : c.Level) (k : Level Output) → Like n l k → (a : ℕ) (env : Env)
      (base : ℕ) (d : State) → core.sets_all (settings_of n xs) a k env base (as_done d)
      ≡ Some (as_done (runs.sets_all (parts_of n xs) (noted_of n xs ++ ms) a l env base d))
  all_set [] ms l k like a env base d = refl
  all_set (x ∷ xs) ms l k like a env base d =
      let more = settings_of n xs in
      let p = x.part in
      let m = x.noted in
      let y = x.pair.setting in
      ap (λ o. onward o (running (core.sets_all more a k env (base + (core.setting_needs Output y).room k.measures))))
      (x.is_pair.set.runs l k like a env base d)
      ∙ ap (λ r. running (core.sets_all more a k env (base + r)) (as_done (runs.sets p m a l env base d)))
      (x.is_pair.set.room l k like)
      ∙ running_same (core.sets_all more a k env (base + runs.set_room p m l))
      (runs.sets_all (parts_of n xs) (noted_of n xs ++ ms) a l env (base + runs.set_room p m l))
      (runs.sets p m a l env base d)
      (all_set xs ms l k like a env (base + runs.set_room p m l) (runs.sets p m a l env base d))

  steps_given : (xs : List (Step n)) (ms : List Noted) (b : Bool) (y : Filling) → y.parts ≡ parts_of n xs
      → IsGiven n (settings_of n xs) (initial_of b y (noted_of n xs ++ ms))
  steps_given xs ms b y parts =
      let ns = noted_of n xs ++ ms in
      record {
        size = λ l k like. all_sizes xs ms l k like
            ∙ ap (λ (ps : List Part). runs.all_sizes ps ns l) (sym parts);
        room = λ l k like. all_rooms xs ms l k like
            ∙ ap (λ (ps : List Part). runs.all_rooms ps ns l) (sym parts);
        runs = λ l k like a env base d. all_set xs ms l k like a env base d
            ∙ ap (λ (ps : List Part). Some (as_done (runs.sets_all ps ns a l env base d))) (sym parts);
        marks = as_told n (all_marks xs ms) (λ l. ap (λ (ps : List Part). runs.each_marks ps ns l) (sym parts));
      }

  -- what the expressions set that have their parts is what the whole initializer sets
  pub held_given : (b : Bool) (y : Filling) (ns : List Noted) (f : Filled) (x : Paired) → f.parts ≡ y.parts
      → Holds n ns f.parts x → IsGiven n x.settings (initial_of b y ns)
  held_given b y ns f x parts h =
      subst (λ (zs : List Setting). IsGiven n zs (initial_of b y ns)) (sym h.settings)
      (subst (λ ns. IsGiven n (settings_of n h.steps) (initial_of b y ns)) (sym h.noted)
      (steps_given h.steps h.left b y (sym parts ∙ h.parts)))

  pub held_counted : (b : Bool) (y : Filling) (ns : List Noted) (f : Filled) (x : Paired) → f.parts ≡ y.parts
      → Holds n ns f.parts x → IsCounted n x.counted (initial_of b y ns)
  held_counted b y ns f x parts h =
      subst (λ (es : List Expr). IsCounted n es (initial_of b y ns)) (sym h.counted)
      (subst (λ ns. IsCounted n (counted_of n h.steps) (initial_of b y ns)) (sym h.noted) (record {
        size = λ l k like. all_counted h.steps h.left l k like
            ∙ ap (λ (ps : List Part). runs.all_sizes ps (noted_of n h.steps ++ h.left) l)
            (sym h.parts ∙ parts);
        marks = as_told n (counted_marks h.steps h.left)
            (λ l. ap (λ (ps : List Part). runs.each_marks ps (noted_of n h.steps ++ h.left) l) (sym h.parts ∙ parts));
      }))

  -- an expression without braces
  pub value_gone : (i : Initializer) (v : Tree) (s : Scope) (z : Walked) → i ≡ initial.Value v
      → HasGone n (noted v s ∷ []) z → HasGone n (evaluated (initially i).elements s) z
  value_gone i v s z is h =
      subst (λ (k : Initially). HasGone n (evaluated k.elements s) z) (sym (value_of i v is)) h

  -- a list in braces, from where nothing is filled
  pub list_gone : (i : Initializer) (s u : Scope) (x z : Walked) → x.filling.parts ≡ [] → x.paired ≡ none_paired
      → Walks n (initially i).elements x s z u → HasGone n (evaluated (initially i).elements s) z
  list_gone i s u x z parts paired h =
      h.goes [] (subst (λ (ps : List Part). Holds n [] ps x.paired) (sym parts)
      (subst (λ (y : Paired). Holds n [] [] y) (sym paired) (none_held n)))

-- whether it stands in braces
pub value_braced : (i : Initializer) (v : Tree) → i ≡ initial.Value v → false ≡ (initially i).is_braced
value_braced i v is = sym (ap (λ (k : Initially). k.is_braced) (value_of i v is))

pub list_braced : (i : Initializer) (at : ℕ) (items : List InitializerItem) (trailing : Bool)
    → i ≡ initial.List at items trailing → true ≡ (initially i).is_braced
list_braced i at items trailing is =
    sym (ap (λ (k : Initially). k.is_braced) (ap initially is ∙ initially-List at items trailing))
