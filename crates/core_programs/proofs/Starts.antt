-- What the core of a program makes and sets before `main` is called is what the program does.
use Rattle.std.proofs.Common.{◌≡◌, ℕ, ℤ, Bool, true, false, cond, not, List, [], ◌∷◌, ◌++◌, map, Option}
use Rattle.std.proofs.Common.{Some, None, Result, Ok, Err, refl, sym, ap, ◌∙◌}
use Rattle.plain_data.specs.declared.run.Finish.TheVariants as finish
use Rattle.c_store.specs.declared.object.ObjectKind.TheVariants as object
use Rattle.c_store.specs.Store.{Store, start}
use Rattle.c_language.specs.declared.scope.Linked.{Linked}
use Rattle.c_language.specs.Scopes.{Name, entry_in, linked_as}
use Rattle.c_means.specs.declared.kind.Kind.{Kind}
use Rattle.c_means.specs.declared.kind.Kind.TheVariants as k
use Rattle.c_means.specs.Parts.{State, Env}
use Rattle.c_means.specs.Parts as c
use Rattle.c_means.specs.Items.{Lasting}
use Rattle.c_means.specs.Items as runs
use Rattle.c_means.specs.Programs.{Text, Needs, needs_of}
use Rattle.c_means.specs.Rules.{identity_index}
use Rattle.c_means.specs.Runs as whole
use Rattle.c_means.specs.Statements.{no_env}
use Rattle.core_tree.specs.declared.program.Core.{Core}
use Rattle.core_tree.specs.declared.program.LastingObject.{LastingObject}
use Rattle.core_tree.specs.declared.program.LastingSetting.{LastingSetting}
use Rattle.core_tree.specs.Callees.{body_call}
use Rattle.core_tree.specs.States.{Output, plain, Done, Arrow, Level, onward, running, where_running, entered, finished}
use Rattle.core_tree.specs.Programs.{Machine, machine}
use Rattle.core_tree.specs.Programs as core
use Rattle.core_tree.specs.Codes as codes
use Rattle.elaborate.specs.Means.{as_done, Like}
use Rattle.core_programs.specs.Programs.{maybe_function, link_objects, text_object, contents_if, object_of}
use Rattle.core_programs.specs.Programs.{only_if, declared_objects, defined_objects, objects_of}
use Rattle.core_programs.specs.Programs.{AllSettings, no_calls, bare_numbering, joined, IsStartOf, machine_for}
use Rattle.core_programs.specs.Quiet.{IsLast}

-- ---- where a run is running, or not

pub record Passes (kind : Kind) : Type 0 where
  pub core : (x y : Option (Done Output)) → where_running kind x y ≡ y
  pub source : (x y : State) → runs.where_running kind x y ≡ y

pub running_or : (kind : Kind) → Result (kind ≡ k.Running) (Passes kind)
running_or k.Running = Ok refl
running_or k.Breaking = Err (record { core = λ x y. refl; source = λ x y. refl })
running_or k.Continuing = Err (record { core = λ x y. refl; source = λ x y. refl })
running_or k.Returning = Err (record { core = λ x y. refl; source = λ x y. refl })
running_or (k.Going label) = Err (record { core = λ x y. refl; source = λ x y. refl })
running_or (k.Choosing z) = Err (record { core = λ x y. refl; source = λ x y. refl })
running_or k.Defaulting = Err (record { core = λ x y. refl; source = λ x y. refl })
running_or (k.Ended f) = Err (record { core = λ x y. refl; source = λ x y. refl })

-- ---- places that are met

meets_same : (m : whole.Machine) (ats : List ℕ) (d : State)
    → core.meets_all plain (map (whole.places_of m.program) ats) (as_done d) ≡ as_done (whole.meets_offsets m ats d)
meets_same m [] d = refl
meets_same m (at ∷ ats) d = meets_same m ats (c.meet (whole.places_of m.program at) d)

meets_quiet : (m : whole.Machine) (ats : List ℕ) (d : State) → (whole.meets_offsets m ats d).printed ≡ d.printed
meets_quiet m [] d = refl
meets_quiet m (at ∷ ats) d = meets_quiet m ats (c.meet (whole.places_of m.program at) d)

-- ---- objects that are made

made_append : (xs ys : List LastingObject) (d : Done Output) → core.makes_all (xs ++ ys) d ≡ core.makes_all ys
    (core.makes_all xs d)
made_append [] ys d = refl
made_append (x ∷ xs) ys d = made_append xs ys (core.makes x d)

link_made : (m : whole.Machine) (o : Option Linked) (xs : List LastingObject) (d : State)
    → core.makes_all (maybe_function (whole.places_of m.program) o xs) (as_done d) ≡ core.makes_all xs
    (as_done (whole.makes_link m o d))
link_made m None xs d = refl
link_made m (Some x) xs d = refl

links_made : (m : whole.Machine) (names : List Name) (d : State)
    → core.makes_all (link_objects (whole.places_of m.program) m.program.scope names) (as_done d) ≡ as_done
    (whole.makes_links m names d)
links_made m [] d = refl
links_made m (name ∷ names) d =
    link_made m (linked_as m.program.scope name)
    (link_objects (whole.places_of m.program) m.program.scope names) d
    ∙ links_made m names (whole.makes_link m (linked_as m.program.scope name) d)

link_quiet : (m : whole.Machine) (o : Option Linked) (d : State) → (whole.makes_link m o d).printed ≡ d.printed
link_quiet m None d = refl
link_quiet m (Some x) d = refl

links_quiet : (m : whole.Machine) (names : List Name) (d : State) → (whole.makes_links m names d).printed ≡ d.printed
links_quiet m [] d = refl
links_quiet m (name ∷ names) d =
    links_quiet m names (whole.makes_link m (linked_as m.program.scope name) d)
    ∙ link_quiet m (linked_as m.program.scope name) d

texts_made : (m : whole.Machine) (xs : List Text) (d : State)
    → core.makes_all (map (text_object (whole.places_of m.program)) xs) (as_done d) ≡ as_done (whole.makes_texts m xs d)
texts_made m [] d = refl
texts_made m (x ∷ xs) d = texts_made m xs (whole.makes_text m x d)

texts_quiet : (m : whole.Machine) (xs : List Text) (d : State) → (whole.makes_texts m xs d).printed ≡ d.printed
texts_quiet m [] d = refl
texts_quiet m (x ∷ xs) d = texts_quiet m xs (whole.makes_text m x d)

object_by : (b : Bool) (place n : ℕ) (d : State)
    → core.makes (record { place = place; kind = object.Static; size = n; contents = contents_if b }) (as_done d)
    ≡ as_done (whole.zeroed_if b place n (whole.object_at object.Static place n d))
object_by true place n d = refl
object_by false place n d = refl

object_made : (m : whole.Machine) (x : Lasting) (d : State) → core.makes (object_of m x) (as_done d) ≡ as_done
    (whole.makes_object m x d)
object_made m x d =
    object_by x.is_defined (whole.places_of m.program x.entry.at)
    (whole.final_size m.program x (entry_in m.program.scope.file x.entry.name)) d

only_declared : (m : whole.Machine) (b : Bool) (x : Lasting) (xs : List LastingObject) (d : State)
    → core.makes_all (only_if (not b) (object_of m x) xs) (as_done d) ≡ core.makes_all xs
    (as_done (cond b d (whole.makes_object m x d)))
only_declared m true x xs d = refl
only_declared m false x xs d = ap (core.makes_all xs) (object_made m x d)

declared_made : (m : whole.Machine) (xs : List Lasting) (d : State) → core.makes_all (declared_objects m xs) (as_done d)
    ≡ as_done (whole.makes_objects m false xs d)
declared_made m [] d = refl
declared_made m (x ∷ xs) d =
    only_declared m x.is_defined x (declared_objects m xs) d
    ∙ declared_made m xs (cond x.is_defined d (whole.makes_object m x d))

only_defined : (m : whole.Machine) (b : Bool) (x : Lasting) (xs : List LastingObject) (d : State)
    → core.makes_all (only_if b (object_of m x) xs) (as_done d) ≡ core.makes_all xs
    (as_done (cond b (whole.makes_object m x d) d))
only_defined m true x xs d = ap (core.makes_all xs) (object_made m x d)
only_defined m false x xs d = refl

defined_made : (m : whole.Machine) (xs : List Lasting) (d : State) → core.makes_all (defined_objects m xs) (as_done d)
    ≡ as_done (whole.makes_objects m true xs d)
defined_made m [] d = refl
defined_made m (x ∷ xs) d =
    only_defined m x.is_defined x (defined_objects m xs) d
    ∙ defined_made m xs (cond x.is_defined (whole.makes_object m x d) d)

zeroed_quiet : (b : Bool) (place n : ℕ) (d : State) → (whole.zeroed_if b place n d).printed ≡ d.printed
zeroed_quiet true place n d = refl
zeroed_quiet false place n d = refl

object_quiet : (m : whole.Machine) (x : Lasting) (d : State) → (whole.makes_object m x d).printed ≡ d.printed
object_quiet m x d =
    let place = whole.places_of m.program x.entry.at in
    let n = whole.final_size m.program x (entry_in m.program.scope.file x.entry.name) in
    zeroed_quiet x.is_defined place n (whole.object_at object.Static place n d)

either_quiet : (b : Bool) (x y : State) (text : List ℕ) → x.printed ≡ text → y.printed ≡ text
    → (cond b x y).printed ≡ text
either_quiet true x y text p q = p
either_quiet false x y text p q = q

objects_quiet : (m : whole.Machine) (b : Bool) (xs : List Lasting) (d : State)
    → (whole.makes_objects m b xs d).printed ≡ d.printed
objects_quiet m true [] d = refl
objects_quiet m false [] d = refl
objects_quiet m true (x ∷ xs) d =
    objects_quiet m true xs (cond x.is_defined (whole.makes_object m x d) d)
    ∙ either_quiet x.is_defined (whole.makes_object m x d) d d.printed (object_quiet m x d) refl
objects_quiet m false (x ∷ xs) d =
    objects_quiet m false xs (cond x.is_defined d (whole.makes_object m x d))
    ∙ either_quiet x.is_defined d (whole.makes_object m x d) d.printed refl (object_quiet m x d)

pub makes_same : (m : whole.Machine) (x : Needs) (d : State) → core.makes_all (objects_of m x) (as_done d) ≡ as_done
    (whole.makes m x d)
makes_same m x d =
    let place = whole.places_of m.program in
    let links = link_objects place m.program.scope x.links in
    let texts = map (text_object place) x.texts in
    let linked = whole.makes_links m x.links d in
    let with_texts = whole.makes_texts m x.texts linked in
    made_append links (texts ++ (declared_objects m x.lasting ++ defined_objects m x.lasting)) (as_done d)
    ∙ ap (core.makes_all (texts ++ (declared_objects m x.lasting ++ defined_objects m x.lasting)))
    (links_made m x.links d)
    ∙ made_append texts (declared_objects m x.lasting ++ defined_objects m x.lasting) (as_done linked)
    ∙ ap (core.makes_all (declared_objects m x.lasting ++ defined_objects m x.lasting)) (texts_made m x.texts linked)
    ∙ made_append (declared_objects m x.lasting) (defined_objects m x.lasting) (as_done with_texts)
    ∙ ap (core.makes_all (defined_objects m x.lasting)) (declared_made m x.lasting with_texts)
    ∙ defined_made m x.lasting (whole.makes_objects m false x.lasting with_texts)

makes_quiet : (m : whole.Machine) (x : Needs) (d : State) → (whole.makes m x d).printed ≡ d.printed
makes_quiet m x d =
    let linked = whole.makes_links m x.links d in
    let with_texts = whole.makes_texts m x.texts linked in
    objects_quiet m true x.lasting (whole.makes_objects m false x.lasting with_texts)
    ∙ objects_quiet m false x.lasting with_texts ∙ texts_quiet m x.texts linked ∙ links_quiet m x.links d

-- ---- initializers

onward_first : (o : Option (Done Output)) (f g h : Arrow Output) → ((r : Done Output) → f r ≡ onward (g r) h)
    → onward o f ≡ onward (onward o g) h
onward_first None f g h same = refl
onward_first (Some r) f g h same = same r

-- a first step that is running, and others behind it
running_first : (a f g h : Arrow Output) (d : Done Output) → ((r : Done Output) → f r ≡ onward (g r) (running h))
    → running (λ d. onward (a d) f) d ≡ onward (running (λ d. onward (a d) g) d) (running h)
running_first a f g h d same = by (running_or d.kind) where
  by : Result (d.kind ≡ k.Running) (Passes d.kind)
      → where_running d.kind (onward (a d) f) (Some d)
      ≡ onward (where_running d.kind (onward (a d) g) (Some d)) (running h)
  by (Ok e) =
      ap (λ kind. where_running kind (onward (a d) f) (Some d)) e ∙ onward_first (a d) f g (running h) same
      ∙ ap (λ kind. onward (where_running kind (onward (a d) g) (Some d)) (running h)) (sym e)
  by (Err p) =
      p.core (onward (a d) f) (Some d) ∙ sym (p.core (h d) (Some d))
      ∙ ap (λ o. onward o (running h)) (sym (p.core (onward (a d) g) (Some d)))

-- nothing is set first
running_none : (h : Arrow Output) (d : Done Output) → running h d ≡ onward (running (λ d. Some d) d) (running h)
running_none h d = by (running_or d.kind) where
  by : Result (d.kind ≡ k.Running) (Passes d.kind)
      → running h d ≡ onward (where_running d.kind (Some d) (Some d)) (running h)
  by (Ok e) = ap (λ kind. onward (where_running kind (Some d) (Some d)) (running h)) (sym e)
  by (Err p) = ap (λ o. onward o (running h)) (sym (p.core (Some d) (Some d)))

sets_append : (xs ys : List LastingSetting) (l : Level Output) (d : Done Output)
    → running (core.sets_all (xs ++ ys) l) d ≡ onward (running (core.sets_all xs l) d) (running (core.sets_all ys l))
sets_append [] ys l d = running_none (core.sets_all ys l) d
sets_append (x ∷ xs) ys l d =
    running_first (codes.sets x.setting (start x.place) l no_env 0) (running (core.sets_all (xs ++ ys) l))
    (running (core.sets_all xs l)) (core.sets_all ys l) d (sets_append xs ys l)

-- the same of the definition
source_first : (f g : State → State) (d : State)
    → runs.running (λ d. runs.running g (f d)) d ≡ runs.running g (runs.running f d)
source_first f g d = by (running_or d.kind) where
  by : Result (d.kind ≡ k.Running) (Passes d.kind)
      → runs.where_running d.kind (runs.running g (f d)) d ≡ runs.running g (runs.where_running d.kind (f d) d)
  by (Ok e) =
      ap (λ kind. runs.where_running kind (runs.running g (f d)) d) e
      ∙ ap (λ kind. runs.running g (runs.where_running kind (f d) d)) (sym e)
  by (Err p) =
      p.source (runs.running g (f d)) d ∙ sym (p.source (g d) d)
      ∙ ap (λ r. runs.running g r) (sym (p.source (f d) d))

source_none : (d : State) → runs.running (λ d. d) d ≡ d
source_none d = by (running_or d.kind) where
  by : Result (d.kind ≡ k.Running) (Passes d.kind) → runs.where_running d.kind d d ≡ d
  by (Ok e) = ap (λ kind. runs.where_running kind d d) e
  by (Err p) = p.source d d

core_none : (d : Done Output) → running (λ d. Some d) d ≡ Some d
core_none d = by (running_or d.kind) where
  by : Result (d.kind ≡ k.Running) (Passes d.kind) → where_running d.kind (Some d) (Some d) ≡ Some d
  by (Ok e) = ap (λ kind. where_running kind (Some d) (Some d)) e
  by (Err p) = p.core (Some d) (Some d)

none_some : {A : Type 0} {x : A} → None ≡ Some x → ⊥
none_some e = cc

-- where no call is left, each call is that of function 0
module _ (place : ℕ → ℕ) (identity : Name → Option ℕ) (l : c.Level) (k : Level Output) (last : IsLast l k)
    (taken : k.taking ≡ plain)
  where
    left : (g : c.Site) (f : ℕ) (env : Env) (vs : List ℤ) (base : ℕ) (s : Store) (o : Output)
        → body_call k.call k.taking g.at f vs base s o ≡ Some (as_done (l.call g env vs base s o.count))
    left g f env vs base s o =
        ap (λ calls. body_call calls k.taking g.at f vs base s o) last.none_left
        ∙ ap (λ t. Some (finished (finish.Left g.at) (entered t s o))) taken
        ∙ ap (λ d. Some (as_done d)) (sym (last.leaves g env vs base s o.count))

    pub last_like : k.world ≡ l.world → k.limits ≡ l.limits → k.measures.turns ≡ l.turns → l.static ≡ place
        → l.identity ≡ identity → Like (no_calls place identity) l k
    last_like world limits turns placed identified = record {
      taking = taken;
      world = world;
      limits = limits;
      turns = turns;
      static_places = placed;
      identity = identified;
      bodies = λ g f e. record {
        size = last.function_size f ∙ sym (last.size g);
        room = last.function_room f ∙ sym (last.room g);
        runs = left g f;
      };
      rules = λ g r e. absurd (none_some e);
    }

-- what runs where no function does
bare_last : (m : whole.Machine) (p : Core) → IsLast (whole.bare m m.limits.turns) (core.bare (machine_for m p))
bare_last m p = record {
  size = λ g. refl;
  room = λ g. refl;
  leaves = λ g env vs base s n. refl;
  function_size = λ f. refl;
  function_room = λ f. refl;
  none_left = refl;
}

bare_like : (m : whole.Machine) (p : Core) → Like (bare_numbering m) (whole.bare m m.limits.turns)
    (core.bare (machine_for m p))
bare_like m p =
    last_like (whole.places_of m.program) (identity_index m.profile) (whole.bare m m.limits.turns)
    (core.bare (machine_for m p)) (bare_last m p) refl refl refl refl refl refl

sets_same : (m : whole.Machine) (p : Core) (xss : List (List LastingSetting)) (ys : List Lasting)
    → AllSettings (bare_numbering m) xss ys → (d : State)
    → running (core.sets_all (joined xss) (core.bare (machine_for m p))) (as_done d)
    ≡ Some (as_done (runs.running (whole.sets m ys) d))
sets_same m p [] [] h d = core_none (as_done d) ∙ ap (λ r. Some (as_done r)) (sym (source_none d))
sets_same m p [] (y ∷ ys) h d = absurd h
sets_same m p (xs ∷ xss) [] h d = absurd h
sets_same m p (xs ∷ xss) (y ∷ ys) h d =
    let l = whole.bare m m.limits.turns in
    let b = core.bare (machine_for m p) in
    sets_append xs (joined xss) b (as_done d)
    ∙ ap (λ o. onward o (running (core.sets_all (joined xss) b))) (h.0.set l b (bare_last m p) (bare_like m p) d)
    ∙ sets_same m p xss ys h.1 (runs.running (y.set l) d)
    ∙ ap (λ r. Some (as_done r)) (sym (source_first (y.set l) (whole.sets m ys) d))

sets_quiet : (m : whole.Machine) (p : Core) (xss : List (List LastingSetting)) (ys : List Lasting)
    → AllSettings (bare_numbering m) xss ys → (d : State)
    → (runs.running (whole.sets m ys) d).printed ≡ d.printed
sets_quiet m p [] [] h d = ap (λ (r : State). r.printed) (source_none d)
sets_quiet m p [] (y ∷ ys) h d = absurd h
sets_quiet m p (xs ∷ xss) [] h d = absurd h
sets_quiet m p (xs ∷ xss) (y ∷ ys) h d =
    let l = whole.bare m m.limits.turns in
    ap (λ (r : State). r.printed) (source_first (y.set l) (whole.sets m ys) d)
    ∙ sets_quiet m p xss ys h.1 (runs.running (y.set l) d)
    ∙ h.0.prints l (core.bare (machine_for m p)) (bare_last m p) d

-- ---- before `main` is called

module _ (m : whole.Machine) (p : Core) (h : IsStartOf m p (needs_of m.profile m.program)) where
  needs : Needs
  needs = needs_of m.profile m.program

  pub prepared_same : (d : State) → core.prepared (machine_for m p) (as_done d) ≡ Some (as_done (whole.prepared m d))
  unfolding needs
  prepared_same d =
      let b = core.bare (machine_for m p) in
      let met = whole.meets_needs m needs d in
      ap (λ ats. running (core.sets_all p.settings b) (core.makes_all p.objects (core.meets_all plain ats (as_done d))))
      h.met
      ∙ ap (λ r. running (core.sets_all p.settings b) (core.makes_all p.objects r))
      (meets_same m (whole.name_offsets m.program.scope needs.links
      (whole.lasting_offsets needs.lasting (whole.text_offsets needs.texts []))) d)
      ∙ ap (λ xs. running (core.sets_all p.settings b) (core.makes_all xs (as_done met))) h.objects
      ∙ ap (λ r. running (core.sets_all p.settings b) r) (makes_same m needs met)
      ∙ ap (λ xs. running (core.sets_all xs b) (as_done (whole.makes m needs met))) h.are_set
      ∙ sets_same m p h.settings needs.lasting h.set (whole.makes m needs met)

  pub prepared_quiet : (d : State) → (whole.prepared m d).printed ≡ d.printed
  unfolding needs
  prepared_quiet d =
      let met = whole.meets_needs m needs d in
      sets_quiet m p h.settings needs.lasting h.set (whole.makes m needs met) ∙ makes_quiet m needs met
      ∙ meets_quiet m (whole.name_offsets m.program.scope needs.links
      (whole.lasting_offsets needs.lasting (whole.text_offsets needs.texts []))) d
