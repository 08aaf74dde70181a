-- What a program needs has its place among those of the program.
use Rattle.std.proofs.Common.{ℕ, Bool, true, false, cond, List, [], ◌∷◌, ◌++◌, Option, Some, None}
use Rattle.std.specs.Str.{bytes_eq}
use Rattle.std.specs.Prelude.{nat_lt, nat_eq}
use Rattle.c_language.specs.declared.scope.Linked.{Linked}
use Rattle.c_language.specs.Scopes.{Name, Scope, linked_as, last_where}
use Rattle.c_means.specs.declared.profile.Profile.{Profile}
use Rattle.c_means.specs.Items.{Lasting, Item}
use Rattle.c_means.specs.Names.{Literal, Names, Word}
use Rattle.c_means.specs.Programs.{Function, Outer, Program, Text, Needs, no_needs, and_needs, texts_of, item_needs}
use Rattle.c_means.specs.Programs.{declared_needs, function_needs, all_needs, needs_of, is_needed, has_function}
use Rattle.c_means.specs.Programs.{needed_words, reached}
use Rattle.c_means.specs.Runs.{with_offset, linked_offsets, lasting_offsets, literal_offsets, function_offsets}
use Rattle.c_means.specs.Runs.{outer_offsets}
use Rattle.c_means.specs.Runs.{offsets_of, linked_offset, name_offsets, text_offsets}
use Rattle.c_places.proofs.Offsets.{Ascends, Has, AllIn, ascends_with, has_itself, has_still}
use Rattle.c_places.proofs.Items.{ItemKeeps, LastingKeep, lasting_append}
use Rattle.c_places.proofs.Levels.{MaybeFunction}

-- ---- each list of offsets is in ascending order, and has what it is made of

abbrev Held : List ℕ → List ℕ → Type 0
Held xs ys = (b : ℕ) → Has b xs → Has b ys

linked_held : (ls : List Linked) (ats : List ℕ) → Held ats (linked_offsets ls ats)
linked_held [] ats b h = h
linked_held (l ∷ ls) ats b h = has_still b l.at (linked_offsets ls ats) (linked_held ls ats b h)

lasting_held : (ls : List Lasting) (ats : List ℕ) → Held ats (lasting_offsets ls ats)
lasting_held [] ats b h = h
lasting_held (l ∷ ls) ats b h = has_still b l.entry.at (lasting_offsets ls ats) (lasting_held ls ats b h)

literals_held : (ls : List Literal) (ats : List ℕ) → Held ats (literal_offsets ls ats)
literals_held [] ats b h = h
literals_held (l ∷ ls) ats b h = has_still b l.at (literal_offsets ls ats) (literals_held ls ats b h)

function_held : (f : Option Function) (ats : List ℕ) → Held ats (function_offsets f ats)
function_held None ats b h = h
function_held (Some f) ats b h =
    lasting_held f.body.lasting (literal_offsets f.names.literals ats) b (literals_held f.names.literals ats b h)

outer_held : (xs : List Outer) (ats : List ℕ) → Held ats (outer_offsets xs ats)
outer_held [] ats b h = h
outer_held (x ∷ xs) ats b h =
    let rest = outer_offsets xs ats in
    let inner = function_offsets x.function rest in
    lasting_held x.item.lasting (literal_offsets x.names.literals inner) b
    (literals_held x.names.literals inner b (function_held x.function rest b (outer_held xs ats b h)))

linked_ascends : (ls : List Linked) (ats : List ℕ) → Ascends ats → Ascends (linked_offsets ls ats)
linked_ascends [] ats h = h
linked_ascends (l ∷ ls) ats h = ascends_with l.at (linked_offsets ls ats) (linked_ascends ls ats h)

lasting_ascends : (ls : List Lasting) (ats : List ℕ) → Ascends ats → Ascends (lasting_offsets ls ats)
lasting_ascends [] ats h = h
lasting_ascends (l ∷ ls) ats h = ascends_with l.entry.at (lasting_offsets ls ats) (lasting_ascends ls ats h)

literals_ascend : (ls : List Literal) (ats : List ℕ) → Ascends ats → Ascends (literal_offsets ls ats)
literals_ascend [] ats h = h
literals_ascend (l ∷ ls) ats h = ascends_with l.at (literal_offsets ls ats) (literals_ascend ls ats h)

function_ascends : (f : Option Function) (ats : List ℕ) → Ascends ats → Ascends (function_offsets f ats)
function_ascends None ats h = h
function_ascends (Some f) ats h =
    lasting_ascends f.body.lasting (literal_offsets f.names.literals ats) (literals_ascend f.names.literals ats h)

outer_ascends : (xs : List Outer) (ats : List ℕ) → Ascends ats → Ascends (outer_offsets xs ats)
outer_ascends [] ats h = h
outer_ascends (x ∷ xs) ats h =
    let rest = outer_offsets xs ats in
    let inner = function_offsets x.function rest in
    lasting_ascends x.item.lasting (literal_offsets x.names.literals inner)
    (literals_ascend x.names.literals inner (function_ascends x.function rest (outer_ascends xs ats h)))

pub offsets_ascend : (p : Program) → Ascends (offsets_of p)
offsets_ascend p =
    outer_ascends p.outers (linked_offsets p.scope.linked []) (linked_ascends p.scope.linked [] tt)

-- ---- what is needed is among them

abbrev LinkedIn : List ℕ → List Linked → Type 0
LinkedIn xs [] = Unit {0}
LinkedIn xs (l ∷ ls) = Has l.at xs × LinkedIn xs ls

abbrev MaybeIn : List ℕ → Option Linked → Type 0
MaybeIn xs None = Unit {0}
MaybeIn xs (Some l) = Has l.at xs

abbrev LastingIn : List ℕ → List Lasting → Type 0
LastingIn xs [] = Unit {0}
LastingIn xs (l ∷ ls) = Has l.entry.at xs × LastingIn xs ls

abbrev TextsIn : List ℕ → List Text → Type 0
TextsIn xs [] = Unit {0}
TextsIn xs (t ∷ ts) = Has t.at xs × TextsIn xs ts

linked_in : (ls : List Linked) (xs ys : List ℕ) → Held xs ys → LinkedIn xs ls → LinkedIn ys ls
linked_in [] xs ys more h = tt
linked_in (l ∷ ls) xs ys more h = (more l.at h.0, linked_in ls xs ys more h.1)

lasting_in : (ls : List Lasting) (xs ys : List ℕ) → Held xs ys → LastingIn xs ls → LastingIn ys ls
lasting_in [] xs ys more h = tt
lasting_in (l ∷ ls) xs ys more h = (more l.entry.at h.0, lasting_in ls xs ys more h.1)

texts_in : (ts : List Text) (xs ys : List ℕ) → Held xs ys → TextsIn xs ts → TextsIn ys ts
texts_in [] xs ys more h = tt
texts_in (t ∷ ts) xs ys more h = (more t.at h.0, texts_in ts xs ys more h.1)

linked_there : (ls : List Linked) (ats : List ℕ) → LinkedIn (linked_offsets ls ats) ls
linked_there [] ats = tt
linked_there (l ∷ ls) ats = (
  has_itself l.at (linked_offsets ls ats),
  linked_in ls (linked_offsets ls ats) (with_offset l.at (linked_offsets ls ats))
      (λ b h. has_still b l.at (linked_offsets ls ats) h) (linked_there ls ats),
)

lasting_there : (ls : List Lasting) (ats : List ℕ) → LastingIn (lasting_offsets ls ats) ls
lasting_there [] ats = tt
lasting_there (l ∷ ls) ats = (
  has_itself l.entry.at (lasting_offsets ls ats),
  lasting_in ls (lasting_offsets ls ats) (with_offset l.entry.at (lasting_offsets ls ats))
      (λ b h. has_still b l.entry.at (lasting_offsets ls ats) h) (lasting_there ls ats),
)

texts_there : (name : Name) (ls : List Literal) (ats : List ℕ) → TextsIn (literal_offsets ls ats) (texts_of name ls)
texts_there name [] ats = tt
texts_there name (l ∷ ls) ats = (
  has_itself l.at (literal_offsets ls ats),
  texts_in (texts_of name ls) (literal_offsets ls ats) (with_offset l.at (literal_offsets ls ats))
      (λ b h. has_still b l.at (literal_offsets ls ats) h) (texts_there name ls ats),
)

-- the last declaration of a name is one of them
last_in : (f : Linked → Bool) (best : Option Linked) (ls : List Linked) (xs : List ℕ) → MaybeIn xs best →
    LinkedIn xs ls → MaybeIn xs (last_where f best ls)
last_in f best [] xs hb h = hb
last_in f best (l ∷ ls) xs hb h = last_in f (cond (f l) (Some l) best) ls xs (by_test (f l)) h.1
  where
    by_test : (b : Bool) → MaybeIn xs (cond b (Some l) best)
    by_test true = h.0
    by_test false = hb

pub record NeedsIn (xs : List ℕ) (n : Needs) : Type 0 where
  pub lasting : LastingIn xs n.lasting
  pub texts : TextsIn xs n.texts

lasting_both : (xs : List ℕ) (ls ms : List Lasting) → LastingIn xs ls → LastingIn xs ms → LastingIn xs (ls ++ ms)
lasting_both xs [] ms ha hb = hb
lasting_both xs (a ∷ ls) ms ha hb = (ha.0, lasting_both xs ls ms ha.1 hb)

texts_both : (xs : List ℕ) (ls ms : List Text) → TextsIn xs ls → TextsIn xs ms → TextsIn xs (ls ++ ms)
texts_both xs [] ms ha hb = hb
texts_both xs (a ∷ ls) ms ha hb = (ha.0, texts_both xs ls ms ha.1 hb)

both_in : (xs : List ℕ) (x y : Needs) → NeedsIn xs x → NeedsIn xs y → NeedsIn xs (and_needs x y)
both_in xs x y hx hy = record {
  lasting = lasting_both xs x.lasting y.lasting hx.lasting hy.lasting;
  texts = texts_both xs x.texts y.texts hx.texts hy.texts;
}

still_in : (xs ys : List ℕ) (x : Needs) → Held xs ys → NeedsIn xs x → NeedsIn ys x
still_in xs ys x more h = record {
  lasting = lasting_in x.lasting xs ys more h.lasting;
  texts = texts_in x.texts xs ys more h.texts;
}

item_in : (links : List Name) (x : Item) (name : Name) (names : Names) (ats : List ℕ) →
    NeedsIn (lasting_offsets x.lasting (literal_offsets names.literals ats)) (item_needs links x name names)
item_in links x name names ats =
    let inner = literal_offsets names.literals ats in
    record {
      lasting = lasting_there x.lasting inner;
      texts = texts_in (texts_of name names.literals) inner (lasting_offsets x.lasting inner)
          (lasting_held x.lasting inner) (texts_there name names.literals ats);
    }

declared_in : (ws : List Word) (x : Outer) (ats : List ℕ) →
    NeedsIn (lasting_offsets x.item.lasting (literal_offsets x.names.literals ats)) (declared_needs ws x)
declared_in ws x ats = by_need (is_needed ws x)
  where
    by_need : (b : Bool) → NeedsIn (lasting_offsets x.item.lasting (literal_offsets x.names.literals ats))
        (cond b (item_needs [] x.item [] x.names) no_needs)
    by_need true = item_in [] x.item [] x.names ats
    by_need false = record { lasting = tt; texts = tt }

function_in : (found : List Function) (f : Option Function) (ats : List ℕ) →
    NeedsIn (function_offsets f ats) (function_needs found f)
function_in found None ats = record { lasting = tt; texts = tt }
function_in found (Some f) ats = by_need (has_function f found)
  where
    by_need : (b : Bool) → NeedsIn (function_offsets (Some f) ats)
        (cond b (item_needs (f.name ∷ []) f.body f.name f.names) no_needs)
    by_need true = item_in (f.name ∷ []) f.body f.name f.names ats
    by_need false = record { lasting = tt; texts = tt }

all_in : (ws : List Word) (found : List Function) (xs : List Outer) (ats : List ℕ) →
    NeedsIn (outer_offsets xs ats) (all_needs ws found xs)
all_in ws found [] ats = record { lasting = tt; texts = tt }
all_in ws found (x ∷ xs) ats =
    let rest = outer_offsets xs ats in
    let inner = function_offsets x.function rest in
    let whole = outer_offsets (x ∷ xs) ats in
    let from_inner : Held inner whole = λ b h.
    lasting_held x.item.lasting (literal_offsets x.names.literals inner) b
    (literals_held x.names.literals inner b h) in
    both_in whole (declared_needs ws x) (and_needs (function_needs found x.function) (all_needs ws found xs))
    (declared_in ws x inner)
    (both_in whole (function_needs found x.function) (all_needs ws found xs)
    (still_in inner whole (function_needs found x.function) from_inner (function_in found x.function rest))
    (still_in rest whole (all_needs ws found xs) (λ b h. from_inner b (function_held x.function rest b h))
    (all_in ws found xs ats)))

pub needs_in : (profile : Profile) (p : Program) → NeedsIn (offsets_of p) (needs_of profile p)
needs_in profile p =
    all_in (needed_words profile p) (reached profile p) p.outers (linked_offsets p.scope.linked [])

-- ---- their offsets

all_with : (xs : List ℕ) (at : ℕ) (ats : List ℕ) → Has at xs → AllIn xs ats → AllIn xs (with_offset at ats)
all_with xs at [] h all = (h, tt)
all_with xs at (x ∷ ats) h all = by_order (nat_lt at x) (nat_eq at x) (all_with xs at ats h all.1)
  where
    by_order : (less same : Bool) → AllIn xs (with_offset at ats) →
        AllIn xs (cond less (at ∷ x ∷ ats) (cond same (x ∷ ats) (x ∷ with_offset at ats)))
    by_order true same more = (h, all)
    by_order false true more = all
    by_order false false more = (all.0, more)

pub record Ordered (xs ats : List ℕ) : Type 0 where
  pub ascends : Ascends ats
  pub inside : AllIn xs ats

ordered_with : (xs : List ℕ) (at : ℕ) (ats : List ℕ) → Has at xs → Ordered xs ats → Ordered xs (with_offset at ats)
ordered_with xs at ats h o = record {
  ascends = ascends_with at ats o.ascends;
  inside = all_with xs at ats h o.inside;
}

pub texts_ordered : (xs : List ℕ) (ts : List Text) → TextsIn xs ts → Ordered xs (text_offsets ts [])
texts_ordered xs [] h = record { ascends = tt; inside = tt }
texts_ordered xs (t ∷ ts) h = ordered_with xs t.at (text_offsets ts []) h.0 (texts_ordered xs ts h.1)

pub lasting_ordered : (xs : List ℕ) (ls : List Lasting) (ats : List ℕ) → LastingIn xs ls → Ordered xs ats →
    Ordered xs (lasting_offsets ls ats)
lasting_ordered xs [] ats h o = o
lasting_ordered xs (l ∷ ls) ats h o =
    ordered_with xs l.entry.at (lasting_offsets ls ats) h.0 (lasting_ordered xs ls ats h.1 o)

linked_ordered : (xs : List ℕ) (x : Option Linked) (ats : List ℕ) → MaybeIn xs x → Ordered xs ats →
    Ordered xs (linked_offset x ats)
linked_ordered xs None ats h o = o
linked_ordered xs (Some x) ats h o = ordered_with xs x.at ats h o

pub names_ordered : (xs : List ℕ) (s : Scope) (names : List Name) (ats : List ℕ) → LinkedIn xs s.linked →
    Ordered xs ats → Ordered xs (name_offsets s names ats)
names_ordered xs s [] ats h o = o
names_ordered xs s (name ∷ names) ats h o =
    linked_ordered xs (linked_as s name) (name_offsets s names ats)
    (last_in (λ l. bytes_eq l.name name) None s.linked xs tt h) (names_ordered xs s names ats h o)

pub linked_of_program : (p : Program) → LinkedIn (offsets_of p) p.scope.linked
linked_of_program p =
    linked_in p.scope.linked (linked_offsets p.scope.linked []) (offsets_of p)
    (outer_held p.outers (linked_offsets p.scope.linked [])) (linked_there p.scope.linked [])

-- ---- and keep their promise

pub record OuterKeeps (x : Outer) : Type 0 where
  pub item : ItemKeeps x.item
  pub function : MaybeFunction x.function

abbrev pub EachOuter : List Outer → Type 0
EachOuter [] = Unit {0}
EachOuter (x ∷ xs) = OuterKeeps x × EachOuter xs

declared_lasting : (ws : List Word) (x : Outer) → OuterKeeps x → LastingKeep (declared_needs ws x).lasting
declared_lasting ws x h = by_need (is_needed ws x)
  where
    by_need : (b : Bool) → LastingKeep (cond b (item_needs [] x.item [] x.names) no_needs).lasting
    by_need true = h.item.lasting
    by_need false = tt

function_lasting : (found : List Function) (f : Option Function) → MaybeFunction f →
    LastingKeep (function_needs found f).lasting
function_lasting found None h = tt
function_lasting found (Some f) h = by_need (has_function f found)
  where
    by_need : (b : Bool) → LastingKeep (cond b (item_needs (f.name ∷ []) f.body f.name f.names) no_needs).lasting
    by_need true = h.lasting
    by_need false = tt

all_lasting : (ws : List Word) (found : List Function) (xs : List Outer) → EachOuter xs →
    LastingKeep (all_needs ws found xs).lasting
all_lasting ws found [] h = tt
all_lasting ws found (x ∷ xs) h =
    let rest = (all_needs ws found xs).lasting in
    let inner = (function_needs found x.function).lasting in
    lasting_append (declared_needs ws x).lasting (inner ++ rest) (declared_lasting ws x h.0)
    (lasting_append inner rest (function_lasting found x.function h.0.function) (all_lasting ws found xs h.1))

pub needs_lasting : (profile : Profile) (p : Program) → EachOuter p.outers → LastingKeep (needs_of profile p).lasting
needs_lasting profile p h = all_lasting (needed_words profile p) (reached profile p) p.outers h
