-- What an initializer says and what is noted of it, from what the code has found of its parts.
use Rattle.std.proofs.Common.{◌≡◌, ℕ, List, [], ◌∷◌, Bool, map, sym, ap, ◌∙◌}
use Rattle.c_language.specs.declared.expr.Expr.{Expr}
use Rattle.c_language.specs.declared.unit.Initializer.{Initializer}
use Rattle.c_language.specs.declared.unit.Initializer.TheVariants as initial
use Rattle.c_language.specs.declared.unit.InitializerItem.{InitializerItem}
use Rattle.c_language.specs.declared.ctype.CType.{CType}
use Rattle.c_language.specs.Scopes.{Scope, empty}
use Rattle.c_language.specs.Typing.{typed_in}
use Rattle.c_language.specs.Initials.{Fills, Filling, Part, fills_value, fills_all, filling_of, list_says}
use Rattle.c_language.specs.Initials.{started, value_alone, with_part_left}
use Rattle.c_initials.specs.Filled.{Filled, filling_in, no_filling}
use Rattle.c_initials.specs.Said.{closed, goes_on, opened}
use Rattle.c_initials.proofs.Listed.{scope_free, frames_free, within}
use Rattle.c_means.specs.Initials.{Initially, Listed, designated, indices, initially, listed_item, all_fills, all_elements, initialising}
use Rattle.c_means.specs.Notes.{noted}
use Rattle.c_means.proofs.RunEquations.{initially-Value, initially-List, listed-Item}
use Rattle.c_notes.specs.declared.notes.NotedExpr.{NotedExpr}
use Rattle.c_item_notes.specs.declared.initials.InitialNotes.{InitialNotes}
use Rattle.c_item_notes.specs.Levels.{Judged, Heard, heard_in, heard}
use Rattle.c_item_notes.specs.InitialTellings.{Seen, see, seen_in, and_value, and_heard, no_notes, initial_notes}
use Rattle.c_item_notes.proofs.Designating.{by_tree, same_by, see_by}
use Rattle.c_item_notes.proofs.Seeing.{see_both, notes_are}

value_of : (i : Initializer) (v : Expr) → i ≡ initial.Value v →
    initially i ≡ initially (initial.Value v)
value_of i v is = ap initially is

-- ---- an expression without braces

pub value_says : (j : Judged) (i : Initializer) (v : Expr) (x : NotedExpr) (s s1 : Scope) (f : Filled) →
    i ≡ initial.Value v → heard_in x s1 ≡ heard j (noted v s) →
    fills_value (typed_in x.told s1) (filling_in f empty) ≡ (initially i).says.fills (filling_in f s)
value_says j i v x s s1 f is h =
    scope_free (typed_in x.told s1) f empty s
    ∙ ap (λ (k : Heard). fills_value k.typed (filling_in f s)) h
    ∙ sym (ap (λ (k : Initially). k.says.fills (filling_in f s)) (value_of i v is ∙ initially-Value v))

pub value_seen : (j : Judged) (i : Initializer) (v : Expr) (x : NotedExpr) (s s1 : Scope) (n : InitialNotes) →
    i ≡ initial.Value v → heard_in x s1 ≡ heard j (noted v s) →
    seen_in (and_value x.told x.notes n) s1 ≡ see j (initially i).elements (seen_in n s)
value_seen j i v x s s1 n is h =
    ap (λ (k : Heard). and_heard k n) h
    ∙ sym (ap (λ (k : Initially). see j k.elements (seen_in n s)) (value_of i v is ∙ initially-Value v))

-- for a whole object
pub alone_says : (j : Judged) (i : Initializer) (v : Expr) (x : NotedExpr) (s s1 : Scope) (p : Part) (t : CType) →
    i ≡ initial.Value v → heard_in x s1 ≡ heard j (noted v s) → p ≡ record { type = t; offset = 0 } →
    value_alone (typed_in x.told s1) p (filling_in no_filling empty) ≡ filling_of (initially i).says t s
alone_says j i v x s s1 p t is h whole =
    ap (λ (k : Heard). value_alone k.typed p (filling_in no_filling empty)) h
    ∙ ap (λ (q : Part). value_alone (noted v s).part.typed q (filling_in no_filling empty)) whole
    ∙ sym (ap (λ (k : Initially). filling_of k.says t s) (value_of i v is ∙ initially-Value v))

pub alone_notes : (j : Judged) (i : Initializer) (t : CType) (s s1 : Scope) (n : InitialNotes) →
    seen_in n s1 ≡ see j (initially i).elements (seen_in no_notes s) →
    n ≡ initial_notes j (initialising (initially i) t s)
alone_notes j i t s s1 n h =
    ap (λ (z : Seen). z.notes) h
    ∙ notes_are j (initially i).elements s (initially i).is_braced (filling_of (initially i).says t s)

-- ---- a list in braces

list_of : (i : Initializer) (at : ℕ) (items : List InitializerItem) (trailing : Bool) →
    i ≡ initial.List at items trailing → initially i ≡ initially (initial.List at items trailing)
list_of i at items trailing is = ap initially is

pub list_fills : (i : Initializer) (at : ℕ) (items : List InitializerItem) (trailing : Bool) (y : Filling) →
    i ≡ initial.List at items trailing →
    (list_says at (all_fills (map listed_item items))).fills y ≡ (initially i).says.fills y
list_fills i at items trailing y is =
    sym (ap (λ (k : Initially). k.says.fills y) (list_of i at items trailing is ∙ initially-List at items trailing))

pub list_seen : (j : Judged) (i : Initializer) (at : ℕ) (items : List InitializerItem) (trailing : Bool) (z : Seen) →
    i ≡ initial.List at items trailing →
    see j (all_elements (map listed_item items)) z ≡ see j (initially i).elements z
list_seen j i at items trailing z is =
    sym (ap (λ (k : Initially). see j k.elements z) (list_of i at items trailing is ∙ initially-List at items trailing))

abbrev whole_filling : Part → Filled
whole_filling q = record no_filling { frames = started q ∷ [] }

pub list_whole : (i : Initializer) (at : ℕ) (items : List InitializerItem) (trailing : Bool) (f : Filled) (p : Part)
    (t : CType) (s : Scope) → i ≡ initial.List at items trailing → p ≡ record { type = t; offset = 0 } →
    f ≡ record no_filling { frames = started p ∷ [] } →
    fills_all (all_fills (map listed_item items)) (filling_in f s) ≡ filling_of (initially i).says t s
list_whole i at items trailing f p t s is whole begun =
    ap (λ (g : Filled). fills_all (all_fills (map listed_item items)) (filling_in g s))
    (begun ∙ ap whole_filling whole)
    ∙ sym (ap (λ (k : Initially). filling_of k.says t s) (list_of i at items trailing is ∙ initially-List at items trailing))

-- within braces
pub list_within : (at : ℕ) (fs : List Fills) (f : Filled) (s : Scope) →
    let frames = with_part_left s.tables f.frames in
    closed (goes_on s.tables frames f.high) (fills_all fs (filling_in (opened at s.tables frames (record f { frames = frames })) s))
    ≡ (list_says at fs).fills (filling_in f s)
list_within at fs f s =
    let frames = with_part_left s.tables f.frames in
    sym (within at fs frames (record f { frames = frames }) s) ∙ frames_free at fs frames frames (filling_in f s)

-- ---- an item of a list

pub item_says : (x : InitializerItem) (f f1 : Filled) (s s1 : Scope) →
    filling_in f1 s1 ≡ by_tree x.designators (filling_in f s) →
    (initially x.value).says.fills (filling_in f1 s1) ≡ (listed_item x).fills (filling_in f s)
item_says x f f1 s s1 h =
    ap (λ (y : Filling). (initially x.value).says.fills y) (h ∙ same_by x.designators (filling_in f s))
    ∙ sym (ap (λ (k : Listed). k.fills (filling_in f s)) (listed-Item x))

pub item_seen : (j : Judged) (x : InitializerItem) (n : InitialNotes) (f f1 : Filled) (s s1 : Scope) →
    filling_in f1 s1 ≡ by_tree x.designators (filling_in f s) →
    see j (initially x.value).elements (seen_in n s1) ≡ see j (listed_item x).elements (seen_in n s)
item_seen j x n f f1 s s1 h =
    ap (λ (y : Filling). see j (initially x.value).elements (seen_in n y.scope)) (h ∙ same_by x.designators (filling_in f s))
    ∙ ap (see j (initially x.value).elements) (sym (see_by j x.designators n (filling_in f s)))
    ∙ sym (see_both j (indices (map designated x.designators)) (initially x.value).elements (seen_in n s))
    ∙ sym (ap (λ (k : Listed). see j k.elements (seen_in n s)) (listed-Item x))
