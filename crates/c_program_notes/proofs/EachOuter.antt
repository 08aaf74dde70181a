-- What is noted of external declarations, one behind the other, and of function definitions.
use Rattle.std.proofs.Common.{◌≡◌, ℕ, suc, add-one, ◌+◌, ◌<◌, List, [], ◌∷◌, ◌++◌, length, drop, drop-cons, get_or}
use Rattle.std.proofs.Common.{Option, Some, None, map, refl, sym, ap, ◌∙◌}
use Rattle.std.specs.Prelude.{option_map}
use Rattle.std.proofs.lemmas.List.{append_assoc}
use Rattle.c_language.specs.declared.expr.Declarator.{Declarator}
use Rattle.c_language.specs.declared.expr.Specifier.{Specifier}
use Rattle.c_language.specs.declared.unit.Body.{Body}
use Rattle.c_language.specs.declared.unit.Declaration.{Declaration}
use Rattle.c_language.specs.declared.unit.External.{External}
use Rattle.c_language.specs.declared.unit.External.TheVariants as external
use Rattle.c_language.specs.declared.scope.Entry.{Entry}
use Rattle.c_language.specs.Scopes.{Name, Scope, leave}
use Rattle.c_language.specs.Declares.{DeclaratorSays, Saying}
use Rattle.c_language.specs.Declarations.{FunctionSaid, function_by}
use Rattle.c_language.specs.Units.{function_says}
use Rattle.c_language.specs.Trees.{declarator_says, specifier_says}
use Rattle.c_means.specs.Items.{Code, Item}
use Rattle.c_means.specs.Notes.{declarator_noted, specifier_noted}
use Rattle.c_means.specs.Names as names
use Rattle.c_means.specs.Programs.{Function, Outer, Program, body_item, code_in, function_outer}
use Rattle.c_means.specs.Programs.{head_names, in_order, outer, unread_in}
use Rattle.c_means.specs.Programs as programs
use Rattle.c_item_notes.specs.declared.items.ItemNotes.{ItemNotes}
use Rattle.c_item_notes.specs.ItemTellings.{item_notes, nothing_noted, summed, summed_in, Summed}
use Rattle.c_item_notes.specs.Levels.{Judged}
use Rattle.c_item_notes.proofs.Declaring.{declarator_is, specifiers_are}
use Rattle.c_stmt_notes.specs.StatementTellings.{body_head}
use Rattle.c_names.specs.declared.summaries.Names.{Names}
use Rattle.c_names.specs.Kept.{kept}
use Rattle.c_reach.specs.declared.summaries.FunctionNotes.{FunctionNotes}
use Rattle.c_reach.specs.Summaries.{function_notes}
use Rattle.c_program_notes.specs.declared.outers.Head.{Head}
use Rattle.c_program_notes.specs.declared.outers.OuterNotes.{OuterNotes}
use Rattle.c_program_notes.specs.declared.outers.ProgramNotes.{ProgramNotes}
use Rattle.c_program_notes.specs.Summaries.{declared_told, defined_outer, outer_notes, outer_told}
use Rattle.c_program_notes.specs.Summaries as spec

-- ---- function definitions

-- what a head says to the types and what is noted of it
said_same : (xs : List Specifier) (d : Declarator) (s : Scope) →
    function_says xs d s ≡ function_by (map specifier_noted xs) (declarator_noted d) s
said_same xs d s =
    ap (λ (ss : List Saying). function_by ss (declarator_says d) s) (sym (specifiers_are xs))
    ∙ ap (λ (f : DeclaratorSays). function_by (map specifier_noted xs) f s) (sym (declarator_is d))

-- by the entry of its name
from_entry : (j : Judged) (f : FunctionSaid) (e : Option Entry) (u : Option ℕ) (b : Item) (w : names.Names) →
    spec.function_from e (length f.parameters) (spec.defines_main f.inside.tables e) u (item_notes j b) (kept w)
    ≡ option_map (function_notes j) (programs.function_from f e u b w)
from_entry j f None u b w = refl
from_entry j f (Some e) u b w = refl

by_said : (j : Judged) (f : FunctionSaid) (u : Option ℕ) (x : Item) (head whole : names.Names) (s : Scope) →
    spec.outer_in (spec.defined (spec.head_of f) u (item_notes j x) (kept head) (kept whole))
    (record (leave x.after) { function = s.function })
    ≡ spec.outer_summed j (function_outer f u x head whole s)
by_said j f u x head whole s =
    let h = spec.head_of f in
    ap (λ (g : Option FunctionNotes). spec.outer_in (record { item = h.item; names = kept head; function = g })
    (record (leave x.after) { function = s.function })) (from_entry j f f.entry u x whole)

pub definition_is : (j : Judged) (xs : List Specifier) (d : Declarator) (b : Body) (s : Scope) →
    spec.defined_outer j xs d b (kept (names.external_names (external.Function xs d b))) s
    ≡ spec.outer_told j (external.Function xs d b) s
unfolding defined_outer outer_told
definition_is j xs d b s =
    let whole = names.external_names (external.Function xs d b) in
    let f = function_by (map specifier_noted xs) (declarator_noted d) s in
    ap (λ (f : FunctionSaid). spec.defined_by j f xs d b (kept whole) s) (said_same xs d s)
    ∙ by_said j f (unread_in b) (body_item f (code_in b)) (head_names xs d) whole s

-- a body depends on what its function returns and on the scope inside
body_same : (f : FunctionSaid) (x : Option Code) → body_item (body_head f.returned f.inside) x ≡ body_item f x
body_same f None = refl
body_same f (Some x) = refl

-- from what the code has found of its parts
pub assembled : (j : Judged) (f : FunctionSaid) (xs : List Specifier) (d : Declarator) (b : Body) (whole of_head : Names)
    (s s1 s2 s3 : Scope) (out : Option Name) (h : Head) (n : ItemNotes) (u : Option ℕ) (x : OuterNotes) →
    of_head ≡ kept (head_names xs d) → out ≡ s.function → h ≡ spec.head_of f → s1 ≡ f.inside →
    summed_in n s2 ≡ summed j (body_item (body_head h.returned s1) (code_in b)) →
    s3 ≡ record (leave s2) { function = out } → u ≡ unread_in b → x ≡ spec.defined h u n of_head whole →
    spec.outer_in x s3 ≡ spec.defined_by j f xs d b whole s
assembled j f xs d b whole of_head s s1 s2 s3 out h n u x is_head is_out said inside body left unread made =
    let body_is : summed_in n s2 ≡ summed j (body_item f (code_in b)) =
    body ∙ ap (λ (h : Head). summed j (body_item (body_head h.returned s1) (code_in b))) said
    ∙ ap (λ (t : Scope). summed j (body_item (body_head f.returned t) (code_in b))) inside
    ∙ ap (summed j) (body_same f (code_in b)) in
    ap (λ (y : OuterNotes). spec.outer_in y s3) made
    ∙ ap (λ (t : Scope). spec.outer_in (spec.defined h u n of_head whole) t) left
    ∙ ap (λ (o : Option Name). spec.outer_in (spec.defined h u n of_head whole) (record (leave s2) { function = o })) is_out
    ∙ ap (λ (g : Head). spec.outer_in (spec.defined g u n of_head whole) (record (leave s2) { function = s.function })) said
    ∙ ap (λ (v : Option ℕ). spec.outer_in (spec.defined (spec.head_of f) v n of_head whole)
    (record (leave s2) { function = s.function })) unread
    ∙ ap (λ (w : Names). spec.outer_in (spec.defined (spec.head_of f) (unread_in b) n w whole)
    (record (leave s2) { function = s.function })) is_head
    ∙ ap (λ (z : Summed). spec.outer_in (spec.defined (spec.head_of f) (unread_in b) z.notes (kept (head_names xs d)) whole)
    (record (leave z.after) { function = s.function })) body_is

-- ---- one external declaration more

pub one_more : (j : Judged) (before : List OuterNotes) (x : OuterNotes) (t : Scope) (f : Scope → Outer)
    (fs : List (Scope → Outer)) (s : Scope) → spec.outer_in x t ≡ spec.outer_summed j (f s) →
    spec.goes_on j (before ++ x ∷ []) (in_order fs t) ≡ spec.goes_on j before (in_order (f ∷ fs) s)
one_more j before x t f fs s said =
    ap (λ (z : spec.Summed). spec.goes_on j (before ++ z.notes ∷ []) (in_order fs z.after)) said
    ∙ (let more = in_order fs (f s).after in
    ap (λ (all : List OuterNotes). record { outers = all; scope = more.scope })
    (append_assoc before (outer_notes j (f s) ∷ []) (map (outer_notes j) more.outers)))

pub next_outer : (j : Judged) (xs : List External) (i : ℕ) (e e' : External) (before now : List OuterNotes)
    (x : OuterNotes) (s t : Scope) {w : ProgramNotes} → i < length xs → e ≡ get_or xs i e → e' ≡ e →
    spec.outer_in x t ≡ spec.outer_told j e' s → now ≡ before ++ x ∷ [] →
    spec.goes_on j before (in_order (map outer (drop i xs)) s) ≡ w →
    spec.goes_on j now (in_order (map outer (drop (i + 1) xs)) t) ≡ w
unfolding outer_told
next_outer j xs i e e' before now x s t within is same said put whole =
    let rest = map outer (drop (i + 1) xs) in
    let cut : drop i xs ≡ e ∷ drop (i + 1) xs = drop-cons xs i e within
    ∙ ap (λ (z : External). z ∷ drop (suc i) xs) (sym is) ∙ ap (λ (k : ℕ). e ∷ drop k xs) (sym (add-one i)) in
    ap (λ (all : List OuterNotes). spec.goes_on j all (in_order rest t)) put
    ∙ one_more j before x t (outer e) rest s (said ∙ ap (λ (z : External). spec.outer_summed j (outer z s)) same)
    ∙ ap (λ (ys : List External). spec.goes_on j before (in_order (map outer ys) s)) (sym cut)
    ∙ whole

-- ---- by its kind

pub function_arm : (j : Judged) (e : External) (xs ys : List Specifier) (d : Declarator) (b : Body) (w : Names)
    (s : Scope) → e ≡ external.Function xs d b → ys ≡ xs → w ≡ kept (names.external_names e) →
    spec.defined_outer j ys d b w s ≡ spec.outer_told j e s
function_arm j e xs ys d b w s is same named =
    ap (λ (zs : List Specifier). spec.defined_outer j zs d b w s) same
    ∙ ap (λ (n : Names). spec.defined_outer j xs d b n s)
    (named ∙ ap (λ (z : External). kept (names.external_names z)) is)
    ∙ definition_is j xs d b s
    ∙ ap (λ (z : External). spec.outer_told j z s) (sym is)

declaration_is : (j : Judged) (d : Declaration) (s : Scope) →
    spec.declared_told j d (kept (names.external_names (external.Declared d))) s ≡ spec.outer_told j (external.Declared d) s
unfolding declared_told outer_told
declaration_is j d s = refl

pub declared_arm : (j : Judged) (e : External) (d : Declaration) (w : Names) (s : Scope) → e ≡ external.Declared d →
    w ≡ kept (names.external_names e) → spec.declared_told j d w s ≡ spec.outer_told j e s
declared_arm j e d w s is named =
    ap (λ (n : Names). spec.declared_told j d n s)
    (named ∙ ap (λ (z : External). kept (names.external_names z)) is)
    ∙ declaration_is j d s
    ∙ ap (λ (z : External). spec.outer_told j z s) (sym is)

empty_is : (j : Judged) (at : ℕ) (s : Scope) →
    spec.outer_in (spec.without_function nothing_noted (kept (names.external_names (external.Empty at)))) s
    ≡ spec.outer_told j (external.Empty at) s
unfolding outer_told
empty_is j at s = refl

pub empty_arm : (j : Judged) (e : External) (at : ℕ) (w : Names) (s : Scope) (x : OuterNotes) →
    e ≡ external.Empty at → w ≡ kept (names.external_names e) → x ≡ spec.without_function nothing_noted w →
    spec.outer_in x s ≡ spec.outer_told j e s
empty_arm j e at w s x is named made =
    ap (λ (y : OuterNotes). spec.outer_in y s) made
    ∙ ap (λ (n : Names). spec.outer_in (spec.without_function nothing_noted n) s)
    (named ∙ ap (λ (z : External). kept (names.external_names z)) is)
    ∙ empty_is j at s
    ∙ ap (λ (z : External). spec.outer_told j z s) (sym is)
