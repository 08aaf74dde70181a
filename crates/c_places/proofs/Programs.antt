-- Programs that are read off trees: their functions and declarations keep to their rooms.
use Rattle.std.proofs.Common.{ℕ, List, [], ◌∷◌, ◌++◌, Option, Some, None}
use Rattle.std.specs.Prelude.{map}
use Rattle.std.proofs.Common.{refl, arith}
use Rattle.c_language.specs.declared.unit.Body.{Body}
use Rattle.c_language.specs.declared.unit.Body.TheVariants as body
use Rattle.c_language.specs.declared.unit.External.{External}
use Rattle.c_language.specs.declared.unit.External.TheVariants as external
use Rattle.c_language.specs.declared.scope.Entry.{Entry}
use Rattle.c_language.specs.Scopes.{Scope, empty}
use Rattle.c_language.specs.Declarations.{FunctionSaid, function_by}
use Rattle.c_means.specs.Names.{Names, external_names}
use Rattle.c_means.specs.Notes.{declarator_noted, specifier_noted}
use Rattle.c_means.specs.Items.{Item, Code, Context, nothing}
use Rattle.c_means.specs.Statements.{stmt}
use Rattle.c_means.specs.Programs.{Function, Outer, body_context, body_item, braced, function_from}
use Rattle.c_means.specs.Programs.{with_function, code_in, unread_in, head_names, outer, in_order, program_of}
use Rattle.c_means.specs.Programs.{function_if}
use Rattle.c_means.specs.Programs.{functions_in, functions_of}
use Rattle.c_means.specs.Prelude.{functions_from}
use Rattle.c_places.proofs.Items.{ItemKeeps, CodeKeeps, node_keeps, nothing_keeps}
use Rattle.c_places.proofs.Statements.{statement_keeps}
use Rattle.c_places.proofs.Declarations.{declaration_keeps}
use Rattle.c_places.proofs.Levels.{EachFunction, MaybeFunction}
use Rattle.c_places.proofs.Needs.{OuterKeeps, EachOuter}

abbrev MaybeCode : Option Code → Type 0
MaybeCode None = Unit {0}
MaybeCode (Some x) = CodeKeeps x

braced_keeps : (x : Code) → CodeKeeps x → CodeKeeps (braced x)
braced_keeps x h = record { here = h.here; content = kept }
  where
    kept : (c : Context) → ItemKeeps ((braced x).content c)
    kept c =
        let inside = h.content c in
        record {
          acts = inside.acts;
          lasting = inside.lasting;
          size = λ l. omega (arith, inside.size l);
          room = inside.room;
        }

code_keeps : (b : Body) → MaybeCode (code_in b)
code_keeps (body.Read block) = braced_keeps (stmt block) (statement_keeps block)
code_keeps (body.Unread at) = tt

body_keeps : (f : FunctionSaid) (x : Option Code) → MaybeCode x → ItemKeeps (body_item f x)
body_keeps f None h = node_keeps (nothing f.inside) (nothing_keeps f.inside)
body_keeps f (Some x) h = h.content (body_context f x)

function_keeps : (f : FunctionSaid) (e : Option Entry) (unread : Option ℕ) (b : Item) (names : Names) → ItemKeeps b →
    MaybeFunction (function_from f e unread b names)
function_keeps f None unread b names h = tt
function_keeps f (Some e) unread b names h = h

with_function_keeps : (f : FunctionSaid) (unread : Option ℕ) (x : Option Code) (head whole : Names) (s : Scope) →
    MaybeCode x → OuterKeeps (with_function f unread x head whole s)
with_function_keeps f unread x head whole s h = record {
  item = record { acts = (nothing_keeps f.after).acts; lasting = tt; size = λ l. refl; room = λ l. refl };
  function = function_keeps f f.entry unread (body_item f x) whole (body_keeps f x h);
}

outer_keeps : (x : External) (s : Scope) → OuterKeeps (outer x s)
outer_keeps (external.Function specifiers declarator b) s =
    with_function_keeps (function_by (map specifier_noted specifiers) (declarator_noted declarator) s) (unread_in b)
    (code_in b) (head_names specifiers declarator) (external_names (external.Function specifiers declarator b)) s
    (code_keeps b)
outer_keeps (external.Declared d) s = record { item = declaration_keeps d s; function = tt }
outer_keeps (external.Empty at) s = record { item = nothing_keeps s; function = tt }

in_order_keeps : (xs : List External) (s : Scope) → EachOuter (in_order (map outer xs) s).outers
in_order_keeps [] s = tt
in_order_keeps (x ∷ xs) s = (outer_keeps x s, in_order_keeps xs (outer x s).after)

pub program_keeps : (xs : List External) → EachOuter (program_of xs).outers
program_keeps xs = in_order_keeps xs empty

-- ---- functions

with_one : (f : Option Function) (fs : List Function) → MaybeFunction f → EachFunction fs →
    EachFunction (function_if f fs)
with_one None fs hf h = h
with_one (Some f) fs hf h = (hf, h)

functions_keep : (xs : List Outer) → EachOuter xs → EachFunction (functions_in xs)
functions_keep [] h = tt
functions_keep (x ∷ xs) h = with_one x.function (functions_in xs) h.0.function (functions_keep xs h.1)

pub each_function : (xs : List External) → EachFunction (functions_of (program_of xs))
each_function xs = functions_keep (program_of xs).outers (program_keeps xs)

both : (fs gs : List Function) → EachFunction fs → EachFunction gs → EachFunction (fs ++ gs)
both [] gs hf hg = hg
both (f ∷ fs) gs hf hg = (hf.0, both fs gs hf.1 hg)

pub each_from : (xs : List External) → EachFunction (functions_from xs)
each_from [] = tt
each_from (x ∷ xs) =
    both (functions_of (program_of (x ∷ []))) (functions_from xs) (each_function (x ∷ [])) (each_from xs)
