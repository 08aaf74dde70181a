-- Programs: their external declarations in order, the functions that are reached, and the declarations that are
-- needed (C99 6.9).
use Rattle.std.specs.Prelude.{ℕ, zero, suc, ◌+◌, ◌*◌, Bool, true, false, cond, ◌||◌, nat_eq, List, [], ◌∷◌, ◌++◌, length}
use Rattle.std.specs.Prelude.{map, Option, Some, None, is_some, unwrap_or}
use Rattle.std.specs.Str.{bytes_eq}
use Rattle.c_language.specs.declared.unit.Body.{Body}
use Rattle.c_language.specs.declared.unit.Body.TheVariants as body
use Rattle.c_language.specs.declared.unit.External.{External}
use Rattle.c_language.specs.declared.unit.External.TheVariants as external
use Rattle.c_language.specs.declared.expr.Declarator.{Declarator}
use Rattle.c_language.specs.declared.expr.Specifier.{Specifier}
use Rattle.c_language.specs.declared.ctype.CType.{CType}
use Rattle.c_language.specs.declared.scope.Duration.TheVariants as duration
use Rattle.c_language.specs.declared.scope.Entry.{Entry}
use Rattle.c_language.specs.declared.scope.Means.{Means}
use Rattle.c_language.specs.declared.scope.Means.TheVariants as means
use Rattle.c_language.specs.Scopes.{Name, Scope, empty, entry_in, leave}
use Rattle.c_language.specs.Declarations.{FunctionSaid, function_by}
use Rattle.c_means.specs.declared.profile.Profile.{Profile}
use Rattle.c_means.specs.Notes.{declarator_noted, specifier_noted}
use Rattle.c_means.specs.Items.{Item, Code, Context, Lasting, typing, nothing, node}
use Rattle.c_means.specs.Statements.{stmt, declaration}
use Rattle.c_means.specs.Names.{Names, Word, Binding, Literal, same_word, ordinary, none, with_name, settled, ◌then◌}
use Rattle.c_means.specs.Names.{external_names, specifier_of, declarator_names, all_of}
use Rattle.c_means.specs.Rules.{log_of, identity_index}
use Rattle.c_means.specs.Calls.{inserted, is_integer_object}

-- ---- functions

-- A function definition: the entry of its name, the type of its value, its parameters in order, the scope of its
-- body, what its body is worth, the `{` of a body that couldn't be read, and the names that it uses, those of its
-- head among them.
pub record Function : Type 0 where
  pub at : ℕ
  pub name : Name
  pub means : Means
  pub result : Option CType
  pub parameters : List Entry
  pub inside : Scope
  pub body : Item
  pub unread : Option ℕ
  pub names : Names

-- its parameters are declared in the block of its body (C99 6.9.1p9)
abbrev pub body_context : FunctionSaid → Code → Context
body_context f x = record {
  scope = f.inside;
  labels = x.own;
  every = x.every;
  breaks = false;
  continues = false;
  chooses = None;
  result = f.returned;
}

-- a body that couldn't be read does nothing
abbrev pub body_item : FunctionSaid → Option Code → Item
body_item f None = node (nothing f.inside)
body_item f (Some x) = x.content (body_context f x)

-- ---- external declarations

-- What an external declaration is worth: what it declares and initialises, with the rules that it breaks; the names
-- of that part; the function that it defines; and the scope behind it.
pub record Outer : Type 0 where
  pub item : Item
  pub names : Names
  pub function : Option Function
  pub after : Scope

abbrev pub function_from : FunctionSaid → Option Entry → Option ℕ → Item → Names → Option Function
function_from f None unread b names = None
function_from f (Some e) unread b names = Some (record {
  at = e.at;
  name = e.name;
  means = e.means;
  result = f.returned;
  parameters = f.parameters;
  inside = f.inside;
  body = b;
  unread = unread;
  names = names;
})

abbrev pub entry_name : Option Entry → List Name
entry_name None = []
entry_name (Some e) = e.name ∷ []

-- what was declared with linkage in the body stays known, and so do its types
abbrev pub behind_body : Item → Scope → Scope
behind_body b s = record (leave b.after) { function = s.function }

abbrev pub function_outer : FunctionSaid → Option ℕ → Item → Names → Names → Scope → Outer
function_outer f unread b head whole s = record {
  item = record (nothing f.after) { breaches = typing f.faults; links = entry_name f.entry };
  names = head;
  function = function_from f f.entry unread b whole;
  after = behind_body b s;
}

abbrev pub with_function : FunctionSaid → Option ℕ → Option Code → Names → Names → Scope → Outer
with_function f unread x head whole s = function_outer f unread (body_item f x) head whole s

-- a body is a node, as its braces are
abbrev pub braces : Bool → ℕ
braces true = 0
braces false = 1

abbrev pub braced : Code → Code
braced x = record x {
  content = λ c. let i = x.content c in record i { size = λ l. braces x.is_block + i.size l };
}

abbrev pub code_in : Body → Option Code
code_in (body.Read block) = Some (braced (stmt block))
code_in (body.Unread at) = None

abbrev pub unread_in : Body → Option ℕ
unread_in (body.Read block) = None
unread_in (body.Unread at) = Some at

-- the names of its head alone
abbrev pub head_names : List Specifier → Declarator → Names
head_names specifiers declarator =
    settled (all_of specifier_of specifiers then with_name (declarator_names declarator))

abbrev pub declared_outer : Item → Names → Outer
declared_outer x names = record { item = x; names = names; function = None; after = x.after }

abbrev pub outer : External → Scope → Outer
outer (external.Function specifiers declarator b) s =
    with_function (function_by (map specifier_noted specifiers) (declarator_noted declarator) s) (unread_in b)
    (code_in b)
    (head_names specifiers declarator) (external_names (external.Function specifiers declarator b)) s
outer (external.Declared d) s = declared_outer (declaration d s) (external_names (external.Declared d))
outer (external.Empty at) s = declared_outer (nothing s) none

-- ---- a program

pub record Program : Type 0 where
  pub outers : List Outer
  pub scope : Scope

abbrev pub with_outer : Outer → Program → Program
with_outer x p = record p { outers = x ∷ p.outers }

-- each external declaration in the scope that those before it leave
abbrev pub in_order : List (Scope → Outer) → Scope → Program
in_order [] s = record { outers = []; scope = s }
in_order (f ∷ fs) s = let x = f s in with_outer x (in_order fs x.after)

abbrev pub program_of : List External → Program
program_of xs = in_order (map outer xs) empty

abbrev pub function_if : Option Function → List Function → List Function
function_if None fs = fs
function_if (Some f) fs = f ∷ fs

abbrev pub functions_in : List Outer → List Function
functions_in [] = []
functions_in (x ∷ xs) = function_if x.function (functions_in xs)

abbrev pub functions_of : Program → List Function
functions_of p = functions_in p.outers

abbrev pub function_named : List Function → Name → Option Function
function_named [] name = None
function_named (f ∷ fs) name = cond (bytes_eq f.name name) (Some f) (function_named fs name)

-- ---- what is reached: `main`, and what the body of a function that is reached calls; the bodies of log and
-- identity functions don't run

abbrev pub run_body : Profile → List Function → Name → Option Function
run_body profile fs name =
    cond (is_some (log_of profile name) || is_some (identity_index profile name)) None (function_named fs name)

abbrev pub has_function : Function → List Function → Bool
has_function f [] = false
has_function f (g ∷ gs) = nat_eq f.at g.at || has_function f gs

abbrev pub newly : List Function → Option Function → List Function
newly found None = []
newly found (Some f) = cond (has_function f found) [] (f ∷ [])

abbrev pub called_by : List Function → List Name
called_by [] = []
called_by (f ∷ fs) = f.body.called ++ called_by fs

-- the names that are left to look at, and what was found
abbrev pub reach : ℕ → Profile → List Function → List Name → List Function → List Function
reach zero profile fs todo found = found
reach (suc n) profile fs [] found = found
reach (suc n) profile fs (name ∷ todo) found =
    let new = newly found (run_body profile fs name) in
    reach n profile fs (called_by new ++ todo) (new ++ found)

abbrev pub all_called : List Function → ℕ
all_called [] = 0
all_called (f ∷ fs) = length f.body.called + all_called fs

abbrev pub main' : Name
main' = 109 ∷ 97 ∷ 105 ∷ 110 ∷ []

-- each name is looked at once for each call that names it
abbrev pub reached : Profile → Program → List Function
reached profile p =
    let fs = functions_of p in reach (suc (suc (all_called fs))) profile fs (main' ∷ []) []

-- ---- what is needed: what a function that is reached uses, and what the type or initializer of that uses

abbrev pub declares_word : Word → List Binding → Bool
declares_word w [] = false
declares_word w (b ∷ bs) = same_word b.word w || declares_word w bs

abbrev pub has_word : Word → List Word → Bool
has_word w [] = false
has_word w (x ∷ xs) = same_word x w || has_word w xs

-- what the declarations of a name use
abbrev pub uses_of : Word → List Outer → List Word
uses_of w [] = []
uses_of w (x ∷ xs) = cond (declares_word w x.names.declares) (x.names.uses ++ uses_of w xs) (uses_of w xs)

abbrev pub need : ℕ → List Outer → List Word → List Word → List Word
need zero xs todo found = found
need (suc n) xs [] found = found
need (suc n) xs (w ∷ todo) found =
    cond (has_word w found) (need n xs todo found) (need n xs (uses_of w xs ++ todo) (w ∷ found))

abbrev pub ordinaries : List Name → List Word
ordinaries [] = []
ordinaries (name ∷ names) = ordinary name ∷ ordinaries names

abbrev pub used_by : List Function → List Word
used_by [] = []
used_by (f ∷ fs) = f.names.uses ++ ordinaries (f.name ∷ f.body.links) ++ used_by fs

abbrev pub all_uses : List Outer → ℕ
all_uses [] = 0
all_uses (x ∷ xs) = length x.names.declares * length x.names.uses + all_uses xs

-- each name is looked at once for each declaration that uses it
abbrev pub needed_words : Profile → Program → List Word
needed_words profile p =
    let ws = used_by (reached profile p) in need (suc (length ws + all_uses p.outers)) p.outers ws []

abbrev pub declares_some : List Binding → List Word → Bool
declares_some [] ws = false
declares_some (b ∷ bs) ws = has_word b.word ws || declares_some bs ws

-- whether an external declaration is needed
abbrev pub is_needed : List Word → Outer → Bool
is_needed ws x = declares_some x.names.declares ws

abbrev pub needed_among : List Outer → List Word → List Outer
needed_among [] ws = []
needed_among (x ∷ xs) ws = cond (is_needed ws x) (x ∷ needed_among xs ws) (needed_among xs ws)

-- the external declarations that are needed, in order
abbrev pub needed : Profile → Program → List Outer
needed profile p = needed_among p.outers (needed_words profile p)

-- ---- what lives throughout the run: what needed declarations and functions that are reached declare and name

-- a string literal with its bytes
pub record Text : Type 0 where
  pub at : ℕ
  pub bytes : List ℕ

-- the names of functions and objects with linkage, the objects, and the string literals, in order
pub record Needs : Type 0 where
  pub links : List Name
  pub lasting : List Lasting
  pub texts : List Text

abbrev pub no_needs : Needs
no_needs = record { links = []; lasting = []; texts = [] }

abbrev pub and_needs : Needs → Needs → Needs
and_needs x y = record { links = x.links ++ y.links; lasting = x.lasting ++ y.lasting; texts = x.texts ++ y.texts }

-- `__func__` is the name of its function (C99 6.4.2.2)
abbrev pub texts_of : Name → List Literal → List Text
texts_of name [] = []
texts_of name (x ∷ xs) = record { at = x.at; bytes = unwrap_or x.text name } ∷ texts_of name xs

abbrev pub item_needs : List Name → Item → Name → Names → Needs
item_needs links x name names = record {
  links = links ++ x.links;
  lasting = x.lasting;
  texts = texts_of name names.literals;
}

abbrev pub declared_needs : List Word → Outer → Needs
declared_needs ws x = cond (is_needed ws x) (item_needs [] x.item [] x.names) no_needs

abbrev pub function_needs : List Function → Option Function → Needs
function_needs found None = no_needs
function_needs found (Some f) = cond (has_function f found) (item_needs (f.name ∷ []) f.body f.name f.names) no_needs

abbrev pub all_needs : List Word → List Function → List Outer → Needs
all_needs ws found [] = no_needs
all_needs ws found (x ∷ xs) =
    and_needs (declared_needs ws x) (and_needs (function_needs found x.function) (all_needs ws found xs))

abbrev pub needs_of : Profile → Program → Needs
needs_of profile p = all_needs (needed_words profile p) (reached profile p) p.outers

-- ---- watched variables that live throughout the run: those of the file, and those of the function's blocks, that
-- it names

abbrev pub is_lasting_integer : Means → Bool
is_lasting_integer (means.Object t duration.Static l) = is_integer_object (means.Object t duration.Static l)
is_lasting_integer (means.Object t duration.Automatic l) = false
is_lasting_integer (means.Function t l) = false
is_lasting_integer (means.Typedef t) = false
is_lasting_integer (means.Constant z) = false
is_lasting_integer means.Faulty = false

abbrev pub watches : Option Entry → List Entry → List Entry
watches None es = es
watches (Some e) es = cond (is_lasting_integer e.means) (inserted e es) es

abbrev pub in_file : Scope → List Word → List Entry
in_file s [] = []
in_file s (w ∷ ws) = cond w.is_tag (in_file s ws) (watches (entry_in s.file w.name) (in_file s ws))

abbrev pub is_bound : ℕ → List ℕ → Bool
is_bound at [] = false
is_bound at (b ∷ bs) = nat_eq b at || is_bound at bs

abbrev pub in_blocks : List Lasting → List ℕ → List Entry → List Entry
in_blocks [] ats es = es
in_blocks (x ∷ xs) ats es =
    cond (is_bound x.at ats) (watches (Some x.entry) (in_blocks xs ats es)) (in_blocks xs ats es)

abbrev pub watched_lasting : Scope → Function → List Entry
watched_lasting s f = in_blocks f.body.lasting f.names.bound (in_file s f.names.uses)
