-- What is noted of external declarations and of whole programs, as functions of what `c_means` says of them.
use Rattle.std.specs.Prelude.{ℕ, Bool, false, List, [], ◌∷◌, ◌++◌, length, map, option_map, Option, Some, None}
use Rattle.c_language.specs.declared.expr.Declarator.{Declarator}
use Rattle.c_language.specs.declared.expr.Specifier.{Specifier}
use Rattle.c_language.specs.declared.unit.Body.{Body}
use Rattle.c_language.specs.declared.unit.Declaration.{Declaration}
use Rattle.c_language.specs.declared.unit.External.{External}
use Rattle.c_language.specs.declared.tables.Tables.{Tables}
use Rattle.c_language.specs.declared.scope.Entry.{Entry}
use Rattle.c_language.specs.declared.scope.Fault.{Fault}
use Rattle.c_language.specs.Scopes.{Block, Name, Scope, enter_with, leave}
use Rattle.c_language.specs.Declarations.{FunctionSaid}
use Rattle.c_language.specs.Units.{function_says}
use Rattle.c_declarations.specs.declared.functions.FunctionSaid.{FunctionSaid as Held}
use Rattle.c_declarations.specs.Views.{function_in}
use Rattle.c_means.specs.Checks.{is_main_means}
use Rattle.c_means.specs.Items.{typing}
use Rattle.c_means.specs.Programs.{Outer, Program, body_item, code_in, entry_name, head_names, outer, unread_in}
use Rattle.c_means.specs.Statements.{declaration}
use Rattle.c_checks.specs.Refusals.{least_of}
use Rattle.c_item_notes.specs.declared.items.ItemNotes.{ItemNotes}
use Rattle.c_item_notes.specs.ItemTellings.{item_notes, nothing_noted, summed}
use Rattle.c_item_notes.specs.ItemTellings.{Summed as ItemSummed}
use Rattle.c_item_notes.specs.Levels.{Judged}
use Rattle.c_names.specs.declared.summaries.Names.{Names}
use Rattle.c_names.specs.Kept.{kept}
use Rattle.c_reach.specs.declared.summaries.FunctionNotes.{FunctionNotes}
use Rattle.c_reach.specs.Summaries.{function_notes}
use Rattle.c_program_notes.specs.declared.outers.Head.{Head}
use Rattle.c_program_notes.specs.declared.outers.OuterNotes.{OuterNotes}
use Rattle.c_program_notes.specs.declared.outers.ProgramNotes.{ProgramNotes}

-- ---- what is noted

abbrev pub outer_notes : Judged → Outer → OuterNotes
outer_notes j x = record {
  item = item_notes j x.item;
  names = kept x.names;
  function = option_map (function_notes j) x.function;
}

abbrev pub program_notes : Judged → Program → ProgramNotes
program_notes j p = record { outers = map (outer_notes j) p.outers; scope = p.scope }

-- with the scope behind it
pub record Summed : Type 0 where
  pub notes : OuterNotes
  pub after : Scope

abbrev pub outer_in : OuterNotes → Scope → Summed
outer_in x s = record { notes = x; after = s }

abbrev pub outer_summed : Judged → Outer → Summed
outer_summed j x = outer_in (outer_notes j x) x.after

-- of an external declaration in a scope
unfoldable pub outer_told : Judged → External → Scope → Summed
outer_told j e s = outer_summed j (outer e s)

-- these, and a program's behind them
abbrev pub goes_on : Judged → List OuterNotes → Program → ProgramNotes
goes_on j outers p = record { outers = outers ++ map (outer_notes j) p.outers; scope = p.scope }

-- ---- the head of a function definition

abbrev pub defines_main : Tables → Option Entry → Bool
defines_main tables None = false
defines_main tables (Some e) = is_main_means tables e.means

abbrev pub head_item : List Fault → Option Entry → ItemNotes
head_item faults e = record nothing_noted { breach = least_of (typing faults); links = entry_name e }

abbrev pub head_of : FunctionSaid → Head
head_of f = record {
  item = head_item f.faults f.entry;
  entry = f.entry;
  returned = f.returned;
  parameters = length f.parameters;
  is_main = defines_main f.inside.tables f.entry;
}

-- into the body
abbrev pub gone_in : Block → Name → Scope → Scope
gone_in b name s = record (enter_with b s) { function = Some name }

abbrev pub head_in : Held → Scope → Head
head_in x s = head_of (function_in x s)

-- ---- a function definition

abbrev pub function_from : Option Entry → ℕ → Bool → Option ℕ → ItemNotes → Names → Option FunctionNotes
function_from None n b unread body names = None
function_from (Some e) n b unread body names = Some (record {
  at = e.at;
  name = e.name;
  parameters = n;
  unread = unread;
  is_main = b;
  body = body;
  names = names;
})

abbrev pub defined : Head → Option ℕ → ItemNotes → Names → Names → OuterNotes
defined h unread body head whole = record {
  item = h.item;
  names = head;
  function = function_from h.entry h.parameters h.is_main unread body whole;
}

-- by what its head says, and the item that its body is
abbrev pub defined_by : Judged → FunctionSaid → List Specifier → Declarator → Body → Names → Scope → Summed
defined_by j f specifiers declarator b whole s =
    let x = body_item f (code_in b) in
    outer_in (defined (head_of f) (unread_in b) (item_notes j x) (kept (head_names specifiers declarator)) whole)
    (record (leave x.after) { function = s.function })

unfoldable pub defined_outer : Judged → List Specifier → Declarator → Body → Names → Scope → Summed
defined_outer j specifiers declarator b whole s =
    defined_by j (function_says specifiers declarator s) specifiers declarator b whole s

-- ---- other external declarations

abbrev pub without_function : ItemNotes → Names → OuterNotes
without_function n w = record { item = n; names = w; function = None }

abbrev pub declared_by : ItemSummed → Names → Summed
declared_by z w = outer_in (without_function z.notes w) z.after

unfoldable pub declared_told : Judged → Declaration → Names → Scope → Summed
declared_told j d w s = declared_by (summed j (declaration d s)) w
