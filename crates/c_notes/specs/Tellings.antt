-- What code keeps of what `c_means` notes of an expression; and what each form keeps, over what its parts keep.
use Rattle.std.specs.Prelude.{ℕ, Bool, true, false, ◌&&◌, ◌||◌, List, [], ◌∷◌, ◌++◌, Option, Some, None, is_some}
use Rattle.c_language.specs.declared.expr.BinaryOperator.{BinaryOperator}
use Rattle.c_language.specs.declared.expr.BinaryOperator.TheVariants as o
use Rattle.c_language.specs.declared.expr.UnaryOperator.{UnaryOperator}
use Rattle.c_language.specs.declared.expr.UnaryOperator.TheVariants as u
use Rattle.c_language.specs.declared.ctype.CType.{CType}
use Rattle.c_language.specs.declared.tables.Tables.{Tables}
use Rattle.c_language.specs.declared.scope.Entry.{Entry}
use Rattle.c_language.specs.declared.scope.Fault.{Fault}
use Rattle.c_language.specs.declared.shown.Shown.{Shown}
use Rattle.c_language.specs.Typing.{type_in, value_in, constant_of, no_arguments, and_argument}
use Rattle.c_means.specs.Parts.{Level}
use Rattle.c_means.specs.Expressions.{promoted_type, parameters_of, designated, text_at}
use Rattle.c_means.specs.declared.profile.Profile.{Profile}
use Rattle.c_means.specs.Notes.{Noted, is_address_in, is_static_pointer}
use Rattle.c_means.specs.Rules.{identity_index}
use Rattle.c_notes.specs.declared.arguments.ArgumentNotes.{ArgumentNotes}
use Rattle.c_notes.specs.declared.arguments.NotedCall.{NotedCall}
use Rattle.c_notes.specs.declared.calling.Itself.{Itself}
use Rattle.c_notes.specs.declared.calls.CallNote.{CallNote}
use Rattle.c_notes.specs.declared.notes.ExprNotes.{ExprNotes}
use Rattle.c_notes.specs.declared.notes.NotedExpr.{NotedExpr}
use Rattle.c_notes.specs.CallsTold.{told_call, told_calls}

abbrev pub notes_of : Profile → Level → Noted → ExprNotes
notes_of p l x = record {
  text = x.part.text l;
  calls = told_calls p l x.notes.calls;
  called = x.notes.called;
  is_place = x.notes.is_place;
  is_address = x.notes.is_address;
  is_constant = is_some (constant_of x.part.typed);
}

-- ---- one node over its parts

abbrev pub nothing_noted : ExprNotes
nothing_noted = record {
  text = None;
  calls = [];
  called = [];
  is_place = false;
  is_address = false;
  is_constant = false;
}

abbrev pub both : ExprNotes → ExprNotes → ExprNotes
both m n = record {
  text = None;
  calls = m.calls ++ n.calls;
  called = m.called ++ n.called;
  is_place = false;
  is_address = false;
  is_constant = false;
}

abbrev pub as_place : Bool → Option Shown → ExprNotes → ExprNotes
as_place fixed x n = record {
  text = None;
  calls = n.calls;
  called = n.called;
  is_place = fixed;
  is_address = fixed && is_address_in (type_in x);
  is_constant = is_some (value_in x);
}

abbrev pub as_value : Bool → Option Shown → ExprNotes → ExprNotes
as_value fixed x n = record {
  text = None;
  calls = n.calls;
  called = n.called;
  is_place = false;
  is_address = fixed;
  is_constant = is_some (value_in x);
}

-- an address and a constant
abbrev pub is_moved : ExprNotes → ExprNotes → Bool
is_moved m n = (m.is_address && n.is_constant) || (m.is_constant && n.is_address)

abbrev pub is_static : ExprNotes → Bool
is_static n = n.is_constant || n.is_address

-- ---- forms

abbrev pub leaf : Option Shown → ExprNotes
leaf x = as_value false x nothing_noted

abbrev pub placed_leaf : Bool → Option Shown → ExprNotes
placed_leaf fixed x = as_place fixed x nothing_noted

abbrev pub literal : List ℕ → Option Shown → ExprNotes
literal bytes x = record (placed_leaf true x) { text = Some bytes }

abbrev pub subscript : Option Shown → ExprNotes → ExprNotes → ExprNotes
subscript x m n = as_place (is_moved m n) x (both m n)

abbrev pub unary : UnaryOperator → Option Shown → ExprNotes → ExprNotes
unary u.Address x m = as_value m.is_place x m
unary u.Indirection x m = as_place m.is_address x m
unary op x m = as_value false x m

-- a sum or difference of an address and a constant
abbrev pub fixed_by : BinaryOperator → ExprNotes → ExprNotes → Bool
fixed_by o.Add m n = is_moved m n
fixed_by o.Subtract m n = m.is_address && n.is_constant
fixed_by op m n = false

abbrev pub binary : BinaryOperator → Option Shown → ExprNotes → ExprNotes → ExprNotes
binary op x m n = as_value (fixed_by op m n) x (both m n)

abbrev pub member : Option Shown → ExprNotes → ExprNotes
member x m = as_place m.is_place x m

abbrev pub arrow : Option Shown → ExprNotes → ExprNotes
arrow x m = as_place m.is_address x m

abbrev pub one_value : Option Shown → ExprNotes → ExprNotes
one_value x m = as_value false x m

abbrev pub two_values : Option Shown → ExprNotes → ExprNotes → ExprNotes
two_values x m n = as_value false x (both m n)

abbrev pub unevaluated : Option Shown → ExprNotes → ExprNotes
unevaluated x m = as_value false x (record m { called = [] })

abbrev pub cast : Option Shown → ExprNotes → ExprNotes
cast x m = as_value (is_static m && is_static_pointer (type_in x)) x m

abbrev pub choice : Option Shown → ExprNotes → ExprNotes → ExprNotes → ExprNotes
choice x c m n = as_value (c.is_constant && is_static m && is_static n) x (both (both c m) n)

-- ---- calls

abbrev pub no_arguments_noted : List Fault → ArgumentNotes
no_arguments_noted faults =
    record { arguments = no_arguments faults; types = []; texts = []; calls = []; called = [] }

-- a call of what this was noted of, without arguments so far
abbrev pub call_begun : NotedExpr → NotedCall
call_begun f = record {
  at = f.told.at;
  shown = f.told.shown;
  notes = f.notes;
  arguments = no_arguments_noted f.told.faults;
}

-- one more argument, as a value
abbrev pub and_noted : ArgumentNotes → NotedExpr → ArgumentNotes
and_noted xs x = record {
  arguments = and_argument xs.arguments x.told;
  types = xs.types ++ promoted_type (type_in x.told.shown) ∷ [];
  texts = xs.texts ++ x.notes.text ∷ [];
  calls = xs.calls ++ x.notes.calls;
  called = xs.called ++ x.notes.called;
}

-- the types of arguments as they are converted: to those of parameters, as far as there are (C99 6.5.2.2p7)
abbrev pub passed_as : List (Option CType) → List CType → List (Option CType)
passed_as [] ts = []
passed_as (x ∷ xs) [] = x ∷ passed_as xs []
passed_as (x ∷ xs) (t ∷ ts) = Some t ∷ passed_as xs ts

-- the call itself, where it breaks no rule of types
abbrev pub call_itself : Profile → ℕ → Tables → Entry → Option Shown → List (Option CType) →
    List (Option (List ℕ)) → List CallNote
call_itself p at tables e None types texts = []
call_itself p at tables e (Some x) types texts = told_call p at tables e types texts ∷ []

-- what a call adds to the notes of its parts
abbrev pub itself : Profile → ℕ → Tables → Option Entry → Option Shown → List (Option CType) →
    List (Option (List ℕ)) → Itself
itself p at tables None x types texts = record { text = None; calls = []; called = [] }
itself p at tables (Some e) x types texts = record {
  text = text_at (identity_index p e.name) texts;
  calls = call_itself p at tables e x types texts;
  called = e.name ∷ [];
}

abbrev pub with_itself : Itself → Option Shown → ExprNotes → ArgumentNotes → ExprNotes
with_itself i x n xs = record {
  text = i.text;
  calls = n.calls ++ xs.calls ++ i.calls;
  called = n.called ++ xs.called ++ i.called;
  is_place = false;
  is_address = false;
  is_constant = is_some (value_in x);
}

-- a call of what shows this, at its token
abbrev pub call : Profile → ℕ → Tables → Option Shown → Option Shown → ExprNotes → ArgumentNotes → ExprNotes
call p at tables f x n xs =
    with_itself (itself p at tables (designated f) x (passed_as xs.types (parameters_of tables (type_in f))) xs.texts) x n
    xs
