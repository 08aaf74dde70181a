-- What is called in the core, by what is known of the call.
use Rattle.std.specs.Prelude.{ℕ, Bool, List, ◌++◌, Option, option_map}
use Rattle.printf_text.specs.declared.piece.Piece.{Piece}
use Rattle.printf_text.specs.Pieces.{pieces_of}
use Rattle.c_language.specs.declared.class.Class.{Class}
use Rattle.c_language.specs.declared.class.Class.TheVariants as class
use Rattle.c_language.specs.declared.ctype.CType.{CType}
use Rattle.c_language.specs.declared.tables.Tables.{Tables}
use Rattle.c_language.specs.Scopes.{Name}
use Rattle.c_means.specs.Values.{class_in}
use Rattle.c_means.specs.declared.profile.LogText.{LogText}
use Rattle.c_means.specs.declared.profile.LogText.TheVariants as text_
use Rattle.c_means.specs.Calls.{pieces_or_none, newline_if, literal_at, pointed}
use Rattle.c_means.specs.Rules as rules
use Rattle.core_tree.specs.declared.expr.Callee.{Callee}
use Rattle.core_tree.specs.declared.expr.Callee.TheVariants as callee
use Rattle.core_tree.specs.declared.expr.OutsideAnswer.{OutsideAnswer}
use Rattle.core_tree.specs.declared.expr.OutsideAnswer.TheVariants as outside
use Rattle.elaborate.specs.Callees.{pointee_of}

-- ---- functions of the C library

abbrev pub callee_of : rules.Library → Callee
callee_of rules.Exit = callee.Exit
callee_of rules.Abort = callee.Abort
callee_of rules.Malloc = callee.Malloc
callee_of rules.Calloc = callee.Calloc
callee_of rules.Free = callee.Free

abbrev pub library_in : Option rules.Library → Option Callee
library_in x = option_map callee_of x

abbrev pub library_named : Name → Option Callee
library_named name = library_in (rules.library_named name)

-- ---- functions outside, by the type of the call

abbrev pub answer_by : Class → Tables → Option CType → Bool → OutsideAnswer
answer_by class.Pointer tables t never_null = outside.Pointer never_null (pointee_of tables (pointed t))
answer_by class.Void tables t never_null = outside.Nothing
answer_by _ tables t never_null = outside.Number

abbrev pub answer_for : Tables → Option CType → Bool → OutsideAnswer
answer_for tables t never_null = answer_by (class_in t) tables t never_null

-- ---- log calls

abbrev pub pieces_of_format : List ℕ → List Piece
pieces_of_format format = pieces_or_none (pieces_of format)

abbrev pub log_pieces_of : LogText → List (Option (List ℕ)) → List Piece
log_pieces_of (text_.Format i newline) texts = pieces_of_format (literal_at texts i) ++ newline_if newline
log_pieces_of (text_.Text format) texts = pieces_of_format format
