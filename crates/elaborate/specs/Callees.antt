-- What is called, for the rules of calls that are no calls by body.
use Rattle.std.specs.Prelude.{Bool, true, false, cond, List, [], ◌∷◌, Option}
use Rattle.c_language.specs.declared.class.Class.{Class}
use Rattle.c_language.specs.declared.class.Class.TheVariants as class
use Rattle.c_language.specs.declared.ctype.CType.{CType}
use Rattle.c_language.specs.declared.tables.Tables.{Tables}
use Rattle.c_means.specs.Parts.{Site}
use Rattle.c_means.specs.Values.{class_in, bytes_of}
use Rattle.c_means.specs.declared.profile.FillAnswer.{FillAnswer}
use Rattle.c_means.specs.declared.profile.FillAnswer.TheVariants as answer
use Rattle.c_means.specs.declared.profile.FillFunction.{FillFunction}
use Rattle.c_means.specs.Calls.{kind_or_int, pointed, is_string}
use Rattle.core_tree.specs.declared.expr.Fill.{Fill}
use Rattle.core_tree.specs.declared.expr.OutsideAnswer.{OutsideAnswer}
use Rattle.core_tree.specs.declared.expr.OutsideAnswer.TheVariants as outside
use Rattle.core_tree.specs.declared.expr.Pointee.{Pointee}
use Rattle.core_tree.specs.declared.expr.Pointee.TheVariants as pointee
use Rattle.core_tree.specs.declared.types.WordType.{WordType}
use Rattle.elaborate.specs.Types.{word_type}

-- characters are a text, and any other type is one object of its size
abbrev pub pointee_of : Tables → Option CType → Pointee
pointee_of tables t = cond (is_string t) pointee.Text (pointee.Bytes (bytes_of tables t))

abbrev pub answer_in : Class → Bool → Site → OutsideAnswer
answer_in class.Pointer never_null g = outside.Pointer never_null (pointee_of g.scope.tables (pointed g.ctype))
answer_in class.Void never_null g = outside.Nothing
answer_in _ never_null g = outside.Number

-- by the type of the call
abbrev pub answer_of : Bool → Site → OutsideAnswer
answer_of never_null g = answer_in (class_in g.ctype) never_null g

abbrev pub counts : FillAnswer → Bool
counts answer.Free = false
counts answer.Count = true

abbrev pub fill_of : FillFunction → Fill
fill_of f = record { buffer = f.buffer; length = f.length; counts = counts f.answer }

-- the integer types of arguments, by the types to which they are converted
abbrev pub word_types : List (Option CType) → List WordType
word_types [] = []
word_types (t ∷ ts) = word_type (kind_or_int (class_in t)) ∷ word_types ts
