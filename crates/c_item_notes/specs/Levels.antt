-- A source that is judged, and the level of a run by which its calls are told.
use Rattle.std.specs.Prelude.{List}
use Rattle.c_language.specs.declared.unit.External.{External}
use Rattle.c_language.specs.Scopes.{Scope}
use Rattle.c_language.specs.Typing.{Typed, typed_in}
use Rattle.c_means.specs.Parts.{Level}
use Rattle.c_means.specs.declared.profile.Profile.{Profile}
use Rattle.c_means.specs.Notes.{Noted}
use Rattle.c_means.specs.Runs.{bare}
use Rattle.c_means.specs.Units.{machine_of, silent, least}
use Rattle.c_notes.specs.declared.notes.ExprNotes.{ExprNotes}
use Rattle.c_notes.specs.declared.notes.NotedExpr.{NotedExpr}
use Rattle.c_notes.specs.Tellings.{notes_of}
use Rattle.c_item_notes.specs.declared.hearing.Source.{Source}

-- the external declarations, and what is known of functions besides
pub record Judged : Type 0 where
  pub externals : List External
  pub profile : Profile

abbrev pub judged : Source → Judged
judged x = record { externals = x.externals.now; profile = x.profile.now }

-- no rule asks for more than one turn in one level
unfoldable pub level_in : Judged → Level
level_in j = bare (machine_of j.externals j.profile silent least 1) 1

-- ---- what an expression says to the types, with the scope behind it, and what is noted of it

pub record Heard : Type 0 where
  pub typed : Typed
  pub notes : ExprNotes

abbrev pub heard_in : NotedExpr → Scope → Heard
heard_in x s = record { typed = typed_in x.told s; notes = x.notes }

abbrev pub heard : Judged → Noted → Heard
heard j x = record { typed = x.part.typed; notes = notes_of j.profile (level_in j) x }
