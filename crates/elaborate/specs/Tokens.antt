-- What stands at a token of the core, as `c_means` says it.
use Rattle.std.specs.Prelude.{ℕ, List, map}
use Rattle.c_language.specs.Scopes.{Name}
use Rattle.c_means.specs.Marks.{Mark, Takes, Calls, Enters, Prints, Exits, Aborts, Stops}
use Rattle.core_tree.specs.declared.expr.Watched.{Watched}
use Rattle.core_marks.specs.declared.mark.Mark.{Mark as CoreMark}
use Rattle.core_marks.specs.declared.mark.Mark.TheVariants as m

-- by the offset of its declaration
abbrev pub offset_in : Watched → ℕ
offset_in x = x.at

-- by the names that the functions of the core have
abbrev pub told : (ℕ → Name) → CoreMark → Mark
told name (m.Branch at side) = Takes at side
told name (m.Call at) = Calls at
told name (m.Body at function) = Enters at (name function)
told name (m.Log site) = Prints site.at site.pieces (map offset_in site.watched)
told name (m.Exit at) = Exits at
told name (m.Abort at) = Aborts at
told name (m.Stop at kind) = Stops at kind

abbrev pub all_told : (ℕ → Name) → List CoreMark → List Mark
all_told name ms = map (told name) ms
