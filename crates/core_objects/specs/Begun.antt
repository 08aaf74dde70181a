-- What it is to be the core of a declaration: the codes of its items, and what is set before the program starts.
use Rattle.std.specs.Prelude.{◌≡◌, List, [], ◌∷◌, ◌++◌}
use Rattle.c_language.specs.Scopes.{Scope}
use Rattle.c_means.specs.Items.{Item, Lasting}
use Rattle.core_tree.specs.declared.code.Code.{Code}
use Rattle.core_tree.specs.declared.program.LastingSetting.{LastingSetting}
use Rattle.core_marks.specs.Marks.{items_marks}
use Rattle.elaborate.specs.Means.{Numbering, SameMarks}
use Rattle.code_forms.specs.Contents.{AreCodesOf}
use Rattle.core_programs.specs.Programs.{AllSettings, no_calls}
use Rattle.core_programs.specs.Programs as programs
use Rattle.core_objects.specs.declared.begun.Begun.{Begun}

-- where no function runs, nothing is called
abbrev pub bare : Numbering → Numbering
bare numbering = no_calls numbering.place numbering.identity

-- what the initializers of objects set that live throughout the run, one object behind the other
pub record AreAllSet (numbering : Numbering) (xs : List LastingSetting) (ys : List Lasting) : Type 0 where
  pub each : List (List LastingSetting)
  pub all : xs ≡ programs.joined each
  pub set : AllSettings (bare numbering) each ys

-- a declaration, behind which these names are in force
pub record IsBegun (numbering : Numbering) (y : Begun) (i : Item) (t : Scope) : Type 0 where
  pub codes : AreCodesOf numbering y.codes i
  pub lasting : AreAllSet numbering y.settings i.lasting
  pub after : t ≡ i.after
  pub marks : SameMarks numbering (items_marks y.codes) i.marks

abbrev pub nothing_begun : Begun
nothing_begun = record { codes = []; settings = [] }

-- one item
abbrev pub one_begun : Code → List LastingSetting → Begun
one_begun c xs = record { codes = c ∷ []; settings = xs }

-- one behind the other
abbrev pub joined : Begun → Begun → Begun
joined x y = record { codes = x.codes ++ y.codes; settings = x.settings ++ y.settings }
