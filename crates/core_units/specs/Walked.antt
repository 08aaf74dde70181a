-- What is made of external declarations, one after the other: the functions that are reached, in the core, and the
-- others; and what initializers of what is needed set.
use Rattle.std.specs.Prelude.{◌≡◌, Bool, false, List}
use Rattle.c_means.specs.Items as runs
use Rattle.c_means.specs.Names.{Word}
use Rattle.c_means.specs.Programs.{Function, Outer, functions_in, all_needs}
use Rattle.c_means.specs.Runs as whole
use Rattle.core_tree.specs.declared.program.Function.{Function as CoreFunction}
use Rattle.core_tree.specs.declared.program.LastingSetting.{LastingSetting}
use Rattle.core_tree.specs.Programs.{body_of}
use Rattle.core_tree.specs.States.{Output}
use Rattle.core_marks.specs.Programs.{function_marks}
use Rattle.elaborate.specs.Means.{SameMarks, IsBodyOf}
use Rattle.core_programs.specs.Numberings.{Numbers, numbering_of}
use Rattle.core_programs.specs.Programs.{AllSettings, bare_numbering, joined}
use Rattle.core_programs.specs.Marked.{AllAre, reached_among}
use Rattle.core_units.specs.Numbers.{others_among}

-- the core of a function of the source or of the prelude
pub record IsCoreFunction (m : whole.Machine) (ns : Numbers) (is_prelude : Bool) (f : Function) (x : CoreFunction) :
    Type 0 where
  pub kind : x.is_prelude ≡ is_prelude
  pub name : x.name ≡ f.name
  pub item : runs.Item
  pub is_body : IsBodyOf (numbering_of m ns f) (body_of {O = Output} x) f item
  pub marks : SameMarks (numbering_of m ns f) (function_marks x) f.body.marks

-- what initializers set, one object behind the other
pub record AreSet (m : whole.Machine) (xs : List LastingSetting) (ys : List runs.Lasting) : Type 0 where
  pub each : List (List LastingSetting)
  pub all : xs ≡ joined each
  pub set : AllSettings (bare_numbering m) each ys

-- of external declarations, of which these words are needed and these functions are reached
pub record IsWalkOf (m : whole.Machine) (ns : Numbers) (ws : List Word) (found : List Function) (xs : List Outer)
    (functions others : List CoreFunction) (settings : List LastingSetting) : Type 0 where
  pub cores : AllAre (IsCoreFunction m ns false) (reached_among found (functions_in xs)) functions
  pub rest : AllAre (IsCoreFunction m ns false) (others_among found (functions_in xs)) others
  pub set : AreSet m settings (all_needs ws found xs).lasting
