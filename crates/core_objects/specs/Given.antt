-- What an initializer gives to an object: what its expressions set, one behind the other, how many nodes they count,
-- and what stands at their tokens.
use Rattle.std.specs.Prelude.{◌≡◌, ℕ, Bool, true, false, List, [], map, Some}
use Rattle.c_language.specs.declared.scope.Duration.TheVariants as duration
use Rattle.c_language.specs.declared.scope.Means.{Means}
use Rattle.c_language.specs.declared.scope.Means.TheVariants as means
use Rattle.c_language.specs.Initials.{Part}
use Rattle.c_means.specs.Parts.{State, Env}
use Rattle.c_means.specs.Parts as c
use Rattle.c_means.specs.Notes.{Noted}
use Rattle.c_means.specs.Initials as initials
use Rattle.core_tree.specs.declared.code.Setting.{Setting}
use Rattle.core_tree.specs.declared.expr.Expr.{Expr}
use Rattle.core_tree.specs.declared.program.LastingSetting.{LastingSetting}
use Rattle.core_tree.specs.States.{Output, Level}
use Rattle.core_tree.specs.Values.{value, all_sizes}
use Rattle.core_tree.specs.Codes as core
use Rattle.core_marks.specs.Marks.{setting_marks, settings_marks, values_marks}
use Rattle.elaborate.specs.Means.{Numbering, Like, SameMarks, as_done}
use Rattle.core_programs.specs.Quiet.{IsQuiet}
use Rattle.core_objects.specs.declared.given.Initial.{Initial}
use Rattle.core_objects.specs.Begun.{bare}

-- what one expression of an initializer sets
pub record IsSet (numbering : Numbering) (x : Setting) (p : Part) (n : Noted) : Type 0 where
  pub size : (l : c.Level) (k : Level Output) → Like numbering l k → (core.setting_needs Output x).size k.measures
      ≡ initials.set_size p n l
  pub room : (l : c.Level) (k : Level Output) → Like numbering l k → (core.setting_needs Output x).room k.measures
      ≡ initials.set_room p n l
  pub runs : (l : c.Level) (k : Level Output) → Like numbering l k → (a : ℕ) (env : Env) (base : ℕ) (d : State)
      → core.sets x a k env base (as_done d) ≡ Some (as_done (initials.sets p n a l env base d))
  pub marks : SameMarks numbering (setting_marks x) (initials.set_marks p n)

-- what a whole initializer sets
pub record IsGiven (numbering : Numbering) (xs : List Setting) (x : initials.Initial) : Type 0 where
  pub size : (l : c.Level) (k : Level Output) → Like numbering l k → (core.all_needs Output xs).size k.measures
      ≡ x.size l
  pub room : (l : c.Level) (k : Level Output) → Like numbering l k → (core.all_needs Output xs).room k.measures
      ≡ x.room l
  pub runs : (l : c.Level) (k : Level Output) → Like numbering l k → (a : ℕ) (env : Env) (base : ℕ) (d : State)
      → core.sets_all xs a k env base (as_done d) ≡ Some (as_done (x.run a l env base d))
  pub marks : SameMarks numbering (settings_marks xs) x.marks

-- expressions that count as many nodes as a whole initializer does, with the same at their tokens
pub record IsCounted (numbering : Numbering) (es : List Expr) (x : initials.Initial) : Type 0 where
  pub size : (l : c.Level) (k : Level Output) → Like numbering l k
      → all_sizes (map (value {O = Output}) es) k.measures ≡ x.size l
  pub marks : SameMarks numbering (values_marks es) x.marks

-- An object that lives throughout the run is set where no function runs, which prints nothing; its nodes are counted
-- where it is declared.
pub record IsLasting (numbering : Numbering) (y : Initial) (x : initials.Initial) : Type 0 where
  pub given : IsGiven (bare numbering) y.settings x
  pub counted : IsCounted numbering y.counted x
  pub quiet : IsQuiet x

-- what is given to a name that means this: only objects are initialised
abbrev pub IsGivenTo : Means → Numbering → Initial → initials.Initial → Type 0
IsGivenTo (means.Object t duration.Automatic l) numbering y x = IsGiven numbering y.settings x
IsGivenTo (means.Object t duration.Static l) numbering y x = IsLasting numbering y x
IsGivenTo (means.Function t l) numbering y x = Unit {0}
IsGivenTo (means.Typedef t) numbering y x = Unit {0}
IsGivenTo (means.Constant z) numbering y x = Unit {0}
IsGivenTo means.Faulty numbering y x = Unit {0}

-- the initializer of what means this
pub record IsInitial (m : Means) (numbering : Numbering) (y : Initial) (x : initials.Initial) : Type 0 where
  pub zeroed : y.is_zeroed ≡ x.is_zeroed
  pub given : IsGivenTo m numbering y x

-- of the object at a place
abbrev pub lasting_setting : ℕ → Setting → LastingSetting
lasting_setting place x = record { place = place; setting = x }

abbrev pub counted_if : Bool → List Expr → List Expr
counted_if true es = es
counted_if false es = []
