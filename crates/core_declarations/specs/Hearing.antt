-- What it is that the core of an expression was found, with what the types say of it as it stands.
use Rattle.std.specs.Prelude.{◌≡◌}
use Rattle.c_language.specs.Scopes.{Scope}
use Rattle.c_language.specs.Typing.{told_of}
use Rattle.c_means.specs.Parts.{Level, Part}
use Rattle.c_means.specs.Notes.{Noted}
use Rattle.core_marks.specs.Marks.{value_marks}
use Rattle.elaborate.specs.Means.{Numbering, SameMarks, IsValueOf}
use Rattle.core_declarations.specs.declared.hearing.Heard.{Heard}

-- a part, behind which these names are in force
pub record IsHeardOf (numbering : Numbering) (x : Heard) (p : Part) (t : Scope) : Type 0 where
  pub told : x.told ≡ told_of p.typed
  pub value : IsValueOf numbering x.value p
  pub text : (l : Level) → l.identity ≡ numbering.identity → x.text ≡ p.text l
  pub after : t ≡ p.typed.after
  pub marks : SameMarks numbering (value_marks x.value) p.marks

abbrev pub IsHeard : Numbering → Heard → Noted → Scope → Type 0
IsHeard numbering x n t = IsHeardOf numbering x n.part t
