-- What it is that expressions of an initializer were gone through.
use Rattle.std.specs.Prelude.{◌≡◌, List, [], ◌∷◌, ◌++◌}
use Rattle.c_language.specs.Scopes.{Scope}
use Rattle.c_means.specs.Notes.{Noted}
use Rattle.c_means.specs.Initials.{Element, Evaluates, Indexes, evaluated}
use Rattle.elaborate.specs.Means.{Numbering}
use Rattle.core_declarations.specs.declared.initials.Walked.{Walked}
use Rattle.core_declarations.specs.Pairing.{Holds}

-- the expressions so far
abbrev pub HasGone : Numbering → List Noted → Walked → Type 0
HasGone numbering ns x = Holds numbering ns x.filling.parts x.paired

-- the scope behind expressions
abbrev pub behind : List Element → Scope → Scope
behind [] s = s
behind (Evaluates e ∷ es) s = behind es (e s).part.typed.after
behind (Indexes e ∷ es) s = behind es (e s).part.typed.after

-- expressions, from one scope to another, behind any others
pub record Walks (numbering : Numbering) (es : List Element) (x : Walked) (s : Scope) (y : Walked) (t : Scope) : Type 0
  where
    pub goes : (ns : List Noted) → HasGone numbering ns x → HasGone numbering (ns ++ evaluated es s) y
    pub after : t ≡ behind es s
