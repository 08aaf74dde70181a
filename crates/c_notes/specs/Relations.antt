-- What it is that code has found what is noted of an expression.
use Rattle.std.specs.Prelude.{◌≡◌, List, [], ◌∷◌, Option}
use Rattle.c_language.specs.declared.expr.Expr.{Expr}
use Rattle.c_language.specs.declared.shown.Shown.{Shown}
use Rattle.c_language.specs.Scopes.{Scope}
use Rattle.c_language.specs.Typing.{Typed, typed_in, told_of, used}
use Rattle.c_language.specs.Trees.{typed}
use Rattle.c_means.specs.Parts.{Level}
use Rattle.c_means.specs.declared.profile.Profile.{Profile}
use Rattle.c_means.specs.Notes.{Noted, noted}
use Rattle.c_means.specs.Rules.{identity_index}
use Rattle.c_notes.specs.declared.arguments.ArgumentNotes.{ArgumentNotes}
use Rattle.c_notes.specs.declared.arguments.NotedCall.{NotedCall}
use Rattle.c_notes.specs.declared.notes.ExprNotes.{ExprNotes}
use Rattle.c_notes.specs.declared.notes.NotedExpr.{NotedExpr}
use Rattle.c_notes.specs.Tellings.{notes_of, no_arguments_noted, and_noted}

-- a level that knows what identity functions hand on
pub record Knows (p : Profile) (l : Level) : Type 0 where
  pub identity : l.identity ≡ identity_index p

-- What was found of an expression from a scope, with the scope behind it: what it says to the types, and its notes, at
-- whatever level.
pub record IsNoted (p : Profile) (e : Expr) (s : Scope) (x : NotedExpr) (after : Scope) : Type 0 where
  pub typed : typed_in x.told after ≡ typed e s
  pub notes : (l : Level) → Knows p l → x.notes ≡ notes_of p l (noted e s)

-- What a form makes of its parts.
pub record IsForm (t : Typed) (f : Option Shown → ExprNotes) (x : NotedExpr) (after : Scope) : Type 0 where
  pub typed : typed_in x.told after ≡ t
  pub notes : x.notes ≡ f x.told.shown

-- ---- arguments from left to right, each in the scope that those before it leave

pub record Passed : Type 0 where
  pub found : ArgumentNotes
  pub after : Scope

abbrev pub with_argument : Profile → Level → Noted → Passed → Passed
with_argument p l x z = record {
  found = and_noted z.found (record { told = told_of (used x.part.typed); notes = notes_of p l x });
  after = x.part.typed.after;
}

abbrev pub with_arguments : Profile → Level → List Expr → Passed → Passed
with_arguments p l [] z = z
with_arguments p l (e ∷ es) z = with_arguments p l es (with_argument p l (noted e z.after) z)

-- behind arguments so far
abbrev pub behind : ArgumentNotes → Scope → Passed
behind xs s = record { found = xs; after = s }

abbrev pub ArePassed : Profile → List Expr → Passed → Passed → Type 0
ArePassed p es z y = (l : Level) → Knows p l → y ≡ with_arguments p l es z

-- What was found of a call of what `f` was noted of, with these arguments, from the scope behind that.
pub record IsCallOf (p : Profile) (f : NotedExpr) (es : List Expr) (s : Scope) (c : NotedCall) (after : Scope) : Type 0
  where
    pub at : c.at ≡ f.told.at
    pub shown : c.shown ≡ f.told.shown
    pub notes : c.notes ≡ f.notes
    pub passed : ArePassed p es (behind (no_arguments_noted f.told.faults) s) (behind c.arguments after)
