-- The set of literals that marks stand for.
use Rattle.std.specs.Prelude.{ℕ, Bool, false, cond, eqb, Option, Some, None, slice_get}
use Rattle.cnf_core.specs.Literal.{Literal}
use Rattle.proof_check.specs.Places.{place_of}
use Rattle.proof_check.specs.declared.marks.Stamps.{Stamps}
use Rattle.proof_check.specs.declared.marks.Marks.{Marks}

abbrev pub stamped : ℕ → Bool → Option Stamps → Bool
stamped round positive None = false
stamped round positive (Some s) = eqb (cond positive s.positive s.negative) round

-- a literal is marked where its variable's stamp is the round
abbrev pub marked : Marks → Literal → Bool
marked m l = stamped m.round l.positive (slice_get m.stamps.items (place_of m.variables.items l.variable))
