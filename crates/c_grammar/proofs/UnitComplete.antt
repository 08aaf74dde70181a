-- What the grammar derives of a unit, and of its parts, is what is read; so each has one derivation at most.
use Rattle.std.proofs.Common.{◌≡◌, ◌<◌, ℕ, List, None, Some, sym, ◌∙◌}
use Rattle.std.proofs.lemmas.Option.{same_Some}
use Rattle.c_language.specs.declared.token.Token.{Token}
use Rattle.c_language.specs.declared.unit.Initializer.{Initializer}
use Rattle.c_language.specs.declared.unit.Declaration.{Declaration}
use Rattle.c_language.specs.declared.unit.Stmt.{Stmt}
use Rattle.c_language.specs.declared.unit.Body.{Body}
use Rattle.c_language.specs.declared.unit.External.{External}
use Rattle.c_grammar.specs.Parts.{State}
use Rattle.c_grammar.specs.Reading.{rules, binds}
use Rattle.c_grammar.specs.Units.{initializer_of, declaration_of, DerivesStmt, DerivesBody, DerivesExternal, derives}
use Rattle.c_grammar.specs.UnitReading.{initializer_at, declaration_at, stmt_at, body_at, external_at, read_unit}
use Rattle.c_grammar.proofs.UnitSteps.{Made}
use Rattle.c_grammar.proofs.BelowUnits.{below_sound, below_complete}
use Rattle.c_grammar.proofs.DeclarationComplete.{initializer_again, declaration_again}
use Rattle.c_grammar.proofs.StmtComplete.{stmt_again}
use Rattle.c_grammar.proofs.UnitLaws.{body_again, external_again, unit_again}

-- an initializer, where no operator follows that it takes in
pub initializer_complete : (limit : ℕ) (s z : State) (x : Initializer) → Made limit (initializer_of x) s z →
    15 < binds z → initializer_at limit s ≡ Some (x, z)
initializer_complete limit s z x d loose = initializer_again below_complete limit x s z d.0 d.1 loose

pub declaration_complete : (limit : ℕ) (s z : State) (d : Declaration) → Made limit (declaration_of d) s z →
    declaration_at (rules limit) (initializer_at limit) s ≡ Some (d, z)
declaration_complete limit s z d x =
    declaration_again limit (rules limit) (below_complete limit) (initializer_at limit) (λ v. initializer_again
    below_complete limit v) d s z x.0 x.1

pub stmt_complete : (limit rank : ℕ) (s z : State) (x : Stmt) → DerivesStmt limit rank s x z → stmt_at limit rank s ≡
    Some (x, z)
stmt_complete limit rank s z x d = stmt_again below_complete limit rank s z x d

pub body_complete : (s z : State) (b : Body) → DerivesBody s b z → body_at s ≡ Some (b, z)
body_complete s z b d = body_again below_sound below_complete s z b d

pub external_complete : (s z : State) (x : External) → DerivesExternal s x z → external_at s ≡ Some (x, z)
external_complete s z x d = external_again below_sound below_complete s z x d

pub unit_complete : (tokens : List Token) (xs : List External) → derives tokens xs → read_unit tokens ≡ Some xs
unit_complete tokens xs d = unit_again below_sound below_complete tokens xs d

-- the grammar derives one unit at most from the tokens of a source
pub unit_unique : (tokens : List Token) (xs ys : List External) → derives tokens xs → derives tokens ys → xs ≡ ys
unit_unique tokens xs ys a b = same_Some xs ys (sym (unit_complete tokens xs a) ∙ unit_complete tokens ys b)

-- where none is read, the grammar derives none
pub unit_none : (tokens : List Token) (xs : List External) → read_unit tokens ≡ None → derives tokens xs → ⊥
unit_none tokens xs h d = let e = unit_complete tokens xs d in cc
