-- What is read of a unit, and of its parts, is what the grammar derives.
use Rattle.std.proofs.Common.{◌≡◌, ℕ, List, Some}
use Rattle.c_language.specs.declared.token.Token.{Token}
use Rattle.c_language.specs.declared.unit.Initializer.{Initializer}
use Rattle.c_language.specs.declared.unit.Declaration.{Declaration}
use Rattle.c_language.specs.declared.unit.Stmt.{Stmt}
use Rattle.c_language.specs.declared.unit.Body.{Body}
use Rattle.c_language.specs.declared.unit.External.{External}
use Rattle.c_grammar.specs.Parts.{State}
use Rattle.c_grammar.specs.Reading.{rules}
use Rattle.c_grammar.specs.Units.{initializer_of, declaration_of, DerivesStmt, DerivesBody, DerivesExternal, derives}
use Rattle.c_grammar.specs.UnitReading.{initializer_at, declaration_at, stmt_at, body_at, external_at, read_unit}
use Rattle.c_grammar.proofs.UnitSteps.{Made}
use Rattle.c_grammar.proofs.BelowUnits.{below_sound, below_complete}
use Rattle.c_grammar.proofs.DeclarationSound.{initializer_takes, declaration_takes}
use Rattle.c_grammar.proofs.StmtSound.{stmt_takes}
use Rattle.c_grammar.proofs.UnitLaws.{body_takes, external_takes, unit_takes}

pub initializer_sound : (limit : ℕ) (s z : State) (x : Initializer) → initializer_at limit s ≡ Some (x, z) →
    Made limit (initializer_of x) s z
initializer_sound limit s z x h = initializer_takes below_sound limit s z x h

pub declaration_sound : (limit : ℕ) (s z : State) (d : Declaration) → declaration_at (rules limit)
    (initializer_at limit) s ≡ Some (d, z) → Made limit (declaration_of d) s z
declaration_sound limit s z d h =
    declaration_takes limit (rules limit) (below_sound limit) (initializer_at limit) (initializer_takes below_sound
    limit) s z d h

pub stmt_sound : (limit rank : ℕ) (s z : State) (x : Stmt) → stmt_at limit rank s ≡ Some (x, z) → DerivesStmt limit
    rank s x z
stmt_sound limit rank s z x h = stmt_takes below_sound limit rank s z x h

pub body_sound : (s z : State) (b : Body) → body_at s ≡ Some (b, z) → DerivesBody s b z
body_sound s z b h = body_takes below_sound below_complete s z b h

pub external_sound : (s z : State) (x : External) → external_at s ≡ Some (x, z) → DerivesExternal s x z
external_sound s z x h = external_takes below_sound below_complete s z x h

pub unit_sound : (tokens : List Token) (xs : List External) → read_unit tokens ≡ Some xs → derives tokens xs
unit_sound tokens xs h = unit_takes below_sound below_complete tokens xs h
