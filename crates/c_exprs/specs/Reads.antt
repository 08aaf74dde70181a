-- What a method of the parser promises of what it found.
use Rattle.std.specs.Prelude.{ℕ, Result}
use Rattle.c_language.specs.declared.expr.Expr.{Expr}
use Rattle.c_language.specs.declared.expr.Specifier.{Specifier}
use Rattle.c_language.specs.declared.expr.Declarator.{Declarator}
use Rattle.c_grammar.specs.Parts.{State}
use Rattle.c_grammar.specs.Reading.{Reading}
use Rattle.c_nodes.specs.declared.found.FoundExpr.{FoundExpr}
use Rattle.c_nodes.specs.declared.found.FoundSpecifier.{FoundSpecifier}
use Rattle.c_nodes.specs.declared.found.FoundDeclarator.{FoundDeclarator}
use Rattle.c_reading.specs.declared.cursor.Cursor.{Cursor}
use Rattle.c_reading.specs.declared.cursor.Source.{Source}
use Rattle.c_reading.specs.declared.fault.ParseFault.{ParseFault}
use Rattle.c_reading.specs.Reads.{ReadsLow}

abbrev pub ReadsExpr : Source → Cursor → Cursor → Result FoundExpr ParseFault → (State → Reading Expr) → ℕ → Type 0
ReadsExpr = ReadsLow (λ f. f.tree) (λ f. f.height)

abbrev pub ReadsSpecifier : Source → Cursor → Cursor → Result FoundSpecifier ParseFault → (State → Reading Specifier)
    → ℕ → Type 0
ReadsSpecifier = ReadsLow (λ f. f.tree) (λ f. f.height)

abbrev pub ReadsDeclarator : Source → Cursor → Cursor → Result FoundDeclarator ParseFault →
    (State → Reading Declarator)
    → ℕ → Type 0
ReadsDeclarator = ReadsLow (λ f. f.tree) (λ f. f.height)
