-- What is known of the functions that read the parts which stand inside.
use Rattle.std.specs.Prelude.{◌≤◌, ℕ, List, Result, IfOk}
use Rattle.std.specs.declared.alloc.Global.{Global}
use denote.Ref.{Bor, MutBor}
use denote.Param.Members.{Shared}
use Rattle.c_language.specs.declared.token.Token.{Token}
use Rattle.c_grammar.specs.declared.declarator_place.DeclaratorPlace.{DeclaratorPlace}
use Rattle.c_grammar.specs.Parts.{Frame}
use Rattle.c_grammar.specs.Reading.{rules}
use Rattle.c_nodes.specs.declared.found.FoundExpr.{FoundExpr}
use Rattle.c_nodes.specs.declared.found.FoundSpecifier.{FoundSpecifier}
use Rattle.c_nodes.specs.declared.found.FoundDeclarator.{FoundDeclarator}
use Rattle.c_exprs.specs.declared.below.Below.{Below}
use Rattle.c_reading.specs.declared.cursor.Cursor.{Cursor}
use Rattle.c_reading.specs.declared.cursor.Source.{Source}
use Rattle.c_reading.specs.declared.fault.ParseFault.{ParseFault}
use Rattle.c_exprs.specs.Reads.{ReadsExpr, ReadsSpecifier, ReadsDeclarator}

-- what a function value of F requires and ensures that is handed what A says, and answers an X and the cursor
abbrev pub Reader : Type 0 → Type 0 → Type 0 → Type 1
Reader A X F = Shared F A (Result X ParseFault × (MutBor Cursor × Unit {0}))

abbrev pub ExprArguments : Type 0
ExprArguments = Global × (Bor (List Token) × (Bor Frame × (MutBor Cursor × (ℕ × (ℕ × Unit {0})))))

abbrev pub SpecifierArguments : Type 0
SpecifierArguments = Global × (Bor (List Token) × (Bor Frame × (MutBor Cursor × (ℕ × Unit {0}))))

abbrev pub DeclaratorArguments : Type 0
DeclaratorArguments = Global × (Bor (List Token) × (Bor Frame × (MutBor Cursor × (ℕ × (DeclaratorPlace × Unit {0})))))

-- it reads expressions of at most this height
pub record ReachesExpr {E : Type 0} (e : Reader ExprArguments FoundExpr E) (source : Source) (height : ℕ) (f : E)
    : Type 0 where
  pub callable : (alloc : Global) (old : MutBor Cursor) (rank : ℕ) → rank ≤ 16
      → e.pre f (alloc, (source.tokens, (source.file, (old, (height, (rank, tt))))))
  pub ends : (alloc : Global) (old new : MutBor Cursor) (rank : ℕ) (r : Result FoundExpr ParseFault)
      → e.post f (alloc, (source.tokens, (source.file, (old, (height, (rank, tt)))))) (r, (new, tt))
      → ReadsExpr source old.now new.now r ((rules height).expr rank) height

-- it reads specifiers
pub record ReachesSpecifier {S : Type 0} (s : Reader SpecifierArguments FoundSpecifier S) (source : Source)
    (height : ℕ)
    (f : S) : Type 0 where
  pub callable : (alloc : Global) (old : MutBor Cursor)
      → s.pre f (alloc, (source.tokens, (source.file, (old, (height, tt)))))
  pub ends : (alloc : Global) (old new : MutBor Cursor) (r : Result FoundSpecifier ParseFault)
      → s.post f (alloc, (source.tokens, (source.file, (old, (height, tt))))) (r, (new, tt))
      → ReadsSpecifier source old.now new.now r (rules height).specifier height

-- it reads declarators
pub record ReachesDeclarator {D : Type 0} (d : Reader DeclaratorArguments FoundDeclarator D) (source : Source)
    (height : ℕ) (f : D) : Type 0 where
  pub callable : (alloc : Global) (old : MutBor Cursor) (place : DeclaratorPlace)
      → d.pre f (alloc, (source.tokens, (source.file, (old, (height, (place, tt))))))
  pub ends : (alloc : Global) (old new : MutBor Cursor) (place : DeclaratorPlace)
      (r : Result FoundDeclarator ParseFault)
      → d.post f (alloc, (source.tokens, (source.file, (old, (height, (place, tt)))))) (r, (new, tt))
      → ReadsDeclarator source old.now new.now r ((rules height).declarator place) height

-- the three functions of a level
pub record Reaches {E S D : Type 0} (e : Reader ExprArguments FoundExpr E)
    (s : Reader SpecifierArguments FoundSpecifier S) (d : Reader DeclaratorArguments FoundDeclarator D)
    (below : Below E S D) : Type 0 where
  pub exprs : ReachesExpr e below.source below.height below.expr
  pub specifiers : ReachesSpecifier s below.source below.height below.specifier
  pub declarators : ReachesDeclarator d below.source below.height below.declarator
