-- What is known of the function that reads an initializer which stands inside another.
use Rattle.std.specs.Prelude.{ℕ, List, Result}
use Rattle.std.specs.declared.alloc.Global.{Global}
use denote.Ref.{Bor, MutBor}
use Rattle.c_language.specs.declared.token.Token.{Token}
use Rattle.c_language.specs.declared.unit.Initializer.{Initializer}
use Rattle.c_grammar.specs.Parts.{Frame}
use Rattle.c_grammar.specs.UnitReading.{initializer_at}
use Rattle.c_reading.specs.declared.cursor.Cursor.{Cursor}
use Rattle.c_reading.specs.declared.fault.ParseFault.{ParseFault}
use Rattle.c_exprs.specs.Below.{Reader}
use Rattle.c_reading.specs.Reads.{Reads}
use Rattle.c_parser.specs.declared.initializers.Inside.{Inside}

abbrev pub InitializerArguments : Type 0
InitializerArguments = Global × (Bor (List Token) × (Bor Frame × (MutBor Cursor × (ℕ × Unit {0}))))

-- it reads initializers of at most the height of the trees
pub record ReachesInitializer {I : Type 0} (i : Reader InitializerArguments Initializer I) (inside : Inside I)
    : Type 0 where
  pub callable : (alloc : Global) (old : MutBor Cursor)
      → i.pre inside.initializer
      (alloc, (inside.trees.source.tokens, (inside.trees.source.file, (old, (inside.trees.height, tt)))))
  pub ends : (alloc : Global) (old new : MutBor Cursor) (r : Result Initializer ParseFault)
      → i.post inside.initializer
      (alloc, (inside.trees.source.tokens, (inside.trees.source.file, (old, (inside.trees.height, tt)))))
      (r, (new, tt))
      → Reads (λ x. x) inside.trees.source old.now new.now r (initializer_at inside.trees.height)
