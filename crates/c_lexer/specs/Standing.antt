-- Where the tokens and the fault of a source stand in it.
use Rattle.std.specs.Prelude.{◌≡◌, ℕ, List, Option, Some, None, slice_get}
use Rattle.c_lexer.specs.Class.{Text}
use Rattle.c_lexer.specs.Places.{located}
use Rattle.c_lexer.specs.declared.fault.LexFault.{LexFault}
use Rattle.c_lexer.specs.declared.fault.LexFault.TheVariants as fault
use Rattle.c_language.specs.declared.token.Token.{Token}

-- A token's place is where its first byte stands in the source: the file by its number among these names, the line
-- and the column.
pub record IsPlaced (name bytes : Text) (files : List Text) (token : Token) : Type 0 where
  pub file : slice_get files token.place.file ≡ Some (located name bytes token.start).file
  pub line : token.place.line ≡ (located name bytes token.start).line
  pub column : token.place.column ≡ (located name bytes token.start).column

-- the byte at which a fault stands: want of memory stands nowhere
abbrev pub fault_byte : LexFault → Option ℕ
fault_byte (fault.BadByte at) = Some at
fault_byte (fault.OpenText at) = Some at
fault_byte (fault.WideNumber at) = Some at
fault_byte (fault.BadConstant at) = Some at
fault_byte (fault.BadDirective at) = Some at
fault_byte fault.Memory = None
