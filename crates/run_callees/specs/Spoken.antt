-- An argument that there may be.
use Rattle.std.specs.Prelude.{List, [], ◌∷◌, Option, Some, None}
use Rattle.printf_text.specs.declared.piece.Arg.{Arg}

abbrev pub listed : Option Arg → List Arg
listed None = []
listed (Some a) = a ∷ []
