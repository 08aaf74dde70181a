-- What the nodes are worth of which a byte is made.
use Rattle.std.specs.Prelude.{ℕ}
use Rattle.plain_data.specs.declared.width.Width.{Width}
use Rattle.plain_data.specs.declared.width.Width.TheVariants.{W8, W16, W32, W64}
use Rattle.term_bank.specs.declared.shape.WordOperator.TheVariants as operator
use Rattle.term_bank.specs.declared.shape.Extension.TheVariants as extension
use Rattle.term_bank.specs.Values.{result_of, converted}

-- the octet of a word that is so many behind its first, as terms have it: shifted down, and narrowed
abbrev pub moved : Width → ℕ → ℕ → ℕ
moved w x by = converted extension.Zero w W8 (result_of operator.Lshr w x (converted extension.Zero W64 w (result_of operator.Shl W64 by 3)))

abbrev pub octet_of : Width → ℕ → ℕ → ℕ
octet_of W8 x by = x
octet_of W16 x by = moved W16 x by
octet_of W32 x by = moved W32 x by
octet_of W64 x by = moved W64 x by

-- a word with a byte below it, as terms have it
abbrev pub joined_of : Width → ℕ → ℕ → ℕ
joined_of w high byte = result_of operator.Or w (result_of operator.Shl w high 8) byte
