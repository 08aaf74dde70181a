-- Sums of words with what is carried out of them.
use Rattle.std.specs.Prelude.{◌≡◌, ◌+◌, ◌*◌, ◌^◌, ℕ, length}
use Rattle.cnf_core.specs.Truth.{Valuation}
use Rattle.gates.specs.Nets.{Net, IsModel, Grows, IsBit, bit_holds}
use Rattle.word_gates.specs.declared.sums.Column.{Column}
use Rattle.word_gates.specs.declared.sums.Sum.{Sum}
use Rattle.word_gates.specs.Spelling.{AreBits, number, spelled}

pub record IsColumn (old new : Net) (f : Valuation → ℕ) (column : Column) : Type 0 where
  pub grows : Grows old new
  pub bit_stands : IsBit new column.bit
  pub carry_stands : IsBit new column.carry
  pub means : (v : Valuation) → IsModel new v → number (bit_holds v column.bit) + 2 * number (bit_holds v column.carry) ≡ f v

-- so many bits and a carry behind them spell this number
pub record IsSum (old new : Net) (n : ℕ) (f : Valuation → ℕ) (sum : Sum) : Type 0 where
  pub width : length sum.word ≡ n
  pub grows : Grows old new
  pub stand : AreBits new sum.word
  pub carry_stands : IsBit new sum.carry
  pub means : (v : Valuation) → IsModel new v → spelled v sum.word + 2 ^ n * number (bit_holds v sum.carry) ≡ f v
