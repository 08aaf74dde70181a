-- What is asked of the world.
use Rattle.std.specs.Prelude.{◌≡◌, ◌%◌, ◌^◌, List, length}
use Rattle.plain_data.specs.Words.{bits}
use Rattle.plain_data.specs.declared.width.Width.{Width}
use Rattle.cnf_core.specs.Truth.{Valuation}
use Rattle.gates.specs.declared.bit.Bit.{Bit}
use Rattle.gates.specs.Nets.{Net, IsModel}
use Rattle.word_gates.specs.Spelling.{AreBits, spelled}
use Rattle.input_tables.specs.Tables.{IsEmpty, IsSettled}
use Rattle.term_bank.specs.Values.{Environment}
use Rattle.bitvectors.specs.declared.inputs.Inputs.{Inputs}
use Rattle.bitvectors.specs.Signals.{AreOf, Extends}

pub record IsEmptyInputs (inputs : Inputs) : Type 0 where
  pub words : IsEmpty 64 inputs.words
  pub bytes : IsEmpty 8 inputs.bytes

-- the same words and bytes without conditions
pub record AreSettled (inputs copy : Inputs) : Type 0 where
  pub words : IsSettled inputs.words copy.words
  pub bytes : IsSettled inputs.bytes copy.bytes

-- the word is the environment's at the place, modulo 2^N
pub record IsWordSignal (old new : Net) (before after : Inputs) (place : List Bit) (w : Width) (word : List Bit) : Type 0 where
  pub steps : Extends old new before after
  pub width : length word ≡ bits w
  pub stands : AreBits new word
  pub means : (v : Valuation) (e : Environment) → IsModel new v → AreOf v after e → spelled v word ≡ e.words (spelled v place) % 2 ^ bits w

-- the word is the environment's initial byte at the address
pub record IsByteSignal (old new : Net) (before after : Inputs) (address word : List Bit) : Type 0 where
  pub steps : Extends old new before after
  pub width : length word ≡ 8
  pub stands : AreBits new word
  pub means : (v : Valuation) (e : Environment) → IsModel new v → AreOf v after e → spelled v word ≡ e.bytes (spelled v address) % 2 ^ 8
