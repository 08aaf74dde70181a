-- What bits spell for the value of a term.
use Rattle.std.specs.Prelude.{ℕ, Bool, List, [], nat_eq, bit_and, bit_or, bit_xor, unwrap_or}
use Rattle.std.specs.HashMap.{HashMap, get}
use Rattle.std.specs.declared.hash.FoldHasher.{FoldHasher}
use Rattle.std.specs.declared.hash.BuildHasherDefault.{BuildHasherDefault}
use Rattle.plain_data.specs.Words.{bits}
use Rattle.gates.specs.declared.bit.Bit.{Bit}
use Rattle.word_gates.specs.Spelling.{number}
use Rattle.word_gates.specs.declared.operators.BitOperator.{BitOperator}
use Rattle.word_gates.specs.declared.operators.BitOperator.TheVariants.{And, Or, Xor}
use Rattle.term_bank.specs.declared.sort.Sort.{Sort}
use Rattle.term_bank.specs.declared.sort.Sort.TheVariants.{Truth, Word}
use Rattle.term_bank.specs.Values.{Worth}

-- the number that a bitwise operator gives
abbrev pub bit_result : BitOperator → ℕ → ℕ → ℕ
bit_result And a b = bit_and a b
bit_result Or a b = bit_or a b
bit_result Xor a b = bit_xor a b

abbrev pub is_one : ℕ → Bool
is_one x = nat_eq x 1

-- how many bits a value of this sort has: memories, events and lists of numbers have none
abbrev pub size : Sort → ℕ
size Truth = 1
size (Word w) = bits w
size _ = 0

-- the number that a value's bits spell
abbrev pub amount : Sort → Worth → ℕ
amount Truth x = number x.truth
amount (Word w) x = x.word
amount _ x = 0

-- the bits of each node
abbrev pub Signals : Type 0
Signals = HashMap ℕ (List Bit) (BuildHasherDefault FoldHasher)

abbrev pub bits_at : Signals → ℕ → List Bit
bits_at signals n = unwrap_or (get nat_eq signals n) []
