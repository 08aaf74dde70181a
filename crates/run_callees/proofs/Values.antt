-- Values of arguments, and the words that they are.
use Rattle.std.proofs.Common.{◌≡◌, ◌≤◌, ℕ, ℤ, pos, List, map, Option, Some, None, sym, ap, ◌∙◌, arith}
use Rattle.std.specs.Prelude.{slice_get, unwrap_or, option_map}
use Rattle.std.proofs.lemmas.Option.{slice_get-map}
use Rattle.plain_data.specs.declared.width.Width.{Width}
use Rattle.plain_data.specs.declared.width.Width.TheVariants as w
use Rattle.plain_data.specs.Words.{word, bits}
use Rattle.plain_data.proofs.WordLaws.{word-word}
use Rattle.c_machine.specs.declared.value.Value.{Value}
use Rattle.c_machine.specs.Worth.{worth}
use Rattle.core_tree.specs.Callees.{value_or_zero}

at_most_64 : (v : Width) → bits v ≤ 64
at_most_64 w.W8 = omega arith
at_most_64 w.W16 = omega arith
at_most_64 w.W32 = omega arith
at_most_64 w.W64 = omega arith

-- a word of at most 64 bits is one of the lowest 64
pub word_alike : (v : Width) (z y : ℤ) → word w.W64 z ≡ word w.W64 y → word v z ≡ word v y
word_alike v z y same =
    sym (word-word v w.W64 z (at_most_64 v)) ∙ ap (λ n. word v (pos n)) same ∙ word-word v w.W64 y (at_most_64 v)

valued : (vs : List Value) (i : ℕ) (o : Option Value) → slice_get vs i ≡ o
    → value_or_zero (map worth vs) i ≡ unwrap_or (option_map worth o) (pos 0)
valued vs i o is = ap (λ z. unwrap_or z (pos 0)) (slice_get-map worth vs i ∙ ap (option_map worth) is)

pub got : (vs : List Value) (i : ℕ) (v : Value) → slice_get vs i ≡ Some v → value_or_zero (map worth vs) i ≡ worth v
got vs i v is = valued vs i (Some v) is

pub missed : (vs : List Value) (i : ℕ) → slice_get vs i ≡ None → value_or_zero (map worth vs) i ≡ pos 0
missed vs i is = valued vs i None is
