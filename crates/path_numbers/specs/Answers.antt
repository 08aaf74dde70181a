-- What nodes say of the numbers and answers of the core.
use Rattle.std.specs.Prelude.{◌≡◌, ℕ, ℤ, List, Bool, true, false, cond, Option, Some, None, Ok, Err, nat_eq}
use Rattle.plain_data.specs.declared.width.Width.{Width}
use Rattle.plain_data.specs.declared.run.Undefined.{Undefined}
use Rattle.plain_data.specs.declared.run.Undefined.TheVariants.{Overflow, ZeroDivisor}
use Rattle.c_language.specs.Operators.{Answer}
use Rattle.core_tree.specs.declared.types.WordType.{WordType}
use Rattle.core_tree.specs.Numbers.{value_of_word}
use Rattle.term_bank.specs.declared.sort.Sort.TheVariants.{Truth, Word}
use Rattle.term_bank.specs.declared.sort.Node.{Node}
use Rattle.term_bank.specs.declared.shape.Extension.{Extension}
use Rattle.term_bank.specs.declared.shape.Extension.TheVariants as extension
use Rattle.term_bank.specs.declared.shape.Shape.{Shape}
use Rattle.term_bank.specs.Banks.{IsBank}
use Rattle.term_bank.specs.Terms.{IsTerm}
use Rattle.term_bank.specs.declared.shape.WordOperator.{WordOperator}
use Rattle.term_bank.specs.declared.shape.WordTest.{WordTest}
use Rattle.term_bank.specs.declared.shape.WordTest.TheVariants as test
use Rattle.term_bank.specs.Values.{Environment, Values, Models, Grows, result_of, outcome_of}
use Rattle.path_states.specs.declared.state.Number.{Number}
use Rattle.path_states.specs.States.{IsNumber, number_in}
use Rattle.path_numbers.specs.declared.operators.Words.{Words}
use Rattle.path_numbers.specs.declared.tested.Fault.{Fault}
use Rattle.path_numbers.specs.declared.tested.Tested.{Tested}

-- how a word is read: with its sign where its type has one
abbrev pub extension_of : Bool → Extension
extension_of true = extension.Sign
extension_of false = extension.Zero

-- a number of the grown bank, that is this in every environment
pub record Numbered (a b : List Shape) (x : Number) (z : Values → ℤ) : Type 0 where
  pub grows : Grows a b
  pub bank : IsBank b
  pub number : IsNumber b x
  pub is : (e : Environment) (v : Values) → Models b e v → number_in v x ≡ z v

-- a truth
pub record Truthful (a b : List Shape) (n : Node) (t : Values → Bool) : Type 0 where
  pub grows : Grows a b
  pub bank : IsBank b
  pub term : IsTerm b Truth n
  pub is : (e : Environment) (v : Values) → Models b e v → (v n.index).truth ≡ t v

-- a word
pub record Worded (a b : List Shape) (w : Width) (n : Node) (x : Values → ℕ) : Type 0 where
  pub grows : Grows a b
  pub bank : IsBank b
  pub term : IsTerm b (Word w) n
  pub is : (e : Environment) (v : Values) → Models b e v → (v n.index).word ≡ x v

-- ---- answers: a fault where its truth is true, else what follows

abbrev pub failing : Values → Option Fault → Answer → Answer
failing v None a = a
failing v (Some f) a = cond (v f.truth.index).truth (Err f.kind) a

abbrev pub answer_in : Values → Tested → Answer
answer_in v x = failing v x.first (failing v x.second (Ok (number_in v x.number)))

pub record IsFault (b : List Shape) (f : Fault) : Type 0 where
  pub term : IsTerm b Truth f.truth

abbrev pub IsMaybeFault : List Shape → Option Fault → Type 0
IsMaybeFault b None = Unit {0}
IsMaybeFault b (Some f) = IsFault b f

-- a fault that is one where this is so
pub record Faulty (a b : List Shape) (f : Option Fault) (g : Values → Answer → Answer) : Type 0 where
  pub grows : Grows a b
  pub bank : IsBank b
  pub fault : IsMaybeFault b f
  pub is : (e : Environment) (v : Values) → Models b e v → (x : Answer) → failing v f x ≡ g v x

-- the nodes of an operator's answer, that is this in every environment
pub record Answers (a b : List Shape) (x : Tested) (z : Values → Answer) : Type 0 where
  pub grows : Grows a b
  pub bank : IsBank b
  pub number : IsNumber b x.number
  pub first : IsMaybeFault b x.first
  pub second : IsMaybeFault b x.second
  pub is : (e : Environment) (v : Values) → Models b e v → answer_in v x ≡ z v

-- ---- operators on words

abbrev pub by_sign : Bool → WordOperator → WordOperator → WordOperator
by_sign true x y = x
by_sign false x y = y

abbrev pub test_by_sign : Bool → WordTest → WordTest → WordTest
test_by_sign true x y = x
test_by_sign false x y = y

pub record AreWords (a b : List Shape) (w : Width) (x : Words) (left right : Values → ℕ) : Type 0 where
  pub grows : Grows a b
  pub bank : IsBank b
  pub left_term : IsTerm b (Word w) x.left
  pub right_term : IsTerm b (Word w) x.right
  pub left_is : (e : Environment) (v : Values) → Models b e v → (v x.left.index).word ≡ left v
  pub right_is : (e : Environment) (v : Values) → Models b e v → (v x.right.index).word ≡ right v

-- a fault of a signed type, where a test of two words says so
abbrev pub faults_in : WordType → Undefined → WordTest → Node → Node → Values → Answer → Answer
faults_in t kind test a b v x =
    cond (cond t.is_signed (outcome_of test t.width (v a.index).word (v b.index).word) false) (Err kind) x

abbrev pub result_in : WordType → WordOperator → Node → Node → Values → ℤ
result_in t operator a b v = value_of_word t (result_of operator t.width (v a.index).word (v b.index).word)

-- the result of an operator on two words, whose overflow a test tells
abbrev pub fits_in : WordType → WordOperator → WordTest → Node → Node → Values → Answer
fits_in t operator test a b v = faults_in t Overflow test a b v (Ok (result_in t operator a b v))

-- a division's, whose divisor may be 0
abbrev pub divides_in : WordType → WordOperator → Node → Node → Values → Answer
divides_in t operator a b v =
    cond (nat_eq (v b.index).word 0) (Err ZeroDivisor) (fits_in t operator test.DivOver a b v)
