-- The integers that a format's conversions take, by numbers of a walk.
use Rattle.std.specs.Prelude.{◌≡◌, List, [], ◌∷◌, ◌++◌}
use Rattle.printf_text.specs.declared.piece.Arg.{Arg}
use Rattle.printf_text.specs.declared.piece.Arg.TheVariants as arg
use Rattle.core_tree.specs.declared.types.WordType.{WordType}
use Rattle.core_tree.specs.Callees.{Spoken, spoken, integer_arg}
use Rattle.term_bank.specs.declared.shape.Shape.{Shape}
use Rattle.term_bank.specs.Values.{Environment, Values, Models, Grows}
use Rattle.path_states.specs.declared.state.Number.{Number}
use Rattle.path_states.specs.States.{AreNumbers, numbers_in}

-- a number's word, and its type
abbrev pub arg_in : Values → Number → Arg
arg_in v x = arg.Word (v x.node.index).word x.word.width x.word.is_signed

abbrev pub args_in : Values → List Number → List Arg
args_in v [] = []
args_in v (x ∷ xs) = arg_in v x ∷ args_in v xs

abbrev pub integer_args : List Spoken → List Arg
integer_args [] = []
integer_args (x ∷ xs) = integer_arg x ∷ integer_args xs

-- arguments were put at the end, each in its type
pub record Speaks (a b : List Shape) (ts : List WordType) (xs before after : List Number) : Type 0 where
  pub grows : Grows a b
  pub numbers : AreNumbers b after
  pub are : (e : Environment) (v : Values) → Models b e v
      → args_in v after ≡ args_in v before ++ integer_args (spoken ts (numbers_in v xs))
