-- How many nodes each kind of code unrolls to.
use Rattle.std.proofs.Common.{◌≡◌, ◌≤◌, ℕ, zero, suc, ◌+◌, ◌*◌, ℤ, Bool, true, false, nat_le, List, Option, Some, None}
use Rattle.std.proofs.Common.{refl, sym, ap, ap₂, ◌∙◌, arith}
use Rattle.c_language.specs.Scopes.{Name}
use Rattle.core_tree.specs.declared.types.WordType.{WordType}
use Rattle.core_tree.specs.declared.expr.Expr.{Expr}
use Rattle.core_tree.specs.declared.code.Setting.{Setting as Part}
use Rattle.core_tree.specs.declared.code.Code.{Code}
use Rattle.core_tree.specs.declared.code.Code.TheVariants as tree
use Rattle.std.specs.Prelude.{option_map}
use Rattle.core_tree.specs.States.{Output, Measures}
use Rattle.core_tree.specs.Values.{value}
use Rattle.core_tree.specs.Codes.{Item, test_needs, maybe_evaluated, return_of, counted}
use Rattle.core_tree.proofs.Equations as eq
use Rattle.core_sizes.specs.Nodes.{capped, value_nodes, values_nodes, option_nodes, settings_nodes, code_nodes, items_nodes, turns_nodes}

abbrev size_in : Measures → Item Output → ℕ
size_in m x = x.needs.size m

module _ (m : Measures) where
  -- an expression that may be missing
  pub test_nodes : (e : Option Expr) → (test_needs {O = Output} (option_map value e)).size m ≡ option_nodes m e
  test_nodes None = refl
  test_nodes (Some e) = refl

  pub step_nodes : (e : Option Expr) → size_in m (maybe_evaluated (option_map value e)) ≡ option_nodes m e
  step_nodes None = refl
  step_nodes (Some e) = omega arith

  pub return_nodes : (e : Option Expr) → size_in m (return_of (option_map value e)) ≡ 1 + option_nodes m e
  return_nodes None = refl
  return_nodes (Some e) = refl

  module _ (c : Code) where
    pub nodes-Nothing : (b : Bool) → c ≡ tree.Nothing b → code_nodes m c ≡ counted b + 0
    nodes-Nothing b h = ap (code_nodes m) h ∙ ap (size_in m) (eq.does-Nothing b)

    pub nodes-Value : (b : Bool) (e : Expr) → c ≡ tree.Value b e → code_nodes m c ≡ counted b + value_nodes m e
    nodes-Value b e h = ap (code_nodes m) h ∙ ap (size_in m) (eq.does-Value b e)

    pub nodes-Declare : (at n : ℕ) (b : Bool) (xs : List Part) → c ≡ tree.Declare at n b xs
        → code_nodes m c ≡ 1 + settings_nodes m xs
    nodes-Declare at n b xs h = ap (code_nodes m) h ∙ ap (size_in m) (eq.does-Declare at n b xs)

    pub nodes-Static : (b : Bool) (es : List Expr) → c ≡ tree.Static b es → code_nodes m c ≡ counted b + values_nodes m es
    nodes-Static b es h = ap (code_nodes m) h ∙ ap (size_in m) (eq.does-Static b es)

    pub nodes-Block : (b : Bool) (cs : List Code) → c ≡ tree.Block b cs → code_nodes m c ≡ counted b + items_nodes m cs
    nodes-Block b cs h = ap (code_nodes m) h ∙ ap (size_in m) (eq.does-Block b cs)

    pub nodes-Label : (name : Name) (x : Code) → c ≡ tree.Label name x → code_nodes m c ≡ 1 + (0 + code_nodes m x)
    nodes-Label name x h = ap (code_nodes m) h ∙ ap (size_in m) (eq.does-Label name x)

    pub nodes-Case : (z : ℤ) (e : Expr) (x : Code) → c ≡ tree.Case z e x → code_nodes m c ≡ 1 + (value_nodes m e + code_nodes m x)
    nodes-Case z e x h = ap (code_nodes m) h ∙ ap (size_in m) (eq.does-Case z e x)

    pub nodes-Default : (x : Code) → c ≡ tree.Default x → code_nodes m c ≡ 1 + (0 + code_nodes m x)
    nodes-Default x h = ap (code_nodes m) h ∙ ap (size_in m) (eq.does-Default x)

    pub nodes-If : (at : ℕ) (e : Expr) (x y : Code) → c ≡ tree.If at e x y
        → code_nodes m c ≡ 1 + (value_nodes m e + (code_nodes m x + code_nodes m y))
    nodes-If at e x y h = ap (code_nodes m) h ∙ ap (size_in m) (eq.does-If at e x y)

    pub nodes-Switch : (at : ℕ) (word : WordType) (cases : List ℤ) (e : Expr) (b : Bool) (cs : List Code)
        → c ≡ tree.Switch at word cases e b cs → code_nodes m c ≡ 1 + (value_nodes m e + (counted b + items_nodes m cs))
    nodes-Switch at word cases e b cs h = ap (code_nodes m) h ∙ ap (size_in m) (eq.does-Switch at word cases e b cs)

    pub nodes-Loop : (at : ℕ) (test step : Option Expr) (x : Code) → c ≡ tree.Loop at test step x
        → code_nodes m c ≡ turns_nodes m.turns (option_nodes m test + (code_nodes m x + option_nodes m step))
    nodes-Loop at test step x h =
        ap (code_nodes m) h ∙ ap (size_in m) (eq.does-Loop at test step x)
        ∙ ap₂ (λ k n. turns_nodes m.turns (k + (code_nodes m x + n))) (test_nodes test) (step_nodes step)

    pub nodes-Repeat : (at : ℕ) (test : Expr) (x : Code) → c ≡ tree.Repeat at test x
        → code_nodes m c ≡ turns_nodes m.turns (code_nodes m x + value_nodes m test)
    nodes-Repeat at test x h = ap (code_nodes m) h ∙ ap (size_in m) (eq.does-Repeat at test x)

    pub nodes-Goto : (name : Name) → c ≡ tree.Goto name → code_nodes m c ≡ 1 + 0
    nodes-Goto name h = ap (code_nodes m) h ∙ ap (size_in m) (eq.does-Goto name)

    pub nodes-Continue : c ≡ tree.Continue → code_nodes m c ≡ 1 + 0
    nodes-Continue h = ap (code_nodes m) h ∙ ap (size_in m) eq.does-Continue

    pub nodes-Break : c ≡ tree.Break → code_nodes m c ≡ 1 + 0
    nodes-Break h = ap (code_nodes m) h ∙ ap (size_in m) eq.does-Break

    pub nodes-Return : (e : Option Expr) → c ≡ tree.Return e → code_nodes m c ≡ 1 + option_nodes m e
    nodes-Return e h = ap (code_nodes m) h ∙ ap (size_in m) (eq.does-Return e) ∙ return_nodes e

-- ---- all turns of a loop

times_more : (n t : ℕ) → t ≤ (n + 1) * t
times_more n zero = omega arith
times_more n (suc t) = grind (arith, more (n * suc t) (suc t), split n (suc t))
  where
    more : (a b : ℕ) → b ≤ a + b
    more a b = omega arith

    split : (n t : ℕ) → (n + 1) * t ≡ n * t + t
    split n t = omega arith

capped_times : (n t turn : ℕ) → turn ≡ capped t → capped ((n + 1) * turn) ≡ capped ((n + 1) * t)
capped_times n t turn is = ap (λ m. capped ((n + 1) * m)) is ∙ by_size (nat_le t (18446744073709551615)) refl
  where
    small : (x : ℕ) → nat_le x (18446744073709551615) ≡ true → capped x ≡ x
    small x h = grind (arith, h)

    large : (x y : ℕ) → 18446744073709551615 ≤ x → x ≤ y → capped y ≡ 18446744073709551615
    large x y h k = grind (arith, h, k)

    over : (x : ℕ) → nat_le x (18446744073709551615) ≡ false → 18446744073709551615 ≤ x
    over x h = grind (arith, h)

    by_size : (b : Bool) → nat_le t (18446744073709551615) ≡ b → capped ((n + 1) * capped t) ≡ capped ((n + 1) * t)
    by_size true h = ap (λ m. capped ((n + 1) * m)) (small t h)
    by_size false h =
        ap (λ m. capped ((n + 1) * m)) (large t t (over t h) (omega arith))
        ∙ large (18446744073709551615) ((n + 1) * (18446744073709551615)) (omega arith) (times_more n (18446744073709551615))
        ∙ sym (large t ((n + 1) * t) (over t h) (times_more n t))

-- ---- as 64 bits hold it

pub sum_done : (all rest whole : ℕ) → all ≤ 18446744073709551615 → rest ≡ 0 → capped (all + rest) ≡ capped whole
    → all ≡ capped whole
sum_done all rest whole fits none sum = held all fits ∙ ap (λ n. capped n) (sum_of all rest none) ∙ sum
  where
    held : (all : ℕ) → all ≤ 18446744073709551615 → all ≡ capped all
    held all h = grind (arith, h)

    sum_of : (all rest : ℕ) → rest ≡ 0 → all ≡ all + rest
    sum_of all rest h = omega (arith, h)

capped_more : (x : ℕ) → capped (1 + capped x) ≡ capped (1 + x)
capped_more x = grind arith

pub capped_turns : (n t turn : ℕ) → turn ≡ capped t → capped (turns_nodes n turn) ≡ capped (turns_nodes n t)
capped_turns n t turn is =
    sym (capped_more ((n + 1) * turn)) ∙ ap (λ x. capped (1 + x)) (capped_times n t turn is)
    ∙ capped_more ((n + 1) * t)

pub capped_loop : (m : Measures) (c : Code) (at : ℕ) (test step : Option Expr) (x : Code) (turn r : ℕ)
    → c ≡ tree.Loop at test step x
    → turn ≡ capped (option_nodes m test + (code_nodes m x + option_nodes m step))
    → r ≡ capped (turns_nodes m.turns turn) → r ≡ capped (code_nodes m c)
capped_loop m c at test step x turn r h t is =
    is ∙ capped_turns m.turns (option_nodes m test + (code_nodes m x + option_nodes m step)) turn t
    ∙ ap (λ n. capped n) (sym (nodes-Loop m c at test step x h))

pub capped_repeat : (m : Measures) (c : Code) (at : ℕ) (test : Expr) (x : Code) (turn r : ℕ)
    → c ≡ tree.Repeat at test x
    → turn ≡ capped (code_nodes m x + value_nodes m test) → r ≡ capped (turns_nodes m.turns turn)
    → r ≡ capped (code_nodes m c)
capped_repeat m c at test x turn r h t is =
    is ∙ capped_turns m.turns (code_nodes m x + value_nodes m test) turn t
    ∙ ap (λ n. capped n) (sym (nodes-Repeat m c at test x h))
