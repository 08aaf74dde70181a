-- How many places each kind of code takes.
use Rattle.std.proofs.Common.{◌≡◌, ◌≤◌, ℕ, zero, suc, ◌+◌, ◌-◌, ◌*◌, ◌^◌, ℤ, Bool, true, false, nat_le, List, Option, Some, None}
use Rattle.std.proofs.Common.{refl, sym, ap, ap₂, ◌∙◌, arith}
use Rattle.c_language.specs.Scopes.{Name}
use Rattle.core_tree.specs.declared.types.WordType.{WordType}
use Rattle.core_tree.specs.declared.expr.Expr.{Expr}
use Rattle.core_tree.specs.declared.code.Setting.{Setting as Part}
use Rattle.core_tree.specs.declared.code.Code.{Code}
use Rattle.core_tree.specs.declared.code.Code.TheVariants as tree
use Rattle.std.specs.Prelude.{option_map}
use Rattle.core_tree.specs.States.{Output}
use Rattle.core_tree.specs.Values.{value}
use Rattle.core_tree.specs.Codes.{test_needs, maybe_evaluated, return_of}
use Rattle.core_tree.proofs.Equations as eq
use Rattle.core_running.specs.Below.{value_room, code_room}
use Rattle.core_running.specs.Settings.{Setting}
use Rattle.code_steps.specs.Below.{capped}
use Rattle.code_steps.specs.Rooms.{room_in}
use Rattle.code_steps.specs.Rooms.{option_room, settings_room, turns_room, items_room}

module _ (s : Setting) where
  -- an expression that may be missing
  pub test_room : (e : Option Expr) → (test_needs {O = Output} (option_map value e)).room s.measures ≡ option_room s e
  test_room None = refl
  test_room (Some e) = refl

  pub step_room : (e : Option Expr) → room_in s (maybe_evaluated (option_map value e)) ≡ option_room s e
  step_room None = refl
  step_room (Some e) = refl

  pub return_room : (e : Option Expr) → room_in s (return_of (option_map value e)) ≡ option_room s e
  return_room None = refl
  return_room (Some e) = refl

  module _ (c : Code) where
    pub room-Nothing : (b : Bool) → c ≡ tree.Nothing b → code_room s c ≡ 0
    room-Nothing b h = ap (code_room s) h ∙ ap (room_in s) (eq.does-Nothing b)

    pub room-Value : (b : Bool) (e : Expr) → c ≡ tree.Value b e → code_room s c ≡ value_room s e
    room-Value b e h = ap (code_room s) h ∙ ap (room_in s) (eq.does-Value b e)

    pub room-Declare : (at n : ℕ) (b : Bool) (xs : List Part) → c ≡ tree.Declare at n b xs
        → code_room s c ≡ 1 + settings_room s xs
    room-Declare at n b xs h = ap (code_room s) h ∙ ap (room_in s) (eq.does-Declare at n b xs)

    pub room-Static : (b : Bool) (es : List Expr) → c ≡ tree.Static b es → code_room s c ≡ 0
    room-Static b es h = ap (code_room s) h ∙ ap (room_in s) (eq.does-Static b es)

    pub room-Block : (b : Bool) (cs : List Code) → c ≡ tree.Block b cs → code_room s c ≡ items_room s cs
    room-Block b cs h = ap (code_room s) h ∙ ap (room_in s) (eq.does-Block b cs)

    pub room-Label : (name : Name) (x : Code) → c ≡ tree.Label name x → code_room s c ≡ code_room s x
    room-Label name x h = ap (code_room s) h ∙ ap (room_in s) (eq.does-Label name x)

    pub room-Case : (z : ℤ) (e : Expr) (x : Code) → c ≡ tree.Case z e x → code_room s c ≡ code_room s x
    room-Case z e x h = ap (code_room s) h ∙ ap (room_in s) (eq.does-Case z e x)

    pub room-Default : (x : Code) → c ≡ tree.Default x → code_room s c ≡ code_room s x
    room-Default x h = ap (code_room s) h ∙ ap (room_in s) (eq.does-Default x)

    pub room-If : (at : ℕ) (e : Expr) (x y : Code) → c ≡ tree.If at e x y
        → code_room s c ≡ value_room s e + (code_room s x + code_room s y)
    room-If at e x y h = ap (code_room s) h ∙ ap (room_in s) (eq.does-If at e x y)

    pub room-Switch : (at : ℕ) (word : WordType) (cases : List ℤ) (e : Expr) (b : Bool) (cs : List Code)
        → c ≡ tree.Switch at word cases e b cs → code_room s c ≡ value_room s e + items_room s cs
    room-Switch at word cases e b cs h = ap (code_room s) h ∙ ap (room_in s) (eq.does-Switch at word cases e b cs)

    pub room-Loop : (at : ℕ) (test step : Option Expr) (x : Code) → c ≡ tree.Loop at test step x
        → code_room s c ≡ turns_room s (option_room s test + (code_room s x + option_room s step))
    room-Loop at test step x h =
        ap (code_room s) h ∙ ap (room_in s) (eq.does-Loop at test step x)
        ∙ ap₂ (λ m n. turns_room s (m + (code_room s x + n))) (test_room test) (step_room step)

    pub room-Repeat : (at : ℕ) (test : Expr) (x : Code) → c ≡ tree.Repeat at test x
        → code_room s c ≡ turns_room s (code_room s x + value_room s test)
    room-Repeat at test x h = ap (code_room s) h ∙ ap (room_in s) (eq.does-Repeat at test x)

    pub room-Goto : (name : Name) → c ≡ tree.Goto name → code_room s c ≡ 0
    room-Goto name h = ap (code_room s) h ∙ ap (room_in s) (eq.does-Goto name)

    pub room-Continue : c ≡ tree.Continue → code_room s c ≡ 0
    room-Continue h = ap (code_room s) h ∙ ap (room_in s) eq.does-Continue

    pub room-Break : c ≡ tree.Break → code_room s c ≡ 0
    room-Break h = ap (code_room s) h ∙ ap (room_in s) eq.does-Break

    pub room-Return : (e : Option Expr) → c ≡ tree.Return e → code_room s c ≡ option_room s e
    room-Return e h = ap (code_room s) h ∙ ap (room_in s) (eq.does-Return e) ∙ return_room e

-- ---- all turns of a loop

times_more : (n t : ℕ) → t ≤ (n + 1) * t
times_more n zero = omega arith
times_more n (suc t) = grind (arith, more (n * suc t) (suc t), split n (suc t))
  where
    more : (a b : ℕ) → b ≤ a + b
    more a b = omega arith

    split : (n t : ℕ) → (n + 1) * t ≡ n * t + t
    split n t = omega arith

pub turns_more : (s : Setting) (t : ℕ) → t ≤ turns_room s t
turns_more s t = times_more s.measures.turns t

pub capped_turns : (n t turn : ℕ) → turn ≡ capped t → capped ((n + 1) * turn) ≡ capped ((n + 1) * t)
capped_turns n t turn is = ap (λ m. capped ((n + 1) * m)) is ∙ by_size (nat_le t (2 ^ 64 - 1)) refl
  where
    small : (x : ℕ) → nat_le x (2 ^ 64 - 1) ≡ true → capped x ≡ x
    small x h = grind (arith, h)

    large : (x y : ℕ) → 2 ^ 64 - 1 ≤ x → x ≤ y → capped y ≡ 2 ^ 64 - 1
    large x y h k = grind (arith, h, k)

    over : (x : ℕ) → nat_le x (2 ^ 64 - 1) ≡ false → 2 ^ 64 - 1 ≤ x
    over x h = grind (arith, h)

    by_size : (b : Bool) → nat_le t (2 ^ 64 - 1) ≡ b → capped ((n + 1) * capped t) ≡ capped ((n + 1) * t)
    by_size true h = ap (λ m. capped ((n + 1) * m)) (small t h)
    by_size false h =
        ap (λ m. capped ((n + 1) * m)) (large t t (over t h) (omega arith))
        ∙ large (2 ^ 64 - 1) ((n + 1) * (2 ^ 64 - 1)) (omega arith) (times_more n (2 ^ 64 - 1))
        ∙ sym (large t ((n + 1) * t) (over t h) (times_more n t))

-- ---- as 64 bits hold it

pub sum_done : (all rest whole : ℕ) → all ≤ 2 ^ 64 - 1 → rest ≡ 0 → capped (all + rest) ≡ capped whole
    → all ≡ capped whole
sum_done all rest whole fits none sum = held all fits ∙ ap (λ n. capped n) (sum_of all rest none) ∙ sum
  where
    held : (all : ℕ) → all ≤ 2 ^ 64 - 1 → all ≡ capped all
    held all h = grind (arith, h)

    sum_of : (all rest : ℕ) → rest ≡ 0 → all ≡ all + rest
    sum_of all rest h = omega (arith, h)

pub capped_loop : (s : Setting) (c : Code) (at : ℕ) (test step : Option Expr) (x : Code) (turn r : ℕ)
    → c ≡ tree.Loop at test step x
    → turn ≡ capped (option_room s test + (code_room s x + option_room s step)) → r ≡ capped (turns_room s turn)
    → r ≡ capped (code_room s c)
capped_loop s c at test step x turn r h t is =
    is ∙ capped_turns s.measures.turns (option_room s test + (code_room s x + option_room s step)) turn t
    ∙ ap (λ n. capped n) (sym (room-Loop s c at test step x h))

pub capped_repeat : (s : Setting) (c : Code) (at : ℕ) (test : Expr) (x : Code) (turn r : ℕ)
    → c ≡ tree.Repeat at test x
    → turn ≡ capped (code_room s x + value_room s test) → r ≡ capped (turns_room s turn)
    → r ≡ capped (code_room s c)
capped_repeat s c at test x turn r h t is =
    is ∙ capped_turns s.measures.turns (code_room s x + value_room s test) turn t
    ∙ ap (λ n. capped n) (sym (room-Repeat s c at test x h))
