-- How many places each kind of code takes.
use Rattle.std.proofs.Common.{◌≡◌, ℕ, ◌+◌, ℤ, Bool, List, Option, Some, None}
use Rattle.std.proofs.Common.{refl, sym, ap, ap₂, ◌∙◌}
use Rattle.c_language.specs.Scopes.{Name}
use Rattle.core_tree.specs.declared.types.WordType.{WordType}
use Rattle.core_tree.specs.declared.expr.Expr.{Expr}
use Rattle.core_tree.specs.declared.code.Setting.{Setting as Part}
use Rattle.core_tree.specs.declared.code.Code.{Code}
use Rattle.core_tree.specs.declared.code.Code.TheVariants as tree
use Rattle.std.specs.Prelude.{option_map, Result, Ok, Err, IfOk}
use Rattle.path_forms.specs.declared.fault.WalkFault.{WalkFault}
use Rattle.core_tree.specs.Values.{value}
use Rattle.core_tree.specs.Codes.{test_needs, maybe_evaluated, return_of}
use Rattle.core_tree.proofs.Equations as eq
use Rattle.core_tree.specs.States.{Measures}
use Rattle.path_rooms.specs.Rooms.{room_in, value_room, code_room, option_room, settings_room, turns_room, items_room}

module _ (m : Measures) where
  -- an expression that may be missing
  pub test_room : (e : Option Expr) → (test_needs {O = ℕ} (option_map value e)).room m ≡ option_room m e
  test_room None = refl
  test_room (Some e) = refl

  pub step_room : (e : Option Expr) → room_in m (maybe_evaluated (option_map value e)) ≡ option_room m e
  step_room None = refl
  step_room (Some e) = refl

  pub return_room : (e : Option Expr) → room_in m (return_of (option_map value e)) ≡ option_room m e
  return_room None = refl
  return_room (Some e) = refl

  module _ (c : Code) where
    pub room-Nothing : (b : Bool) → c ≡ tree.Nothing b → code_room m c ≡ 0
    room-Nothing b h = ap (code_room m) h ∙ ap (room_in m) (eq.does-Nothing b)

    pub room-Value : (b : Bool) (e : Expr) → c ≡ tree.Value b e → code_room m c ≡ value_room m e
    room-Value b e h = ap (code_room m) h ∙ ap (room_in m) (eq.does-Value b e)

    pub room-Declare : (at n : ℕ) (b : Bool) (xs : List Part) → c ≡ tree.Declare at n b xs
        → code_room m c ≡ 1 + settings_room m xs
    room-Declare at n b xs h = ap (code_room m) h ∙ ap (room_in m) (eq.does-Declare at n b xs)

    pub room-Static : (b : Bool) (es : List Expr) → c ≡ tree.Static b es → code_room m c ≡ 0
    room-Static b es h = ap (code_room m) h ∙ ap (room_in m) (eq.does-Static b es)

    pub room-Block : (b : Bool) (cs : List Code) → c ≡ tree.Block b cs → code_room m c ≡ items_room m cs
    room-Block b cs h = ap (code_room m) h ∙ ap (room_in m) (eq.does-Block b cs)

    pub room-Label : (name : Name) (x : Code) → c ≡ tree.Label name x → code_room m c ≡ code_room m x
    room-Label name x h = ap (code_room m) h ∙ ap (room_in m) (eq.does-Label name x)

    pub room-Case : (z : ℤ) (e : Expr) (x : Code) → c ≡ tree.Case z e x → code_room m c ≡ code_room m x
    room-Case z e x h = ap (code_room m) h ∙ ap (room_in m) (eq.does-Case z e x)

    pub room-Default : (x : Code) → c ≡ tree.Default x → code_room m c ≡ code_room m x
    room-Default x h = ap (code_room m) h ∙ ap (room_in m) (eq.does-Default x)

    pub room-If : (at : ℕ) (e : Expr) (x y : Code) → c ≡ tree.If at e x y
        → code_room m c ≡ value_room m e + (code_room m x + code_room m y)
    room-If at e x y h = ap (code_room m) h ∙ ap (room_in m) (eq.does-If at e x y)

    pub room-Switch : (at : ℕ) (word : WordType) (cases : List ℤ) (e : Expr) (b : Bool) (cs : List Code)
        → c ≡ tree.Switch at word cases e b cs → code_room m c ≡ value_room m e + items_room m cs
    room-Switch at word cases e b cs h = ap (code_room m) h ∙ ap (room_in m) (eq.does-Switch at word cases e b cs)

    pub room-Loop : (at : ℕ) (test step : Option Expr) (x : Code) → c ≡ tree.Loop at test step x
        → code_room m c ≡ turns_room m (option_room m test + (code_room m x + option_room m step))
    room-Loop at test step x h =
        ap (code_room m) h ∙ ap (room_in m) (eq.does-Loop at test step x)
        ∙ ap₂ (λ k n. turns_room m (k + (code_room m x + n))) (test_room test) (step_room step)

    pub room-Repeat : (at : ℕ) (test : Expr) (x : Code) → c ≡ tree.Repeat at test x
        → code_room m c ≡ turns_room m (code_room m x + value_room m test)
    room-Repeat at test x h = ap (code_room m) h ∙ ap (room_in m) (eq.does-Repeat at test x)

    pub room-Goto : (name : Name) → c ≡ tree.Goto name → code_room m c ≡ 0
    room-Goto name h = ap (code_room m) h ∙ ap (room_in m) (eq.does-Goto name)

    pub room-Continue : c ≡ tree.Continue → code_room m c ≡ 0
    room-Continue h = ap (code_room m) h ∙ ap (room_in m) eq.does-Continue

    pub room-Break : c ≡ tree.Break → code_room m c ≡ 0
    room-Break h = ap (code_room m) h ∙ ap (room_in m) eq.does-Break

    pub room-Return : (e : Option Expr) → c ≡ tree.Return e → code_room m c ≡ option_room m e
    room-Return e h = ap (code_room m) h ∙ ap (room_in m) (eq.does-Return e) ∙ return_room e

-- ---- what was counted

pub counted_as : (r : Result ℕ WalkFault) (k n : ℕ) → k ≡ n → IfOk r (λ x. x ≡ n) → IfOk r (λ x. x ≡ k)
counted_as (Ok x) k n h i = i ∙ sym h
counted_as (Err f) k n h i = tt
