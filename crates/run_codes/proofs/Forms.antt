-- What code does and takes is what its form does and takes.
use Rattle.std.proofs.Common.{◌≡◌, ℕ, ◌+◌, Option, Result, Ok, sym, subst, arith}
use Rattle.std.specs.declared.alloc.AllocError.{AllocError}
use Rattle.c_means.specs.Parts.{Env}
use Rattle.core_tree.specs.States.{Output, Done}
use Rattle.core_tree.specs.Codes.{Item}
use Rattle.core_running.specs.Running.{Low}
use Rattle.core_running.specs.Settings.{Setting}
use Rattle.core_running.specs.Below.{code_room}
use Rattle.core_tree.specs.declared.code.Code.{Code}
use Rattle.core_tree.specs.declared.code.Code.TheVariants as tree
use Rattle.core_tree.specs.declared.expr.Expr.{Expr}
use Rattle.code_steps.specs.Rooms.{room_in, option_room}
use Rattle.code_steps.proofs.Places.{room-Return}
use Rattle.run_codes.specs.Items.{TakesAs, ActsAs}

pub takes_by : (r : Result ℕ AllocError) (x y : Item Output) (s : Setting) (base : ℕ) → x ≡ y → TakesAs r y s base
    → TakesAs r x s base
takes_by r x y s base is h = subst (λ x. TakesAs r x s base) (sym is) h

pub acts_by : (r : Result ℕ AllocError) (x y : Item Output) (s : Setting) (env : Env) (base : ℕ) (d e : Done Output)
    → x ≡ y → ActsAs r y s env base d e → ActsAs r x s env base d e
acts_by r x y s env base d e is h = subst (λ x. ActsAs r x s env base d e) (sym is) h

pub low_by : (x y : Item Output) (s : Setting) (base : ℕ) → x ≡ y → Low base (room_in s x) → Low base (room_in s y)
low_by x y s base is h = subst (λ x. Low base (room_in s x)) is h

-- what takes no place
pub none_by : (x y : Item Output) (s : Setting) (base : ℕ) → x ≡ y → room_in s y ≡ 0 → TakesAs (Ok base) x s base
none_by x y s base is none = subst (λ x. TakesAs (Ok base) x s base) (sym is) (by_sum (room_in s y) none)
  where
    by_sum : (n : ℕ) → n ≡ 0 → base ≡ base + n
    by_sum n h = omega (arith, h)

pub return_low : (c : Code) (e : Option Expr) (s : Setting) (base : ℕ) → c ≡ tree.Return e → Low base (code_room s c)
    → Low base (option_room s e)
return_low c e s base h low = subst (λ n. Low base n) (room-Return s c e h) low
