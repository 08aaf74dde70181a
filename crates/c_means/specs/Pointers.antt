-- Pointers moved, compared and subtracted (C99 6.5.6p7 to p9, 6.5.8p5, 6.5.9p6): undefined where an object is left, or
-- two are mixed.
use Rattle.std.specs.Prelude.{ℕ, zero, suc, ℤ, pos, negsuc, ◌+ℤ◌, ◌-ℤ◌, ◌*ℤ◌, int_div, Bool, cond, Ok}
use Rattle.plain_data.specs.declared.run.Undefined.TheVariants.{PointerRange, PointerOrder}
use Rattle.c_language.specs.Integers.{number_of}
use Rattle.c_store.specs.Access.{in_one_object}
use Rattle.c_means.specs.Parts.{State, Outcome, stop}

-- from one address to another: both in, or one past, one live object (C99 6.5.6p8)
abbrev pub moved_to : ℕ → ℕ → ℤ → State → Outcome ℤ
moved_to at from (negsuc n) d = stop at PointerRange d
moved_to at from (pos to) d = cond (in_one_object d.store from to) (Ok (pos to, d)) (stop at PointerRange d)

-- so many elements of a size further (C99 6.5.6p8)
abbrev pub moved : ℕ → ℕ → ℤ → ℕ → State → Outcome ℤ
moved at size i a d = moved_to at a (pos a +ℤ i *ℤ pos size) d

-- an order between two addresses in, or one past, one live object (C99 6.5.8p5)
abbrev pub ordered : ℕ → (ℕ → ℕ → Bool) → ℕ → ℕ → State → Outcome ℤ
ordered at order a b d = cond (in_one_object d.store a b) (Ok (number_of (order a b), d)) (stop at PointerOrder d)

-- toward zero; elements of size 0 are no distance apart
abbrev pub elements_in : ℤ → ℕ → ℤ
elements_in bytes zero = pos 0
elements_in bytes (suc n) = int_div bytes (pos (suc n))

-- how many elements of a size are between two addresses in, or one past, one live object (C99 6.5.6p9)
abbrev pub apart : ℕ → ℕ → ℕ → ℕ → State → Outcome ℤ
apart at size a b d =
    cond (in_one_object d.store a b) (Ok (elements_in (pos a -ℤ pos b) size, d)) (stop at PointerOrder d)
