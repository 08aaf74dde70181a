-- What a function runs in has the turns and the rooms that the tables have.
use Rattle.std.proofs.Common.{◌≡◌, ◌≤◌, ℕ, zero, suc, List, [], Some, refl, sym, ap, ◌∙◌, arith}
use Rattle.std.specs.Prelude.{length, slice_get, unwrap_or}
use Rattle.std.proofs.lemmas.Option.{slice_get_past}
use Rattle.core_tree.specs.declared.program.Function.{Function}
use Rattle.core_tree.specs.Programs.{Machine, measures_of, turns_in}
use Rattle.core_tree.specs.States.{Output}
use Rattle.run_core.specs.Scenes.{rooms_at, row_at, HoldsRooms}

rooms_there : (m : Machine Output) (n : ℕ) (f : Function) (g : ℕ) → (measures_of m n f).room g ≡ rooms_at m n g
unfolding measures_of
rooms_there m zero f g = refl
rooms_there m (suc n) f g = refl

turns_there : (m : Machine Output) (n : ℕ) (f : Function) → (measures_of m n f).turns ≡ turns_in m.limits f
unfolding measures_of
turns_there m zero f = refl
turns_there m (suc n) f = refl

pub turns_are : (m : Machine Output) (n : ℕ) (f : Function) (t : ℕ) → t ≡ turns_in m.limits f
    → t ≡ (measures_of m n f).turns
turns_are m n f t is = is ∙ sym (turns_there m n f)

pub room_is : (m : Machine Output) (n : ℕ) (f : Function) (g r : ℕ) (table : List (List ℕ)) → HoldsRooms m n table
    → r ≡ row_at table n g → r ≡ (measures_of m n f).room g
room_is m n f g r table holds is = is ∙ holds n (omega arith) g ∙ sym (rooms_there m n f g)

pub row_found : (table : List (List ℕ)) (n g r : ℕ) (row : List ℕ) → slice_get table n ≡ Some row
    → r ≡ unwrap_or (slice_get row g) 0 → r ≡ row_at table n g
row_found table n g r row is value = value ∙ sym (ap (λ o. unwrap_or (slice_get (unwrap_or o []) g) 0) is)

pub row_missing : (table : List (List ℕ)) (n g : ℕ) → length table ≤ n → 0 ≡ row_at table n g
row_missing table n g past = sym (ap (λ o. unwrap_or (slice_get (unwrap_or o []) g) 0) (slice_get_past table n past))
