-- Tables of rooms, one level more at a time.
use Rattle.std.proofs.Common.{◌≡◌, ◌≤◌, ◌<◌, ◌+◌, ◌⊎◌, inl, inr, ℕ, zero, suc, List, [], ◌∷◌, ◌++◌, length, Option, Some, None}
use Rattle.std.proofs.Common.{refl, sym, ap, ◌∙◌, arith}
use Rattle.std.specs.Prelude.{slice_get, unwrap_or, option_map}
use Rattle.std.proofs.lemmas.Bool.{cases_lt}
use Rattle.std.proofs.lemmas.List.{length-append}
use Rattle.std.proofs.lemmas.Option.{slice_get-map}
use Rattle.plain_data.specs.declared.bounds.Bounds.{Bounds}
use Rattle.plain_data.specs.Worlds.{WorldTables}
use Rattle.core_tree.specs.declared.program.Core.{Core}
use Rattle.core_tree.specs.declared.program.Function.{Function}
use Rattle.core_tree.specs.Programs.{Machine, measures_of, room_by, maybe_body}
use Rattle.core_tree.specs.States.{Output}
use Rattle.run_core.specs.Scenes.{machine_of, rooms_at, row_at, room_over, all_rooms, HoldsRooms}

none_left : (m : Machine Output) (k g : ℕ) → k ≤ 0 → row_at ([] ∷ []) k g ≡ rooms_at m k g
none_left m zero g low = refl
none_left m (suc k) g low = absurd (omega (arith, low))

pub holds_none : (m : Machine Output) (table : List (List ℕ)) → table ≡ [] ∷ [] → HoldsRooms m 0 table
holds_none m table is = λ k low g. ap (λ t. row_at t k g) is ∙ none_left m k g low

at_end : (table : List (List ℕ)) (row : List ℕ) → slice_get (table ++ row ∷ []) (length table) ≡ Some row
at_end [] row = refl
at_end (x ∷ t) row = at_end t row

before_end : (table : List (List ℕ)) (row : List ℕ) (n : ℕ) → n < length table
    → slice_get (table ++ row ∷ []) n ≡ slice_get table n
before_end [] row n less =
    let none : n < 0 = less in
    absurd (omega (arith, none))
before_end (x ∷ t) row zero less = refl
before_end (x ∷ t) row (suc n) less =
    let more : suc n < suc (length t) = less in
    before_end t row n (omega (arith, more))

abbrev entry : Option (List ℕ) → ℕ → ℕ
entry o g = unwrap_or (slice_get (unwrap_or o []) g) 0

each : (m : Machine Output) (n : ℕ) (o : Option Function)
    → unwrap_or (option_map (room_over m n) o) 0 ≡ room_by {O = Output} (measures_of m n) (maybe_body o)
each m n None = refl
each m n (Some f) = refl

row_is : (p : Core) (w : WorldTables) (b : Bounds) (n : ℕ) (row : List ℕ) (g : ℕ) → row ≡ all_rooms p w b n
    → unwrap_or (slice_get row g) 0 ≡ rooms_at (machine_of p w b) (suc n) g
row_is p w b n row g is =
    ap (λ r. unwrap_or (slice_get r g) 0) is
    ∙ ap (λ o. unwrap_or o 0) (slice_get-map (room_over (machine_of p w b) n) p.functions g)
    ∙ each (machine_of p w b) n (slice_get p.functions g)

pub longer : (n : ℕ) (table new : List (List ℕ)) (row : List ℕ) → length table ≡ suc n → new ≡ table ++ row ∷ []
    → length new ≡ suc (suc n)
longer n table new row many grown =
    let more : length (table ++ row ∷ []) ≡ length table + 1 = length-append table (row ∷ []) in
    ap length grown ∙ more ∙ omega (arith, many)

pub holds_more : (p : Core) (w : WorldTables) (b : Bounds) (n : ℕ) (table new : List (List ℕ)) (row : List ℕ)
    → length table ≡ suc n → HoldsRooms (machine_of p w b) n table → row ≡ all_rooms p w b n
    → new ≡ table ++ row ∷ [] → HoldsRooms (machine_of p w b) (suc n) new
holds_more p w b n table new row many holds is grown = λ k low g. by k low g (cases_lt n k)
  where
    last : (g : ℕ) → row_at new (suc n) g ≡ rooms_at (machine_of p w b) (suc n) g
    last g =
        ap (λ t. row_at t (suc n) g) grown
        ∙ ap (λ i. row_at (table ++ row ∷ []) i g) (sym many)
        ∙ ap (λ o. entry o g) (at_end table row) ∙ row_is p w b n row g is

    by : (k : ℕ) → k ≤ suc n → (g : ℕ) → (n < k) ⊎ (k ≤ n) → row_at new k g ≡ rooms_at (machine_of p w b) k g
    by k low g (inl more) =
        let same : k ≡ suc n = omega (arith, more, low) in
        ap (λ i. row_at new i g) same ∙ last g ∙ ap (λ i. rooms_at (machine_of p w b) i g) (sym same)
    by k low g (inr less) =
        let there : k < length table = omega (arith, less, many) in
        ap (λ t. row_at t k g) grown ∙ ap (λ o. entry o g) (before_end table row k there) ∙ holds k less g
