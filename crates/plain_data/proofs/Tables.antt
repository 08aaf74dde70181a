-- A change of one entry leaves no zero in a table.
use Rattle.std.proofs.lemmas.Bool.Decides.{nat_tests}
use Rattle.std.proofs.Common.{arith, ◌≡◌, ◌≢◌, ℕ, Bool, true, false, cond, [], ◌∷◌, refl}
use Rattle.std.specs.Prelude.{not, ◌==◌}
use Rattle.std.specs.Cmp.{first_so, second_so}
use Rattle.std.specs.Cmp.Derive.{both_true}
use Rattle.std.specs.Map.{remove_entry}
use Rattle.std.specs.BTreeMap.{insert_entry}
use Rattle.std.specs.Ordering.{nat_cmp, match_ordering}
use Rattle.std.specs.declared.cmp.Ordering.TheVariants.{Less, Equal, Greater}
use Rattle.plain_data.specs.Worlds.{Table, has_no_zero}

pub has_no_zero-remove_entry : (test : ℕ → Bool) (table : Table) → has_no_zero table ≡ true → has_no_zero (remove_entry test table) ≡ true
has_no_zero-remove_entry test [] h = refl
has_no_zero-remove_entry test (e ∷ es) h =
    let first = first_so (not (e.1 == 0)) (has_no_zero es) h in
    let rest = second_so (not (e.1 == 0)) (has_no_zero es) h in
    elim (test e.0) as (λ b. has_no_zero (cond b es (e ∷ remove_entry test es)) ≡ true) [
      | true ↦ rest
      | false ↦ both_true first (has_no_zero-remove_entry test es rest)
    ]

is_nonzero : (value : ℕ) → value ≢ 0 → not (value == 0) ≡ true
is_nonzero value h = grind (arith, nat_tests)

pub has_no_zero-insert_entry : (table : Table) (key value : ℕ) → value ≢ 0 → has_no_zero table ≡ true → has_no_zero (insert_entry nat_cmp table key value) ≡ true
has_no_zero-insert_entry [] key value h t = both_true (is_nonzero value h) refl
has_no_zero-insert_entry (e ∷ es) key value h t =
    let here = is_nonzero value h in
    let first = first_so (not (e.1 == 0)) (has_no_zero es) t in
    let rest = second_so (not (e.1 == 0)) (has_no_zero es) t in
    elim (nat_cmp key e.0) as (λ o. has_no_zero (match_ordering o ((key, value) ∷ e ∷ es) ((e.0, value) ∷ es) (e ∷ insert_entry nat_cmp es key value)) ≡ true) [
      | Less ↦ both_true here (both_true first rest)
      | Equal ↦ both_true here rest
      | Greater ↦ both_true first (has_no_zero-insert_entry es key value h rest)
    ]
