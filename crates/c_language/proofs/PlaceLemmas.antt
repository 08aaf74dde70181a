-- Each token of a source is found with its place, at its start.
use Rattle.std.proofs.Common.{◌≡◌, ◌≢◌, ◌<◌, ◌≤◌, ℕ, Bool, true, false, cond, List, [], ◌∷◌, Option, Some, None, arith}
use Rattle.std.proofs.Common.{refl, sym, ap, ◌∙◌}
use Rattle.std.specs.Prelude.{unwrap_or, fold}
use Rattle.std.specs.List.{All}
use Rattle.std.proofs.lemmas.List.Elements.{All-nil, All-cons}
use Rattle.std.specs.Map.{lookup}
use Rattle.std.specs.Ordering.{nat_cmp, is_eq, match_ordering}
use Rattle.std.specs.declared.cmp.Ordering.TheVariants.{Less, Equal, Greater}
use Rattle.std.specs.BTreeMap.{is_at, insert_entry}
use Rattle.c_language.specs.declared.token.Place.{Place}
use Rattle.c_language.specs.declared.token.Token.{Token}
use Rattle.c_language.specs.Standing.{StandInOrder}
use Rattle.c_language.specs.PlaceTables.{places_of, place_at, nowhere, AreFound}

abbrev Table : Type 0
Table = List (ℕ × Place)

abbrev find : ℕ → Table → Option Place
find q table = lookup (is_at (nat_cmp q)) table

-- what is put at a key is found there
put_found : (table : Table) (k : ℕ) (v : Place) → find k (insert_entry nat_cmp table k v) ≡ Some v
put_found [] k v = rw (itself k) refl
  where
    itself : (k : ℕ) → is_eq (nat_cmp k k) ≡ true
    itself k = grind arith
put_found (e ∷ es) k v =
    elim (nat_cmp k e.0) as
    (λ o. nat_cmp k e.0 ≡ o →
    find k (match_ordering o ((k, v) ∷ e ∷ es) ((e.0, v) ∷ es) (e ∷ insert_entry nat_cmp es k v)) ≡ Some v) [
      | Less ↦ λ is. rw (itself k) refl
      | Equal ↦ λ is. rw is refl
      | Greater ↦ λ is. rw is (put_found es k v)
    ] refl
  where
    itself : (k : ℕ) → is_eq (nat_cmp k k) ≡ true
    itself k = grind arith

-- and every other key keeps what it had
put_elsewhere : (table : Table) (k q : ℕ) (v : Place) → q < k → find q (insert_entry nat_cmp table k v) ≡ find q table
put_elsewhere [] k q v less = rw (other q k less) refl
  where
    other : (q k : ℕ) → q < k → is_eq (nat_cmp q k) ≡ false
    other q k less = grind arith
put_elsewhere (e ∷ es) k q v less =
    elim (nat_cmp k e.0) as
    (λ o. nat_cmp k e.0 ≡ o →
    find q (match_ordering o ((k, v) ∷ e ∷ es) ((e.0, v) ∷ es) (e ∷ insert_entry nat_cmp es k v))
    ≡ find q (e ∷ es)) [
      | Less ↦ λ is. rw (other q k less) refl
      | Equal ↦ λ is. rw (other q e.0 (below k e.0 q is less)) refl
      | Greater ↦ λ is. ap (λ z. cond (is_eq (nat_cmp q e.0)) (Some e.1) z) (put_elsewhere es k q v less)
    ] refl
  where
    other : (q k : ℕ) → q < k → is_eq (nat_cmp q k) ≡ false
    other q k less = grind arith

    below : (k n q : ℕ) → nat_cmp k n ≡ Equal → q < k → q < n
    below k n q is less = grind arith

abbrev with_token : Table → Token → Table
with_token table token = insert_entry nat_cmp table token.start token.place

-- tokens from an address on leave what was found before it
kept_before : (tokens : List Token) (table : Table) (from end q : ℕ) → StandInOrder from end tokens → q < from →
    find q (fold with_token table tokens) ≡ find q table
kept_before [] table from end q stand less = refl
kept_before (t ∷ ts) table from end q stand less =
    kept_before ts (with_token table t) t.end end q stand.3 (omega (arith, stand.0, stand.1))
    ∙ put_elsewhere table t.start q t.place (omega (arith, stand.0))

each_found : (tokens : List Token) (table : Table) (from end : ℕ) → StandInOrder from end tokens →
    AreFound (fold with_token table tokens) tokens
each_found [] table from end stand = All-nil (λ x. place_at table x.start ≡ x.place)
each_found (t ∷ ts) table from end stand =
    All-cons (λ x. place_at (fold with_token (with_token table t) ts) x.start ≡ x.place) t ts
    (ap (λ z. unwrap_or z nowhere)
    (kept_before ts (with_token table t) t.end end t.start stand.3 stand.1 ∙ put_found table t.start t.place))
    (each_found ts (with_token table t) t.end end stand.3)

pub are_found : (tokens : List Token) (end : ℕ) → StandInOrder 0 end tokens → AreFound (places_of tokens) tokens
are_found tokens end stand = each_found tokens [] 0 end stand
