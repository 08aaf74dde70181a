-- Tables of all keys, level by level.
use Rattle.std.proofs.Common.{◌≡◌, ℕ, zero, suc, ◌+◌, ◌<◌, ◌≤◌, ◌&&◌, List, [], ◌∷◌, ◌++◌, length, Bool, true, false, cond, nat_eq, Option, Some, None, refl, sym, ap, subst, ◌∙◌, arith}
use Rattle.std.proofs.lemmas.Bool.Decides.{nat_tests}
use Rattle.std.specs.Prelude.{slice_get, slice_index_or}
use Rattle.core_tree.specs.declared.program.Function.{Function}
use Rattle.log_expr.specs.declared.table.Ends.{Ends}
use Rattle.log_expr.specs.declared.table.Entry.{Entry}
use Rattle.log_expr.specs.Sound.{IsSound}
use Rattle.log_expr.specs.Tables.{is_of, found, ends_at}
use Rattle.term_bank.specs.declared.shape.Shape.{Shape}
use Rattle.term_bank.specs.Values.{Grows}
use Rattle.term_bank.proofs.BankLemmas.{weaken, stays, grows_on}
use Rattle.path_states.proofs.Growth.{states_grown}
use Rattle.summary_compose.specs.declared.summary.Summary.{Summary}
use Rattle.path_summaries.specs.declared.table.Kept.{Kept}
use Rattle.path_summaries.specs.declared.levels.Levelled.{Levelled}
use Rattle.log_expr.specs.Tours.{Tour}
use Rattle.path_summaries.specs.Tours.{StandsFor, IsComplete, room_in}
use Rattle.path_summaries.specs.Tables.{RowStands, AllStand, IsReady, AreRooms, HoldsRooms}
use Rattle.path_summaries.specs.Levels.{IsDone, RowDone, AllDone, Fills, FillsKey, FillsEntry, FillsRow, FillsRows, RoomsOf, PutsRooms, one_of, keys_at, keys_before, keys_within, Based, IsLevelled, Climbs, Levels}

module _ (t : Tour) (a b : List Shape) (grows : Grows a b) where
  pub stands_grown : (f n start : ℕ) (s : Summary) → StandsFor t a f n start s → StandsFor t b f n start s
  stands_grown f n start s h = record {
    function = h.function;
    is = h.is;
    parameters = h.parameters;
    scalars = h.scalars;
    states = states_grown grows s.states h.states;
    stands = λ e v m. h.stands e v (weaken grows m);
    sized = h.sized;
  }

  row_grown : (start : ℕ) (row : List Kept) → RowStands t a start row → RowStands t b start row
  row_grown start [] h = tt
  row_grown start (k ∷ ks) h = (stands_grown k.function k.left start k.summary h.0, row_grown start ks h.1)

  pub all_grown : (start : ℕ) (rows : List (List Kept)) → AllStand t a start rows → AllStand t b start rows
  all_grown start [] h = tt
  all_grown start (row ∷ rows) h = (row_grown start row h.0, all_grown (suc start) rows h.1)

  pub done_grown : (n f start : ℕ) → IsDone t a n f start → IsDone t b n f start
  done_grown n f start h e is = let found = h e is in (found.0, stands_grown f n start found.0 found.1)

  pub complete_grown : (n : ℕ) → IsComplete t a n → IsComplete t b n
  complete_grown zero h = tt
  complete_grown (suc n) h = λ f start. done_grown n f start (h f start)

  pub ready_grown : (n : ℕ) (table : List (List Kept)) → IsReady t n table a → IsReady t n table b
  ready_grown n table h = record {
    sound = h.sound;
    stand = all_grown 0 table h.stand;
    complete = complete_grown n h.complete;
  }

pub fills_none : (t : Tour) (a : List Shape) (table : List (List Kept)) → Fills t a a table table
fills_none t a table = record { grows = stays; stand = λ h. h }

pub fills_on : (t : Tour) (a b c : List Shape) (old mid now : List (List Kept)) → Fills t a b old mid → Fills t b c mid now → Fills t a c old now
fills_on t a b c old mid now h k = record { grows = grows_on h.grows k.grows; stand = λ s. k.stand (h.stand s) }

-- ---- a key

pub key_put : (t : Tour) (a b : List Shape) (n f start : ℕ) (s : Summary) (old now : List (List Kept)) (k m : ℕ) → Grows a b
    → StandsFor t b f n start s → (AllStand t b 0 old → AllStand t b 0 now) → m ≡ k + 1 → FillsKey t a b n f start old now k m
key_put t a b n f start s old now k m g one put counted = record {
  fills = record { grows = g; stand = λ h. put (all_grown t a b g 0 old h) };
  done = λ e is. (s, one);
  counted = counted;
}

-- ---- an entry

same_nat : (m n : ℕ) → m ≡ n → nat_eq m n ≡ true
same_nat m n h = grind (arith, nat_tests, h)

other_nat : (m n : ℕ) → (m ≡ n → ⊥) → nat_eq m n ≡ false
other_nat m n h = grind (arith, nat_tests, h)

pub entry_walked : (t : Tour) (a b : List Shape) (n start : ℕ) (x : Entry) (old now : List (List Kept)) (k m : ℕ) → x.depth ≡ suc n
    → FillsKey t a b n x.function start old now k m → FillsEntry t a b n start x old now k m
entry_walked t a b n start x old now k m same h = record {
  fills = h.fills;
  done = λ is. h.done;
  counted = h.counted ∙ ap (λ c. k + cond c 1 0) (sym (same_nat x.depth (suc n) same));
}

pub entry_passed : (t : Tour) (a : List Shape) (n start : ℕ) (x : Entry) (table : List (List Kept)) (k : ℕ) → (x.depth ≡ suc n → ⊥)
    → FillsEntry t a a n start x table table k k
entry_passed t a n start x table k other = record {
  fills = fills_none t a table;
  done = λ is. absurd (other is);
  counted = omega arith ∙ ap (λ c. k + cond c 1 0) (sym (other_nat x.depth (suc n) other));
}

-- ---- a row

pub row_none : (t : Tour) (a : List Shape) (n start : ℕ) (row : List Entry) (table : List (List Kept)) (k : ℕ) → row ≡ []
    → FillsRow t a a n start row table table k k
row_none t a n start row table k none = rw none (record { fills = fills_none t a table; done = tt; counted = omega arith })

pub row_more : (t : Tour) (a b c : List Shape) (n start : ℕ) (x : Entry) (xs all : List Entry) (old mid now : List (List Kept)) (k l m : ℕ)
    → all ≡ x ∷ xs → FillsEntry t a b n start x old mid k l → FillsRow t b c n start xs mid now l m
    → FillsRow t a c n start all old now k m
row_more t a b c n start x xs all old mid now k l m same h i = rw same (record {
  fills = fills_on t a b c old mid now h.fills i.fills;
  done = (λ is. done_grown t b c i.fills.grows n x.function start (h.done is), i.done);
  counted = omega (arith, h.counted, i.counted);
})

both : (p q : Bool) → (p && q) ≡ true → (p ≡ true) × (q ≡ true)
both true q h = (refl, h)
both false q h = absurd (cc)

nat_same : (m n : ℕ) → nat_eq m n ≡ true → m ≡ n
nat_same m n h = grind (arith, nat_tests)

row_found : (t : Tour) (b : List Shape) (n f start : ℕ) (xs : List Entry) (e : Ends) → RowDone t b n start xs → found f (suc n) xs ≡ Some e
    → IsDone t b n f start
row_found t b n f start [] e h is = absurd (cc)
row_found t b n f start (x ∷ xs) e h is = by (is_of f (suc n) x) refl is (row_found t b n f start xs e h.1) where
  by : (c : Bool) → is_of f (suc n) x ≡ c → cond c (Some x.ends) (found f (suc n) xs) ≡ Some e
      → (found f (suc n) xs ≡ Some e → IsDone t b n f start) → IsDone t b n f start
  by true same i rest =
      let two = both (nat_eq x.function f) (nat_eq x.depth (suc n)) same in
      subst (λ g. IsDone t b n g start) (nat_same x.function f two.0) (h.0 (nat_same x.depth (suc n) two.1))
  by false other i rest = rest i

-- ---- all rows

at_or_below : (j i : ℕ) → j < suc i → (C : Type 0) → (j < i → C) → (j ≡ i → C) → C
at_or_below zero zero h C less same = same refl
at_or_below zero (suc i) h C less same = less (omega arith)
at_or_below (suc j) zero h C less same = absurd (omega (arith, h))
at_or_below (suc j) (suc i) h C less same = at_or_below j i (omega (arith, h)) C (λ k. less (omega (arith, k))) (λ k. same (ap suc k))

pub rows_none : (t : Tour) (a : List Shape) (n : ℕ) (table : List (List Kept)) (k : ℕ) → FillsRows t a a n 0 table table k k
rows_none t a n table k = record {
  fills = fills_none t a table;
  done = λ f start below. absurd (omega (arith, below));
  counted = omega arith;
}

pub rows_more : (t : Tour) (a b c : List Shape) (n i next : ℕ) (row : List Entry) (old mid now : List (List Kept)) (k l m : ℕ)
    → row ≡ slice_index_or t.ends i [] → next ≡ suc i → FillsRows t a b n i old mid k l → FillsRow t b c n i row mid now l m
    → FillsRows t a c n next old now k m
rows_more t a b c n i next row old mid now k l m is one h x = record {
  fills = fills_on t a b c old mid now h.fills x.fills;
  done = λ f start below.
      at_or_below start i (omega (arith, below, one)) (IsDone t c n f start)
      (λ less. done_grown t b c x.fills.grows n f start (h.done f start less))
      (λ same. subst (λ j. IsDone t c n f j) (sym same)
      (λ e there. row_found t c n f i row e x.done (rw is there) e there));
  counted =
      x.counted ∙ ap (λ j. j + keys_at (suc n) row) h.counted ∙ added k (keys_before (suc n) t.ends i) (keys_at (suc n) row)
      ∙ ap (λ r. k + (keys_before (suc n) t.ends i + keys_at (suc n) r)) is ∙ ap (λ j. k + keys_before (suc n) t.ends j) (sym one);
} where
  added : (x y z : ℕ) → (x + y) + z ≡ x + (y + z)
  added x y z = omega arith

past : (rows : List (List Entry)) (i : ℕ) → length rows ≤ i → slice_index_or rows i [] ≡ []
past [] i h = refl
past (r ∷ rows) zero h = absurd (omega (arith, h))
past (r ∷ rows) (suc i) h = past rows i (omega (arith, h))

pub all_complete : (t : Tour) (b : List Shape) (n : ℕ) → AllDone t b n (length t.ends) → IsComplete t b (suc n)
all_complete t b n h f start e is = within start (length t.ends) _ (λ less. h f start less e is) (λ over. none (past t.ends start over)) where
  none : slice_index_or t.ends start [] ≡ [] → (s : Summary) × StandsFor t b f n start s
  none empty =
      let got : None ≡ Some e = subst (λ row. found f (suc n) row ≡ Some e) empty is in
      absurd (cc)

  within : (j m : ℕ) → (C : Type 0) → (j < m → C) → (m ≤ j → C) → C
  within j zero C less over = over (omega arith)
  within zero (suc m) C less over = less (omega arith)
  within (suc j) (suc m) C less over = within j m C (λ k. less (omega (arith, k))) (λ k. over (omega (arith, k)))

-- ---- rooms

rooms_are : (t : Tour) (n : ℕ) (fs : List Function) (rs : List (Option ℕ)) → RoomsOf t n fs rs
    → (g r : ℕ) (f : Function) → slice_get rs g ≡ Some (Some r) → slice_get fs g ≡ Some f → r ≡ room_in t n f
rooms_are t n [] rs h g r f told is = absurd (cc)
rooms_are t n (x ∷ fs) [] h g r f told is = absurd (cc)
rooms_are t n (x ∷ fs) (y ∷ rs) h zero r f told is =
    let one : y ≡ Some r = cc in
    let same : x ≡ f = cc in
    h.0 r one ∙ ap (λ z. room_in t n z) same
rooms_are t n (x ∷ fs) (y ∷ rs) h (suc g) r f told is = rooms_are t n fs rs h.1 g r f told is

pub rooms_none : (t : Tour) (n : ℕ) (rs : List (Option ℕ)) → PutsRooms t n [] rs rs
rooms_none t n rs = record { more = []; behind = sym (append_nil rs); are = tt } where
  append_nil : {A : Type 0} (xs : List A) → xs ++ [] ≡ xs
  append_nil [] = refl
  append_nil (x ∷ xs) = ap (λ l. x ∷ l) (append_nil xs)

pub rooms_more : (t : Tour) (n : ℕ) (f : Function) (fs all : List Function) (r : Option ℕ) (old mid now : List (Option ℕ)) → all ≡ f ∷ fs
    → ((x : ℕ) → r ≡ Some x → x ≡ room_in t n f) → mid ≡ old ++ r ∷ [] → PutsRooms t n fs mid now → PutsRooms t n all old now
rooms_more t n f fs all r old mid now same one put h = rw same (record {
  more = r ∷ h.more;
  behind = h.behind ∙ ap (λ l. l ++ h.more) put ∙ joined old (r ∷ []) h.more;
  are = (one, h.are);
}) where
  joined : {A : Type 0} (xs ys zs : List A) → (xs ++ ys) ++ zs ≡ xs ++ (ys ++ zs)
  joined [] ys zs = refl
  joined (y ∷ xs) ys zs = ap (λ l. y ∷ l) (joined xs ys zs)

pub rooms_held : (t : Tour) (n : ℕ) (rs : List (Option ℕ)) → PutsRooms t n t.core.functions [] rs → HoldsRooms t (suc n) rs
rooms_held t n rs h m is =
    let same : n ≡ m = omega (arith, is) in
    subst (λ k. AreRooms t k rs) same (λ g r f told there. rooms_are t n t.core.functions rs (subst (λ l. RoomsOf t n t.core.functions l) (sym h.behind) h.are) g r f told there)

-- ---- levels

pub rows_levelled : (t : Tour) (a b : List Shape) (n : ℕ) (table : List (List Kept)) (rooms : List (Option ℕ)) (functions : List Function) (x y : ℕ)
    → functions ≡ t.core.functions → FillsRows t a b n (length t.ends) [] table x y → PutsRooms t n functions [] rooms
    → Climbs t a b n (record { table = table; rooms = rooms }) x y
rows_levelled t a b n table rooms functions x y same h k = record {
  grows = h.fills.grows;
  levelled = record {
    stand = h.fills.stand tt;
    complete = all_complete t b n h.done;
    rooms = rooms_held t n rooms (subst (λ fs. PutsRooms t n fs [] rooms) same k);
  };
  counted = h.counted;
}

pub no_levels : (t : Tour) (a : List Shape) (k : ℕ) → Levels t a a 0 (record { table = []; rooms = [] }) k k
no_levels t a k = record {
  grows = stays;
  levelled = record { stand = tt; complete = tt; rooms = λ m is. absurd (omega (arith, is)) };
  counted = omega arith;
}

pub levels_on : (t : Tour) (a b c : List Shape) (n next : ℕ) (l k : Levelled) (x y z : ℕ) → next ≡ suc n → Levels t a b n l x y
    → Climbs t b c n k y z → Levels t a c next k x z
levels_on t a b c n next l k x y z one h i = rw one (record {
  grows = grows_on h.grows i.grows;
  levelled = i.levelled;
  counted = omega (arith, h.counted, i.counted);
})

pub based : (t : Tour) (b : List Shape) (n : ℕ) (l : Levelled) → IsSound t.core t.log t.limits t.depth t.ends → IsLevelled t b n l
    → Based t n l.table l.rooms b
based t b n l sound h = record {
  ready = λ c g. ready_grown t b c g n l.table (record { sound = sound; stand = h.stand; complete = h.complete });
  held = h.rooms;
}

pub based_on : (t : Tour) (a b : List Shape) (n : ℕ) (table : List (List Kept)) (rooms : List (Option ℕ)) → Grows a b → Based t n table rooms a
    → Based t n table rooms b
based_on t a b n table rooms g h = record { ready = λ c k. h.ready c (grows_on g k); held = h.held }
