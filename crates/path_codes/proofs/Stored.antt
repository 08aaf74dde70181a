-- Values stored in objects that are there, and the settings of an object one behind the other.
use Rattle.std.proofs.Common.{◌≡◌, ℕ, ◌+◌, ◌%◌, ◌^◌, ◌<◌, ◌≤◌, List, [], ◌∷◌, ◌++◌, false, Option, Some, refl, sym, ap, subst, ◌∙◌, arith, add-zero}
use Rattle.std.specs.Prelude.{Ok}
use Rattle.std.proofs.Math.Nat.{mod-eq_of_lt}
use Rattle.plain_data.specs.declared.width.Width.{Width}
use Rattle.plain_data.specs.declared.width.Width.TheVariants as width
use Rattle.c_language.specs.Integers.{bytes_in}
use Rattle.c_store.specs.Store.{start}
use Rattle.c_means.specs.Expressions.{behind}
use Rattle.c_means.specs.declared.kind.Kind.{Kind}
use Rattle.c_means.specs.declared.kind.Kind.TheVariants as k
use Rattle.core_tree.specs.declared.code.Setting.{Setting}
use Rattle.core_tree.specs.declared.code.Setting.TheVariants as setting
use Rattle.core_tree.specs.declared.expr.Expr.{Expr}
use Rattle.core_tree.specs.declared.types.Access.{Access}
use Rattle.core_tree.specs.declared.types.ValueType.{ValueType}
use Rattle.core_tree.specs.declared.types.ValueType.TheVariants as vt
use Rattle.core_tree.specs.Numbers.{size_of}
use Rattle.core_tree.specs.Memory.{stored}
use Rattle.core_tree.specs.States.{Done, Arrow, onward, running, where_running}
use Rattle.core_tree.specs.Values.{value}
use Rattle.core_tree.specs.Codes.{sets, sets_all}
use Rattle.term_bank.specs.declared.shape.Shape.{Shape}
use Rattle.term_bank.specs.Values.{Environment, Values, Grows}
use Rattle.term_bank.proofs.BankLemmas.{grows_on}
use Rattle.path_states.specs.declared.state.State.{State}
use Rattle.path_states.specs.declared.state.Walked.{Walked}
use Rattle.path_states.specs.States.{Held, AreStates}
use Rattle.path_states.specs.Ways.{Way, Trial, Goes, stay, going, tried, ◌>>=◌}
use Rattle.path_states.proofs.Paths.{goes_then}
use Rattle.path_steps.specs.declared.leaf.Leaf.TheVariants as leaf
use Rattle.path_steps.specs.Leaves.{leaf_way}
use Rattle.path_steps.specs.Memories.{IsScalar}
use Rattle.path_steps.specs.Operands.{pushed, top, under}
use Rattle.path_steps.proofs.AccessLemmas.{put_near}
use Rattle.path_arrows.specs.Arrows.{bared, by_arrow}
use Rattle.path_forms.specs.declared.frame.Placed.{Placed}
use Rattle.path_forms.specs.Around.{Around, level_at, env_at}
use Rattle.path_forms.specs.Reaching.{Reaches}
use Rattle.path_forms.proofs.Reached.{reach_then, walks_start, goes_where}
use Rattle.path_rooms.specs.Rooms.{setting_room, settings_room}
use Rattle.path_codes.specs.declared.below.Coded.{Coded}
use Rattle.path_codes.specs.declared.below.Evaluated.{Evaluated}
use Rattle.path_codes.specs.Courses.{on_top}
use Rattle.path_codes.specs.Settings.{Storable, Stores, stores, set_arrow, settings_arrow, WalksSet, WalksSettings, SettingsOn}
use Rattle.path_codes.specs.Walks.{EvaluatesTo}
use Rattle.path_codes.proofs.Courses.{splits_close, toward_next, toward_end}
use Rattle.path_codes.proofs.Statements.{walks_by}
use Rattle.path_forms.specs.Calling.{Stays}
use Rattle.path_forms.proofs.Started.{stays_on}

-- ---- what can be stored

few : (w : Width) → bytes_in w ≤ 8
few width.W8 = omega arith
few width.W16 = omega arith
few width.W32 = omega arith
few width.W64 = omega arith

close : (bytes n : ℕ) → bytes ≤ 4294967288 → n ≤ 8 → bytes + n ≤ 2 ^ 32
close bytes n h i = omega arith

pub storable : (t : ValueType) (bytes : ℕ) → IsScalar t → bytes ≤ 4294967288 → Storable t bytes
storable t bytes h i = record { scalar = h; near = close bytes (size_of t) i (small t h) }
  where
    small : (t : ValueType) → IsScalar t → size_of t ≤ 8
    small vt.Truth h = omega arith
    small (vt.Word t) h = few t.width
    small vt.Pointer h = omega arith
    small vt.Void h = absurd h
    small (vt.Block bytes) h = absurd h

-- ---- one value

near_start : (p bytes : ℕ) → p < 2 ^ 32 → bytes < 2 ^ 32 → (start p + bytes) % 2 ^ 64 ≡ start p + bytes
near_start p bytes h i =
    let low : start p + bytes < 2 ^ 64 = omega arith in
    mod-eq_of_lt low

ends : (p bytes n : ℕ) → p < 2 ^ 32 → bytes + n ≤ 2 ^ 32 → (start p + bytes) + n ≤ 2 ^ 64
ends p bytes n h i = omega arith

module _ (room object bytes : ℕ) (t : ValueType) where
  abbrev access : Access
  access = record { at = 0; stored = t; is_tested = false }

  abbrev to_place : Trial
  to_place = leaf_way (leaf.Local object)

  abbrev to_byte : Trial
  to_byte = leaf_way (leaf.Offset bytes)

  abbrev placed : Trial
  placed e v h = tried (to_place e v h) (to_byte e v)

  abbrev tucked_in : Trial
  tucked_in e v h = tried (placed e v h) (leaf_way leaf.Tuck e v)

  abbrev in_order : Trial
  in_order e v h = tried (tucked_in e v h) (leaf_way leaf.Drop e v)

  abbrev put_there : Trial
  put_there e v h = tried (in_order e v h) (leaf_way (leaf.Put 0 access) e v)

  abbrev all_six : Trial
  all_six e v h = tried (put_there e v h) (leaf_way leaf.Drop e v)

  small_bytes : Storable t bytes → 0 < size_of t → bytes < 2 ^ 32
  small_bytes h i = less bytes (size_of t) h.near i
    where
      less : (bytes n : ℕ) → bytes + n ≤ 2 ^ 32 → 0 < n → bytes < 2 ^ 32
      less bytes n h i = omega arith

  some_bytes : (t : ValueType) → IsScalar t → 0 < size_of t
  some_bytes vt.Truth h = omega arith
  some_bytes (vt.Word t) h = by t.width
    where
      by : (w : Width) → 0 < bytes_in w
      by width.W8 = omega arith
      by width.W16 = omega arith
      by width.W32 = omega arith
      by width.W64 = omega arith
  some_bytes vt.Pointer h = omega arith
  some_bytes vt.Void h = absurd h
  some_bytes (vt.Block bytes) h = absurd h

  six_store : (e : Environment) (v : Values) (h : Held) → e.base + object < 2 ^ 32 → Storable t bytes
      → going (all_six e v h) >>= (λ x. bared (Some x.done)) ≡ on_top (stores object bytes t) e v h
  six_store e v h low s =
      let p = e.base + object in
      let at = behind bytes (start p) in
      let is : at ≡ start p + bytes = near_start p bytes low (small_bytes s (some_bytes t s.scalar)) in
      let near : at + size_of t ≤ 2 ^ 64 = subst (λ a. a + size_of t ≤ 2 ^ 64) (sym is) (ends p bytes (size_of t) low s.near) in
      ap (λ o. going (tried (pushed (under h.operands) o) (leaf_way leaf.Drop e v)) >>= (λ x. bared (Some x.done)))
      (put_near 0 access at (top h.operands) h.done near)
      ∙ ap (λ a. bared (Some (stored t a (top h.operands) h.done))) is

  pub stores_by : (a b c d f g k : List Shape) (ss ts : List State) (w1 w2 w3 w4 w5 w6 : Walked) → AreStates a ss → object < room
      → Storable t bytes → Reaches room a b (record { going = ss; ended = [] }) w1 to_place → Reaches room b c w1 w2 to_byte
      → Reaches room c d w2 w3 (leaf_way leaf.Tuck) → Reaches room d f w3 w4 (leaf_way leaf.Drop)
      → Reaches room f g w4 w5 (leaf_way (leaf.Put 0 access)) → Reaches room g k w5 w6 (leaf_way leaf.Drop)
      → Goes room k k w6.going ts (by_arrow (λ e d. Some d)) → Stores room object bytes t a k ss ts
  stores_by a b c d f g k ss ts w1 w2 w3 w4 w5 w6 are inside s h1 h2 h3 h4 h5 h6 last =
      let start_of : Walked = record { going = ss; ended = [] } in
      let one = reach_then room a b c start_of w1 w2 to_place to_byte h1 h2 in
      let two = reach_then room a c d start_of w2 w3 placed (leaf_way leaf.Tuck) one h3 in
      let three = reach_then room a d f start_of w3 w4 tucked_in (leaf_way leaf.Drop) two h4 in
      let four = reach_then room a f g start_of w4 w5 in_order (leaf_way (leaf.Put 0 access)) three h5 in
      let five = reach_then room a g k start_of w5 w6 put_there (leaf_way leaf.Drop) four h6 in
      let walks = five.reaches a ss (λ e v h. Some (Ok h)) (walks_start room a ss are) in
      let all : Way = λ e v h. going (all_six e v h) >>= (λ x. bared (Some x.done)) in
      let goes = goes_where room a k ss ts all (on_top (stores object bytes t))
      (λ e v m r h. six_store e v h (low e.base object room r.places inside) s)
      (goes_then room a k k ss w6.going ts (λ e v h. going (all_six e v h)) (by_arrow (λ e d. Some d)) walks.going last) in
      record { grows = goes.grows; states = goes.states; goes = goes }
    where
      low : (base object room : ℕ) → base + room ≤ 2 ^ 32 → object < room → base + object < 2 ^ 32
      low base object room h i = omega arith

-- ---- settings

by_set : (kind : Kind) (r : Done ℕ) (o t : Option (Done ℕ)) (next : Arrow ℕ) → next r ≡ where_running kind t (Some r)
    → onward (where_running kind o (Some r)) next ≡ where_running kind (onward o next) (Some r)
by_set k.Running r o t next h = refl
by_set k.Breaking r o t next h = h
by_set k.Continuing r o t next h = h
by_set k.Returning r o t next h = h
by_set (k.Going label) r o t next h = h
by_set (k.Choosing value) r o t next h = h
by_set k.Defaulting r o t next h = h
by_set (k.Ended finish) r o t next h = h

pub ended_so : (kind : Kind) (r : Done ℕ) → where_running kind (Some r) (Some r) ≡ Some r
ended_so k.Running r = refl
ended_so k.Breaking r = refl
ended_so k.Continuing r = refl
ended_so k.Returning r = refl
ended_so (k.Going label) r = refl
ended_so (k.Choosing value) r = refl
ended_so k.Defaulting r = refl
ended_so (k.Ended finish) r = refl

module _ (x : Around) (frame : List Placed) (room object : ℕ) where
  pub walks_set : (bytes : ℕ) (t : ValueType) (e : Expr) (a b c d : List Shape) (ss us ts : List State) (place : ℕ) (y : Evaluated)
      → EvaluatesTo x frame room e a b ss place y → Stores room object bytes t b c y.on us → Goes room c d (y.over ++ us) ts stay
      → WalksSet x frame room object (setting.Value bytes t e) a d ss place (record { states = ts; next = y.next })
  walks_set bytes t e a b c d ss us ts place y h i j =
      let whole = set_arrow x frame object (setting.Value bytes t e) place in
      walks_by room whole (setting_room x.measures (setting.Value bytes t e)) a d ss ts place y.next h.after
      (splits_close room a b c d ss y.over y.on us ts (on_top (stores object bytes t)) (by_arrow whole)
      (h.splits (stores object bytes t)) i.goes j)

  module _ (begun : List Shape → Type 0) where
    pub settings_start : (all : List Setting) (a : List Shape) (ss ts : List State) (place : ℕ) → Stays begun a
        → Goes room a a ss ts (by_arrow (λ e d. Some d)) → SettingsOn x frame room object begun all all a a ss ts place place
    settings_start all a ss ts place g h = record {
      begun = g;
      states = h.states;
      rooms = refl;
      toward = record { arrow = λ e d. Some d; goes = h; leads = λ e d. refl };
    }

    pub settings_next : (all rest more : List Setting) (s : Setting) (a b d : List Shape) (ss ts : List State) (place next : ℕ) (y : Coded)
        → rest ≡ s ∷ more → SettingsOn x frame room object begun all rest a b ss ts place next
        → WalksSet x frame room object s b d ts next y → SettingsOn x frame room object begun all more a d ss y.states place y.next
    settings_next all rest more s a b d ss ts place next y is h i =
        by (subst (λ r. SettingsOn x frame room object begun all r a b ss ts place next) is h)
      where
        counted : (place next n m all : ℕ) → y.next ≡ next + n → next + (n + m) ≡ place + all → y.next + m ≡ place + all
        counted place next n m all k l = omega (arith, k, l)

        plus : (base next n m : ℕ) → n ≡ next + m → base + n ≡ (base + next) + m
        plus base next n m k = omega (arith, k)

        same : (e : Environment) (q : Done ℕ)
            → onward (set_arrow x frame object s next e q) (settings_arrow x frame object more y.next e)
            ≡ settings_arrow x frame object (s ∷ more) next e q
        same e q =
            ap (λ p. onward (set_arrow x frame object s next e q)
            (running (sets_all more (start (e.base + object)) (level_at x e) (env_at frame e) p)))
            (plus e.base next y.next (setting_room x.measures s) i.after)
            ∙ by_set q.kind q (sets s (start (e.base + object)) (level_at x e) (env_at frame e) (e.base + next) q)
            (sets_all more (start (e.base + object)) (level_at x e) (env_at frame e) ((e.base + next) + setting_room x.measures s) q)
            (running (sets_all more (start (e.base + object)) (level_at x e) (env_at frame e) ((e.base + next) + setting_room x.measures s)))
            refl

        by : SettingsOn x frame room object begun all (s ∷ more) a b ss ts place next
            → SettingsOn x frame room object begun all more a d ss y.states place y.next
        by h = record {
          begun = stays_on h.begun i.grows;
          states = i.states;
          rooms = counted place next (setting_room x.measures s) (settings_room x.measures more) (settings_room x.measures all) i.after h.rooms;
          toward = toward_next room a b d ss ts y.states (set_arrow x frame object s next) (settings_arrow x frame object more y.next)
              (settings_arrow x frame object (s ∷ more) next) (settings_arrow x frame object all place) h.toward same i.goes;
        }

    pub settings_end : (all rest : List Setting) (a b : List Shape) (ss ts : List State) (place next : ℕ) → rest ≡ []
        → SettingsOn x frame room object begun all rest a b ss ts place next
        → WalksSettings x frame room object all a b ss place (record { states = ts; next = next })
    settings_end all rest a b ss ts place next is h =
        by (subst (λ r. SettingsOn x frame room object begun all r a b ss ts place next) is h)
      where
        by : SettingsOn x frame room object begun all [] a b ss ts place next
            → WalksSettings x frame room object all a b ss place (record { states = ts; next = next })
        by h =
            walks_by room (settings_arrow x frame object all place) (settings_room x.measures all) a b ss ts place next
            (sym (add-zero next) ∙ h.rooms)
            (toward_end room a b ss ts (settings_arrow x frame object [] next) (settings_arrow x frame object all place) h.toward
            (λ e d. ended_so d.kind d))
