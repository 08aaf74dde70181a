-- Objects set to 0, and declarations.
use Rattle.std.proofs.Common.{◌≡◌, ℕ, ◌+◌, ◌^◌, ◌<◌, ◌≤◌, pos, List, [], ◌++◌, Bool, true, false, Option, Some, refl, sym, ap, ◌∙◌, arith}
use Rattle.std.specs.Prelude.{Ok}
use Rattle.plain_data.specs.declared.width.Width.TheVariants.{W64}
use Rattle.plain_data.specs.Words.{word}
use Rattle.c_store.specs.Store.{Store, start}
use Rattle.c_store.specs.Store as stores
use Rattle.c_means.specs.declared.kind.Kind.{Kind}
use Rattle.c_means.specs.declared.kind.Kind.TheVariants as k
use Rattle.core_tree.specs.declared.code.Setting.{Setting}
use Rattle.core_tree.specs.States.{Done, Arrow, onward, running, where_running, with_store}
use Rattle.core_tree.specs.Codes as form
use Rattle.core_tree.specs.Codes.{sets_all, zeroed_if}
use Rattle.term_bank.specs.declared.sort.Node.{Node}
use Rattle.term_bank.specs.declared.shape.Shape.{Shape}
use Rattle.term_bank.specs.declared.shape.Shape.TheVariants.{Constant, ZeroRange}
use Rattle.term_bank.specs.Memories as wrapping
use Rattle.term_bank.specs.Terms.{Makes}
use Rattle.term_bank.specs.Values.{Environment, Worth}
use Rattle.term_bank.proofs.BankLemmas.{weaken, grows_on}
use Rattle.mem_terms.proofs.Space.{lay_store}
use Rattle.path_states.specs.declared.state.Number.{Number}
use Rattle.path_states.specs.declared.state.State.{State}
use Rattle.path_states.specs.declared.state.Walked.{Walked}
use Rattle.path_states.specs.States.{Held, number_in}
use Rattle.path_states.specs.Ways.{Way, Goes, stay, going, ◌>>=◌}
use Rattle.path_states.proofs.Paths.{goes_then}
use Rattle.path_numbers.specs.Answers.{Worded}
use Rattle.path_numbers.proofs.WordSums.{word-pos}
use Rattle.path_steps.specs.declared.leaf.Leaf.TheVariants as leaf
use Rattle.path_steps.specs.Leaves.{leaf_way, WalksBy}
use Rattle.path_steps.specs.Operands.{Pops}
use Rattle.path_arrows.specs.declared.sifting.Sifted.{Sifted}
use Rattle.path_arrows.specs.Arrows.{bare, by_arrow, Sifts}
use Rattle.path_forms.specs.declared.frame.Placed.{Placed}
use Rattle.path_forms.specs.Around.{Around, level_at, env_at, IsPlace}
use Rattle.path_forms.proofs.Reached.{goes_where}
use Rattle.path_rooms.specs.Rooms.{settings_room}
use Rattle.path_codes.specs.declared.below.Coded.{Coded}
use Rattle.path_codes.specs.Settings.{laying, Lays, LaysAll, LaysOne, Zeroes, ZeroesIf, zeroed_arrow, settings_arrow, WalksSettings}
use Rattle.path_codes.specs.Walks.{WalksItem}
use Rattle.path_codes.proofs.Laid.{lays_one}
use Rattle.path_codes.proofs.Courses.{arrows_then, arrows_as, splits_close}
use Rattle.path_codes.proofs.Pieces.{splits_sift}
use Rattle.path_codes.proofs.Stored.{ended_so}

-- ---- one state

zero_lays : (a n : ℕ) (s : Store) → wrapping.zero_range a n s ≡ wrapping.lay a n (λ _. 0) s
unfolding wrapping.zero_range
zero_lays a n s = refl

pub zeroes_one : (a b c d f : List Shape) (s u : State) (y : Number) (from length memory : Node) (size : ℕ) → Pops a b s u y
    → Worded b c W64 from (λ v. word W64 (number_in v y)) → Makes c d (Constant size W64) (Ok length)
    → Makes d f (ZeroRange u.memory.index from.index length.index) (Ok memory)
    → LaysOne a f size (λ _. 0) s (record u { memory = memory; operands = [] })
zeroes_one a b c d f s u y from length memory size h i j l = lays_one a b c f s u y from memory size (λ _. 0) h i laid where
  laid : Lays c f u.memory from memory size (λ _. 0)
  laid = record {
    grows = grows_on j.grows l.grows;
    term = l.node;
    is = λ e v m.
        ap (λ (w : Worth). w.store) (l.value.is e v m)
        ∙ ap (λ (w : Worth). wrapping.zero_range (v from.index).word w.word (v u.memory.index).store) (j.value.is e v (weaken l.grows m))
        ∙ zero_lays (v from.index).word size (v u.memory.index).store;
  }

-- ---- the object of a place

pub zeroes : (room object size : ℕ) (a b c : List Shape) (ss ts : List State) (w : Walked) → object < room → size ≤ 4294967296
    → WalksBy a b ss (leaf.Local object) w → LaysAll b c size (λ _. 0) w.going ts → Zeroes room object size a c ss ts
zeroes room object size a b c ss ts w inside small h i =
    let all : Way = λ e v q. going (leaf_way (leaf.Local object) e v q) >>= laying size (λ _. 0) e v in
    let goes = goes_where room a c ss ts all (by_arrow (λ e d. Some (with_store (stores.zero_range (start (e.base + object)) size d.store) d)))
    (λ e v m r q. same e.base q (low e.base object room r.places inside))
    (goes_then room a b c ss w.going ts (λ e v q. going (leaf_way (leaf.Local object) e v q)) (laying size (λ _. 0))
    (h.walks room inside).going (i.goes room)) in
    record { grows = goes.grows; states = goes.states; goes = goes }
  where
    low : (base object room : ℕ) → base + room ≤ 2 ^ 32 → object < room → base + object < 2 ^ 32
    low base object room h i = omega arith

    below : (p : ℕ) → p < 2 ^ 32 → start p < 2 ^ 64
    below p h = omega arith

    ends : (p : ℕ) → p < 2 ^ 32 → start p + size ≤ 2 ^ 64
    ends p h = omega (arith, h, small)

    same : (base : ℕ) (q : Held) → base + object < 2 ^ 32
        → Some (bare (with_store (wrapping.lay (word W64 (pos (start (base + object)))) size (λ _. 0) q.done.store) q.done))
        ≡ Some (bare (with_store (stores.zero_range (start (base + object)) size q.done.store) q.done))
    same base q h =
        ap (λ a. Some (bare (with_store (wrapping.lay a size (λ _. 0) q.done.store) q.done))) (word-pos W64 (start (base + object)) (below (base + object) h))
        ∙ ap (λ s. Some (bare (with_store s q.done))) (lay_store (start (base + object)) size (λ _. 0) q.done.store (ends (base + object) h))

-- ---- where an initializer asks for it

pub zeroes_true : (room object size : ℕ) (a b c : List Shape) (ss us ts : List State) (p : Sifted) → Sifts a ss p
    → Zeroes room object size a b p.running us → Goes room b c (p.others ++ us) ts stay → ZeroesIf room true object size a c ss ts
zeroes_true room object size a b c ss us ts p h i j =
    let zero : Environment → Arrow ℕ = λ e d. Some (with_store (stores.zero_range (start (e.base + object)) size d.store) d) in
    let goes = splits_close room a a b c ss p.others p.running us ts (by_arrow zero) (by_arrow (zeroed_arrow true object size))
    (splits_sift room a ss p zero h) i.goes j in
    record { grows = goes.grows; states = goes.states; goes = goes }

pub zeroes_false : (room object size : ℕ) (a : List Shape) (ss ts : List State) → Goes room a a ss ts (by_arrow (λ e d. Some d))
    → ZeroesIf room false object size a a ss ts
zeroes_false room object size a ss ts h =
    let goes = arrows_as room a a ss ts (λ e d. Some d) (zeroed_arrow false object size) (λ e d. sym (ended_so d.kind d)) h in
    record { grows = goes.grows; states = goes.states; goes = goes }

-- ---- a declaration

by_zero : (kind : Kind) (d z : Done ℕ) (s t : Option (Done ℕ)) (next : Arrow ℕ) → next z ≡ where_running kind s (Some z)
    → next d ≡ where_running kind t (Some d) → onward (where_running kind (Some z) (Some d)) next ≡ where_running kind s (Some d)
by_zero k.Running d z s t next h i = h
by_zero k.Breaking d z s t next h i = i
by_zero k.Continuing d z s t next h i = i
by_zero k.Returning d z s t next h i = i
by_zero (k.Going label) d z s t next h i = i
by_zero (k.Choosing value) d z s t next h i = i
by_zero k.Defaulting d z s t next h i = i
by_zero (k.Ended finish) d z s t next h i = i

same_kind : (b : Bool) (a n : ℕ) (d : Done ℕ) (s : Arrow ℕ) → running s (zeroed_if b a n d) ≡ where_running d.kind (s (zeroed_if b a n d)) (Some (zeroed_if b a n d))
same_kind true a n d s = refl
same_kind false a n d s = refl

module _ (x : Around) (frame : List Placed) (room object : ℕ) where
  pub walks_declared : (at size : ℕ) (is_zeroed : Bool) (all : List Setting) (a b c : List Shape) (ss zs : List State) (place first : ℕ)
      (y : Coded) → IsPlace frame room at object → first ≡ place + 1 → ZeroesIf room is_zeroed object size a b ss zs
      → WalksSettings x frame room object all b c zs first y → WalksItem x frame room (form.declared at size is_zeroed all) a c ss place y
  walks_declared at size is_zeroed all a b c ss zs place first y is one z h = record {
    grows = grows_on z.grows h.grows;
    states = h.states;
    after = counted (settings_room x.measures all) h.after;
    goes = arrows_as room a c ss y.states
        (λ e d. onward (zeroed_arrow is_zeroed object size e d) (settings_arrow x frame object all first e))
        (λ e. (form.declared at size is_zeroed all).run (level_at x e) (env_at frame e) (e.base + place)) same
        (arrows_then room a b c ss zs y.states (zeroed_arrow is_zeroed object size) (settings_arrow x frame object all first) z.goes h.goes);
  } where
    counted : (n : ℕ) → y.next ≡ first + n → y.next ≡ place + (1 + n)
    counted n k = omega (arith, k, one)

    plus : (base : ℕ) → base + first ≡ (base + place) + 1
    plus base = omega (arith, one)

    same : (e : Environment) (d : Done ℕ)
        → onward (zeroed_arrow is_zeroed object size e d) (settings_arrow x frame object all first e)
        ≡ (form.declared at size is_zeroed all).run (level_at x e) (env_at frame e) (e.base + place) d
    same e d =
        let sets : ℕ → ℕ → Arrow ℕ = λ p q. sets_all all (start p) (level_at x e) (env_at frame e) q in
        let p = e.base + object in
        ap (λ q. onward (zeroed_arrow is_zeroed object size e d) (running (sets p q))) (plus e.base)
        ∙ by_zero d.kind d (zeroed_if is_zeroed (start p) size d) (sets p ((e.base + place) + 1) (zeroed_if is_zeroed (start p) size d))
        (sets p ((e.base + place) + 1) d) (running (sets p ((e.base + place) + 1)))
        (same_kind is_zeroed (start p) size d (sets p ((e.base + place) + 1))) refl
        ∙ ap (λ n. running (λ d. sets n ((e.base + place) + 1) (zeroed_if is_zeroed (start n) size d)) d) (sym (is.is e))
