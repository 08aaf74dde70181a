-- A core without the functions that none of the others calls runs as the core does.
use Rattle.std.proofs.Common.{◌≡◌, ℕ, zero, suc, ◌+◌, ◌-◌, Bool, true, false, ◌&&◌, cond, List, [], ◌∷◌, length, map}
use Rattle.std.proofs.Common.{take}
use Rattle.std.proofs.Common.{Option, Some, None, refl, sym, ap, ap₂, ◌∙◌, arith}
use Rattle.std.specs.Prelude.{ℤ, nat_le, nat_lt, slice_get}
use Rattle.std.specs.List.{list_all}
use Rattle.c_store.specs.Store.{Store, initial}
use Rattle.c_means.specs.Parts.{World, Limits}
use Rattle.core_tree.specs.declared.program.Core.{Core}
use Rattle.core_tree.specs.declared.program.Function.{Function}
use Rattle.core_tree.specs.Callees.{body_call}
use Rattle.core_tree.specs.Codes.{in_turn, code}
use Rattle.core_tree.specs.Programs.{Machine, machine, maybe_body, body_of, body_size, body_room, by_body, turns_in}
use Rattle.core_tree.specs.Programs.{size_by, room_by, measures_of, level_of, calls_of, called_at, prepared, entry_room}
use Rattle.core_tree.specs.Programs.{given_arguments, main_arguments, behind, called_main, end_of, main_needs}
use Rattle.core_tree.specs.Programs.{nothing_left, maybe_ran, room_of, unrolled_size}
use Rattle.core_tree.specs.States.{Taking, plain, along, Done, Arrow, Measures, entered, onward, running}
use Rattle.core_prefix.specs.Calls.{code_below}
use Rattle.core_prefix.specs.Prefixes.{calls_below, is_closed, prefix, cut}
use Rattle.core_prefix.specs.Runs.{RunsAs}
use Rattle.core_prefix.proofs.CalleesAgree.{Levels, one, other}
use Rattle.core_prefix.proofs.CodesAgree.{Work, work, lasting, items_agree}
use Rattle.core_prefix.proofs.MarksBelow.{function_told}
use Rattle.core_prefix.proofs.ValuesAgree.{and_left, and_right}

-- ---- the first functions of a list

-- the function of a number, where there is one, calls functions below the bound alone
abbrev IsBelow : ℕ → Option Function → Type 0
IsBelow n None = Unit {0}
IsBelow n (Some f) = calls_below n f ≡ true

found_below : (n : ℕ) (fs : List Function) (g : ℕ) → list_all (calls_below n) fs ≡ true → IsBelow n (slice_get fs g)
found_below n [] g below = tt
found_below n (f ∷ fs) zero below = and_left (calls_below n f) (list_all (calls_below n) fs) below
found_below n (f ∷ fs) (suc g) below =
    found_below n fs g (and_right (calls_below n f) (list_all (calls_below n) fs) below)

nothing_below : (g : ℕ) → nat_lt g 0 ≡ true → ⊥
nothing_below g h = grind (arith, h)

pub kept : (fs : List Function) (n g : ℕ) → nat_lt g n ≡ true → slice_get (take n fs) g ≡ slice_get fs g
kept fs zero g h = absurd (nothing_below g h)
kept [] (suc n) g h = refl
kept (f ∷ fs) (suc n) zero h = refl
kept (f ∷ fs) (suc n) (suc g) h = kept fs n g (grind (arith, h))

-- ---- levels of calls

module _ {O : Type 0} where
  -- what calls unroll to and take with so many levels left
  sizes_at : Machine O → ℕ → ℕ → ℕ
  sizes_at m zero g = 0
  sizes_at m (suc k) g = size_by (measures_of m k) (m.body g)

  rooms_at : Machine O → ℕ → ℕ → ℕ
  rooms_at m zero g = 0
  rooms_at m (suc k) g = room_by (measures_of m k) (m.body g)

  abbrev measured : Machine O → ℕ → Function → Measures
  measured m k f = record { turns = turns_in m.limits f; size = sizes_at m k; room = rooms_at m k }

  measures_are : (m : Machine O) (k : ℕ) (f : Function) → measures_of m k f ≡ measured m k f
  unfolding measures_of sizes_at rooms_at
  measures_are m zero f = refl
  measures_are m (suc k) f = refl

module _ {O : Type 0} (n : ℕ) (p : Core) (bodies : list_all (calls_below n) (take n p.functions) ≡ true)
    (t : Taking O) (world : World) (limits : Limits) (depth : ℕ) where
  abbrev whole : Machine O
  whole = machine t p world limits depth

  abbrev short : Machine O
  short = machine t (prefix n p) world limits depth

  record Agrees (k : ℕ) : Type 0 where
    sizes : (g : ℕ) → nat_lt g n ≡ true → sizes_at whole k g ≡ sizes_at short k g
    rooms : (g : ℕ) → nat_lt g n ≡ true → rooms_at whole k g ≡ rooms_at short k g
    calls : (g : ℕ) → nat_lt g n ≡ true → (at : ℕ)
        → body_call (calls_of whole k) t at g ≡ body_call (calls_of short k) t at g

  module _ (k : ℕ) (a : Agrees k) where
    abbrev levels : Function → Levels O n
    levels f = record {
      turns = turns_in limits f;
      taking = t;
      world = world;
      limits = limits;
      size = sizes_at whole k;
      size_other = sizes_at short k;
      room = rooms_at whole k;
      room_other = rooms_at short k;
      call = calls_of whole k;
      call_other = calls_of short k;
      sizes = a.sizes;
      rooms = a.rooms;
      calls = a.calls;
    }

    works : (f : Function) → calls_below n f ≡ true
        → work (one (levels f)) (in_turn (map code f.items)) ≡ work (other (levels f)) (in_turn (map code f.items))
    works f below = items_agree (levels f) f.items (function_told n f ∙ below)

    size_agrees : (x : Option Function) → IsBelow n x
        → size_by {O = O} (measures_of whole k) (maybe_body x) ≡ size_by {O = O} (measures_of short k) (maybe_body x)
    size_agrees None below = refl
    size_agrees (Some f) below =
        ap (body_size (body_of f)) (measures_are whole k f)
        ∙ ap (λ (w : Work O). 1 + w.size) (works f below)
        ∙ ap (body_size (body_of f)) (sym (measures_are short k f))

    room_agrees : (x : Option Function) → IsBelow n x
        → room_by {O = O} (measures_of whole k) (maybe_body x) ≡ room_by {O = O} (measures_of short k) (maybe_body x)
    room_agrees None below = refl
    room_agrees (Some f) below =
        ap (body_room (body_of f)) (measures_are whole k f)
        ∙ ap (λ (w : Work O). length f.parameters + w.room) (works f below)
        ∙ ap (body_room (body_of f)) (sym (measures_are short k f))

    call_agrees : (x : Option Function) → IsBelow n x
        → called_at (level_of whole k) (maybe_body x) ≡ called_at (level_of short k) (maybe_body x)
    call_agrees None below = refl
    call_agrees (Some f) below =
        ap (λ (m : Measures). by_body (record (level_of whole k f) { measures = m }) (body_of f))
        (measures_are whole k f)
        ∙ ap (λ (w : Work O). by_body (one (levels f)) (record { function = f; item = lasting w })) (works f below)
        ∙ ap (λ (m : Measures). by_body (record (level_of short k f) { measures = m }) (body_of f))
        (sym (measures_are short k f))

    -- of a function below the bound, which both cores have
    same_body : (g : ℕ) → nat_lt g n ≡ true → whole.body g ≡ short.body g
    same_body g h = ap maybe_body (sym (kept p.functions n g h))

    is_below : (g : ℕ) → IsBelow n (slice_get (take n p.functions) g)
    is_below g = found_below n (take n p.functions) g bodies

    called_agrees : (g : ℕ) → nat_lt g n ≡ true
        → called_at (level_of whole k) (whole.body g) ≡ called_at (level_of short k) (short.body g)
    called_agrees g h =
        ap (called_at (level_of whole k)) (same_body g h)
        ∙ call_agrees (slice_get (take n p.functions) g) (is_below g)

    one_more : Agrees (suc k)
    unfolding sizes_at rooms_at calls_of
    one_more = record {
      sizes = λ g h. ap (size_by (measures_of whole k)) (same_body g h)
          ∙ size_agrees (slice_get (take n p.functions) g) (is_below g);
      rooms = λ g h. ap (room_by (measures_of whole k)) (same_body g h)
          ∙ room_agrees (slice_get (take n p.functions) g) (is_below g);
      calls = λ g h at. called_agrees g h;
    }

  agrees : (k : ℕ) → Agrees k
  unfolding sizes_at rooms_at calls_of
  agrees zero = record { sizes = λ g h. refl; rooms = λ g h. refl; calls = λ g h at. refl }
  agrees (suc k) = one_more k (agrees k)

  -- a function that calls others below the bound alone unrolls to as many nodes in both, and takes as many places
  pub function_size : (k : ℕ) (f : Function) → calls_below n f ≡ true
      → body_size {O = O} (body_of f) (measures_of whole k f) ≡ body_size {O = O} (body_of f) (measures_of short k f)
  function_size k f below = size_agrees k (agrees k) (Some f) below

  pub function_room : (k : ℕ) (f : Function) → calls_below n f ≡ true
      → body_room {O = O} (body_of f) (measures_of whole k f) ≡ body_room {O = O} (body_of f) (measures_of short k f)
  function_room k f below = room_agrees k (agrees k) (Some f) below

  -- ---- whole runs

  module _ (main : nat_lt p.main n ≡ true) where
    given_agrees : (b : Bool) → given_arguments b whole ≡ given_arguments b short
    given_agrees true = refl
    given_agrees false = refl

    called_main_agrees : called_main whole ≡ called_main short
    called_main_agrees =
        ap₂ (λ (give : ℕ → Done O → Done O) (f : List ℤ → ℕ → Store → O → Option (Done O)). λ (d : Done O).
        let q = suc p.places in
        let e = give q d in
        onward (f (main_arguments p.has_arguments world limits q) (q + entry_room p limits) e.store e.out)
        (λ r. Some (behind t e r)))
        (given_agrees p.has_arguments)
        (called_agrees (depth - 1) (agrees (depth - 1)) p.main main)

    pub end_agrees : (o : O) → end_of whole o ≡ end_of short o
    end_agrees o =
        ap (λ (f : Arrow O). onward (prepared whole (entered t (initial world.byte) o)) (running f)) called_main_agrees

    main_size : (x : Option Function) → IsBelow n x
        → main_needs body_size whole (maybe_body x) ≡ main_needs body_size short (maybe_body x)
    main_size None below = refl
    main_size (Some f) below = size_agrees (depth - 1) (agrees (depth - 1)) (Some f) below

    main_room : (x : Option Function) → IsBelow n x
        → main_needs body_room whole (maybe_body x) ≡ main_needs body_room short (maybe_body x)
    main_room None below = refl
    main_room (Some f) below = room_agrees (depth - 1) (agrees (depth - 1)) (Some f) below

    first_below : IsBelow n (slice_get (take n p.functions) p.main)
    first_below = is_below (depth - 1) (agrees (depth - 1)) p.main

    same_main : whole.body p.main ≡ short.body p.main
    same_main = same_body (depth - 1) (agrees (depth - 1)) p.main main

    pub size_is : unrolled_size whole ≡ unrolled_size short
    size_is = ap (main_needs body_size whole) same_main ∙ main_size (slice_get (take n p.functions) p.main) first_below

    pub room_is : room_of whole ≡ room_of short
    room_is =
        ap (λ m. p.places + (entry_room p limits + m)) (ap (main_needs body_room whole) same_main
        ∙ main_room (slice_get (take n p.functions) p.main) first_below)

-- ---- a core without its last functions

module _ (n : ℕ) (p : Core) (closed : is_closed n p ≡ true) where
  inner : (nat_lt p.main n && list_all (calls_below n) (take n p.functions)) ≡ true
  inner = and_right (nat_le n (length p.functions))
      (nat_lt p.main n && list_all (calls_below n) (take n p.functions)) closed

  main_below : nat_lt p.main n ≡ true
  main_below = and_left (nat_lt p.main n) (list_all (calls_below n) (take n p.functions)) inner

  bodies_below : list_all (calls_below n) (take n p.functions) ≡ true
  bodies_below = and_right (nat_lt p.main n) (list_all (calls_below n) (take n p.functions)) inner

  pub prefix_runs : RunsAs (prefix n p) p
  prefix_runs = record {
    run = λ w limits depth.
        ap maybe_ran (sym (end_agrees n p bodies_below plain w limits depth main_below nothing_left));
    along = λ log w limits depth. sym (end_agrees n p bodies_below (along log) w limits depth main_below 0);
    room = λ w limits depth. sym (room_is n p bodies_below plain w limits depth main_below);
    size = λ w limits depth. sym (size_is n p bodies_below plain w limits depth main_below);
  }

-- where the first functions need no other, these are left
pub cut_closed : (n : ℕ) (p : Core) → is_closed n p ≡ true → cut n p ≡ prefix n p
cut_closed n p closed = ap (λ b. record p { functions = cond b (take n p.functions) p.functions }) closed

pub cut_runs : (n : ℕ) (p : Core) → RunsAs (cut n p) p
cut_runs n p = by_closed (is_closed n p) refl where
  by_closed : (b : Bool) → is_closed n p ≡ b → RunsAs
      (record p { functions = cond b (take n p.functions) p.functions }) p
  by_closed true h = prefix_runs n p h
  by_closed false h = record {
    run = λ w limits depth. refl;
    along = λ log w limits depth. refl;
    room = λ w limits depth. refl;
    size = λ w limits depth. refl;
  }
