-- The room and the size of a program are the same in every world.
use Rattle.std.proofs.Common.{◌≡◌, ℕ, zero, suc, ◌+◌, ◌-◌, [], Option, Some, None, refl, sym, ap, ◌∙◌, length}
use Rattle.std.proofs.Math.Path.{fun_ext}
use Rattle.c_language.specs.Scopes.{Name}
use Rattle.c_means.specs.Parts.{World, Level, Site, entered}
use Rattle.c_means.specs.Rules.{Rules, LogCall, IdentityCall, BodyCall, LibraryCall, PreludeCall, OutsideCall}
use Rattle.c_means.specs.Programs.{Function, functions_of, main'}
use Rattle.c_means.specs.Runs.{Machine, Below, level, level_of, size_below, room_below, size_by, room_by, rule_of, body_room}
use Rattle.c_means.specs.Runs.{entry_room, main_room, main_size, main_of, room_of, unrolled_size, offsets_of}
use Rattle.c_places.proofs.Blind.{still}
use Rattle.c_places.proofs.Levels.{FunctionKeeps, MaybeFunction, MachineKeeps, RuleKeeps, rule_is_kept, named_keeps}

abbrev pub in_world : World → Machine → Machine
in_world w m = record m { world = w }

abbrev Alike : Below → Below → Type 0
Alike None None = Unit {0}
Alike (Some a) (Some b) = (f : Function) (turns : ℕ) → still (a f turns) ≡ still (b f turns)
Alike None (Some b) = ⊥
Alike (Some a) None = ⊥

size_same : (f : Function) → FunctionKeeps f → (l k : Level) → still l ≡ still k → f.body.size l ≡ f.body.size k
size_same f h l k e = h.size l ∙ ap f.body.size e ∙ sym (h.size k)

room_same : (f : Function) → FunctionKeeps f → (l k : Level) → still l ≡ still k → body_room f l ≡ body_room f k
room_same f h l k e = ap (λ n. length f.parameters + n) (h.room l ∙ ap f.body.room e ∙ sym (h.room k))

size_below_same : (a b : Below) → Alike a b → (f : Function) → FunctionKeeps f → (turns : ℕ) →
    size_below a f turns ≡ size_below b f turns
size_below_same None None e f h turns = refl
size_below_same (Some a) (Some b) e f h turns = size_same f h (a f turns) (b f turns) (e f turns)
size_below_same None (Some b) e f h turns = absurd e
size_below_same (Some a) None e f h turns = absurd e

room_below_same : (a b : Below) → Alike a b → (f : Function) → FunctionKeeps f → (turns : ℕ) →
    room_below a f turns ≡ room_below b f turns
room_below_same None None e f h turns = refl
room_below_same (Some a) (Some b) e f h turns = room_same f h (a f turns) (b f turns) (e f turns)
room_below_same None (Some b) e f h turns = absurd e
room_below_same (Some a) None e f h turns = absurd e

size_by_same : (m : Machine) (w : World) (a b : Below) → Alike a b → (rule : Rules Function) → RuleKeeps rule →
    size_by m a rule ≡ size_by (in_world w m) b rule
size_by_same m w a b e (LogCall text) h = refl
size_by_same m w a b e (IdentityCall i) h = refl
size_by_same m w a b e (BodyCall f) h = size_below_same a b e f h m.limits.turns
size_by_same m w a b e (LibraryCall f) h = refl
size_by_same m w a b e (PreludeCall f) h = size_below_same a b e f h m.limits.texts
size_by_same m w a b e OutsideCall h = refl

room_by_same : (m : Machine) (w : World) (a b : Below) → Alike a b → (g : Site) (rule : Rules Function) →
    RuleKeeps rule → room_by m a g rule ≡ room_by (in_world w m) b g rule
room_by_same m w a b e g (LogCall text) h = refl
room_by_same m w a b e g (IdentityCall i) h = refl
room_by_same m w a b e g (BodyCall f) h = room_below_same a b e f h m.limits.turns
room_by_same m w a b e g (LibraryCall f) h = refl
room_by_same m w a b e g (PreludeCall f) h = room_below_same a b e f h m.limits.texts
room_by_same m w a b e g OutsideCall h = refl

-- ---- levels

-- by what is left of it
abbrev needing : ℕ → (Name → Option ℕ) → (Site → ℕ) → (Site → ℕ) → Level
needing turns identity size room = record {
  world = record { word = λ p. 0; byte = λ a. 0 };
  limits = record { turns = 0; heap = 0; outside = 0; texts = 0; arguments = 0 };
  turns = turns;
  static = λ at. 0;
  identity = identity;
  size = size;
  room = room;
  marks = λ g. [];
  call = λ g env vs base s count. entered s count;
}

level_same : (m : Machine) (w : World) → MachineKeeps m → (a b : Below) → Alike a b → (f : Function) (turns : ℕ) →
    still (level m a f turns) ≡ still (level (in_world w m) b f turns)
level_same m w h a b e f turns =
    let l = level m a f turns in
    let k = level (in_world w m) b f turns in
    ap (λ size. needing turns l.identity size l.room)
    (fun_ext (λ g. size_by_same m w a b e (rule_of m g) (rule_is_kept m h g)))
    ∙ ap (needing turns l.identity k.size)
    (fun_ext (λ g. room_by_same m w a b e g (rule_of m g) (rule_is_kept m h g)))

level_of_same : (m : Machine) (w : World) → MachineKeeps m → (n : ℕ) (f : Function) (turns : ℕ) →
    still (level_of m n f turns) ≡ still (level_of (in_world w m) n f turns)
unfolding level_of
level_of_same m w h zero f turns = level_same m w h None None tt f turns
level_of_same m w h (suc n) f turns =
    level_same m w h (Some (level_of m n)) (Some (level_of (in_world w m) n)) (level_of_same m w h n) f turns

-- ---- programs

main_room_same : (m : Machine) (w : World) → MachineKeeps m → (f : Option Function) → MaybeFunction f →
    main_room m f ≡ main_room (in_world w m) f
main_room_same m w h None hf = refl
main_room_same m w h (Some f) hf =
    ap (λ n. entry_room m f.parameters + n)
    (room_same f hf (level_of m (m.depth - 1) f m.limits.turns)
    (level_of (in_world w m) (m.depth - 1) f m.limits.turns) (level_of_same m w h (m.depth - 1) f m.limits.turns))

main_size_same : (m : Machine) (w : World) → MachineKeeps m → (f : Option Function) → MaybeFunction f →
    main_size m f ≡ main_size (in_world w m) f
main_size_same m w h None hf = refl
main_size_same m w h (Some f) hf =
    size_same f hf (level_of m (m.depth - 1) f m.limits.turns)
    (level_of (in_world w m) (m.depth - 1) f m.limits.turns) (level_of_same m w h (m.depth - 1) f m.limits.turns)

pub room_in_world : (m : Machine) (w : World) → MachineKeeps m → room_of m ≡ room_of (in_world w m)
room_in_world m w h =
    ap (λ n. length (offsets_of m.program) + n)
    (main_room_same m w h (main_of m) (named_keeps (functions_of m.program) main' h.functions))

pub size_in_world : (m : Machine) (w : World) → MachineKeeps m → unrolled_size m ≡ unrolled_size (in_world w m)
size_in_world m w h =
    main_size_same m w h (main_of m) (named_keeps (functions_of m.program) main' h.functions)
