-- Calls keep to their rooms, whatever depth is left.
use Rattle.std.proofs.Common.{◌≡◌, ◌≤◌, ℕ, zero, suc, ◌+◌, ℤ, Bool, true, false, cond, List, [], ◌∷◌, Option, Some}
use Rattle.std.proofs.Common.{None}
use Rattle.std.proofs.Common.{refl, arith, length}
use Rattle.std.specs.Str.{bytes_eq}
use Rattle.c_language.specs.declared.tables.Tables.{Tables}
use Rattle.c_store.specs.Store.{Store, start}
use Rattle.c_language.specs.declared.scope.Entry.{Entry}
use Rattle.c_language.specs.Scopes.{Name, Scope}
use Rattle.c_means.specs.Parts.{State, Env, Level, Site, entered}
use Rattle.c_means.specs.Items.{born, known, lived}
use Rattle.c_means.specs.Statements.{no_env}
use Rattle.c_means.specs.Rules.{Rules, LogCall, IdentityCall, BodyCall, LibraryCall, PreludeCall, OutsideCall, Library}
use Rattle.c_means.specs.Rules.{Taking, rule_by, identity_or, body_or, library_or, prelude_or_outside, log_of}
use Rattle.c_means.specs.Rules.{identity_index, library_of, callee_taking, same_taking, declared_taking, fill_of}
use Rattle.c_means.specs.declared.profile.LogFunction.{LogFunction}
use Rattle.c_means.specs.Programs.{Function, functions_of, function_named, watched_lasting}
use Rattle.c_means.specs.Runs.{Machine, Below, bare, level, level_of, frame, passes, passes_as, by_body}
use Rattle.c_means.specs.Runs.{body_room, call_below, room_below, room_by, call_by, rule_of, prelude_if}
use Rattle.c_means.specs.Runs.{prelude_of, is_never_null}
use Rattle.c_places.proofs.Counts.{met}
use Rattle.c_places.proofs.Items.{Counting, ItemKeeps, made, born_met, dead_met, closed_keeps}
use Rattle.c_places.proofs.Calls.{Counts, log_within, library_within, outside_within}

-- ---- functions

abbrev pub FunctionKeeps : Function → Type 0
FunctionKeeps f = ItemKeeps f.body

abbrev pub EachFunction : List Function → Type 0
EachFunction [] = Unit {0}
EachFunction (f ∷ fs) = FunctionKeeps f × EachFunction fs

abbrev pub MaybeFunction : Option Function → Type 0
MaybeFunction None = Unit {0}
MaybeFunction (Some f) = FunctionKeeps f

pub named_keeps : (fs : List Function) (name : Name) → EachFunction fs → MaybeFunction (function_named fs name)
named_keeps [] name h = tt
named_keeps (f ∷ fs) name h = found (bytes_eq f.name name) (named_keeps fs name h.1)
  where
    found : (b : Bool) → MaybeFunction (function_named fs name) → MaybeFunction (cond b (Some f)
        (function_named fs name))
    found true more = h.0
    found false more = more

-- ---- a body

frame_made : (w : ℕ → ℕ) (p : ℕ) → Counts w p → (s : Scope) (base : ℕ) (es : List Entry) →
    made p (frame s base es) + w base ≤ w (base + length es)
frame_made w p c s base [] = omega (arith, c.rises.more base (base + 0) (omega arith))
frame_made w p c s base (e ∷ es) =
    omega (
      arith,
      frame_made w p c s (suc base) es,
      c.step base,
      c.rises.more (suc base + length es) (base + suc (length es)) (omega arith),
    )

passes_met : (p : ℕ) (tables : Tables) (base : ℕ) (es : List Entry) (vs : List ℤ) (d : State) →
    met p (passes tables base es vs d) ≡ met p d
passes_met p tables base [] vs d = refl
passes_met p tables base (e ∷ es) [] d = refl
passes_met p tables base (e ∷ es) (v ∷ vs) d =
    passes_met p tables (suc base) es vs (passes_as tables e.means (start base) v d)

counts_of : (w : ℕ → ℕ) (p : ℕ) (l : Level) → Counting w p l → Counts w p
counts_of w p l c = record { rises = c.calls.rises; step = c.step }

pub body_within : (w : ℕ → ℕ) (p : ℕ) (l : Level) → Counting w p l → (f : Function) → FunctionKeeps f →
    (vs : List ℤ) (base : ℕ) (s : Store) (count : ℕ) →
    met p (by_body l f vs base s count) + w base ≤ w (base + body_room f l)
body_within w p l c f h vs base s count =
    let ms = frame f.inside base f.parameters in
    let n = length f.parameters in
    let first = born ms (entered s count) in
    let d = passes f.inside.tables base f.parameters vs first in
    let env = known ms no_env in
    omega (
      arith,
      dead_met p ms (lived f.body l env (base + n) d),
      (closed_keeps f.body h).acts w p l c env (base + n) d,
      passes_met p f.inside.tables base f.parameters vs first,
      born_met p ms (entered s count),
      frame_made w p (counts_of w p l c) f.inside base f.parameters,
      c.calls.rises.more (base + n + f.body.room l) (base + (n + f.body.room l)) (omega arith),
    )

-- ---- the rule of a call

abbrev pub RuleKeeps : Rules Function → Type 0
RuleKeeps (LogCall text) = Unit {0}
RuleKeeps (IdentityCall i) = Unit {0}
RuleKeeps (BodyCall f) = FunctionKeeps f
RuleKeeps (LibraryCall f) = Unit {0}
RuleKeeps (PreludeCall f) = FunctionKeeps f
RuleKeeps OutsideCall = Unit {0}

prelude_rule : (f : Option Function) → MaybeFunction f → RuleKeeps (prelude_or_outside f)
prelude_rule None h = tt
prelude_rule (Some f) h = h

library_rule : (x : Option Library) (f : Option Function) → MaybeFunction f → RuleKeeps (library_or x f)
library_rule None f h = prelude_rule f h
library_rule (Some x) f h = tt

body_rule : (b : Option Function) (x : Option Library) (f : Option Function) → MaybeFunction b → MaybeFunction f →
    RuleKeeps (body_or b x f)
body_rule None x f hb h = library_rule x f h
body_rule (Some b) x f hb h = hb

identity_rule : (i : Option ℕ) (b : Option Function) (x : Option Library) (f : Option Function) → MaybeFunction b →
    MaybeFunction f → RuleKeeps (identity_or i b x f)
identity_rule None b x f hb h = body_rule b x f hb h
identity_rule (Some i) b x f hb h = tt

rule_keeps : (g : Option LogFunction) (i : Option ℕ) (b : Option Function) (x : Option Library) (f : Option Function) →
    MaybeFunction b → MaybeFunction f → RuleKeeps (rule_by g i b x f)
rule_keeps None i b x f hb h = identity_rule i b x f hb h
rule_keeps (Some g) i b x f hb h = tt

prelude_keeps : (t : Option Taking) (f : Option Function) → MaybeFunction f → MaybeFunction (prelude_if t f)
prelude_keeps t None h = tt
prelude_keeps t (Some f) h = by_type (same_taking t (declared_taking f.inside.tables f.means))
  where
    by_type : (b : Bool) → MaybeFunction (cond b (Some f) None)
    by_type true = h
    by_type false = tt

-- ---- levels

pub record MachineKeeps (m : Machine) : Type 0 where
  pub functions : EachFunction (functions_of m.program)
  pub prelude : EachFunction m.prelude

abbrev BelowKeeps : (ℕ → ℕ) → ℕ → Below → Type 0
BelowKeeps w p None = Unit {0}
BelowKeeps w p (Some level) = (f : Function) (turns : ℕ) → Counting w p (level f turns)

below_within : (w : ℕ → ℕ) (p : ℕ) → Counts w p → (below : Below) → BelowKeeps w p below → (f : Function) →
    FunctionKeeps f → (turns : ℕ) (g : Site) (vs : List ℤ) (base : ℕ) (s : Store) (count : ℕ) →
    met p (call_below below f turns g vs base s count) + w base ≤ w (base + room_below below f turns)
below_within w p c None hb f hf turns g vs base s count = omega (arith, c.rises.more base (base + 0) (omega arith))
below_within w p c (Some level) hb f hf turns g vs base s count =
    body_within w p (level f turns) (hb f turns) f hf vs base s count

call_within : (w : ℕ → ℕ) (p : ℕ) → Counts w p → (m : Machine) (caller : Function) (turns : ℕ) (below : Below) →
    BelowKeeps w p below → (rule : Rules Function) → RuleKeeps rule →
    (g : Site) (env : Env) (vs : List ℤ) (base : ℕ) (s : Store) (count : ℕ) →
    met p (call_by m caller turns below rule g env vs base s count) + w base ≤ w (base + room_by m below g rule)
call_within w p c m caller turns below hb (LogCall text) hr g env vs base s count =
    omega (
      arith,
      log_within w p c (bare m turns) (watched_lasting m.program.scope caller) text g env vs base
          (entered s count),
    )
call_within w p c m caller turns below hb (IdentityCall i) hr g env vs base s count =
    omega (arith, c.rises.more base (base + 4) (omega arith))
call_within w p c m caller turns below hb (BodyCall f) hr g env vs base s count =
    below_within w p c below hb f hr m.limits.turns g vs base s count
call_within w p c m caller turns below hb (LibraryCall f) hr g env vs base s count =
    omega (arith, library_within w p c (bare m turns) f g vs base (entered s count))
call_within w p c m caller turns below hb (PreludeCall f) hr g env vs base s count =
    below_within w p c below hb f hr m.limits.texts g vs base s count
call_within w p c m caller turns below hb OutsideCall hr g env vs base s count =
    omega (
      arith,
      outside_within w p c (bare m turns) (fill_of m.profile g.callee.name) (is_never_null m g) g vs base
          (entered s count),
    )

pub rule_is_kept : (m : Machine) → MachineKeeps m → (g : Site) → RuleKeeps (rule_of m g)
rule_is_kept m hm g =
    let name = g.callee.name in
    rule_keeps (log_of m.profile name) (identity_index m.profile name) (function_named (functions_of m.program) name)
    (library_of g) (prelude_of m (callee_taking g) name) (named_keeps (functions_of m.program) name hm.functions)
    (prelude_keeps (callee_taking g) (function_named m.prelude name) (named_keeps m.prelude name hm.prelude))

level_keeps : (w : ℕ → ℕ) (p : ℕ) → Counts w p → (m : Machine) → MachineKeeps m → (below : Below) →
    BelowKeeps w p below → (f : Function) (turns : ℕ) → Counting w p (level m below f turns)
level_keeps w p c m hm below hb f turns = record {
  calls = record {
    rises = c.rises;
    call = λ g env vs base s count. call_within w p c m f turns below hb (rule_of m g) (rule_is_kept m hm g) g env vs base s count;
  };
  step = c.step;
}

-- whatever depth is left, calls keep to their rooms
pub level_of_keeps : (w : ℕ → ℕ) (p : ℕ) → Counts w p → (m : Machine) → MachineKeeps m → (n : ℕ) (f : Function)
    (turns : ℕ) → Counting w p (level_of m n f turns)
unfolding level_of
level_of_keeps w p c m hm zero f turns = level_keeps w p c m hm None tt f turns
level_of_keeps w p c m hm (suc n) f turns =
    level_keeps w p c m hm (Some (level_of m n)) (λ f turns. level_of_keeps w p c m hm n f turns) f turns
