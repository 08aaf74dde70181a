-- Statements as items of blocks: each meets no place but those of its room, those of the objects that it gives to its
-- block among them, and its block makes these.
use Rattle.std.proofs.Common.{◌≡◌, ◌≤◌, ℕ, suc, ◌+◌, ℤ, Bool, true, false, cond, List, [], ◌∷◌, ◌++◌, Ok, Err}
use Rattle.std.proofs.Common.{refl, arith}
use Rattle.plain_data.specs.declared.run.Happening.TheVariants as happening
use Rattle.plain_data.specs.declared.run.Side.TheVariants as side
use Rattle.c_language.specs.Integers.{is_zero}
use Rattle.c_language.specs.Scopes.{Scope}
use Rattle.c_means.specs.declared.kind.Kind.{Kind}
use Rattle.c_means.specs.declared.kind.Kind.TheVariants as k
use Rattle.c_store.specs.declared.object.ObjectKind.TheVariants.{Automatic}
use Rattle.c_store.specs.Store.{make, end}
use Rattle.c_means.specs.Parts.{State, Outcome, Env, Level, note, meet, with_store}
use Rattle.c_means.specs.Expressions.{on_branch}
use Rattle.c_means.specs.declared.breach.Breach.{Breach}
use Rattle.c_means.specs.Items.{Item, Made, Lasting, Code, Context, Acts, Arrow, born, dead, known, running}
use Rattle.c_means.specs.Items.{where_running}
use Rattle.c_means.specs.Items.{with_value, nothing, followed, with_breaches, node, guarded, closed, without_cases}
use Rattle.c_means.specs.Items.{in_turn, in_scope, sub, block_of, unchosen, opened}
use Rattle.c_places.specs.Places.{once}
use Rattle.c_places.proofs.Counts.{met, AddsTo, times-append}
use Rattle.c_places.proofs.Parts.{Calling}
use Rattle.c_places.proofs.Blind.{still}

-- ---- levels and weights

-- calls keep to their rooms, and the weight counts each place
pub record Counting (w : ℕ → ℕ) (p : ℕ) (l : Level) : Type 0 where
  pub calls : Calling w p l
  pub step : (q : ℕ) → w q + once p q ≤ w (suc q)

-- ---- objects

abbrev pub made : ℕ → List Made → ℕ
made p [] = 0
made p (m ∷ ms) = once p m.place + made p ms

pub made-append : (p : ℕ) (xs ys : List Made) → made p (xs ++ ys) ≡ made p xs + made p ys
made-append p [] ys = omega arith
made-append p (x ∷ xs) ys = let more = made-append p xs ys in omega (arith, more)

pub born_met : (p : ℕ) (ms : List Made) (d : State) → met p (born ms d) ≡ met p d + made p ms
born_met p [] d = omega arith
born_met p (m ∷ ms) d =
    let object = make m.place (record { kind = Automatic; size = m.size }) d.store in
    let more = born_met p ms (meet m.place (with_store object d)) in
    omega (arith, more, times-append p d.met (m.place ∷ []))

pub dead_met : (p : ℕ) (ms : List Made) (d : State) → met p (dead ms d) ≡ met p d
dead_met p [] d = refl
dead_met p (m ∷ ms) d = dead_met p ms (record d { store = end m.place d.store })

-- ---- arrows

abbrev pub Adds : ℕ → ℕ → ℕ → Arrow → Type 0
Adds p i j f = (d : State) → met p (f d) + i ≤ met p d + j

by_kind : (p n : ℕ) (kind : Kind) (a b : State) → met p a ≤ n → met p b ≤ n → met p (where_running kind a b) ≤ n
by_kind p n k.Running a b ha hb = ha
by_kind p n kind a b ha hb = hb

pub runs : (p i j : ℕ) (f : Arrow) (d : State) → met p (f d) + i ≤ met p d + j → i ≤ j →
    met p (running f d) + i ≤ met p d + j
runs p i j f d h rises = either d.kind
  where
    either : (kind : Kind) → met p (where_running kind (f d) d) + i ≤ met p d + j
    either k.Running = h
    either kind = omega (arith, rises)

pub with_value_adds : (p i j k before : ℕ) (o : Outcome ℤ) (f : ℤ → Arrow) → AddsTo p i j before o →
    ((v : ℤ) → Adds p j k (f v)) → j ≤ k → met p (with_value o f) + i ≤ before + k
with_value_adds p i j k before (Ok x) f ho hf rises = omega (arith, ho.holds, hf x.0 x.1)
with_value_adds p i j k before (Err d) f ho hf rises = omega (arith, ho.holds, rises)

pub on_branch_adds : (p i j at : ℕ) (z : ℤ) (f : Bool → Arrow) → ((b : Bool) → Adds p i j (f b)) →
    Adds p i j (on_branch at z f)
on_branch_adds p i j at z f h d = either (is_zero z)
  where
    either : (c : Bool) →
        met p (cond c (f false (note (happening.Branch at side.No) d)) (f true (note (happening.Branch at side.Yes) d)))
        + i ≤ met p d + j
    either true = h false (note (happening.Branch at side.No) d)
    either false = h true (note (happening.Branch at side.Yes) d)

-- ---- items

-- objects that live throughout the run are initialised without a place, where calls meet none
abbrev pub LastingKeep : List Lasting → Type 0
LastingKeep [] = Unit {0}
LastingKeep (x ∷ xs) =
    ((p : ℕ) (l : Level) → Calling (λ q. 0) p l → (d : State) → met p (x.set l d) ≤ met p d) × LastingKeep xs

pub lasting_append : (xs ys : List Lasting) → LastingKeep xs → LastingKeep ys → LastingKeep (xs ++ ys)
lasting_append [] ys hx hy = hy
lasting_append (x ∷ xs) ys hx hy = (hx.0, lasting_append xs ys hx.1 hy)

abbrev pub ActsWithin : (Level → ℕ) → Acts → Type 0
ActsWithin room run = (w : ℕ → ℕ) (p : ℕ) (l : Level) → Counting w p l → (env : Env) (base : ℕ) (d : State) →
    met p (run l env base d) + w base ≤ met p d + w (base + room l)

pub record ItemKeeps (x : Item) : Type 0 where
  pub acts : (w : ℕ → ℕ) (p : ℕ) (l : Level) → Counting w p l → (env : Env) (base : ℕ) (d : State) →
      met p (x.run l env base d) + made p (x.objects l base) + w base ≤ met p d + w (base + x.room l)
  pub lasting : LastingKeep x.lasting
  pub size : (l : Level) → x.size l ≡ x.size (still l)
  pub room : (l : Level) → x.room l ≡ x.room (still l)

abbrev pub NoObject : Item → Type 0
NoObject x = (p : ℕ) (l : Level) (base : ℕ) → made p (x.objects l base) ≡ 0

pub nothing_keeps : (s : Scope) → ItemKeeps (nothing s)
nothing_keeps s = record {
  acts = λ w p l c env base d. omega (arith, c.calls.rises.more base (base + 0) (omega arith));
  lasting = tt;
  size = λ l. refl;
  room = λ l. refl;
}

pub followed_keeps : (x y : Item) → ItemKeeps x → ItemKeeps y → ItemKeeps (followed x y)
followed_keeps x y hx hy = record {
  acts = λ w p l c env base d. omega (
    arith,
    hx.acts w p l c env base d,
    hy.acts w p l c env (base + x.room l) (x.run l env base d),
    made-append p (x.objects l base) (y.objects l (base + x.room l)),
    c.calls.rises.more (base + x.room l + y.room l) (base + (x.room l + y.room l)) (omega arith),
  );
  lasting = lasting_append x.lasting y.lasting hx.lasting hy.lasting;
  size = λ l. omega (arith, hx.size l, hy.size l);
  room = λ l. omega (arith, hx.room l, hy.room l);
}

pub closed_keeps : (x : Item) → ItemKeeps x → ItemKeeps (closed x)
closed_keeps x h = record {
  acts = λ w p l c env base d.
      let ms = x.objects l base in
      let d' = x.run l (known ms env) base (born ms d) in
      omega (arith, h.acts w p l c (known ms env) base (born ms d), born_met p ms d, dead_met p ms d');
  lasting = h.lasting;
  size = h.size;
  room = h.room;
}

pub guarded_keeps : (x : Item) → NoObject x → ItemKeeps x → ItemKeeps (guarded x)
guarded_keeps x none h = record {
  acts = λ w p l c env base d.
      let up = c.calls.rises.more base (base + x.room l) (omega arith) in
      omega (
        arith,
        none p l base,
        runs p (w base) (w (base + x.room l)) (x.run l env base) d
            (omega (arith, none p l base, h.acts w p l c env base d)) up,
      );
  lasting = h.lasting;
  size = h.size;
  room = h.room;
}

pub breaches_keep : (bs : List Breach) (x : Item) → ItemKeeps x → ItemKeeps (with_breaches bs x)
breaches_keep bs x h = record { acts = h.acts; lasting = h.lasting; size = h.size; room = h.room }

pub node_keeps : (x : Item) → ItemKeeps x → ItemKeeps (node x)
node_keeps x h = record {
  acts = h.acts;
  lasting = h.lasting;
  size = λ l. omega (arith, h.size l);
  room = h.room;
}

pub without_cases_keep : (x : Item) → ItemKeeps x → ItemKeeps (without_cases x)
without_cases_keep x h = record { acts = h.acts; lasting = h.lasting; size = h.size; room = h.room }

-- ---- statements

pub record CodeKeeps (x : Code) : Type 0 where
  pub here : (c : Context) → ItemKeeps (x.here c)
  pub content : (c : Context) → ItemKeeps (x.content c)

pub block_keeps : (x : Code) (c : Context) → CodeKeeps x → ItemKeeps (block_of x c)
block_keeps x c h = closed_keeps (x.content (opened x.own c)) (h.content (opened x.own c))

pub sub_keeps : (x : Code) (c : Context) → CodeKeeps x → ItemKeeps (sub x c)
sub_keeps x c h =
    without_cases_keep (guarded (block_of x (unchosen c)))
    (guarded_keeps (block_of x (unchosen c)) (λ p l base. refl) (block_keeps x (unchosen c) h))

abbrev pub EachCode : List Code → Type 0
EachCode [] = Unit {0}
EachCode (x ∷ xs) = CodeKeeps x × EachCode xs

pub in_turn_keeps : (xs : List Code) (c : Context) → EachCode xs → ItemKeeps (in_turn xs c)
in_turn_keeps [] c h = nothing_keeps c.scope
in_turn_keeps (x ∷ xs) c h =
    followed_keeps (x.here c) (in_turn xs (in_scope (x.here c).after c)) (h.0.here c)
    (in_turn_keeps xs (in_scope (x.here c).after c) h.1)
