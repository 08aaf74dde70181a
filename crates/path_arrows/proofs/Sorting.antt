-- Runs that are running, and the others.
use Rattle.std.proofs.Common.{◌≡◌, ℕ, List, [], ◌∷◌, ◌++◌, Bool, true, false, cond, Option, Some, None, refl, sym, ap, subst, ◌∙◌, append-nil}
use Rattle.c_means.specs.declared.kind.Kind.{Kind}
use Rattle.c_means.specs.declared.kind.Kind.TheVariants as k
use Rattle.core_tree.specs.States.{where_running}
use Rattle.term_bank.specs.declared.shape.Shape.{Shape}
use Rattle.term_bank.specs.Values.{Environment, Values, Models}
use Rattle.term_bank.proofs.BankLemmas.{stays}
use Rattle.path_states.specs.declared.kinds.StateKind.{StateKind}
use Rattle.path_states.specs.declared.kinds.StateKind.TheVariants.{Known, Exited}
use Rattle.path_states.specs.declared.state.State.{State}
use Rattle.path_states.specs.States.{Held, AreStates, IsState, IsSized, AllSized, kind_in, run_in, done_in, standing}
use Rattle.path_states.specs.Ways.{Way, Steps, Goes, to_list}
use Rattle.path_states.proofs.Growth.{states_joined}
use Rattle.path_states.proofs.Paths.{goes_none, goes_more}
use Rattle.path_steps.proofs.Trials.{nothing_so}
use Rattle.path_arrows.specs.declared.sifting.Sifted.{Sifted}
use Rattle.path_arrows.specs.Arrows.{bare, is_running, while_running, unless_running, without_operands, sorted, Sifts}

pub where_as : {A : Type 0} (v : Values) (kind : StateKind) (x y : A) → where_running (kind_in v kind) x y ≡ cond (is_running kind) x y
where_as v (Known k.Running) x y = refl
where_as v (Known k.Breaking) x y = refl
where_as v (Known k.Continuing) x y = refl
where_as v (Known k.Returning) x y = refl
where_as v (Known (k.Going label)) x y = refl
where_as v (Known (k.Choosing value)) x y = refl
where_as v (Known k.Defaulting) x y = refl
where_as v (Known (k.Ended finish)) x y = refl
where_as v (Exited status) x y = refl

while_sized : (kind : Kind) (h : Held) → IsSized h.done.store → AllSized (where_running kind (Some h) None)
while_sized k.Running h i = i
while_sized k.Breaking h i = tt
while_sized k.Continuing h i = tt
while_sized k.Returning h i = tt
while_sized (k.Going label) h i = tt
while_sized (k.Choosing value) h i = tt
while_sized k.Defaulting h i = tt
while_sized (k.Ended finish) h i = tt

unless_sized : (kind : Kind) (h : Held) → IsSized h.done.store → AllSized (where_running kind None (Some h))
unless_sized k.Running h i = tt
unless_sized k.Breaking h i = i
unless_sized k.Continuing h i = i
unless_sized k.Returning h i = i
unless_sized (k.Going label) h i = i
unless_sized (k.Choosing value) h i = i
unless_sized k.Defaulting h i = i
unless_sized (k.Ended finish) h i = i

-- ---- one state

chosen : {A : Type 0} (v : Values) (kind : StateKind) (c : Bool) (x y : A) → is_running kind ≡ c → where_running (kind_in v kind) x y ≡ cond c x y
chosen v kind c x y h = where_as v kind x y ∙ ap (λ b. cond b x y) h

module _ (room : ℕ) (a : List Shape) (s : State) where
  one_of : (ts : List State) (f : Way) (o : Values → Option Held) → AreStates a ts
      → ((v : Values) → standing v ts ≡ cond (v s.guard.index).truth (to_list (o v)) [])
      → ((e : Environment) (v : Values) → f e v (run_in v s) ≡ o v)
      → ((e : Environment) (v : Values) (h : Held) → IsSized h.done.store → AllSized (f e v h)) → Steps room a a s ts f
  one_of ts f o are says same sized = record {
    grows = stays;
    states = are;
    stands = λ e v m r d. says v ∙ ap (λ p. cond (v s.guard.index).truth (to_list p) []) (sym (same e v));
    sized = λ e v m r h d. sized e v h d;
  }

  runs : IsState a s → is_running s.kind ≡ true → Steps room a a s (s ∷ []) while_running
  runs is c =
      one_of (s ∷ []) while_running (λ v. Some (run_in v s)) (is, tt) (λ v. refl)
      (λ e v. chosen v s.kind true (Some (run_in v s)) None c) (λ e v h d. while_sized h.done.kind h d)

  not_run : is_running s.kind ≡ false → Steps room a a s [] while_running
  not_run c =
      one_of [] while_running (λ v. None) tt (λ v. nothing_so (v s.guard.index).truth)
      (λ e v. chosen v s.kind false (Some (run_in v s)) None c) (λ e v h d. while_sized h.done.kind h d)

  not_over : is_running s.kind ≡ true → Steps room a a s [] unless_running
  not_over c =
      one_of [] unless_running (λ v. None) tt (λ v. nothing_so (v s.guard.index).truth)
      (λ e v. chosen v s.kind true None (Some (bare (done_in v s))) c) (λ e v h d. unless_sized h.done.kind (bare h.done) d)

  over : IsState a s → is_running s.kind ≡ false → Steps room a a s (without_operands s ∷ []) unless_running
  over is c =
      one_of (without_operands s ∷ []) unless_running (λ v. Some (bare (done_in v s)))
      (record { guard = is.guard; kind = is.kind; memory = is.memory; value = is.value; events = is.events; operands = tt }, tt) (λ v. refl)
      (λ e v. chosen v s.kind false None (Some (bare (done_in v s))) c) (λ e v h d. unless_sized h.done.kind (bare h.done) d)

-- ---- of a list

nothing_more : (room : ℕ) (a : List Shape) (ss ts : List State) (s : State) (f : Way) → Goes room a a ss ts f → Steps room a a s [] f
    → Goes room a a (ss ++ s ∷ []) ts f
nothing_more room a ss ts s f h i =
    let P : List State → Type 0 = λ l. Goes room a a (ss ++ s ∷ []) l f in
    subst P (append-nil ts) (goes_more room a a a ss ts [] s f h i)

pub sifts_none : (a : List Shape) → Sifts a [] (record { running = []; others = [] })
sifts_none a = record {
  running_states = tt;
  other_states = tt;
  running = λ room. goes_none room a while_running (λ e v m r h d. while_sized h.done.kind h d);
  others = λ room. goes_none room a unless_running (λ e v m r h d. unless_sized h.done.kind (bare h.done) d);
}

pub sifts_more : (a : List Shape) (ss : List State) (s : State) (x : Sifted) → IsState a s → Sifts a ss x
    → Sifts a (ss ++ s ∷ []) (sorted (is_running s.kind) x s)
sifts_more a ss s x is h = by (is_running s.kind) refl
  where
    by : (c : Bool) → is_running s.kind ≡ c → Sifts a (ss ++ s ∷ []) (sorted c x s)
    by true c = record {
      running_states = states_joined a x.running (s ∷ []) h.running_states (is, tt);
      other_states = h.other_states;
      running = λ room. goes_more room a a a ss x.running (s ∷ []) s while_running (h.running room) (runs room a s is c);
      others = λ room. nothing_more room a ss x.others s unless_running (h.others room) (not_over room a s c);
    }
    by false c = record {
      running_states = h.running_states;
      other_states = states_joined a x.others (without_operands s ∷ []) h.other_states
          (record { guard = is.guard; kind = is.kind; memory = is.memory; value = is.value; events = is.events; operands = tt }, tt);
      running = λ room. nothing_more room a ss x.running s while_running (h.running room) (not_run room a s c);
      others = λ room. goes_more room a a a ss x.others (without_operands s ∷ []) s unless_running (h.others room) (over room a s is c);
    }
