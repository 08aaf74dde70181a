-- A call of the core: its arguments, and its answer.
use Rattle.std.proofs.Common.{◌≡◌, ℕ, ◌+◌, ℤ, List, [], ◌∷◌, ◌++◌, Option, Result, Ok, Err, None, Some, refl, sym, ap, ap₂, ◌∙◌}
use Rattle.std.proofs.Common.{append_assoc, map}
use Rattle.std.proofs.lemmas.List.{append-nil}
use Rattle.c_store.specs.Store.{Store}
use Rattle.c_means.specs.declared.kind.Kind.{Kind}
use Rattle.c_means.specs.declared.kind.Kind.TheVariants as k
use Rattle.c_means.specs.Parts.{State, Env}
use Rattle.c_means.specs.Parts as c
use Rattle.c_machine.specs.declared.calls.Caller.{Caller}
use Rattle.c_machine.specs.declared.halt.Halt.{Halt}
use Rattle.c_machine.specs.declared.value.Value.{Value as Datum}
use Rattle.c_machine.specs.Callers.{state_in}
use Rattle.c_machine.specs.Worth.{worth}
use Rattle.c_machine.specs.States as machine
use Rattle.core_tree.specs.States.{Output, Done, Outcome, Level, ◌>>=◌, plain, found, entered, returned, returned_in}
use Rattle.core_tree.specs.Values.{Value, arguments}
use Rattle.elaborate.specs.Means.{as_done, as_found}
use Rattle.run_values.specs.Arguments.{values_behind}
use Rattle.run_values.specs.Steps.{Runs}
use Rattle.run_values.proofs.States.{carried}

-- ---- arguments

grouped :
    {A B C : Type 0} (o : Outcome Output A) (f : A × Done Output → Outcome Output B) (g : B × Done Output → Outcome Output C)
    → ((o >>= f) >>= g) ≡ (o >>= (λ x. f x >>= g))
grouped None f g = refl
grouped (Some (Ok x)) f g = refl
grouped (Some (Err d)) f g = refl

then_alike :
    {A B : Type 0} (o : Outcome Output A) (f g : A × Done Output → Outcome Output B) → ((x : A × Done Output) → f x ≡ g x)
    → (o >>= f) ≡ (o >>= g)
then_alike None f g same = refl
then_alike (Some (Ok x)) f g same = same x
then_alike (Some (Err d)) f g same = refl

-- behind the values that were found, those of the others
abbrev behind : List ℤ → List ℤ × Done Output → Outcome Output (List ℤ)
behind vs ws = found (vs ++ ws.0) ws.1

pub behind_is :
    (vs : List ℤ) (xs : List (Value Output)) (l : Level Output) (env : Env) (base : ℕ) (d : Done Output)
    → values_behind vs xs l env base d ≡ (arguments xs l env base d >>= behind vs)
behind_is vs [] l env base d = ap (λ ws. found ws d) (sym (append-nil vs))
behind_is vs (x ∷ xs) l env base d =
    then_alike (x.run l env base d) _ _ (λ v. behind_is (vs ++ v.0 ∷ []) xs l env (base + x.needs.room l.measures) v.1
    ∙ then_alike (arguments xs l env (base + x.needs.room l.measures) v.1) _ _ (λ ws. ap (λ all. found all ws.1)
    (append_assoc vs (v.0 ∷ []) ws.0))
    ∙ sym (grouped (arguments xs l env (base + x.needs.room l.measures) v.1) _ _))
    ∙ sym (grouped (x.run l env base d) _ _)

whole : (o : Outcome Output (List ℤ)) → (o >>= behind []) ≡ o
whole None = refl
whole (Some (Ok x)) = refl
whole (Some (Err d)) = refl

-- none were found before
pub arguments_are :
    (xs : List (Value Output)) (l : Level Output) (env : Env) (base : ℕ) (d : Done Output)
    → values_behind [] xs l env base d ≡ arguments xs l env base d
arguments_are xs l env base d = behind_is [] xs l env base d ∙ whole (arguments xs l env base d)

pub arguments_from :
    (none : List Datum) (xs : List (Value Output)) (l : Level Output) (env : Env) (base : ℕ) (d : Done Output)
    → none ≡ [] → values_behind (map worth none) xs l env base d ≡ arguments xs l env base d
arguments_from none xs l env base d is =
    ap (λ vs. values_behind (map worth vs) xs l env base d) is ∙ arguments_are xs l env base d

-- ---- what is called, and its answer

returned_by : (d r : State) (kind : Kind) →
    as_found (c.returned_in d r kind) ≡ returned_in plain (as_done d) (as_done r) kind
returned_by d r k.Running = refl
returned_by d r k.Breaking = refl
returned_by d r k.Continuing = refl
returned_by d r k.Returning = refl
returned_by d r (k.Going label) = refl
returned_by d r (k.Choosing value) = refl
returned_by d r k.Defaulting = refl
returned_by d r (k.Ended finish) = refl

returned_same : (d r : State) → as_found (c.returned d r) ≡ returned plain (as_done d) (Some (as_done r))
returned_same d r = returned_by d r r.kind

-- a function begins
pub begins : (before entry : State) → entry ≡ c.entered before.store before.count →
    as_done entry ≡ entered plain (as_done entry).store (as_done before).out
begins before entry is = rw is refl

-- a caller goes on behind what it called
pub acted :
    (caller : Caller) (before entry end behind : State) (d : Done Output) (f : Store → Output → Option (Done Output))
    (r : Result (Option ℤ) Halt)
    → as_done before ≡ d → entry ≡ c.entered before.store before.count
    → state_in caller before.store before.count ≡ before
    → f (as_done entry).store (as_done before).out ≡ Some (as_done end)
    → machine.Runs r behind (c.returned (state_in caller before.store before.count) end)
    → Runs r (as_done behind) (returned plain d (f d.store d.out))
acted caller before entry end behind d f r noted enters back does resumes =
    carried (λ x. x) r behind (c.returned (state_in caller before.store before.count) end)
    (returned plain d (f d.store d.out))
    (returned_same (state_in caller before.store before.count) end
    ∙ ap₂ (λ x y. returned plain (as_done x) y) back (sym (ap (λ s. f s.store (as_done before).out) (sym enters) ∙ does))
    ∙ ap (λ x. returned plain x (f x.store x.out)) noted) resumes
