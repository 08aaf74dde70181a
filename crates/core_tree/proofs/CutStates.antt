-- A run along a log is the run that prints, cut where it leaves the log: what that is to say of states, and how it goes
-- through composition.
use Rattle.std.proofs.Common.{◌≡◌, ℕ, ◌+◌, ℤ, List, [], ◌∷◌, ◌++◌, length, drop, Bool, true, false, cond, Option}
use Rattle.std.proofs.Common.{Some, None, Ok, Err, refl, sym, ap, ◌∙◌, subst, ◌&&◌, nat_eq}
use Rattle.std.proofs.lemmas.List.{drop-drop}
use Rattle.std.specs.List.{starts_with}
use Rattle.plain_data.specs.declared.run.Undefined.{Undefined}
use Rattle.c_language.specs.Operators.{Answer}
use Rattle.c_means.specs.declared.kind.Kind.{Kind}
use Rattle.c_means.specs.declared.kind.Kind.TheVariants as k
use Rattle.core_tree.specs.States.{Output, follows, Done, Outcome, ◌>>=◌, found, stop, or_stop, Arrow, onward}
use Rattle.core_tree.specs.States.{with_value, with_store, running, where_running}
use Rattle.c_store.specs.Store.{Store}

-- ---- texts

unfoldable pub prefix : List ℕ → List ℕ → Bool
prefix [] log = true
prefix (x ∷ xs) [] = false
prefix (x ∷ xs) (y ∷ ys) = nat_eq x y && prefix xs ys

pub starts_prefix : (log text : List ℕ) → starts_with nat_eq log text ≡ prefix text log
unfolding prefix
starts_prefix log [] = refl
starts_prefix [] (x ∷ xs) = refl
starts_prefix (y ∷ ys) (x ∷ xs) = ap (λ b. nat_eq x y && b) (starts_prefix ys xs)

prefix_joined : (out text log : List ℕ) → prefix (out ++ text) log ≡ cond (prefix out log)
    (prefix text (drop (length out) log)) false
unfolding prefix
prefix_joined [] text log = refl
prefix_joined (x ∷ xs) text [] = refl
prefix_joined (x ∷ xs) text (y ∷ ys) = elim (nat_eq x y) as (λ b. (b && prefix (xs ++ text) ys) ≡ cond
    (b && prefix xs ys) (prefix text (drop (length xs) ys)) false) [
      | true ↦ prefix_joined xs text ys
      | false ↦ refl
    ]

-- two texts one behind the other stand in a log where the first stands there, and the second behind it
pub follows_joined : (log : List ℕ) (j : ℕ) (out text : List ℕ) →
    follows log j (out ++ text) ≡ cond (follows log j out) (follows log (j + length out) text) false
follows_joined log j out text =
    starts_prefix (drop j log) (out ++ text) ∙ prefix_joined out text (drop j log)
    ∙ ap (λ b. cond b (prefix text (drop (length out) (drop j log))) false) (sym (starts_prefix (drop j log) out))
    ∙ ap (λ l. cond (follows log j out) (prefix text l) false) (drop-drop (length out) j log)
    ∙ ap (λ b. cond (follows log j out) b false) (sym (starts_prefix (drop (j + length out) log) text))

module _ (log : List ℕ) where
  -- ---- states

  -- what a run along the log knows of a state: not what was printed, but how much
  abbrev pub seen_as : Done Output → Done ℕ
  seen_as d = record { kind = d.kind; value = d.value; store = d.store; events = d.events; out = d.out.count }

  -- the function that runs began behind so many bytes
  abbrev pub Counted : ℕ → Output → Type 0
  Counted j o = o.count ≡ j + length o.printed

  -- what has been printed since stands in the log there
  abbrev pub where_on : {A : Type 0} → ℕ → Output → Option A → Option A
  where_on j o r = cond (follows log j o.printed) r None

  abbrev pub CutsValue : {A : Type 0} → ℕ → Outcome Output A → Outcome ℕ A → Type 0
  CutsValue j None r = r ≡ None
  CutsValue j (Some (Ok x)) r = Counted j x.1.out × (r ≡ where_on j x.1.out (found x.0 (seen_as x.1)))
  CutsValue j (Some (Err d)) r = Counted j d.out × (r ≡ where_on j d.out (Some (Err (seen_as d))))

  abbrev pub CutsState : ℕ → Option (Done Output) → Option (Done ℕ) → Type 0
  CutsState j None r = r ≡ None
  CutsState j (Some d) r = Counted j d.out × (r ≡ where_on j d.out (Some (seen_as d)))

  -- to run and be cut is to be cut and run along the log
  pub record Runs {A : Type 0} (f : Done Output → Outcome Output A) (g : Done ℕ → Outcome ℕ A) : Type 0 where
    pub cuts : (j : ℕ) (d : Done Output) → Counted j d.out → CutsValue j (f d) (where_on j d.out (g (seen_as d)))

  pub record Goes (f : Arrow Output) (g : Arrow ℕ) : Type 0 where
    pub cuts : (j : ℕ) (d : Done Output) → Counted j d.out → CutsState j (f d) (where_on j d.out (g (seen_as d)))

  -- ---- one behind the other

  bind_where : {A B : Type 0} (b : Bool) (r : Outcome ℕ A) (g : A × Done ℕ → Outcome ℕ B) → (cond b r None >>= g) ≡
      cond b (r >>= g) None
  bind_where true r g = refl
  bind_where false r g = refl

  bind_cut : {A B : Type 0} (j : ℕ) (b : Bool) (o : Outcome Output A) (r : Outcome ℕ A)
      (f : A × Done Output → Outcome Output B) (g : A × Done ℕ → Outcome ℕ B)
      → CutsValue j o (cond b r None)
      → ((x : A) → Runs (λ d. f (x, d)) (λ d. g (x, d)))
      → CutsValue j (o >>= f) (cond b (r >>= g) None)
  bind_cut j b None r f g e h = sym (bind_where b r g) ∙ ap (λ o. o >>= g) e
  bind_cut j b (Some (Ok x)) r f g p h =
      subst (λ q. CutsValue j (f x) q)
      (sym (sym (bind_where b r g) ∙ ap (λ o. o >>= g) p.1 ∙ bind_where (follows log j x.1.out.printed)
      (found x.0 (seen_as x.1)) g))
      ((h x.0).cuts j x.1 p.0)
  bind_cut j b (Some (Err d)) r f g p h = (
    p.0,
    sym (bind_where b r g) ∙ ap (λ o. o >>= g) p.1 ∙ bind_where (follows log j d.out.printed)
        (Some (Err (seen_as d))) g,
  )

  pub runs_bind : {A B : Type 0} {f : Done Output → Outcome Output A} {g : Done ℕ → Outcome ℕ A}
      (f' : A × Done Output → Outcome Output B) (g' : A × Done ℕ → Outcome ℕ B)
      → Runs f g → ((x : A) → Runs (λ d. f' (x, d)) (λ d. g' (x, d))) → Runs (λ d. f d >>= f') (λ d. g d >>= g')
  runs_bind {f = f} {g = g} f' g' h i = record {
    cuts = λ j d c. bind_cut j (follows log j d.out.printed) (f d) (g (seen_as d)) f' g' (h.cuts j d c) i;
  }

  with_where : (b : Bool) (r : Outcome ℕ ℤ) (g : ℤ → Arrow ℕ) → with_value (cond b r None) g ≡ cond b
      (with_value r g) None
  with_where true r g = refl
  with_where false r g = refl

  with_cut : (j : ℕ) (b : Bool) (o : Outcome Output ℤ) (r : Outcome ℕ ℤ) (f : ℤ → Arrow Output) (g : ℤ → Arrow ℕ)
      → CutsValue j o (cond b r None) → ((z : ℤ) → Goes (f z) (g z))
      → CutsState j (with_value o f) (cond b (with_value r g) None)
  with_cut j b None r f g e h = sym (with_where b r g) ∙ ap (λ o. with_value o g) e
  with_cut j b (Some (Ok x)) r f g p h =
      subst (λ q. CutsState j (f x.0 x.1) q)
      (sym (sym (with_where b r g) ∙ ap (λ o. with_value o g) p.1 ∙ with_where (follows log j x.1.out.printed)
      (found x.0 (seen_as x.1)) g))
      ((h x.0).cuts j x.1 p.0)
  with_cut j b (Some (Err d)) r f g p h = (
    p.0,
    sym (with_where b r g) ∙ ap (λ o. with_value o g) p.1 ∙ with_where (follows log j d.out.printed)
        (Some (Err (seen_as d))) g,
  )

  pub goes_with : {f : Done Output → Outcome Output ℤ} {g : Done ℕ → Outcome ℕ ℤ} {f' : ℤ → Arrow Output}
      {g' : ℤ → Arrow ℕ}
      → Runs f g → ((z : ℤ) → Goes (f' z) (g' z)) → Goes (λ d. with_value (f d) f') (λ d. with_value (g d) g')
  goes_with {f = f} {g = g} {f' = f'} {g' = g'} h i = record {
    cuts = λ j d c. with_cut j (follows log j d.out.printed) (f d) (g (seen_as d)) f' g' (h.cuts j d c) i;
  }

  onward_where : (b : Bool) (r : Option (Done ℕ)) (g : Arrow ℕ) → onward (cond b r None) g ≡ cond b (onward r g) None
  onward_where true r g = refl
  onward_where false r g = refl

  onward_cut : (j : ℕ) (b : Bool) (o : Option (Done Output)) (r : Option (Done ℕ)) (f : Arrow Output) (g : Arrow ℕ)
      → CutsState j o (cond b r None) → Goes f g → CutsState j (onward o f) (cond b (onward r g) None)
  onward_cut j b None r f g e h = sym (onward_where b r g) ∙ ap (λ o. onward o g) e
  onward_cut j b (Some d) r f g p h =
      subst (λ q. CutsState j (f d) q)
      (sym (sym (onward_where b r g) ∙ ap (λ o. onward o g) p.1 ∙ onward_where (follows log j d.out.printed)
      (Some (seen_as d)) g))
      (h.cuts j d p.0)

  pub goes_onward : {f f' : Arrow Output} {g g' : Arrow ℕ} → Goes f g → Goes f' g' → Goes (λ d. onward (f d) f')
      (λ d. onward (g d) g')
  goes_onward {f = f} {f' = f'} {g = g} {g' = g'} h i = record {
    cuts = λ j d c. onward_cut j (follows log j d.out.printed) (f d) (g (seen_as d)) f' g' (h.cuts j d c) i;
  }

  -- ---- steps that print nothing

  pub runs_found : {A : Type 0} (x : Done Output → A) (y : Done ℕ → A) (f : Done Output → Done Output)
      (g : Done ℕ → Done ℕ)
      → ((d : Done Output) → y (seen_as d) ≡ x d) → ((d : Done Output) → (f d).out ≡ d.out)
      → ((d : Done Output) → g (seen_as d) ≡ seen_as (f d))
      → Runs (λ d. found (x d) (f d)) (λ d. found (y d) (g d))
  runs_found x y f g same out seen = record {
    cuts = λ j d c. (
      subst (λ (o : Output). Counted j o) (sym (out d)) c,
      ap (λ a. where_on j d.out (found a (g (seen_as d)))) (same d)
          ∙ ap (λ a. where_on j d.out (found (x d) a)) (seen d)
          ∙ ap (λ (o : Output). where_on j o (found (x d) (seen_as (f d)))) (sym (out d)),
    );
  }

  -- by a test of what both know
  pub test_cut : {A : Type 0} (j : ℕ) (o : Output) (b : Bool) (x y : Outcome Output A) (x' y' : Outcome ℕ A)
      → CutsValue j x (where_on j o x') → CutsValue j y (where_on j o y') → CutsValue j (cond b x y)
      (where_on j o (cond b x' y'))
  test_cut j o true x y x' y' h i = h
  test_cut j o false x y x' y' h i = i

  pub test_goes : (j : ℕ) (o : Output) (b : Bool) (x y : Option (Done Output)) (x' y' : Option (Done ℕ))
      → CutsState j x (where_on j o x') → CutsState j y (where_on j o y') → CutsState j (cond b x y)
      (where_on j o (cond b x' y'))
  test_goes j o true x y x' y' h i = h
  test_goes j o false x y x' y' h i = i

  -- what is found where a test passes, with another store perhaps; else the run stops
  pub found_or_stop : {A : Type 0} (j : ℕ) (d : Done Output) (b : Bool) (x : A) (s : Store) (at : ℕ) (u : Undefined)
      → Counted j d.out
      → CutsValue j (cond b (found x (with_store s d)) (stop at u d))
      (where_on j d.out (cond b (found x (with_store s (seen_as d))) (stop at u (seen_as d))))
  found_or_stop j d true x s at u c = (c, refl)
  found_or_stop j d false x s at u c = (c, refl)

  pub else_stop : {A : Type 0} (j : ℕ) (d : Done Output) (b : Bool) (x : Outcome Output A) (x' : Outcome ℕ A)
      (at : ℕ) (u : Undefined)
      → Counted j d.out → CutsValue j x (where_on j d.out x')
      → CutsValue j (cond b x (stop at u d)) (where_on j d.out (cond b x' (stop at u (seen_as d))))
  else_stop j d true x x' at u c h = h
  else_stop j d false x x' at u c h = (c, refl)

  pub runs_or_stop : (at : ℕ) (a : Answer) → Runs (or_stop at a) (or_stop at a)
  runs_or_stop at (Ok z) = record { cuts = λ j d c. (c, refl) }
  runs_or_stop at (Err u) = record { cuts = λ j d c. (c, refl) }

  pub goes_some : (f : Done Output → Done Output) (g : Done ℕ → Done ℕ)
      → ((d : Done Output) → (f d).out.count ≡ d.out.count) → ((d : Done Output) → (f d).out.printed ≡ d.out.printed)
      → ((d : Done Output) → g (seen_as d) ≡ seen_as (f d)) → Goes (λ d. Some (f d)) (λ d. Some (g d))
  goes_some f g count printed seen = record {
    cuts = λ j d c. (
      count d ∙ c ∙ ap (λ t. j + length t) (sym (printed d)),
      ap (λ a. where_on j d.out (Some a)) (seen d)
          ∙ ap (λ t. cond (follows log j t) (Some (seen_as (f d))) None) (sym (printed d)),
    );
  }

  pub goes_stay : Goes (λ d. Some d) (λ d. Some d)
  goes_stay = record { cuts = λ j d c. (c, refl) }

  -- ---- by where the run stands

  pub goes_running : (f : Arrow Output) (g : Arrow ℕ) → Goes f g → Goes (running f) (running g)
  goes_running f g h = record { cuts = λ j d c. by_kind j d c d.kind } where
    by_kind : (j : ℕ) (d : Done Output) → Counted j d.out → (kind : Kind) → CutsState j
        (where_running kind (f d) (Some d)) (where_on j d.out (where_running kind (g (seen_as d)) (Some (seen_as d))))
    by_kind j d c k.Running = h.cuts j d c
    by_kind j d c k.Breaking = (c, refl)
    by_kind j d c k.Continuing = (c, refl)
    by_kind j d c k.Returning = (c, refl)
    by_kind j d c (k.Going label) = (c, refl)
    by_kind j d c (k.Choosing z) = (c, refl)
    by_kind j d c k.Defaulting = (c, refl)
    by_kind j d c (k.Ended f) = (c, refl)
