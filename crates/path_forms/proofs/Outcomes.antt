-- What the core's outcomes become on operands, form by form.
use Rattle.std.proofs.Common.{◌≡◌, ℕ, ◌+◌, ◌≤◌, ◌^◌, ℤ, pos, List, ◌∷◌, Bool, true, false, cond, Some, None, refl, ap, ◌∙◌}
use Rattle.std.specs.Prelude.{Ok, Err, unsigned_abs}
use Rattle.plain_data.specs.declared.run.Side.TheVariants as side
use Rattle.plain_data.specs.declared.run.Happening.TheVariants as happening
use Rattle.c_language.specs.Integers.{is_zero}
use Rattle.core_tree.specs.declared.types.Access.{Access}
use Rattle.core_tree.specs.declared.types.Answered.{Answered}
use Rattle.core_tree.specs.declared.types.Answered.TheVariants as answered
use Rattle.core_tree.specs.declared.types.Operator.{Operator}
use Rattle.core_tree.specs.declared.types.ValueType.{ValueType}
use Rattle.core_tree.specs.Memory.{load, put, operated}
use Rattle.core_tree.specs.Numbers.{size_of}
use Rattle.core_tree.specs.States.{Done, Outcome, ◌>>=◌, found, note, along}
use Rattle.core_tree.specs.Values.{either_value}
use Rattle.term_bank.specs.Values.{Environment, Values}
use Rattle.path_states.specs.States.{Held}
use Rattle.path_states.specs.Ways.{tried}
use Rattle.path_steps.specs.declared.leaf.Leaf.TheVariants as leaf
use Rattle.path_steps.specs.Branches.{noted_at}
use Rattle.path_steps.specs.Leaves.{leaf_way, shifts, again, tucked}
use Rattle.path_steps.specs.Memories.{load_by, put_by}
use Rattle.path_steps.specs.Operands.{pushed, top, under}
use Rattle.path_steps.proofs.AccessLemmas.{load_near, put_near}
use Rattle.path_forms.specs.Accesses.{EndsBelow}
use Rattle.path_forms.specs.Reaching.{operated_way}
use Rattle.path_forms.specs.Steps.{recalled_way, raised_way}

-- ---- accesses that are the core's

pub load_same : (x : Access) (a : ℕ) (d : Done ℕ) → (x.is_tested ≡ false → a + size_of x.stored ≤ 2 ^ 64) → load_by x a d ≡ load x a d
load_same x a d h = by x.at x.stored x.is_tested h
  where
    by : (p : ℕ) (t : ValueType) (s : Bool) → (s ≡ false → a + size_of t ≤ 2 ^ 64)
        → load_by (record { at = p; stored = t; is_tested = s }) a d ≡ load (record { at = p; stored = t; is_tested = s }) a d
    by p t true h = refl
    by p t false h = load_near (record { at = p; stored = t; is_tested = false }) a d (h refl)

pub put_same : (at : ℕ) (x : Access) (a : ℕ) (z : ℤ) (d : Done ℕ) → (x.is_tested ≡ false → a + size_of x.stored ≤ 2 ^ 64)
    → put_by at x a z d ≡ put at x a z d
put_same at x a z d h = by x.at x.stored x.is_tested h
  where
    by : (p : ℕ) (t : ValueType) (s : Bool) → (s ≡ false → a + size_of t ≤ 2 ^ 64)
        → put_by at (record { at = p; stored = t; is_tested = s }) a z d ≡ put at (record { at = p; stored = t; is_tested = s }) a z d
    by p t true h = refl
    by p t false h = put_near at (record { at = p; stored = t; is_tested = false }) a z d (h refl)

-- ---- one part

pub same_found : (zs : List ℤ) (o : Outcome ℕ ℤ) → pushed zs o ≡ pushed zs (o >>= (λ y. found y.0 y.1))
same_found zs None = refl
same_found zs (Some (Ok y)) = refl
same_found zs (Some (Err d)) = refl

pub one_pushed : (zs : List ℤ) (o : Outcome ℕ ℤ) (f : ℤ → Done ℕ → Outcome ℕ ℤ)
    → tried (pushed zs o) (λ h. pushed (under h.operands) (f (top h.operands) h.done)) ≡ pushed zs (o >>= (λ a. f a.0 a.1))
one_pushed zs None f = refl
one_pushed zs (Some (Ok a)) f = refl
one_pushed zs (Some (Err d)) f = refl

pub load_pushed : (access : Access) (e : Environment) (v : Values) (zs : List ℤ) (o : Outcome ℕ ℤ) → EndsBelow access o
    → tried (pushed zs o) (leaf_way (leaf.Load access) e v) ≡ pushed zs (o >>= (λ a. load access (unsigned_abs a.0) a.1))
load_pushed access e v zs None h = refl
load_pushed access e v zs (Some (Ok a)) h = ap (pushed zs) (load_same access (unsigned_abs a.0) a.1 h)
load_pushed access e v zs (Some (Err d)) h = refl

-- ---- two parts

second_pushed : (zs : List ℤ) (a : ℤ) (o : Outcome ℕ ℤ) (g : ℤ → ℤ → Done ℕ → Outcome ℕ ℤ)
    → tried (pushed (a ∷ zs) o) (λ h. pushed (under (under h.operands)) (g (top (under h.operands)) (top h.operands) h.done))
    ≡ pushed zs (o >>= (λ b. g a b.0 b.1))
second_pushed zs a None g = refl
second_pushed zs a (Some (Ok b)) g = refl
second_pushed zs a (Some (Err d)) g = refl

pub two_pushed : (zs : List ℤ) (o : Outcome ℕ ℤ) (q : Done ℕ → Outcome ℕ ℤ) (g : ℤ → ℤ → Done ℕ → Outcome ℕ ℤ)
    → tried (tried (pushed zs o) (λ h. pushed h.operands (q h.done)))
    (λ h. pushed (under (under h.operands)) (g (top (under h.operands)) (top h.operands) h.done))
    ≡ pushed zs (o >>= (λ a. q a.1 >>= (λ b. g a.0 b.0 b.1)))
two_pushed zs None q g = refl
two_pushed zs (Some (Ok a)) q g = second_pushed zs a.0 (q a.1) g
two_pushed zs (Some (Err d)) q g = refl

pub comma_pushed : (e : Environment) (v : Values) (zs : List ℤ) (o : Outcome ℕ ℤ) (q : Done ℕ → Outcome ℕ ℤ)
    → tried (tried (pushed zs o) (leaf_way leaf.Drop e v)) (λ h. pushed h.operands (q h.done)) ≡ pushed zs (o >>= (λ a. q a.1))
comma_pushed e v zs None q = refl
comma_pushed e v zs (Some (Ok a)) q = refl
comma_pushed e v zs (Some (Err d)) q = refl

-- ---- stores

module _ (at : ℕ) (access : Access) (e : Environment) (v : Values) where
  stores : (zs : List ℤ) (a : ℤ) (o : Outcome ℕ ℤ) → (access.is_tested ≡ false → unsigned_abs a + size_of access.stored ≤ 2 ^ 64)
      → tried (pushed (a ∷ zs) o) (leaf_way (leaf.Put at access) e v) ≡ pushed zs (o >>= (λ z. put at access (unsigned_abs a) z.0 z.1))
  stores zs a None h = refl
  stores zs a (Some (Ok z)) h = ap (pushed zs) (put_same at access (unsigned_abs a) z.0 z.1 h)
  stores zs a (Some (Err d)) h = refl

  pub store_pushed : (zs : List ℤ) (o : Outcome ℕ ℤ) (q : Done ℕ → Outcome ℕ ℤ) → EndsBelow access o
      → tried (tried (pushed zs o) (λ h. pushed h.operands (q h.done))) (leaf_way (leaf.Put at access) e v)
      ≡ pushed zs (o >>= (λ a. q a.1 >>= (λ z. put at access (unsigned_abs a.0) z.0 z.1)))
  store_pushed zs None q h = refl
  store_pushed zs (Some (Ok a)) q h = stores zs a.0 (q a.1) h
  store_pushed zs (Some (Err d)) q h = refl

  -- ---- an operator on what stands at an address

  module _ (operator : Operator) where
    updates_stored : (zs : List ℤ) (a z : ℤ) (o : Outcome ℕ ℤ) → (access.is_tested ≡ false → unsigned_abs a + size_of access.stored ≤ 2 ^ 64)
        → tried (tried (pushed (z ∷ a ∷ zs) o) (operated_way at operator e v)) (leaf_way (leaf.Put at access) e v)
        ≡ pushed zs (o >>= (λ w. operated at operator z w.0 w.1 >>= (λ y. put at access (unsigned_abs a) y.0 y.1)))
    updates_stored zs a z None h = refl
    updates_stored zs a z (Some (Ok w)) h = stores zs a (operated at operator z w.0 w.1) h
    updates_stored zs a z (Some (Err d)) h = refl

    updates_read : (zs : List ℤ) (a : ℤ) (o : Outcome ℕ ℤ) (q : Done ℕ → Outcome ℕ ℤ)
        → (access.is_tested ≡ false → unsigned_abs a + size_of access.stored ≤ 2 ^ 64)
        → tried (tried (tried (pushed (a ∷ zs) o) (λ h. pushed h.operands (q h.done))) (operated_way at operator e v))
        (leaf_way (leaf.Put at access) e v)
        ≡ pushed zs (o >>= (λ z. q z.1 >>= (λ w. operated at operator z.0 w.0 w.1 >>= (λ y. put at access (unsigned_abs a) y.0 y.1))))
    updates_read zs a None q h = refl
    updates_read zs a (Some (Ok z)) q h = updates_stored zs a z.0 (q z.1) h
    updates_read zs a (Some (Err d)) q h = refl

    pub update_pushed : (zs : List ℤ) (o : Outcome ℕ ℤ) (q : Done ℕ → Outcome ℕ ℤ) → EndsBelow access o
        → tried (tried (tried (tried (pushed zs o) (recalled_way access e v)) (λ h. pushed h.operands (q h.done)))
        (operated_way at operator e v)) (leaf_way (leaf.Put at access) e v)
        ≡ pushed zs (o >>= (λ a. load access (unsigned_abs a.0) a.1 >>= (λ z. q z.1 >>= (λ w. operated at operator z.0 w.0 w.1
        >>= (λ y. put at access (unsigned_abs a.0) y.0 y.1)))))
    update_pushed zs None q h = refl
    update_pushed zs (Some (Ok a)) q h =
        ap (λ l. tried (tried (tried (pushed (a.0 ∷ zs) l) (λ h. pushed h.operands (q h.done))) (operated_way at operator e v))
        (leaf_way (leaf.Put at access) e v)) (load_same access (unsigned_abs a.0) a.1 h)
        ∙ updates_read zs a.0 (load access (unsigned_abs a.0) a.1) q h
    update_pushed zs (Some (Err d)) q h = refl

    -- ---- an operator with 1

    module _ (answer : Answered) where
      answer_same : (z : ℤ) (p q : Outcome ℕ ℤ) → p ≡ q
          → p >>= (λ y. found (either_value answer z y.0) y.1) ≡ q >>= (λ y. found (either_value answer z y.0) y.1)
      answer_same z p q h = ap (λ o. o >>= (λ y. found (either_value answer z y.0) y.1)) h

      raised_same : (z a : ℤ) (o : Outcome ℕ ℤ) → (access.is_tested ≡ false → unsigned_abs a + size_of access.stored ≤ 2 ^ 64)
          → o >>= (λ w. put_by at access (unsigned_abs a) w.0 w.1 >>= (λ y. found (either_value answer z y.0) y.1))
          ≡ o >>= (λ w. put at access (unsigned_abs a) w.0 w.1 >>= (λ y. found (either_value answer z y.0) y.1))
      raised_same z a None h = refl
      raised_same z a (Some (Ok w)) h =
          answer_same z (put_by at access (unsigned_abs a) w.0 w.1) (put at access (unsigned_abs a) w.0 w.1)
          (put_same at access (unsigned_abs a) w.0 w.1 h)
      raised_same z a (Some (Err d)) h = refl

      steps_read : (zs : List ℤ) (a : ℤ) (o : Outcome ℕ ℤ) → (access.is_tested ≡ false → unsigned_abs a + size_of access.stored ≤ 2 ^ 64)
          → tried (pushed (a ∷ zs) o) (raised_way at operator access answer e v)
          ≡ pushed zs (o >>= (λ z. operated at operator z.0 (pos 1) z.1 >>= (λ w. put at access (unsigned_abs a) w.0 w.1
          >>= (λ y. found (either_value answer z.0 y.0) y.1))))
      steps_read zs a None h = refl
      steps_read zs a (Some (Ok z)) h = ap (pushed zs) (raised_same z.0 a (operated at operator z.0 (pos 1) z.1) h)
      steps_read zs a (Some (Err d)) h = refl

      pub step_pushed : (zs : List ℤ) (o : Outcome ℕ ℤ) → EndsBelow access o
          → tried (tried (pushed zs o) (recalled_way access e v)) (raised_way at operator access answer e v)
          ≡ pushed zs (o >>= (λ a. load access (unsigned_abs a.0) a.1 >>= (λ z. operated at operator z.0 (pos 1) z.1
          >>= (λ w. put at access (unsigned_abs a.0) w.0 w.1 >>= (λ y. found (either_value answer z.0 y.0) y.1)))))
      step_pushed zs None h = refl
      step_pushed zs (Some (Ok a)) h =
          ap (λ l. tried (pushed (a.0 ∷ zs) l) (raised_way at operator access answer e v)) (load_same access (unsigned_abs a.0) a.1 h)
          ∙ steps_read zs a.0 (load access (unsigned_abs a.0) a.1) h
      step_pushed zs (Some (Err d)) h = refl

    -- ---- the same by leaves

    drops_last : (zs : List ℤ) (z : ℤ) (o : Outcome ℕ ℤ) → tried (pushed (z ∷ zs) o) (leaf_way leaf.Drop e v) ≡ pushed zs (o >>= (λ y. found z y.1))
    drops_last zs z None = refl
    drops_last zs z (Some (Ok y)) = refl
    drops_last zs z (Some (Err d)) = refl

    puts_before : (zs : List ℤ) (z a : ℤ) (o : Outcome ℕ ℤ)
        → tried (tried (pushed (a ∷ z ∷ zs) o) (leaf_way (leaf.Put at access) e v)) (leaf_way leaf.Drop e v)
        ≡ pushed zs (o >>= (λ w. put_by at access (unsigned_abs a) w.0 w.1 >>= (λ y. found z y.1)))
    puts_before zs z a None = refl
    puts_before zs z a (Some (Ok w)) = drops_last zs z (put_by at access (unsigned_abs a) w.0 w.1)
    puts_before zs z a (Some (Err d)) = refl

    puts_stored : (ys : List ℤ) (o : Outcome ℕ ℤ)
        → tried (pushed ys o) (leaf_way (leaf.Put at access) e v)
        ≡ pushed (under ys) (o >>= (λ w. put_by at access (unsigned_abs (top ys)) w.0 w.1 >>= (λ y. found y.0 y.1)))
    puts_stored ys None = refl
    puts_stored ys (Some (Ok w)) = same_found (under ys) (put_by at access (unsigned_abs (top ys)) w.0 w.1)
    puts_stored ys (Some (Err d)) = refl

    pub stored_by_leaves : (h : Held)
        → tried (tried (leaf_way (leaf.Constant (pos 1)) e v h) (operated_way at operator e v)) (leaf_way (leaf.Put at access) e v)
        ≡ raised_way at operator access answered.Stored e v h
    stored_by_leaves h = puts_stored (under h.operands) (operated at operator (top h.operands) (pos 1) h.done)

    pub before_by_leaves : (h : Held)
        → tried (tried (tried (tried (shifts tucked e v h) (leaf_way (leaf.Constant (pos 1)) e v)) (operated_way at operator e v))
        (leaf_way (leaf.Put at access) e v)) (leaf_way leaf.Drop e v)
        ≡ raised_way at operator access answered.Before e v h
    before_by_leaves h =
        puts_before (under (under h.operands)) (top h.operands) (top (under h.operands)) (operated at operator (top h.operands) (pos 1) h.done)

-- ---- what stands at an address on it

pub recalled_by_leaves : (access : Access) (e : Environment) (v : Values) (h : Held)
    → tried (shifts again e v h) (leaf_way (leaf.Load access) e v) ≡ recalled_way access e v h
recalled_by_leaves access e v h = refl

-- ---- sides

sided : (zs : List ℤ) (c : Bool) (x y : Outcome ℕ ℤ) → cond c (pushed zs x) (pushed zs y) ≡ pushed zs (cond c x y)
sided zs true x y = refl
sided zs false x y = refl

pub sides_pushed : (at : ℕ) (log : List ℕ) (zs : List ℤ) (o : Outcome ℕ ℤ) (p q : Done ℕ → Outcome ℕ ℤ)
    → tried (pushed zs o) (λ h. cond (is_zero (top h.operands))
    (pushed (under h.operands) (q (noted_at at side.No h).done)) (pushed (under h.operands) (p (noted_at at side.Yes h).done)))
    ≡ pushed zs (o >>= (λ a. cond (is_zero a.0) (q (note (along log) (happening.Branch at side.No) a.1))
    (p (note (along log) (happening.Branch at side.Yes) a.1))))
sides_pushed at log zs None p q = refl
sides_pushed at log zs (Some (Ok a)) p q =
    sided zs (is_zero a.0) (q (note (along log) (happening.Branch at side.No) a.1)) (p (note (along log) (happening.Branch at side.Yes) a.1))
sides_pushed at log zs (Some (Err d)) p q = refl
