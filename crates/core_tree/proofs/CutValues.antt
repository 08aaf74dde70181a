-- Cutting at a log and running: expressions.
use Rattle.std.proofs.Common.{◌≡◌, ℕ, suc, ◌+◌, ℤ, pos, negsuc, List, [], ◌∷◌, Bool, true}
use Rattle.std.proofs.Common.{false, Option, Some, None, refl, ap, ap₂, ◌∙◌, subst}
use Rattle.std.proofs.Math.Path.{fun_ext}
use Rattle.std.specs.Prelude.{not, ◌||◌, neg_ℤ, ◌+ℤ◌, ◌-ℤ◌, ◌*ℤ◌, unsigned_abs}
use Rattle.plain_data.specs.declared.run.Happening.TheVariants as happening
use Rattle.plain_data.specs.declared.run.Side.TheVariants as side
use Rattle.c_language.specs.Integers.{is_zero, number_of}
use Rattle.c_store.specs.Access.{can_access, can_write, in_one_object}
use Rattle.c_means.specs.Parts.{Env}
use Rattle.c_means.specs.Values.{address}
use Rattle.c_means.specs.Pointers.{elements_in}
use Rattle.c_store.specs.Store.{read, write, start}
use Rattle.plain_data.specs.declared.run.Undefined.TheVariants as undefined
use Rattle.core_tree.specs.declared.expr.Callee.{Callee}
use Rattle.core_tree.specs.declared.types.Access.{Access}
use Rattle.core_tree.specs.declared.types.Answered.{Answered}
use Rattle.core_tree.specs.declared.types.Operator.{Operator}
use Rattle.core_tree.specs.declared.types.Operator.TheVariants as op
use Rattle.core_tree.specs.declared.types.Relation.{Relation}
use Rattle.core_tree.specs.declared.types.ValueType.{ValueType}
use Rattle.core_tree.specs.declared.types.ValueType.TheVariants as v
use Rattle.core_tree.specs.Numbers.{size_of, value_of_bytes, bytes_of_value, converted_to, worked, in_order}
use Rattle.core_tree.specs.Memory.{load, put, moved_to, apart, ordered, operated}
use Rattle.core_tree.specs.States.{Output, plain, along, Done, Outcome, found, note, on_branch}
use Rattle.core_tree.specs.States.{Measures, Needs}
use Rattle.core_tree.specs.Values.{Value, constant, local, on_value, operate, truth_of, and_then, or_else}
use Rattle.core_tree.specs.Values.{both, either, one_run, choose, comma, store, update, step, either_value, over_one}
use Rattle.core_tree.specs.Values.{over_both, over_three, all_sizes, all_rooms, arguments, needed, acting, call}
use Rattle.core_tree.specs.Callees.{callee_size, callee_room}
use Rattle.core_tree.proofs.CutCalls.{Frames, plain_in, along_in, returned_cut, called_cut}
use Rattle.core_tree.proofs.CutStates.{Runs, runs_bind}
use Rattle.core_tree.proofs.CutStates.{runs_or_stop, test_cut, found_or_stop, else_stop}

abbrev the_needs : (Measures → ℕ) → (Measures → ℕ) → Needs
the_needs size room = record { size = size; room = room }

module _ (log : List ℕ) where
  -- ---- leaf instructions

  pub load_cut : (x : Access) (a : ℕ) → Runs log (load x a) (load x a)
  load_cut x a = record {
    cuts = λ j d c. found_or_stop log j d (not x.is_tested || can_access d.store a (size_of x.stored))
        (value_of_bytes x.stored (read (size_of x.stored) d.store a)) d.store x.at undefined.Dereference c;
  }

  pub put_cut : (at : ℕ) (x : Access) (a : ℕ) (z : ℤ) → Runs log (put at x a z) (put at x a z)
  put_cut at x a z = record {
    cuts = λ j d c. else_stop log j d (not x.is_tested || can_access d.store a (size_of x.stored)) _ _ x.at
        undefined.Dereference c
        (found_or_stop log j d (not x.is_tested || can_write d.store a (size_of x.stored)) (converted_to x.stored z)
        (write (size_of x.stored) a (bytes_of_value x.stored (converted_to x.stored z)) d.store) at
        undefined.LiteralWrite c);
  }

  moved_to_cut : (at from : ℕ) (z : ℤ) → Runs log (moved_to at from z) (moved_to at from z)
  moved_to_cut at from (negsuc n) = record { cuts = λ j d c. (c, refl) }
  moved_to_cut at from (pos to) = record {
    cuts = λ j d c. found_or_stop log j d (in_one_object d.store from to) (pos to) d.store at undefined.PointerRange c;
  }

  apart_cut : (at size a b : ℕ) → Runs log (apart at size a b) (apart at size a b)
  apart_cut at size a b = record {
    cuts = λ j d c. found_or_stop log j d (in_one_object d.store a b) (elements_in (pos a -ℤ pos b) size) d.store at
        undefined.PointerOrder c;
  }

  ordered_cut : (at : ℕ) (r : Relation) (a b : ℕ) → Runs log (ordered at r a b) (ordered at r a b)
  ordered_cut at r a b = record {
    cuts = λ j d c. found_or_stop log j d (in_one_object d.store a b) (number_of (in_order r a b)) d.store at
        undefined.PointerOrder c;
  }

  pub operated_cut : (at : ℕ) (o : Operator) (x y : ℤ) → Runs log (operated at o x y) (operated at o x y)
  operated_cut at (op.Numbers o t) x y = runs_or_stop log at (worked o t x y)
  operated_cut at (op.Forward size) x y = moved_to_cut at (address x) (pos (address x) +ℤ y *ℤ pos size)
  operated_cut at (op.ForwardBy size) x y = moved_to_cut at (address y) (pos (address y) +ℤ x *ℤ pos size)
  operated_cut at (op.Back size) x y = moved_to_cut at (address x) (pos (address x) +ℤ neg_ℤ y *ℤ pos size)
  operated_cut at (op.Distance size) x y = apart_cut at size (address x) (address y)
  operated_cut at (op.Order r) x y = ordered_cut at r (address x) (address y)
  operated_cut at op.Same x y = record { cuts = λ j d c. (c, refl) }
  operated_cut at op.Different x y = record { cuts = λ j d c. (c, refl) }

  -- ---- branches

  pub runs_branch : {A : Type 0} (at : ℕ) (z : ℤ) (f : Bool → Done Output → Outcome Output A)
      (g : Bool → Done ℕ → Outcome ℕ A)
      → ((b : Bool) → Runs log (f b) (g b)) → Runs log (on_branch plain at z f) (on_branch (along log) at z g)
  runs_branch at z f g h = record {
    cuts = λ j d c. test_cut log j d.out (is_zero z) _ _ _ _
        ((h false).cuts j (note plain (happening.Branch at side.No) d) c)
        ((h true).cuts j (note plain (happening.Branch at side.Yes) d) c);
  }

  -- ---- expressions, as they print and along the log

  -- what is worth the same both ways
  pub record SameValue (x : Value Output) (y : Value ℕ) : Type 0 where
    pub needs : x.needs ≡ y.needs
    pub runs : (p : Frames log) (env : Env) (base base' : ℕ) → base ≡ base' → Runs log
        (x.run (plain_in log p) env base) (y.run (along_in log p) env base')

  pub runs_value : {A : Type 0} (x : A) → Runs log (found x) (found x)
  runs_value x = record { cuts = λ j d c. (c, refl) }

  -- the place behind a part
  pub room_behind : (p : Frames log) (base base' : ℕ) (n n' : Needs) → base ≡ base' → n ≡ n' → base + n.room
      p.measures ≡ base' + n'.room p.measures
  room_behind p base base' n n' e f = ap₂ (λ a (b : Needs). a + b.room p.measures) e f

  pub constant_same : (z : ℤ) → SameValue (constant z) (constant z)
  constant_same z = record { needs = refl; runs = λ p env base base' e. runs_value z }

  pub local_same : (at : ℕ) → SameValue (local at) (local at)
  local_same at = record { needs = refl; runs = λ p env base base' e. runs_value (pos (start (env at))) }

  pub on_value_same : (n n' : Needs) (f : ℤ → Done Output → Outcome Output ℤ) (g : ℤ → Done ℕ → Outcome ℕ ℤ)
      (x : Value Output) (y : Value ℕ)
      → n ≡ n' → SameValue x y → ((z : ℤ) → Runs log (f z) (g z)) → SameValue (on_value n f x) (on_value n' g y)
  on_value_same n n' f g x y same h i = record {
    needs = same;
    runs = λ p env base base' e. runs_bind log _ _
        (h.runs p env base base' e) i;
  }

  -- a node over one part
  pub node_same : (f : ℤ → Done Output → Outcome Output ℤ) (g : ℤ → Done ℕ → Outcome ℕ ℤ) (x : Value Output)
      (y : Value ℕ)
      → SameValue x y → ((z : ℤ) → Runs log (f z) (g z)) → SameValue (on_value (over_one x.needs) f x)
      (on_value (over_one y.needs) g y)
  node_same f g x y h i = on_value_same _ _ f g x y (ap over_one h.needs) h i

  pub between_same : (f : ℤ → Done Output → Outcome Output ℤ) (g : ℤ → Done ℕ → Outcome ℕ ℤ) (x : Value Output)
      (y : Value ℕ)
      → SameValue x y → ((z : ℤ) → Runs log (f z) (g z)) → SameValue (on_value x.needs f x) (on_value y.needs g y)
  between_same f g x y h i = on_value_same _ _ f g x y h.needs h i

  module _ (x : Value Output) (x' : Value ℕ) (y : Value Output) (y' : Value ℕ) (h : SameValue x x')
      (i : SameValue y y') where
    -- the second part, behind the first
    second : (p : Frames log) (env : Env) (base base' : ℕ) → base ≡ base'
        → Runs log (y.run (plain_in log p) env (base + x.needs.room p.measures))
        (y'.run (along_in log p) env (base' + x'.needs.room p.measures))
    second p env base base' e = i.runs p env _ _ (room_behind p base base' x.needs x'.needs e h.needs)

    both_needs : over_both x.needs y.needs ≡ over_both x'.needs y'.needs
    both_needs = ap₂ over_both h.needs i.needs

    pub operate_same : (at : ℕ) (o : Operator) → SameValue (operate at o x y) (operate at o x' y')
    operate_same at o = record {
      needs = both_needs;
      runs = λ p env base base' e. runs_bind log _ _ (h.runs p env base base' e)
          (λ v. runs_bind log _ _ (second p env base base' e)
          (λ w. operated_cut at o v w));
    }

    truth_runs : (p : Frames log) (env : Env) (base base' : ℕ) → base ≡ base'
        → Runs log (truth_of y (plain_in log p) env (base + x.needs.room p.measures))
        (truth_of y' (along_in log p) env (base' + x'.needs.room p.measures))
    truth_runs p env base base' e = runs_bind log _ _ (second p env base base' e)
        (λ w. runs_value (number_of (not (is_zero w))))

    pub both_same : (at : ℕ) → SameValue (both at x y) (both at x' y')
    both_same at = record {
      needs = both_needs;
      runs = λ p env base base' e. runs_bind log _ _ (h.runs p env base base' e)
          (λ v. runs_branch at v _ _ (sides p env base base' e));
    } where
      sides : (p : Frames log) (env : Env) (base base' : ℕ) → base ≡ base' → (b : Bool)
          → Runs log (and_then y (plain_in log p) env (base + x.needs.room p.measures) b)
          (and_then y' (along_in log p) env (base' + x'.needs.room p.measures) b)
      sides p env base base' e true = truth_runs p env base base' e
      sides p env base base' e false = runs_value (pos 0)

    pub either_same : (at : ℕ) → SameValue (either at x y) (either at x' y')
    either_same at = record {
      needs = both_needs;
      runs = λ p env base base' e. runs_bind log _ _ (h.runs p env base base' e)
          (λ v. runs_branch at v _ _ (sides p env base base' e));
    } where
      sides : (p : Frames log) (env : Env) (base base' : ℕ) → base ≡ base' → (b : Bool)
          → Runs log (or_else y (plain_in log p) env (base + x.needs.room p.measures) b)
          (or_else y' (along_in log p) env (base' + x'.needs.room p.measures) b)
      sides p env base base' e true = runs_value (pos 1)
      sides p env base base' e false = truth_runs p env base base' e

    pub comma_same : SameValue (comma x y) (comma x' y')
    comma_same = record {
      needs = both_needs;
      runs = λ p env base base' e. runs_bind log _ _ (h.runs p env base base' e) (λ v. second p env base base' e);
    }

    pub store_same : (at : ℕ) (a : Access) → SameValue (store at a x y) (store at a x' y')
    store_same at a = record {
      needs = both_needs;
      runs = λ p env base base' e. runs_bind log _ _ (h.runs p env base base' e)
          (λ v. runs_bind log _ _ (second p env base base' e)
          (λ w. put_cut at a (unsigned_abs v) w));
    }

    pub update_same : (at : ℕ) (o : Operator) (a : Access) → SameValue (update at o a x y) (update at o a x' y')
    update_same at o a = record {
      needs = both_needs;
      runs = λ p env base base' e. runs_bind log _ _ (h.runs p env base base' e)
          (λ z. runs_bind log _ _ (load_cut a (unsigned_abs z))
          (λ v. runs_bind log _ _ (second p env base base' e) (λ w. runs_bind log _ _ (operated_cut at o v w)
          (λ u. put_cut at a (unsigned_abs z) u))));
    }

  pub step_same : (at : ℕ) (o : Operator) (a : Access) (answer : Answered) (x : Value Output) (x' : Value ℕ) →
      SameValue x x' → SameValue (step at o a answer x) (step at o a answer x')
  step_same at o a answer x x' h = record {
    needs = ap over_one h.needs;
    runs = λ p env base base' e. runs_bind log _ _ (h.runs p env base base' e)
        (λ z. runs_bind log _ _ (load_cut a (unsigned_abs z))
        (λ v. runs_bind log _ _ (operated_cut at o v (pos 1)) (λ w. runs_bind log _ _ (put_cut at a (unsigned_abs z) w)
        (λ u. runs_value (either_value answer v u)))));
  }

  pub choose_same : (at : ℕ) (c : Value Output) (c' : Value ℕ) (x : Value Output) (x' : Value ℕ) (y : Value Output)
      (y' : Value ℕ)
      → SameValue c c' → SameValue x x' → SameValue y y' → SameValue (choose at c x y) (choose at c' x' y')
  choose_same at c c' x x' y y' g h i = record {
    needs = ap (λ n. over_three n x.needs y.needs) g.needs ∙ ap₂ (over_three c'.needs) h.needs i.needs;
    runs = λ p env base base' e. runs_bind log _ _ (g.runs p env base base' e) (λ v. runs_branch at v _ _
        (sides p env (base + c.needs.room p.measures) (base' + c'.needs.room p.measures)
        (room_behind p base base' c.needs c'.needs e g.needs)));
  } where
    sides : (p : Frames log) (env : Env) (base base' : ℕ) → base ≡ base' → (b : Bool)
        → Runs log (one_run x y (plain_in log p) env base b) (one_run x' y' (along_in log p) env base' b)
    sides p env base base' e true = h.runs p env base base' e
    sides p env base base' e false = i.runs p env _ _ (room_behind p base base' x.needs x'.needs e h.needs)

  -- ---- calls

  abbrev pub SameAll : List (Value Output) → List (Value ℕ) → Type 0
  SameAll [] [] = Unit {0}
  SameAll [] (y ∷ ys) = ⊥
  SameAll (x ∷ xs) [] = ⊥
  SameAll (x ∷ xs) (y ∷ ys) = SameValue x y × SameAll xs ys

  all_rooms_same : (xs : List (Value Output)) (ys : List (Value ℕ)) (m : Measures) → SameAll xs ys → all_rooms xs m ≡
      all_rooms ys m
  all_rooms_same [] [] m h = refl
  all_rooms_same [] (y ∷ ys) m h = absurd h
  all_rooms_same (x ∷ xs) [] m h = absurd h
  all_rooms_same (x ∷ xs) (y ∷ ys) m h = ap₂ (λ (n : Needs) r. n.room m + r) h.0.needs (all_rooms_same xs ys m h.1)

  pub all_sizes_same : (xs : List (Value Output)) (ys : List (Value ℕ)) (m : Measures) → SameAll xs ys → all_sizes xs
      m ≡ all_sizes ys m
  all_sizes_same [] [] m h = refl
  all_sizes_same [] (y ∷ ys) m h = absurd h
  all_sizes_same (x ∷ xs) [] m h = absurd h
  all_sizes_same (x ∷ xs) (y ∷ ys) m h = ap₂ (λ (n : Needs) r. n.size m + r) h.0.needs (all_sizes_same xs ys m h.1)

  arguments_runs : (xs : List (Value Output)) (ys : List (Value ℕ)) → SameAll xs ys → (p : Frames log) (env : Env)
      (base base' : ℕ) → base ≡ base'
      → Runs log (arguments xs (plain_in log p) env base) (arguments ys (along_in log p) env base')
  arguments_runs [] [] h p env base base' e = runs_value []
  arguments_runs [] (y ∷ ys) h p env base base' e = absurd h
  arguments_runs (x ∷ xs) [] h p env base base' e = absurd h
  arguments_runs (x ∷ xs) (y ∷ ys) h p env base base' e = runs_bind log _ _ (h.0.runs p env base base' e)
      (λ v. runs_bind log _ _ (arguments_runs xs ys h.1 p env _ _
      (room_behind p base base' x.needs y.needs e h.0.needs)) (λ vs. runs_value (v ∷ vs)))

  needed_runs : (used : Bool) (at : ℕ) (type : ValueType) (v : Option ℤ) → Runs log (needed used at type v)
      (needed used at type v)
  needed_runs used at type (Some z) = runs_value z
  needed_runs false at type None = runs_value (pos 0)
  needed_runs true at v.Void None = runs_value (pos 0)
  needed_runs true at v.Truth None = record { cuts = λ j d c. (c, refl) }
  needed_runs true at (v.Word t) None = record { cuts = λ j d c. (c, refl) }
  needed_runs true at v.Pointer None = record { cuts = λ j d c. (c, refl) }
  needed_runs true at (v.Block bytes) None = record { cuts = λ j d c. (c, refl) }

  acting_runs : (c : Callee) (at : ℕ) (type : ValueType) (p : Frames log) (env : Env) (vs : List ℤ) (base base' : ℕ)
      → base ≡ base'
      → Runs log (λ d. acting c at type (plain_in log p) env vs base (note plain (happening.Call at) d))
      (λ d. acting c at type (along_in log p) env vs base' (note (along log) (happening.Call at) d))
  acting_runs c at type p env vs base base' e = subst (λ (b : ℕ). Runs log
      (λ d. acting c at type (plain_in log p) env vs base (note plain (happening.Call at) d))
      (λ d. acting c at type (along_in log p) env vs b (note (along log) (happening.Call at) d))) e (record {
        cuts = λ j d h. returned_cut log j (note plain (happening.Call at) d) _ _ h
            (called_cut log p c at type env vs base d.store d.out);
      })

  pub call_same : (at : ℕ) (xs : List (Value Output)) (ys : List (Value ℕ)) (c : Callee) (type : ValueType)
      (used : Bool) → SameAll xs ys → SameValue (call at xs c type used) (call at ys c type used)
  call_same at xs ys c type used h = record {
    needs = ap₂ (λ s r. the_needs s r) (fun_ext (λ m. ap (λ n. suc (n + callee_size c m)) (all_sizes_same xs ys m h)))
        (fun_ext (λ m. ap (λ n. n + callee_room c m) (all_rooms_same xs ys m h)));
    runs = λ p env base base' e. runs_bind log _ _ (arguments_runs xs ys h p env base base' e) (λ vs. runs_bind log _ _
        (acting_runs c at type p env vs _ _ (ap₂ (λ a b. a + b) e (all_rooms_same xs ys p.measures h)))
        (λ v. needed_runs used at type v));
  }
