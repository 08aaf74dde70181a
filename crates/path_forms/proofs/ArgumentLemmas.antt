-- Arguments behind one another, and the call that takes them off the operands.
use Rattle.std.proofs.Common.{◌≡◌, ℕ, zero, suc, ◌+◌, ℤ, List, [], ◌∷◌, ◌++◌, length, Bool, Some, None, refl, sym, ap, subst, ◌∙◌, add-zero}
use Rattle.std.specs.Prelude.{Ok, Err}
use Rattle.plain_data.specs.declared.run.Happening.TheVariants as happening
use Rattle.c_means.specs.Parts.{Env}
use Rattle.core_tree.specs.Callees.{callee_room}
use Rattle.core_tree.specs.declared.expr.Callee.{Callee}
use Rattle.core_tree.specs.declared.expr.Expr.{Expr}
use Rattle.core_tree.specs.declared.expr.Expr.TheVariants as expr
use Rattle.core_tree.specs.declared.types.ValueType.{ValueType}
use Rattle.core_tree.specs.States.{Done, Outcome, ◌>>=◌, found, note, along, Level}
use Rattle.core_tree.specs.Values.{Value, value, arguments, all_rooms, acting, needed, call}
use Rattle.core_tree.proofs.Equations.{worth-Call}
use Rattle.term_bank.specs.declared.shape.Shape.{Shape}
use Rattle.term_bank.specs.Values.{Environment}
use Rattle.path_states.specs.declared.state.Walked.{Walked}
use Rattle.path_states.specs.Ways.{Trial, tried}
use Rattle.path_steps.specs.Operands.{pushed, top, under}
use Rattle.path_forms.specs.declared.calling.CallSite.{CallSite}
use Rattle.path_forms.specs.declared.frame.Placed.{Placed}
use Rattle.path_forms.specs.Around.{Around, level_at, env_at}
use Rattle.path_forms.specs.Calling.{taken, below, call_way}
use Rattle.path_forms.specs.Reaching.{Ready, Reaches, Evaluates, EvaluatesAll, put_on, pushed_all, values_of, arguments_way, value_way}
use Rattle.path_forms.proofs.Evaluated.{evaluates_as, further, two_rooms}
use Rattle.path_forms.proofs.Reached.{reach_then, reach_where, reach_here}

-- ---- operands

below_under : (n : ℕ) (zs : List ℤ) → below n (under zs) ≡ under (below n zs)
below_under zero zs = refl
below_under (suc n) zs = below_under n (under zs)

taken_more : (n : ℕ) (zs : List ℤ) → taken (suc n) zs ≡ top (below n zs) ∷ taken n zs
taken_more zero zs = refl
taken_more (suc n) zs = ap (λ l. l ++ top zs ∷ []) (taken_more n (under zs))

pub below_put : (zs ys : List ℤ) → below (length ys) (put_on zs ys) ≡ zs
below_put zs [] = refl
below_put zs (y ∷ ys) = below_under (length ys) (put_on (y ∷ zs) ys) ∙ ap under (below_put (y ∷ zs) ys)

pub taken_put : (zs ys : List ℤ) → taken (length ys) (put_on zs ys) ≡ ys
taken_put zs [] = refl
taken_put zs (y ∷ ys) =
    taken_more (length ys) (put_on (y ∷ zs) ys)
    ∙ ap (λ l. top l ∷ taken (length ys) (put_on (y ∷ zs) ys)) (below_put (y ∷ zs) ys)
    ∙ ap (λ l. y ∷ l) (taken_put (y ∷ zs) ys)

-- ---- as many values as arguments

abbrev HasLength : {O : Type 0} → ℕ → Outcome O (List ℤ) → Type 0
HasLength n None = Unit {0}
HasLength n (Some (Ok vs)) = length vs.0 ≡ n
HasLength n (Some (Err d)) = Unit {0}

module _ {O : Type 0} (l : Level O) (env : Env) where
  one_longer : (z : ℤ) (n : ℕ) (o : Outcome O (List ℤ)) → HasLength n o
      → HasLength (suc n) (o >>= (λ vs. found (z ∷ vs.0) vs.1))
  one_longer z n None h = tt
  one_longer z n (Some (Ok vs)) h = ap suc h
  one_longer z n (Some (Err d)) h = tt

  first_found : (x : Value O) (xs : List (Value O)) (base : ℕ) (o : Outcome O ℤ)
      → ((b : ℕ) (d : Done O) → HasLength (length xs) (arguments xs l env b d))
      → HasLength (suc (length xs)) (o >>= (λ v. arguments xs l env (base + x.needs.room l.measures) v.1 >>=
      (λ vs. found (v.0 ∷ vs.0) vs.1)))
  first_found x xs base None h = tt
  first_found x xs base (Some (Ok v)) h =
      one_longer v.0 (length xs) (arguments xs l env (base + x.needs.room l.measures) v.1) (h
      (base + x.needs.room l.measures) v.1)
  first_found x xs base (Some (Err d)) h = tt

  as_many : (xs : List (Value O)) (base : ℕ) (d : Done O) → HasLength (length xs) (arguments xs l env base d)
  as_many [] base d = refl
  as_many (x ∷ xs) base d = first_found x xs base (x.run l env base d) (as_many xs)

same_length : (ts : List Expr) → length (values_of ts) ≡ length ts
same_length [] = refl
same_length (t ∷ ts) = ap suc (same_length ts)

-- ---- what becomes of the operands

inner_pushed : (zs : List ℤ) (z : ℤ) (o : Outcome ℕ (List ℤ))
    → pushed_all (z ∷ zs) o ≡ pushed_all zs (o >>= (λ vs. found (z ∷ vs.0) vs.1))
inner_pushed zs z None = refl
inner_pushed zs z (Some (Ok vs)) = refl
inner_pushed zs z (Some (Err d)) = refl

more_pushed : (zs : List ℤ) (o : Outcome ℕ ℤ) (q : Done ℕ → Outcome ℕ (List ℤ))
    → tried (pushed zs o) (λ h. pushed_all h.operands (q h.done)) ≡ pushed_all zs (o >>= (λ v. q v.1 >>= (λ vs. found
    (v.0 ∷ vs.0) vs.1)))
more_pushed zs None q = refl
more_pushed zs (Some (Ok v)) q = inner_pushed zs v.0 (q v.1)
more_pushed zs (Some (Err d)) q = refl

call_pushed : (zs : List ℤ) (n : ℕ) (o : Outcome ℕ (List ℤ)) (q : List ℤ → Done ℕ → Outcome ℕ ℤ)
    → HasLength n o
    → tried (pushed_all zs o) (λ h. pushed (below n h.operands) (q (taken n h.operands) h.done)) ≡ pushed zs (o >>=
    (λ vs. q vs.0 vs.1))
call_pushed zs n None q h = refl
call_pushed zs n (Some (Ok vs)) q h =
    ap (λ k. pushed (below k (put_on zs vs.0)) (q (taken k (put_on zs vs.0)) vs.1)) (sym h)
    ∙ ap (λ (ys : List ℤ). pushed ys (q (taken (length vs.0) (put_on zs vs.0)) vs.1)) (below_put zs vs.0)
    ∙ ap (λ (ys : List ℤ). pushed zs (q ys vs.1)) (taken_put zs vs.0)
call_pushed zs n (Some (Err d)) q h = refl

-- ---- arguments

module _ (x : Around) (frame : List Placed) (room : ℕ) where
  pub evaluates_none : (b : List Shape) (w : Walked) (place : ℕ) → Ready b w
      → EvaluatesAll x frame room [] b b w w place place
  evaluates_none b w place h = record { ready = h; after = sym (add-zero place); reach = reach_here room b w h }

  pub evaluates_more : (t : Expr) (ts : List Expr) (a b c : List Shape) (w w' u : Walked) (place p next : ℕ)
      → Evaluates x frame room t a b w w' place p → EvaluatesAll x frame room ts b c w' u p next
      → EvaluatesAll x frame room (t ∷ ts) a c w u place next
  evaluates_more t ts a b c w w' u place p next h i =
      let both : Trial = λ e v k. tried (value_way x frame place t e v k) (arguments_way x frame p ts e v) in
      record {
        ready = i.ready;
        after = two_rooms place _ _ p next h.after i.after;
        reach = reach_where room a c w u both (arguments_way x frame place (t ∷ ts))
            (λ e v _ _ k.
            ap (λ B. tried (value_way x frame place t e v k) (λ n. pushed_all n.operands (arguments (values_of ts)
            (level_at x e) (env_at frame e) B n.done)))
            (further e.base place _ p h.after)
            ∙ more_pushed k.operands ((value {O = ℕ} t).run (level_at x e) (env_at frame e) (e.base + place) k.done)
            (λ d. arguments (values_of ts) (level_at x e) (env_at frame e) ((e.base + place) +
            (value {O = ℕ} t).needs.room x.measures) d))
            (reach_then room a b c w w' u (value_way x frame place t) (arguments_way x frame p ts) h.reach i.reach);
      }

  pub evaluates_call : (at : ℕ) (ts : List Expr) (callee : Callee) (answer : ValueType) (is_used : Bool)
      (a b c : List Shape) (w w' u : Walked)
      (place p next : ℕ) → EvaluatesAll x frame room ts a b w w' place p → next ≡ p + callee_room callee x.measures
      → Reaches room b c w' u (call_way x frame callee
      (record { at = at; answer = answer; is_used = is_used; count = length ts; place = p }))
      → Evaluates x frame room (expr.Call at ts callee answer is_used) a c w u place next
  evaluates_call at ts callee answer is_used a b c w w' u place p next h n r =
      let site : CallSite = record { at = at; answer = answer; is_used = is_used; count = length ts; place = p } in
      let acts : Environment → ℕ → List ℤ → Done ℕ → Outcome ℕ ℤ = λ e B vs d.
      acting callee at answer (level_at x e) (env_at frame e) vs B (note (along x.log) (happening.Call at) d)
      >>= (λ y. needed is_used at answer y.0 y.1) in
      evaluates_as x frame room (expr.Call at ts callee answer is_used) (call at
      (values_of ts) callee answer is_used) a c w u place next
      (λ e v k. tried (arguments_way x frame place ts e v k) (call_way x frame callee site e v))
      (worth-Call at ts callee answer is_used)
      (two_rooms place _ _ p next h.after n)
      (reach_then room a b c w w' u (arguments_way x frame place ts) (call_way x frame callee site) h.reach r)
      (λ e v _ _ k.
      let o : Outcome ℕ (List ℤ) = arguments (values_of ts) (level_at x e) (env_at frame e) (e.base + place) k.done in
      let many : HasLength (length ts) o =
      let P : ℕ → Type 0 = λ m. HasLength m o in
      subst P (same_length ts) (as_many (level_at x e) (env_at frame e) (values_of ts) (e.base + place) k.done) in
      ap (λ B. tried (pushed_all k.operands o) (λ m. pushed (below (length ts) m.operands) (acts e B (taken
      (length ts) m.operands) m.done)))
      (further e.base place _ p h.after)
      ∙ call_pushed k.operands (length ts) o (acts e ((e.base + place) + all_rooms (values_of ts) x.measures)) many)
