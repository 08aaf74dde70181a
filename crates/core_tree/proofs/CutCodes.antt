-- Cutting at a log and running: each expression, and all code.
use Rattle.std.proofs.Common.{◌≡◌, ℕ, zero, suc, ◌+◌, ℤ, List, [], ◌∷◌, ◌++◌, map, Bool, true, false}
use Rattle.std.proofs.Common.{Option, Some, None, refl, ap, ap₂, ◌∙◌, subst}
use Rattle.std.proofs.Math.Path.{fun_ext}
use Rattle.std.specs.Prelude.{option_map, unsigned_abs}
use Rattle.plain_data.specs.declared.run.Happening.TheVariants as happening
use Rattle.plain_data.specs.declared.run.Side.TheVariants as side
use Rattle.c_language.specs.Integers.{is_zero}
use Rattle.c_store.specs.declared.object.ObjectKind.TheVariants.{Automatic}
use Rattle.c_store.specs.Store.{start, make, end, lay}
use Rattle.c_means.specs.Initials.{text_byte}
use Rattle.c_means.specs.declared.kind.Kind.{Kind}
use Rattle.c_means.specs.declared.kind.Kind.TheVariants as k
use Rattle.c_means.specs.Parts.{Env}
use Rattle.c_means.specs.Items.{Made, known, past_break, past_continue, past_switch, at_label, at_case, at_default}
use Rattle.core_tree.specs.declared.code.Code.{Code}
use Rattle.core_tree.specs.declared.code.Code.TheVariants as tree
use Rattle.core_tree.specs.declared.code.Setting.{Setting}
use Rattle.core_tree.specs.declared.code.Setting.TheVariants as setting
use Rattle.core_tree.specs.declared.expr.Expr.{Expr}
use Rattle.core_tree.specs.declared.expr.Expr.TheVariants as expr
use Rattle.core_tree.specs.declared.types.WordType.{WordType}
use Rattle.core_tree.specs.Numbers.{wrapped}
use Rattle.core_tree.specs.Memory.{stored}
use Rattle.core_tree.specs.States.{Output, plain, along, Done, Arrow, Acts, Measures, Needs}
use Rattle.core_tree.specs.States.{onward, arrive, become, note, on_branch, one_of, born, dead, meet}
use Rattle.core_tree.specs.States.{with_store}
use Rattle.core_tree.specs.Values.{Value, value}
use Rattle.core_tree.specs.Codes.{
  Item,
  acting,
  nothing,
  followed,
  in_turn,
  lived,
  evaluated,
  maybe_evaluated,
  return_of,
}
use Rattle.core_tree.specs.Codes.{setting_needs, all_needs, sets, sets_all, zeroed_if, declared, arrived, if_of}
use Rattle.core_tree.specs.Codes.{chosen_at, switch_of, left_at, tested, test_needs, each_turn}
use Rattle.core_tree.specs.Codes.{turn_needs, turns_from, looped, rounds_from, repeated}
use Rattle.core_tree.specs.Codes.{static_needs, as_node, one_behind, code, jump}
use Rattle.core_tree.proofs.Equations as eq
use Rattle.core_tree.proofs.Induction.{Each, ExprSteps, CodeSteps, of_expr, of_code}
use Rattle.core_tree.proofs.CutStates.{seen_as, Goes, goes_onward, goes_with, goes_running, goes_stay, test_goes}
use Rattle.core_tree.proofs.CutCalls.{Frames, plain_in, along_in, Quiet, goes_quiet}
use Rattle.core_tree.proofs.CutValues.{
  SameValue,
  SameAll,
  room_behind,
  constant_same,
  local_same,
  node_same,
  between_same,
}
use Rattle.core_tree.proofs.CutValues.{
  operate_same,
  both_same,
  either_same,
  comma_same,
  store_same,
  update_same,
  step_same,
}
use Rattle.core_tree.proofs.CutValues.{choose_same, call_same, runs_value, load_cut, all_sizes_same}
use Rattle.core_tree.proofs.CutStates.{runs_or_stop}
use Rattle.core_tree.specs.Numbers.{turned}

abbrev one_more : Needs → Needs
one_more x = record { size = λ m. 1 + x.size m; room = λ m. 1 + x.room m }

abbrev arrived_needs : (Measures → ℕ) → Needs → Needs
arrived_needs more x = record { size = λ m. 1 + (more m + x.size m); room = x.room }

module _ (log : List ℕ) where
  -- ---- each expression

  abbrev pub SameExpr : Expr → Type 0
  SameExpr e = SameValue log (value e) (value e)

  by_values : (e : Expr) (x : Value Output) (y : Value ℕ) → value e ≡ x → value e ≡ y → SameValue log x y → SameExpr e
  by_values e x y f g h = rw (f, g) h

  pub all_same : (es : List Expr) → Each SameExpr es → SameAll log (map value es) (map value es)
  all_same [] h = tt
  all_same (e ∷ es) h = (h.0, all_same es h.1)

  expr_steps : ExprSteps SameExpr
  expr_steps = record {
    on_Constant = λ z. by_values (expr.Constant z) _ _ (eq.worth-Constant z) (eq.worth-Constant z)
        (constant_same log z);
    on_Fixed = λ place. by_values (expr.Fixed place) _ _ (eq.worth-Fixed place) (eq.worth-Fixed place)
        (constant_same log _);
    on_Local = λ at. by_values (expr.Local at) _ _ (eq.worth-Local at) (eq.worth-Local at) (local_same log at);
    on_Load = λ access x h. by_values (expr.Load access x) _ _ (eq.worth-Load access x) (eq.worth-Load access x)
        (between_same log _ _ _ _ h (λ a. load_cut log access (unsigned_abs a)));
    on_Target = λ x h. by_values (expr.Target x) _ _ (eq.worth-Target x) (eq.worth-Target x)
        (node_same log _ _ _ _ h (λ a. runs_value log _));
    on_Pointer = λ x h. by_values (expr.Pointer x) _ _ (eq.worth-Pointer x) (eq.worth-Pointer x)
        (node_same log _ _ _ _ h (λ a. runs_value log _));
    on_Offset = λ bytes x h. by_values (expr.Offset bytes x) _ _ (eq.worth-Offset bytes x) (eq.worth-Offset bytes x)
        (node_same log _ _ _ _ h (λ a. runs_value log _));
    on_Extract = λ bytes member x h. by_values (expr.Extract bytes member x) _ _ (eq.worth-Extract bytes member x)
        (eq.worth-Extract bytes member x) (node_same log _ _ _ _ h (λ a. runs_value log _));
    on_Convert = λ to x h. by_values (expr.Convert to x) _ _ (eq.worth-Convert to x) (eq.worth-Convert to x)
        (between_same log _ _ _ _ h (λ a. runs_value log _));
    on_Cast = λ to x h. by_values (expr.Cast to x) _ _ (eq.worth-Cast to x) (eq.worth-Cast to x)
        (node_same log _ _ _ _ h (λ a. runs_value log _));
    on_Turn = λ at operator word is_constant x h. by_values (expr.Turn at operator word is_constant x) _ _
        (eq.worth-Turn at operator word is_constant x) (eq.worth-Turn at operator word is_constant x)
        (node_same log _ _ _ _ h (λ z. runs_or_stop log at (turned operator word z)));
    on_Not = λ x h. by_values (expr.Not x) _ _ (eq.worth-Not x) (eq.worth-Not x)
        (node_same log _ _ _ _ h (λ a. runs_value log _));
    on_Operate = λ at operator is_constant x y h i. by_values (expr.Operate at operator is_constant x y) _ _
        (eq.worth-Operate at operator is_constant x y) (eq.worth-Operate at operator is_constant x y)
        (operate_same log _ _ _ _ h i at operator);
    on_And = λ at x y h i. by_values (expr.And at x y) _ _ (eq.worth-And at x y) (eq.worth-And at x y)
        (both_same log _ _ _ _ h i at);
    on_Or = λ at x y h i. by_values (expr.Or at x y) _ _ (eq.worth-Or at x y) (eq.worth-Or at x y)
        (either_same log _ _ _ _ h i at);
    on_Choose = λ at c x y g h i. by_values (expr.Choose at c x y) _ _ (eq.worth-Choose at c x y)
        (eq.worth-Choose at c x y) (choose_same log at _ _ _ _ _ _ g h i);
    on_Store = λ at access x y h i. by_values (expr.Store at access x y) _ _ (eq.worth-Store at access x y)
        (eq.worth-Store at access x y) (store_same log _ _ _ _ h i at access);
    on_Update = λ at operator access x y h i. by_values (expr.Update at operator access x y) _ _
        (eq.worth-Update at operator access x y) (eq.worth-Update at operator access x y)
        (update_same log _ _ _ _ h i at operator access);
    on_Step = λ at operator access answer x h. by_values (expr.Step at operator access answer x) _ _
        (eq.worth-Step at operator access answer x) (eq.worth-Step at operator access answer x)
        (step_same log at operator access answer _ _ h);
    on_Comma = λ x y h i. by_values (expr.Comma x y) _ _ (eq.worth-Comma x y) (eq.worth-Comma x y)
        (comma_same log _ _ _ _ h i);
    on_Call = λ at xs callee answer is_used h. by_values (expr.Call at xs callee answer is_used) _ _
        (eq.worth-Call at xs callee answer is_used) (eq.worth-Call at xs callee answer is_used)
        (call_same log at _ _ callee answer is_used (all_same xs h));
  }

  pub expr_same : (e : Expr) → SameExpr e
  expr_same e = of_expr SameExpr expr_steps e

  -- ---- items, as they print and along the log

  pub record SameItem (x : Item Output) (y : Item ℕ) : Type 0 where
    pub needs : x.needs ≡ y.needs
    pub objects : x.objects ≡ y.objects
    pub goes : (p : Frames log) (env : Env) (base base' : ℕ) → base ≡ base' → Goes log
        (x.run (plain_in log p) env base) (y.run (along_in log p) env base')

  abbrev pub SameItems : List (Item Output) → List (Item ℕ) → Type 0
  SameItems [] [] = Unit {0}
  SameItems [] (y ∷ ys) = ⊥
  SameItems (x ∷ xs) [] = ⊥
  SameItems (x ∷ xs) (y ∷ ys) = SameItem x y × SameItems xs ys

  -- a step that prints nothing, in front of others
  pub goes_after : (f : Done Output → Done Output) (g : Done ℕ → Done ℕ) (f' : Arrow Output) (g' : Arrow ℕ)
      → ((d : Done Output) → Quiet log d (f d) (g (seen_as log d))) → Goes log f' g' → Goes log (λ d. f' (f d))
      (λ d. g' (g d))
  goes_after f g f' g' q h = goes_onward log (goes_quiet log f g q) h

  -- and behind others
  pub goes_before : (f : Arrow Output) (g : Arrow ℕ) (f' : Done Output → Done Output) (g' : Done ℕ → Done ℕ)
      → Goes log f g → ((d : Done Output) → Quiet log d (f' d) (g' (seen_as log d))) → Goes log
      (λ d. onward (f d) (λ r. Some (f' r))) (λ d. onward (g d) (λ r. Some (g' r)))
  goes_before f g f' g' h q = goes_onward log h (goes_quiet log f' g' q)

  acting_same : (n n' : Needs) (f : Acts Output) (g : Acts ℕ) → n ≡ n'
      → ((p : Frames log) (env : Env) (base base' : ℕ) → base ≡ base' → Goes log (f (plain_in log p) env base)
      (g (along_in log p) env base'))
      → SameItem (acting n f) (acting n' g)
  acting_same n n' f g e h = record {
    needs = e;
    objects = refl;
    goes = λ p env base base' b. goes_running log _ _
        (h p env base base' b);
  }

  nothing_same : SameItem nothing nothing
  nothing_same = record { needs = refl; objects = refl; goes = λ p env base base' e. goes_stay log }

  -- ---- one behind the other

  followed_same : (x : Item Output) (x' : Item ℕ) (y : Item Output) (y' : Item ℕ) → SameItem x x' → SameItem y y' →
      SameItem (followed x y) (followed x' y')
  followed_same x x' y y' h i = record {
    needs = ap₂ one_behind h.needs i.needs;
    objects = fun_ext (λ m. fun_ext (λ base.
        ap (λ (f : Measures → ℕ → List Made). f m base ++ y.objects m (base + x.needs.room m)) h.objects
        ∙ ap (λ (n : Needs). x'.objects m base ++ y.objects m (base + n.room m)) h.needs
        ∙ ap (λ (f : Measures → ℕ → List Made). x'.objects m base ++ f m (base + x'.needs.room m)) i.objects));
    goes = λ p env base base' e. goes_onward log (h.goes p env base base' e)
        (i.goes p env _ _ (room_behind log p base base' x.needs x'.needs e h.needs));
  }

  pub in_turn_same : (xs : List (Item Output)) (ys : List (Item ℕ)) → SameItems xs ys → SameItem (in_turn xs)
      (in_turn ys)
  in_turn_same [] [] h = nothing_same
  in_turn_same [] (y ∷ ys) h = absurd h
  in_turn_same (x ∷ xs) [] h = absurd h
  in_turn_same (x ∷ xs) (y ∷ ys) h = followed_same x y (in_turn xs) (in_turn ys) h.0 (in_turn_same xs ys h.1)

  -- ---- blocks

  pub born_quiet : (ms : List Made) (d : Done Output) → Quiet log d (born plain ms d)
      (born (along log) ms (seen_as log d))
  born_quiet [] d = record { count = refl; printed = refl; seen = refl }
  born_quiet (m ∷ ms) d =
      let q = born_quiet ms (meet plain m.place (with_store (make m.place
      (record { kind = Automatic; size = m.size }) d.store) d)) in
      record { count = q.count; printed = q.printed; seen = q.seen }

  pub dead_quiet : (ms : List Made) (d : Done Output) → Quiet log d (dead ms d) (dead ms (seen_as log d))
  dead_quiet [] d = record { count = refl; printed = refl; seen = refl }
  dead_quiet (m ∷ ms) d =
      let q = dead_quiet ms (with_store (end m.place d.store) d) in record
      { count = q.count; printed = q.printed; seen = q.seen }

  pub lived_same : (x : Item Output) (y : Item ℕ) → SameItem x y → (p : Frames log) (env : Env) (base base' : ℕ) →
      base ≡ base'
      → Goes log (lived x (plain_in log p) env base) (lived y (along_in log p) env base')
  lived_same x y h p env base base' e =
      subst (λ (ms : List Made). Goes log (lived x (plain_in log p) env base)
      (λ d. onward (y.run (along_in log p) (known ms env) base' (born (along log) ms d)) (λ r. Some (dead ms r))))
      (ap₂ (λ (f : Measures → ℕ → List Made) b. f p.measures b) h.objects e)
      (goes_before _ _ _ _ (goes_after _ _ _ _ (born_quiet (x.objects p.measures base))
      (h.goes p (known (x.objects p.measures base) env) base base' e))
      (dead_quiet (x.objects p.measures base)))

  -- ---- steps

  pub arrive_quiet : (f : Kind → Kind) (d : Done Output) → Quiet log d (arrive f d) (arrive f (seen_as log d))
  arrive_quiet f d = record { count = refl; printed = refl; seen = refl }

  evaluated_same : (is_node : Bool) (x : Value Output) (y : Value ℕ) → SameValue log x y → SameItem
      (evaluated is_node x) (evaluated is_node y)
  evaluated_same is_node x y h = acting_same _ _ _ _ (ap (as_node is_node) h.needs)
      (λ p env base base' e. goes_with log (h.runs p env base base' e) (λ z. goes_stay log))

  abbrev pub SameMaybe : Option (Value Output) → Option (Value ℕ) → Type 0
  SameMaybe None None = Unit {0}
  SameMaybe None (Some y) = ⊥
  SameMaybe (Some x) None = ⊥
  SameMaybe (Some x) (Some y) = SameValue log x y

  pub maybe_value_same : (e : Option Expr) → SameMaybe (option_map value e) (option_map value e)
  maybe_value_same None = tt
  maybe_value_same (Some e) = expr_same e

  maybe_evaluated_same : (x : Option (Value Output)) (y : Option (Value ℕ)) → SameMaybe x y → SameItem
      (maybe_evaluated x) (maybe_evaluated y)
  maybe_evaluated_same None None h = nothing_same
  maybe_evaluated_same None (Some y) h = absurd h
  maybe_evaluated_same (Some x) None h = absurd h
  maybe_evaluated_same (Some x) (Some y) h = evaluated_same false x y h

  become_quiet : (kind : Kind) (d : Done Output) → Quiet log d (become kind d) (become kind (seen_as log d))
  become_quiet kind d = record { count = refl; printed = refl; seen = refl }

  jump_same : (kind : Kind) → SameItem (jump kind) (jump kind)
  jump_same kind = acting_same _ _ _ _ refl (λ p env base base' e. goes_quiet log (become kind) (become kind)
      (become_quiet kind))

  return_same : (x : Option (Value Output)) (y : Option (Value ℕ)) → SameMaybe x y → SameItem (return_of x)
      (return_of y)
  return_same None None h = jump_same k.Returning
  return_same None (Some y) h = absurd h
  return_same (Some x) None h = absurd h
  return_same (Some x) (Some y) h = acting_same _ _ _ _ (ap (as_node true) h.needs)
      (λ p env base base' e. goes_with log (h.runs p env base base' e)
      (λ z. goes_quiet log _ (λ d. record d { kind = k.Returning; value = Some z })
      (λ d. record { count = refl; printed = refl; seen = refl })))

  -- ---- declarations

  setting_same : (x : Setting) → setting_needs Output x ≡ setting_needs ℕ x
  setting_same (setting.Value offset t e) = (expr_same e).needs
  setting_same (setting.Text offset size bytes) = refl

  settings_same : (xs : List Setting) → all_needs Output xs ≡ all_needs ℕ xs
  settings_same [] = refl
  settings_same (x ∷ xs) = ap₂ one_behind (setting_same x) (settings_same xs)

  pub sets_goes : (x : Setting) (a : ℕ) (p : Frames log) (env : Env) (base base' : ℕ) → base ≡ base'
      → Goes log (sets x a (plain_in log p) env base) (sets x a (along_in log p) env base')
  sets_goes (setting.Value offset t e) a p env base base' b = goes_with log ((expr_same e).runs p env base base' b)
      (λ z. goes_quiet log _ (stored t (a + offset) z) (λ d. record { count = refl; printed = refl; seen = refl }))
  sets_goes (setting.Text offset size bytes) a p env base base' b =
      goes_quiet log _ (λ d. with_store (lay (a + offset) size (text_byte bytes) d.store) d)
      (λ d. record { count = refl; printed = refl; seen = refl })

  sets_all_goes : (xs : List Setting) (a : ℕ) (p : Frames log) (env : Env) (base base' : ℕ) → base ≡ base'
      → Goes log (sets_all xs a (plain_in log p) env base) (sets_all xs a (along_in log p) env base')
  sets_all_goes [] a p env base base' e = goes_stay log
  sets_all_goes (x ∷ xs) a p env base base' e = goes_onward log (sets_goes x a p env base base' e)
      (goes_running log _ _ (sets_all_goes xs a p env _ _ (room_behind log p base base' (setting_needs Output x)
      (setting_needs ℕ x) e (setting_same x))))

  zeroed_quiet : (b : Bool) (a n : ℕ) (d : Done Output) → Quiet log d (zeroed_if b a n d)
      (zeroed_if b a n (seen_as log d))
  zeroed_quiet true a n d = record { count = refl; printed = refl; seen = refl }
  zeroed_quiet false a n d = record { count = refl; printed = refl; seen = refl }

  declared_same : (at n : ℕ) (is_zeroed : Bool) (xs : List Setting) → SameItem (declared at n is_zeroed xs)
      (declared at n is_zeroed xs)
  declared_same at n is_zeroed xs = record {
    needs = ap (λ (x : Needs). one_more x) (settings_same xs);
    objects = refl;
    goes = λ p env base base' e. goes_running log _ _ (goes_after _ _ _ _ (zeroed_quiet is_zeroed (start (env at)) n)
        (sets_all_goes xs (start (env at)) p env (base + 1) (base' + 1) (ap (λ b. b + 1) e)));
  }

  arrived_same : (f : Kind → Kind) (more more' : Measures → ℕ) (x : Item Output) (y : Item ℕ) → more ≡ more' →
      SameItem x y → SameItem (arrived f more x) (arrived f more' y)
  arrived_same f more more' x y e h = record {
    needs = ap₂ (λ g (n : Needs). arrived_needs g n) e h.needs;
    objects = h.objects;
    goes = λ p env base base' b. goes_after _ _ _ _ (arrive_quiet f) (h.goes p env base base' b);
  }

  -- ---- selection

  goes_branch : (at : ℕ) (z : ℤ) (f : Bool → Arrow Output) (g : Bool → Arrow ℕ) → ((b : Bool) → Goes log (f b) (g b))
      → Goes log (on_branch plain at z f) (on_branch (along log) at z g)
  goes_branch at z f g h = record {
    cuts = λ j d c. test_goes log j d.out (is_zero z) _ _ _ _
        ((h false).cuts j (note plain (happening.Branch at side.No) d) c)
        ((h true).cuts j (note plain (happening.Branch at side.Yes) d) c);
  }

  goes_one : (b : Bool) (f f' : Arrow Output) (g g' : Arrow ℕ) → Goes log f g → Goes log f' g' → Goes log
      (one_of b f f') (one_of b g g')
  goes_one true f f' g g' h i = h
  goes_one false f f' g g' h i = i

  if_same : (at : ℕ) (c : Value Output) (c' : Value ℕ) (x : Item Output) (x' : Item ℕ) (y : Item Output) (y' : Item ℕ)
      → SameValue log c c' → SameItem x x' → SameItem y y' → SameItem (if_of at c x y) (if_of at c' x' y')
  if_same at c c' x x' y y' g h i = acting_same _ _ _ _
      (ap₂ (λ a b. as_node true (one_behind a b)) g.needs (ap₂ one_behind h.needs i.needs))
      (λ p env base base' e. goes_with log (g.runs p env base base' e)
      (λ z. goes_branch at z _ _ (λ b. goes_one b _ _ _ _
      (h.goes p env _ _ (room_behind log p base base' c.needs c'.needs e g.needs))
      (i.goes p env _ _ (room_behind log p base base' (one_behind c.needs x.needs) (one_behind c'.needs x'.needs) e
      (ap₂ one_behind g.needs h.needs))))))

  chosen_quiet : (at : ℕ) (cases : List ℤ) (z : ℤ) (d : Done Output) → Quiet log d (chosen_at plain at cases z d)
      (chosen_at (along log) at cases z (seen_as log d))
  chosen_quiet at cases z d = record { count = refl; printed = refl; seen = refl }

  switch_same : (at : ℕ) (word : WordType) (cases : List ℤ) (c : Value Output) (c' : Value ℕ) (is_node : Bool)
      (xs : List (Item Output)) (ys : List (Item ℕ))
      → SameValue log c c' → SameItems xs ys → SameItem (switch_of at word cases c is_node xs)
      (switch_of at word cases c' is_node ys)
  switch_same at word cases c c' is_node xs ys g h =
      let i = in_turn_same xs ys h in
      acting_same _ _ _ _ (ap₂ (λ a b. as_node true (one_behind a (as_node is_node b))) g.needs i.needs)
      (λ p env base base' e. goes_with log (g.runs p env base base' e) (λ z. goes_before _ _ _ _
      (goes_after _ _ _ _ (chosen_quiet at cases (wrapped word z)) (lived_same (in_turn xs) (in_turn ys) i p env _ _
      (room_behind log p base base' c.needs c'.needs e g.needs))) (arrive_quiet past_switch)))

  -- ---- iteration

  left_goes : (at : ℕ) → Goes log (left_at at) (left_at at)
  left_goes at = record { cuts = λ j d c. (c, refl) }

  tested_goes : (at : ℕ) (x : Option (Value Output)) (y : Option (Value ℕ)) → SameMaybe x y → (p : Frames log)
      (env : Env) (base base' : ℕ) → base ≡ base'
      → (f : Bool → Arrow Output) (g : Bool → Arrow ℕ) → ((b : Bool) → Goes log (f b) (g b))
      → Goes log (tested at x (plain_in log p) env base f) (tested at y (along_in log p) env base' g)
  tested_goes at None None h p env base base' e f g i = i true
  tested_goes at None (Some y) h p env base base' e f g i = absurd h
  tested_goes at (Some x) None h p env base base' e f g i = absurd h
  tested_goes at (Some x) (Some y) h p env base base' e f g i = goes_with log (h.runs p env base base' e)
      (λ z. goes_branch at z f g i)

  test_needs_same : (x : Option (Value Output)) (y : Option (Value ℕ)) → SameMaybe x y → test_needs x ≡ test_needs y
  test_needs_same None None h = refl
  test_needs_same None (Some y) h = absurd h
  test_needs_same (Some x) None h = absurd h
  test_needs_same (Some x) (Some y) h = h.needs

  module _ (at : ℕ) (t : Option (Value Output)) (t' : Option (Value ℕ)) (x : Item Output) (x' : Item ℕ)
      (s : Item Output) (s' : Item ℕ)
      (g : SameMaybe t t') (h : SameItem x x') (i : SameItem s s') where
    turn_same : turn_needs t x s ≡ turn_needs t' x' s'
    turn_same = ap₂ one_behind (test_needs_same t t' g) (ap₂ one_behind h.needs i.needs)

    turns_goes : (p : Frames log) (env : Env) (n base base' : ℕ) → base ≡ base'
        → Goes log (turns_from at t x s (plain_in log p) env n base)
        (turns_from at t' x' s' (along_in log p) env n base')
    turns_goes p env zero base base' e = tested_goes at t t' g p env base base' e _ _
        (λ b. goes_one b _ _ _ _ (left_goes at) (goes_stay log))
    turns_goes p env (suc n) base base' e = tested_goes at t t' g p env base base' e _ _ (λ b. goes_one b _ _ _ _
        (goes_onward log (h.goes p env _ _ (room_behind log p base base' (test_needs t) (test_needs t') e
        (test_needs_same t t' g)))
        (goes_after _ _ _ _ (arrive_quiet past_continue) (goes_running log _ _ (goes_onward log
        (i.goes p env _ _ (room_behind log p base base' (one_behind (test_needs t) x.needs)
        (one_behind (test_needs t') x'.needs) e
        (ap₂ one_behind (test_needs_same t t' g) h.needs)))
        (goes_running log _ _ (turns_goes p env n _ _ (room_behind log p base base' (turn_needs t x s)
        (turn_needs t' x' s') e turn_same)))))))
        (goes_stay log))

  looped_same : (at : ℕ) (t : Option (Value Output)) (t' : Option (Value ℕ)) (s : Option (Value Output))
      (s' : Option (Value ℕ)) (x : Item Output) (x' : Item ℕ)
      → SameMaybe t t' → SameMaybe s s' → SameItem x x' → SameItem (looped at t s x) (looped at t' s' x')
  looped_same at t t' s s' x x' g i h =
      let after = maybe_evaluated_same s s' i in
      acting_same _ _ _ _ (ap each_turn (turn_same at t t' x x' _ _ g h after))
      (λ p env base base' e. goes_before _ _ _ _ (turns_goes at t t' x x' _ _ g h after p env p.measures.turns base
      base' e) (arrive_quiet past_break))

  module _ (at : ℕ) (x : Item Output) (x' : Item ℕ) (t : Value Output) (t' : Value ℕ) (h : SameItem x x')
      (g : SameValue log t t') where
    rounds_goes : (p : Frames log) (env : Env) (n base base' : ℕ) → base ≡ base'
        → Goes log (rounds_from at x t (plain_in log p) env n base) (rounds_from at x' t' (along_in log p) env n base')
    rounds_goes p env zero base base' e = left_goes at
    rounds_goes p env (suc n) base base' e = goes_onward log (h.goes p env base base' e)
        (goes_after _ _ _ _ (arrive_quiet past_continue)
        (goes_running log _ _ (tested_goes at (Some t) (Some t') g p env _ _
        (room_behind log p base base' x.needs x'.needs e h.needs) _ _
        (λ b. goes_one b _ _ _ _ (rounds_goes p env n _ _ (room_behind log p base base' (one_behind x.needs t.needs)
        (one_behind x'.needs t'.needs) e
        (ap₂ one_behind h.needs g.needs))) (goes_stay log)))))

    repeated_same : SameItem (repeated at x t) (repeated at x' t')
    repeated_same = acting_same _ _ _ _ (ap each_turn (ap₂ one_behind h.needs g.needs))
        (λ p env base base' e. goes_before _ _ _ _ (rounds_goes p env p.measures.turns base base' e)
        (arrive_quiet past_break))

  -- ---- all code

  abbrev pub SameCode : Code → Type 0
  SameCode c = SameItem (code c) (code c)

  by_items : (c : Code) (x : Item Output) (y : Item ℕ) → code c ≡ x → code c ≡ y → SameItem x y → SameCode c
  by_items c x y f g h = rw (f, g) h

  pub codes_same : (cs : List Code) → Each SameCode cs → SameItems (map code cs) (map code cs)
  codes_same [] h = tt
  codes_same (c ∷ cs) h = (h.0, codes_same cs h.1)

  values_same : (es : List Expr) → SameAll log (map value es) (map value es)
  values_same [] = tt
  values_same (e ∷ es) = (expr_same e, values_same es)

  static_same : (is_node : Bool) (es : List Expr) → static_needs Output is_node es ≡ static_needs ℕ is_node es
  static_same is_node es = ap (λ f. as_node is_node (record { size = f; room = λ m. 0 }))
      (fun_ext (λ m. all_sizes_same log (map value es) (map value es) m (values_same es)))

  code_steps : CodeSteps SameCode
  code_steps = record {
    on_Nothing = λ is_node. by_items (tree.Nothing is_node) _ _ (eq.does-Nothing is_node) (eq.does-Nothing is_node)
        (record { needs = refl; objects = refl; goes = λ p env base base' e. goes_stay log });
    on_Value = λ is_node e. by_items (tree.Value is_node e) _ _ (eq.does-Value is_node e) (eq.does-Value is_node e)
        (evaluated_same is_node _ _ (expr_same e));
    on_Declare = λ at size is_zeroed xs. by_items (tree.Declare at size is_zeroed xs) _ _
        (eq.does-Declare at size is_zeroed xs)
        (eq.does-Declare at size is_zeroed xs) (declared_same at size is_zeroed xs);
    on_Static = λ is_node es. by_items (tree.Static is_node es) _ _ (eq.does-Static is_node es)
        (eq.does-Static is_node es)
        (record { needs = static_same is_node es; objects = refl; goes = λ p env base base' e. goes_stay log });
    on_Block = λ is_node xs h. by_items (tree.Block is_node xs) _ _ (eq.does-Block is_node xs)
        (eq.does-Block is_node xs)
        (acting_same _ _ _ _ (ap (as_node is_node) (in_turn_same _ _ (codes_same xs h)).needs)
        (lived_same _ _ (in_turn_same _ _ (codes_same xs h))));
    on_Label = λ name x h. by_items (tree.Label name x) _ _ (eq.does-Label name x) (eq.does-Label name x)
        (arrived_same (at_label name) _ _ _ _ refl h);
    on_Case = λ z e x h. by_items (tree.Case z e x) _ _ (eq.does-Case z e x) (eq.does-Case z e x)
        (arrived_same (at_case (Some z)) _ _ _ _ (ap (λ (n : Needs). n.size) (expr_same e).needs) h);
    on_Default = λ x h. by_items (tree.Default x) _ _ (eq.does-Default x) (eq.does-Default x)
        (arrived_same at_default _ _ _ _ refl h);
    on_If = λ at e x y h i. by_items (tree.If at e x y) _ _ (eq.does-If at e x y) (eq.does-If at e x y)
        (if_same at _ _ _ _ _ _ (expr_same e) h i);
    on_Switch = λ at word cases e is_node xs h. by_items (tree.Switch at word cases e is_node xs) _ _
        (eq.does-Switch at word cases e is_node xs) (eq.does-Switch at word cases e is_node xs)
        (switch_same at word cases _ _ is_node _ _ (expr_same e) (codes_same xs h));
    on_Loop = λ at t s x h. by_items (tree.Loop at t s x) _ _ (eq.does-Loop at t s x) (eq.does-Loop at t s x)
        (looped_same at _ _ _ _ _ _ (maybe_value_same t) (maybe_value_same s) h);
    on_Repeat = λ at t x h. by_items (tree.Repeat at t x) _ _ (eq.does-Repeat at t x) (eq.does-Repeat at t x)
        (repeated_same at _ _ _ _ h (expr_same t));
    on_Goto = λ name. by_items (tree.Goto name) _ _ (eq.does-Goto name) (eq.does-Goto name) (jump_same (k.Going name));
    on_Continue = by_items tree.Continue _ _ eq.does-Continue eq.does-Continue (jump_same k.Continuing);
    on_Break = by_items tree.Break _ _ eq.does-Break eq.does-Break (jump_same k.Breaking);
    on_Return = λ e. by_items (tree.Return e) _ _ (eq.does-Return e) (eq.does-Return e)
        (return_same _ _ (maybe_value_same e));
  }

  pub code_same : (c : Code) → SameCode c
  code_same c = of_code SameCode code_steps c
