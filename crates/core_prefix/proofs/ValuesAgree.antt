-- Two levels on which functions below a bound do the same: an expression that calls no other function does the same on
-- both.
use Rattle.std.proofs.Common.{◌≡◌, ℕ, suc, ◌+◌, ℤ, Bool, true, false, ◌&&◌, List, [], ◌∷◌, map}
use Rattle.std.proofs.Common.{refl, sym, ap, ap₂, ◌∙◌}
use Rattle.std.specs.List.{list_all}
use Rattle.plain_data.specs.declared.run.Happening.TheVariants as happening
use Rattle.core_tree.specs.declared.expr.Expr.{Expr}
use Rattle.core_tree.specs.declared.expr.Expr.TheVariants as expr
use Rattle.core_tree.specs.declared.types.ValueType.{ValueType}
use Rattle.core_tree.specs.States.{◌>>=◌, found, note, Level, Run, Taking}
use Rattle.core_tree.specs.Values.{Value, value, all_sizes, all_rooms, arguments, needed}
use Rattle.core_tree.specs.Values.{loaded, target, pointer, offset, extract, convert, cast, turn, negated, operate}
use Rattle.core_tree.specs.Values.{both, either, choose, store, update, step, comma}
use Rattle.core_tree.proofs.Equations as eq
use Rattle.core_tree.proofs.Induction.{Each, ExprSteps, of_expr}
use Rattle.core_prefix.specs.Calls.{callee_below, value_below}
use Rattle.core_prefix.proofs.CalleesAgree.{ap₃, Levels, one, other, Doing, callee_agrees}
use Rattle.core_prefix.proofs.ExprCalls as calls

-- ---- what is told of all parts is told of each

pub and_left : (a b : Bool) → (a && b) ≡ true → a ≡ true
and_left true b h = refl
and_left false b h = h

pub and_right : (a b : Bool) → (a && b) ≡ true → b ≡ true
and_right true b h = h
and_right false true h = refl
and_right false false h = h

-- ---- what an expression does at a level

pub record Worth (O : Type 0) : Type 0 where
  pub size : ℕ
  pub room : ℕ
  pub run : Run O ℤ

abbrev pub worth : {O : Type 0} → Level O → Value O → Worth O
worth l x = record { size = x.needs.size l.measures; room = x.needs.room l.measures; run = x.run l }

-- what does this at every level
abbrev pub steady : {O : Type 0} → Worth O → Value O
steady w = record { needs = record { size = λ m. w.size; room = λ m. w.room }; run = λ l. w.run }

-- several expressions from left to right
pub record Worths (O : Type 0) : Type 0 where
  pub size : ℕ
  pub room : ℕ
  pub run : Run O (List ℤ)

abbrev pub worths : {O : Type 0} → Level O → List (Value O) → Worths O
worths l xs = record { size = all_sizes xs l.measures; room = all_rooms xs l.measures; run = arguments xs l }

abbrev together : {O : Type 0} → Worth O → Worths O → Worths O
together x xs = record {
  size = x.size + xs.size;
  room = x.room + xs.room;
  run = λ env base d. x.run env base d >>= (λ v. xs.run env (base + x.room) v.1 >>= (λ vs. found (v.0 ∷ vs.0) vs.1));
}

abbrev call_of : {O : Type 0} → Taking O → ℕ → ValueType → Bool → Worths O → Doing O → Worth O
call_of t at type used xs c = record {
  size = suc (xs.size + c.size);
  room = xs.room + c.room;
  run = λ env base d. xs.run env base d >>= (λ vs.
      c.run env vs.0 (base + xs.room) (note t (happening.Call at) vs.1) >>= (λ v. needed used at type v.0 v.1));
}

module _ {O : Type 0} {n : ℕ} (p : Levels O n) where
  abbrev pub ValueAgrees : Value O → Type 0
  ValueAgrees x = worth (one p) x ≡ worth (other p) x

  abbrev pub ExprAgrees : Expr → Type 0
  ExprAgrees e = value_below n e ≡ true → ValueAgrees (value e)

  by_value : (e : Expr) (x : Value O) → value e ≡ x → ValueAgrees x → ValueAgrees (value e)
  by_value e x is h = ap (worth (one p)) is ∙ h ∙ ap (worth (other p)) (sym is)

  pub each_agrees : (es : List Expr) → Each ExprAgrees es → list_all (value_below n) es ≡ true
      → worths (one p) (map value es) ≡ worths (other p) (map value es)
  each_agrees [] h below = refl
  each_agrees (e ∷ es) h below =
      ap₂ together (h.0 (and_left (value_below n e) (list_all (value_below n) es) below))
      (each_agrees es h.1 (and_right (value_below n e) (list_all (value_below n) es) below))

  -- ---- by how many parts there are

  with_one : (e x : Expr) (f : Value O → Value O) → value e ≡ f (value x) → value_below n e ≡ value_below n x
      → (ValueAgrees (value x) → ValueAgrees (f (value x))) → ExprAgrees x → ExprAgrees e
  with_one e x f is calls goes h below = by_value e (f (value x)) is (goes (h (sym calls ∙ below)))

  with_two : (e x y : Expr) (f : Value O → Value O → Value O) → value e ≡ f (value x) (value y)
      → value_below n e ≡ (value_below n x && value_below n y)
      → (ValueAgrees (value x) → ValueAgrees (value y) → ValueAgrees (f (value x) (value y)))
      → ExprAgrees x → ExprAgrees y → ExprAgrees e
  with_two e x y f is calls goes h i below =
      let parts : (value_below n x && value_below n y) ≡ true = sym calls ∙ below in
      by_value e (f (value x) (value y)) is (goes (h (and_left (value_below n x) (value_below n y) parts))
      (i (and_right (value_below n x) (value_below n y) parts)))

  -- a form of one part does at a level what it does over what does that at every level
  over_one : (f : Value O → Value O)
      → ((x : Value O) → worth (one p) (f (steady (worth (one p) x))) ≡ worth (one p) (f x))
      → ((x : Value O) → worth (one p) (f (steady (worth (other p) x))) ≡ worth (other p) (f x))
      → (x : Value O) → ValueAgrees x → ValueAgrees (f x)
  over_one f here there x h = sym (here x) ∙ ap (λ (w : Worth O). worth (one p) (f (steady w))) h ∙ there x

  over_two : (f : Value O → Value O → Value O)
      → ((x y : Value O)
      → worth (one p) (f (steady (worth (one p) x)) (steady (worth (one p) y))) ≡ worth (one p) (f x y))
      → ((x y : Value O)
      → worth (one p) (f (steady (worth (other p) x)) (steady (worth (other p) y))) ≡ worth (other p) (f x y))
      → (x y : Value O) → ValueAgrees x → ValueAgrees y → ValueAgrees (f x y)
  over_two f here there x y h i =
      sym (here x y) ∙ ap₂ (λ (v w : Worth O). worth (one p) (f (steady v) (steady w))) h i ∙ there x y

  choose_agrees : (at : ℕ) (c x y : Value O) → ValueAgrees c → ValueAgrees x → ValueAgrees y
      → ValueAgrees (choose at c x y)
  choose_agrees at c x y g h i =
      ap₃ (λ (u v w : Worth O). worth (one p) (choose at (steady u) (steady v) (steady w))) g h i

  expr_steps : ExprSteps ExprAgrees
  expr_steps = record {
    on_Constant = λ z below. by_value (expr.Constant z) _ (eq.worth-Constant z) refl;
    on_Fixed = λ place below. by_value (expr.Fixed place) _ (eq.worth-Fixed place) refl;
    on_Local = λ at below. by_value (expr.Local at) _ (eq.worth-Local at) refl;
    on_Load = λ access x. with_one (expr.Load access x) x (loaded access) (eq.worth-Load access x)
        (calls.below-Load n _ access x refl) (over_one (loaded access) (λ v. refl) (λ v. refl) (value x));
    on_Target = λ x. with_one (expr.Target x) x target (eq.worth-Target x) (calls.below-Target n _ x refl)
        (over_one target (λ v. refl) (λ v. refl) (value x));
    on_Pointer = λ x. with_one (expr.Pointer x) x pointer (eq.worth-Pointer x) (calls.below-Pointer n _ x refl)
        (over_one pointer (λ v. refl) (λ v. refl) (value x));
    on_Offset = λ bytes x. with_one (expr.Offset bytes x) x (offset bytes) (eq.worth-Offset bytes x)
        (calls.below-Offset n _ bytes x refl) (over_one (offset bytes) (λ v. refl) (λ v. refl) (value x));
    on_Extract = λ bytes member x. with_one (expr.Extract bytes member x) x (extract bytes member)
        (eq.worth-Extract bytes member x) (calls.below-Extract n _ bytes member x refl)
        (over_one (extract bytes member) (λ v. refl) (λ v. refl) (value x));
    on_Convert = λ to x. with_one (expr.Convert to x) x (convert to) (eq.worth-Convert to x)
        (calls.below-Convert n _ to x refl) (over_one (convert to) (λ v. refl) (λ v. refl) (value x));
    on_Cast = λ to x. with_one (expr.Cast to x) x (cast to) (eq.worth-Cast to x)
        (calls.below-Cast n _ to x refl) (over_one (cast to) (λ v. refl) (λ v. refl) (value x));
    on_Turn = λ at operator word is_constant x. with_one (expr.Turn at operator word is_constant x) x
        (turn at operator word) (eq.worth-Turn at operator word is_constant x)
        (calls.below-Turn n _ at operator word is_constant x refl)
        (over_one (turn at operator word) (λ v. refl) (λ v. refl) (value x));
    on_Not = λ x. with_one (expr.Not x) x negated (eq.worth-Not x) (calls.below-Not n _ x refl)
        (over_one negated (λ v. refl) (λ v. refl) (value x));
    on_Operate = λ at operator is_constant x y. with_two (expr.Operate at operator is_constant x y) x y
        (operate at operator) (eq.worth-Operate at operator is_constant x y)
        (calls.below-Operate n _ at operator is_constant x y refl)
        (over_two (operate at operator) (λ v w. refl) (λ v w. refl) (value x) (value y));
    on_And = λ at x y. with_two (expr.And at x y) x y (both at) (eq.worth-And at x y) (calls.below-And n _ at x y refl)
        (over_two (both at) (λ v w. refl) (λ v w. refl) (value x) (value y));
    on_Or = λ at x y. with_two (expr.Or at x y) x y (either at) (eq.worth-Or at x y) (calls.below-Or n _ at x y refl)
        (over_two (either at) (λ v w. refl) (λ v w. refl) (value x) (value y));
    on_Choose = λ at c x y g h i below.
        let parts : (value_below n c && (value_below n x && value_below n y)) ≡ true =
        sym (calls.below-Choose n (expr.Choose at c x y) at c x y refl) ∙ below in
        let sides = and_right (value_below n c) (value_below n x && value_below n y) parts in
        by_value (expr.Choose at c x y) _ (eq.worth-Choose at c x y) (choose_agrees at (value c) (value x) (value y)
        (g (and_left (value_below n c) (value_below n x && value_below n y) parts))
        (h (and_left (value_below n x) (value_below n y) sides))
        (i (and_right (value_below n x) (value_below n y) sides)));
    on_Store = λ at access x y. with_two (expr.Store at access x y) x y (store at access)
        (eq.worth-Store at access x y) (calls.below-Store n _ at access x y refl)
        (over_two (store at access) (λ v w. refl) (λ v w. refl) (value x) (value y));
    on_Update = λ at operator access x y. with_two (expr.Update at operator access x y) x y
        (update at operator access) (eq.worth-Update at operator access x y)
        (calls.below-Update n _ at operator access x y refl)
        (over_two (update at operator access) (λ v w. refl) (λ v w. refl) (value x) (value y));
    on_Step = λ at operator access answer x. with_one (expr.Step at operator access answer x) x
        (step at operator access answer) (eq.worth-Step at operator access answer x)
        (calls.below-Step n _ at operator access answer x refl)
        (over_one (step at operator access answer) (λ v. refl) (λ v. refl) (value x));
    on_Comma = λ x y. with_two (expr.Comma x y) x y comma (eq.worth-Comma x y) (calls.below-Comma n _ x y refl)
        (over_two comma (λ v w. refl) (λ v w. refl) (value x) (value y));
    on_Call = λ at xs c type used h below.
        let parts : (callee_below n c && list_all (value_below n) xs) ≡ true =
        sym (calls.below-Call n (expr.Call at xs c type used) at xs c type used refl) ∙ below in
        by_value (expr.Call at xs c type used) _ (eq.worth-Call at xs c type used)
        (ap₂ (call_of p.taking at type used)
        (each_agrees xs h (and_right (callee_below n c) (list_all (value_below n) xs) parts))
        (callee_agrees p c at type (and_left (callee_below n c) (list_all (value_below n) xs) parts)));
  }

  pub expr_agrees : (e : Expr) → ExprAgrees e
  expr_agrees e = of_expr ExprAgrees expr_steps e
