-- Two levels on which functions below a bound do the same: code that calls no other function does the same on both.
use Rattle.std.proofs.Common.{◌≡◌, ℕ, zero, suc, ◌+◌, ◌*◌, ℤ, Bool, true, false, ◌&&◌, List, [], ◌∷◌, map}
use Rattle.std.proofs.Common.{Option, Some, None, refl, sym, ap, ap₂, ◌∙◌}
use Rattle.std.proofs.Math.Path.{fun_ext}
use Rattle.std.specs.Prelude.{option_map}
use Rattle.std.specs.List.{list_all}
use Rattle.c_store.specs.Store.{start}
use Rattle.c_means.specs.declared.kind.Kind.{Kind}
use Rattle.c_means.specs.Parts.{Env}
use Rattle.c_means.specs.Items.{Made, past_continue, at_label, at_case, at_default}
use Rattle.core_tree.specs.declared.code.Code.{Code}
use Rattle.core_tree.specs.declared.code.Code.TheVariants as tree
use Rattle.core_tree.specs.declared.code.Setting.{Setting}
use Rattle.core_tree.specs.declared.code.Setting.TheVariants as setting
use Rattle.core_tree.specs.declared.expr.Expr.{Expr}
use Rattle.core_tree.specs.declared.types.WordType.{WordType}
use Rattle.core_tree.specs.Memory.{stored}
use Rattle.core_tree.specs.States.{Done, Arrow, Level, onward, running, with_value}
use Rattle.core_tree.specs.States.{one_of, stay, arrive}
use Rattle.core_tree.specs.Values.{Value, value}
use Rattle.core_tree.specs.Codes.{Item, acting, passes, no_more, no_objects, setting_needs, static_needs, node_size}
use Rattle.core_tree.specs.Codes.{followed, in_turn, lived, evaluated, as_node}
use Rattle.core_tree.specs.Codes.{maybe_evaluated, return_of, all_needs, sets, sets_all, zeroed_if, declared, arrived}
use Rattle.core_tree.specs.Codes.{one_behind, if_of, switch_runs, tested, test_needs, turn_needs, turns_from, looped}
use Rattle.core_tree.specs.Codes.{left_at, broken_out, rounds_from, repeated, code, counted, block, switch_of}
use Rattle.core_tree.proofs.Equations as eq
use Rattle.core_tree.proofs.Induction.{Each, CodeSteps, of_code}
use Rattle.core_prefix.specs.Calls.{value_below, option_below, setting_below, code_below}
use Rattle.core_prefix.proofs.CalleesAgree.{ap₃, Levels, one, other}
use Rattle.core_prefix.proofs.CodeCalls as calls
use Rattle.core_prefix.proofs.ValuesAgree.{and_left, and_right, Worth, steady, Worths, ValueAgrees}
use Rattle.core_prefix.proofs.ValuesAgree.{ExprAgrees, expr_agrees, each_agrees}

-- ---- what code does at a level

pub record Work (O : Type 0) : Type 0 where
  pub size : ℕ
  pub room : ℕ
  pub objects : ℕ → List Made
  pub run : Env → ℕ → Arrow O

abbrev pub work : {O : Type 0} → Level O → Item O → Work O
work l x = record {
  size = x.needs.size l.measures;
  room = x.needs.room l.measures;
  objects = x.objects l.measures;
  run = x.run l;
}

-- what does this at every level
abbrev pub lasting : {O : Type 0} → Work O → Item O
lasting w = record {
  needs = record { size = λ m. w.size; room = λ m. w.room };
  objects = λ m. w.objects;
  run = λ l. w.run;
}

-- what is set of an object at an address
pub record Sets (O : Type 0) : Type 0 where
  pub size : ℕ
  pub room : ℕ
  pub run : ℕ → Env → ℕ → Arrow O

abbrev set_by : {O : Type 0} → Level O → Setting → Sets O
set_by {O = O} l x = record {
  size = (setting_needs O x).size l.measures;
  room = (setting_needs O x).room l.measures;
  run = λ a. sets x a l;
}

abbrev set_by_all : {O : Type 0} → Level O → List Setting → Sets O
set_by_all {O = O} l xs = record {
  size = (all_needs O xs).size l.measures;
  room = (all_needs O xs).room l.measures;
  run = λ a. sets_all xs a l;
}

abbrev set_first : {O : Type 0} → Sets O → Sets O → Sets O
set_first x xs = record {
  size = x.size + xs.size;
  room = x.room + xs.room;
  run = λ a env base d. onward (x.run a env base d) (running (xs.run a env (base + x.room)));
}

abbrev value_set : {O : Type 0} → (ℕ → ℤ → Done O → Done O) → Worth O → Sets O
value_set f x = record {
  size = x.size;
  room = x.room;
  run = λ a env base d. with_value (x.run env base d) (λ v d. Some (f a v d));
}

-- a test that may be missing, and what it leads to
pub record Test (O : Type 0) : Type 0 where
  pub size : ℕ
  pub room : ℕ
  pub run : Env → ℕ → (Bool → Arrow O) → Arrow O

abbrev test_of : {O : Type 0} → Level O → ℕ → Option (Value O) → Test O
test_of l at t = record {
  size = (test_needs t).size l.measures;
  room = (test_needs t).room l.measures;
  run = tested at t l;
}

-- one turn of a loop, with those that are left by their first place
abbrev turn : {O : Type 0} → Test O → Work O → Work O → (ℕ → Arrow O) → Env → ℕ → Arrow O
turn t x s rest env base =
    t.run env base (λ b. one_of b
    (λ d. onward (x.run env (base + t.room) d) (λ r. running (λ r. onward
    (s.run env (base + (t.room + x.room)) r) (running (rest (base + (t.room + (x.room + s.room))))))
    (arrive past_continue r)))
    stay)

abbrev round : {O : Type 0} → Work O → Test O → (ℕ → Arrow O) → Env → ℕ → Arrow O
round x t rest env base d =
    onward (x.run env base d) (λ r. running
    (t.run env (base + x.room) (λ b. one_of b (rest (base + (x.room + t.room))) stay))
    (arrive past_continue r))

abbrev turns_work : {O : Type 0} → ℕ → ℕ → ℕ → (Env → ℕ → Arrow O) → Work O
turns_work turns size room run = record {
  size = 1 + (turns + 1) * size;
  room = (turns + 1) * room;
  objects = λ base. [];
  run = λ env base. running (λ d. broken_out (run env base d));
}

module _ {O : Type 0} {n : ℕ} (p : Levels O n) where
  abbrev pub ItemAgrees : Item O → Type 0
  ItemAgrees x = work (one p) x ≡ work (other p) x

  -- ---- parts

  abbrev pub OptionAgrees : Option (Value O) → Type 0
  OptionAgrees None = Unit {0}
  OptionAgrees (Some x) = ValueAgrees p x

  option_agrees : (e : Option Expr) → option_below n e ≡ true → OptionAgrees (option_map value e)
  option_agrees None below = tt
  option_agrees (Some e) below = expr_agrees p e below

  exprs_agree : (es : List Expr) → Each (ExprAgrees p) es
  exprs_agree [] = tt
  exprs_agree (e ∷ es) = (expr_agrees p e, exprs_agree es)

  -- ---- one behind the other

  followed_agrees : (x y : Item O) → ItemAgrees x → ItemAgrees y → ItemAgrees (followed x y)
  followed_agrees x y h i = ap₂ (λ (v w : Work O). work (one p) (followed (lasting v) (lasting w))) h i

  -- ---- steps

  evaluated_agrees : (is_node : Bool) (x : Value O) → ValueAgrees p x → ItemAgrees (evaluated is_node x)
  evaluated_agrees is_node x h = ap (λ (v : Worth O). work (one p) (evaluated is_node (steady v))) h

  maybe_agrees : (x : Option (Value O)) → OptionAgrees x → ItemAgrees (maybe_evaluated x)
  maybe_agrees None h = refl
  maybe_agrees (Some x) h = evaluated_agrees false x h

  return_agrees : (x : Option (Value O)) → OptionAgrees x → ItemAgrees (return_of x)
  return_agrees None h = refl
  return_agrees (Some x) h = ap (λ (v : Worth O). work (one p) (return_of (Some (steady v)))) h

  -- ---- declarations

  setting_agrees : (x : Setting) → setting_below n x ≡ true → set_by (one p) x ≡ set_by (other p) x
  setting_agrees (setting.Value offset t e) below =
      ap (λ (v : Worth O). value_set (λ a z d. stored t (a + offset) z d) v) (expr_agrees p e below)
  setting_agrees (setting.Text offset size bytes) below = refl

  settings_agree : (xs : List Setting) → list_all (setting_below n) xs ≡ true
      → set_by_all (one p) xs ≡ set_by_all (other p) xs
  settings_agree [] below = refl
  settings_agree (x ∷ xs) below =
      ap₂ set_first (setting_agrees x (and_left (setting_below n x) (list_all (setting_below n) xs) below))
      (settings_agree xs (and_right (setting_below n x) (list_all (setting_below n) xs) below))

  declared_agrees : (at size : ℕ) (is_zeroed : Bool) (xs : List Setting) → list_all (setting_below n) xs ≡ true
      → ItemAgrees (declared at size is_zeroed xs)
  declared_agrees at size is_zeroed xs below =
      ap (λ (w : Sets O). record {
        size = 1 + w.size;
        room = 1 + w.room;
        objects = λ base. record { at = at; place = base; size = size } ∷ [];
        run = λ env base. running (λ d. w.run (start (env at)) env (base + 1)
            (zeroed_if is_zeroed (start (env at)) size d));
      }) (settings_agree xs below)

  static_agrees : (is_node : Bool) (es : List Expr) → list_all (value_below n) es ≡ true
      → ItemAgrees (record { needs = static_needs O is_node es; objects = no_objects; run = passes })
  static_agrees is_node es below =
      ap (λ (w : Worths O). record {
        size = counted is_node + w.size;
        room = 0;
        objects = λ base. [];
        run = λ env base d. Some d;
      }) (each_agrees p es (exprs_agree es) below)

  -- ---- labeled statements and selection

  arrived_agrees : (f : Kind → Kind) (x : Item O) → ItemAgrees x → ItemAgrees (arrived f no_more x)
  arrived_agrees f x h = ap (λ (w : Work O). work (one p) (arrived f no_more (lasting w))) h

  case_agrees : (f : Kind → Kind) (e : Expr) (x : Item O) → ValueAgrees p (value e) → ItemAgrees x
      → ItemAgrees (arrived f (node_size O e) x)
  case_agrees f e x g h =
      ap₂ (λ (v : Worth O) (w : Work O). work (one p) (arrived f (λ m. v.size) (lasting w))) g h

  if_agrees : (at : ℕ) (c : Value O) (x y : Item O) → ValueAgrees p c → ItemAgrees x → ItemAgrees y
      → ItemAgrees (if_of at c x y)
  if_agrees at c x y g h i =
      ap₃ (λ (u : Worth O) (v w : Work O). work (one p) (if_of at (steady u) (lasting v) (lasting w))) g h i

  switch_agrees : (at : ℕ) (word : WordType) (cases : List ℤ) (c : Value O) (is_node : Bool) (xs : List (Item O))
      → ValueAgrees p c → ItemAgrees (in_turn xs) → ItemAgrees (switch_of at word cases c is_node xs)
  switch_agrees at word cases c is_node xs g h =
      ap₂ (λ (v : Worth O) (w : Work O). work (one p)
      (acting (as_node true (one_behind (steady v).needs (as_node is_node (lasting w).needs)))
      (switch_runs at word cases (steady v) (lasting w)))) g h

  block_agrees : (is_node : Bool) (xs : List (Item O)) → ItemAgrees (in_turn xs) → ItemAgrees (block is_node xs)
  block_agrees is_node xs h =
      ap (λ (w : Work O). work (one p) (acting (as_node is_node (lasting w).needs) (lived (lasting w)))) h

  -- ---- iteration

  test_agrees : (at : ℕ) (t : Option (Value O)) → OptionAgrees t → test_of (one p) at t ≡ test_of (other p) at t
  test_agrees at None h = refl
  test_agrees at (Some c) h = ap (λ (v : Worth O). test_of (one p) at (Some (steady v))) h

  module _ (at : ℕ) (t : Option (Value O)) (x s : Item O)
      (g : OptionAgrees t) (h : ItemAgrees x) (i : ItemAgrees s) where
    turns_agree : (m : ℕ) (env : Env) → turns_from at t x s (one p) env m ≡ turns_from at t x s (other p) env m
    turns_agree zero env =
        ap {B = ℕ → Arrow O} (λ (v : Test O) base. v.run env base (λ b. one_of b (left_at at) stay))
        (test_agrees at t g)
    turns_agree (suc m) env =
        ap₃ (λ (u : Test O) (v w : Work O). turn u v w (turns_from at t x s (one p) env m) env) (test_agrees at t g) h i
        ∙ ap {B = ℕ → Arrow O}
        (λ (rest : ℕ → Arrow O). turn (test_of (other p) at t) (work (other p) x) (work (other p) s) rest env)
        (turns_agree m env)

  looped_agrees : (at : ℕ) (t s : Option (Value O)) (x : Item O) → OptionAgrees t → OptionAgrees s → ItemAgrees x
      → ItemAgrees (looped at t s x)
  looped_agrees at t s x g i h =
      let after = maybe_evaluated s in
      let needs = turn_needs t x after in
      let behind = maybe_agrees s i in
      ap₃ (λ (u : Test O) (v w : Work O). turns_work p.turns (u.size + (v.size + w.size)) (u.room + (v.room + w.room))
      (λ env. turns_from at t x after (one p) env p.turns)) (test_agrees at t g) h behind
      ∙ ap (λ (run : Env → ℕ → Arrow O).
      turns_work p.turns (needs.size (other p).measures) (needs.room (other p).measures) run)
      (fun_ext (λ env. turns_agree at t x after g h behind p.turns env))

  module _ (at : ℕ) (x : Item O) (t : Value O) (h : ItemAgrees x) (g : ValueAgrees p t) where
    rounds_agree : (m : ℕ) (env : Env) → rounds_from at x t (one p) env m ≡ rounds_from at x t (other p) env m
    rounds_agree zero env = refl
    rounds_agree (suc m) env =
        ap₃ (λ (v : Work O) (u : Test O) (rest : ℕ → Arrow O). round v u rest env) h (test_agrees at (Some t) g)
        (rounds_agree m env)

    repeated_agrees : ItemAgrees (repeated at x t)
    repeated_agrees =
        ap₃ (λ (v : Work O) (u : Worth O) (run : Env → ℕ → Arrow O).
        turns_work p.turns (v.size + u.size) (v.room + u.room) run) h g
        (fun_ext (λ env. rounds_agree p.turns env))

  -- ---- all code

  abbrev pub CodeAgrees : Code → Type 0
  CodeAgrees c = code_below n c ≡ true → ItemAgrees (code c)

  by_item : (c : Code) (x : Item O) → code c ≡ x → ItemAgrees x → ItemAgrees (code c)
  by_item c x is h = ap (work (one p)) is ∙ h ∙ ap (work (other p)) (sym is)

  codes_agree : (cs : List Code) → Each CodeAgrees cs → list_all (code_below n) cs ≡ true
      → ItemAgrees (in_turn (map code cs))
  codes_agree [] h below = refl
  codes_agree (c ∷ cs) h below =
      followed_agrees (code c) (in_turn (map code cs))
      (h.0 (and_left (code_below n c) (list_all (code_below n) cs) below))
      (codes_agree cs h.1 (and_right (code_below n c) (list_all (code_below n) cs) below))

  code_steps : CodeSteps CodeAgrees
  code_steps = record {
    on_Nothing = λ is_node below. by_item (tree.Nothing is_node) _ (eq.does-Nothing is_node) refl;
    on_Value = λ is_node e below. by_item (tree.Value is_node e) _ (eq.does-Value is_node e)
        (evaluated_agrees is_node (value e)
        (expr_agrees p e (sym (calls.below-Value n (tree.Value is_node e) is_node e refl) ∙ below)));
    on_Declare = λ at size is_zeroed xs below. by_item (tree.Declare at size is_zeroed xs) _
        (eq.does-Declare at size is_zeroed xs) (declared_agrees at size is_zeroed xs
        (sym (calls.below-Declare n (tree.Declare at size is_zeroed xs) at size is_zeroed xs refl) ∙ below));
    on_Static = λ is_node es below. by_item (tree.Static is_node es) _ (eq.does-Static is_node es)
        (static_agrees is_node es (sym (calls.below-Static n (tree.Static is_node es) is_node es refl) ∙ below));
    on_Block = λ is_node cs h below. by_item (tree.Block is_node cs) _ (eq.does-Block is_node cs)
        (block_agrees is_node (map code cs) (codes_agree cs h
        (sym (calls.below-Block n (tree.Block is_node cs) is_node cs refl) ∙ below)));
    on_Label = λ name x h below. by_item (tree.Label name x) _ (eq.does-Label name x)
        (arrived_agrees (at_label name) (code x)
        (h (sym (calls.below-Label n (tree.Label name x) name x refl) ∙ below)));
    on_Case = λ z e x h below.
        let parts : (value_below n e && code_below n x) ≡ true =
        sym (calls.below-Case n (tree.Case z e x) z e x refl) ∙ below in
        by_item (tree.Case z e x) _ (eq.does-Case z e x) (case_agrees (at_case (Some z)) e (code x)
        (expr_agrees p e (and_left (value_below n e) (code_below n x) parts))
        (h (and_right (value_below n e) (code_below n x) parts)));
    on_Default = λ x h below. by_item (tree.Default x) _ (eq.does-Default x)
        (arrived_agrees at_default (code x) (h (sym (calls.below-Default n (tree.Default x) x refl) ∙ below)));
    on_If = λ at e x y h i below.
        let parts : (value_below n e && (code_below n x && code_below n y)) ≡ true =
        sym (calls.below-If n (tree.If at e x y) at e x y refl) ∙ below in
        let sides = and_right (value_below n e) (code_below n x && code_below n y) parts in
        by_item (tree.If at e x y) _ (eq.does-If at e x y) (if_agrees at (value e) (code x) (code y)
        (expr_agrees p e (and_left (value_below n e) (code_below n x && code_below n y) parts))
        (h (and_left (code_below n x) (code_below n y) sides))
        (i (and_right (code_below n x) (code_below n y) sides)));
    on_Switch = λ at word cases e is_node cs h below.
        let parts : (value_below n e && list_all (code_below n) cs) ≡ true =
        sym (calls.below-Switch n (tree.Switch at word cases e is_node cs) at word cases e is_node cs refl) ∙ below in
        by_item (tree.Switch at word cases e is_node cs) _ (eq.does-Switch at word cases e is_node cs)
        (switch_agrees at word cases (value e) is_node (map code cs)
        (expr_agrees p e (and_left (value_below n e) (list_all (code_below n) cs) parts))
        (codes_agree cs h (and_right (value_below n e) (list_all (code_below n) cs) parts)));
    on_Loop = λ at t s x h below.
        let parts : (option_below n t && (option_below n s && code_below n x)) ≡ true =
        sym (calls.below-Loop n (tree.Loop at t s x) at t s x refl) ∙ below in
        let behind = and_right (option_below n t) (option_below n s && code_below n x) parts in
        by_item (tree.Loop at t s x) _ (eq.does-Loop at t s x)
        (looped_agrees at (option_map value t) (option_map value s) (code x)
        (option_agrees t (and_left (option_below n t) (option_below n s && code_below n x) parts))
        (option_agrees s (and_left (option_below n s) (code_below n x) behind))
        (h (and_right (option_below n s) (code_below n x) behind)));
    on_Repeat = λ at t x h below.
        let parts : (value_below n t && code_below n x) ≡ true =
        sym (calls.below-Repeat n (tree.Repeat at t x) at t x refl) ∙ below in
        by_item (tree.Repeat at t x) _ (eq.does-Repeat at t x) (repeated_agrees at (code x) (value t)
        (h (and_right (value_below n t) (code_below n x) parts))
        (expr_agrees p t (and_left (value_below n t) (code_below n x) parts)));
    on_Goto = λ name below. by_item (tree.Goto name) _ (eq.does-Goto name) refl;
    on_Continue = λ below. by_item tree.Continue _ eq.does-Continue refl;
    on_Break = λ below. by_item tree.Break _ eq.does-Break refl;
    on_Return = λ e below. by_item (tree.Return e) _ (eq.does-Return e) (return_agrees (option_map value e)
        (option_agrees e (sym (calls.below-Return n (tree.Return e) e refl) ∙ below)));
  }

  pub code_agrees : (c : Code) → CodeAgrees c
  code_agrees c = of_code CodeAgrees code_steps c

  each_code : (cs : List Code) → Each CodeAgrees cs
  each_code [] = tt
  each_code (c ∷ cs) = (code_agrees c, each_code cs)

  -- items one behind the other
  pub items_agree : (cs : List Code) → list_all (code_below n) cs ≡ true → ItemAgrees (in_turn (map code cs))
  items_agree cs below = codes_agree cs (each_code cs) below
