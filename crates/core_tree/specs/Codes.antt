-- What statements and declarations of the core do: one function a node, over what stands in it. All control is
-- composition of arrows of states: a step acts where the run is running, a label and a case also where the run looks
-- for them, and every other state passes. `code` is the fold.
use Rattle.std.specs.Prelude.{ℕ, zero, suc, ◌+◌, ◌*◌, ℤ, Bool, true, false, cond, ◌||◌, List, [], ◌∷◌, ◌++◌, map}
use Rattle.std.specs.Prelude.{option_map, Option, Some, None}
use Rattle.plain_data.specs.declared.run.Finish.TheVariants as finish
use Rattle.plain_data.specs.declared.run.Happening.TheVariants as happening
use Rattle.plain_data.specs.declared.run.Side.{Side}
use Rattle.plain_data.specs.declared.run.Side.TheVariants as side
use Rattle.c_store.specs.Store.{start, zero_range, lay}
use Rattle.c_means.specs.declared.kind.Kind.{Kind}
use Rattle.c_means.specs.declared.kind.Kind.TheVariants as k
use Rattle.c_means.specs.Parts.{Env}
use Rattle.c_means.specs.Initials.{text_byte}
use Rattle.c_means.specs.Items.{Made, known, past_break, past_continue, past_switch, at_label, at_case, at_default, same}
use Rattle.core_tree.specs.declared.code.Code.{Code, fold-Code}
use Rattle.core_tree.specs.declared.code.Code.TheOpen as open_
use Rattle.core_tree.specs.declared.code.Setting.{Setting}
use Rattle.core_tree.specs.declared.code.Setting.TheVariants as setting
use Rattle.core_tree.specs.declared.expr.Expr.{Expr}
use Rattle.core_tree.specs.declared.types.WordType.{WordType}
use Rattle.core_tree.specs.Numbers.{wrapped}
use Rattle.core_tree.specs.Memory.{stored}
use Rattle.core_tree.specs.States.{Taking, Done, Arrow, Acts, Level, Measures, Needs, onward, stay, running, arrive}
use Rattle.core_tree.specs.States.{become}
use Rattle.core_tree.specs.States.{with_value, with_store, on_branch, one_of, note, born, dead, finished}
use Rattle.core_tree.specs.Values.{Value, value, all_sizes}

-- How many nodes and places code takes, the objects that it gives to its block, from the first place that is given to
-- it, and what it does.
pub record Item (O : Type 0) : Type 0 where
  pub needs : Needs
  pub objects : Measures → ℕ → List Made
  pub run : Acts O

-- ---- nodes and places

abbrev pub counted : Bool → ℕ
counted true = 1
counted false = 0

-- a statement, or a part of one
abbrev pub as_node : Bool → Needs → Needs
as_node b x = record { size = λ m. counted b + x.size m; room = x.room }

abbrev pub none : Needs
none = record { size = λ m. 0; room = λ m. 0 }

abbrev pub one_behind : Needs → Needs → Needs
one_behind x y = record { size = λ m. x.size m + y.size m; room = λ m. x.room m + y.room m }

abbrev pub no_objects : Measures → ℕ → List Made
no_objects m base = []

abbrev pub passes : {O : Type 0} → Acts O
passes l env base d = Some d

-- code without objects for its block
abbrev pub acting : {O : Type 0} → Needs → Acts O → Item O
acting needs run = record { needs = needs; objects = no_objects; run = λ l env base. running (run l env base) }

-- ---- items one behind the other

abbrev pub nothing : {O : Type 0} → Item O
nothing = record { needs = none; objects = no_objects; run = passes }

-- the places of the second stand behind those of the first
abbrev pub followed : {O : Type 0} → Item O → Item O → Item O
followed x y = record {
  needs = one_behind x.needs y.needs;
  objects = λ m base. x.objects m base ++ y.objects m (base + x.needs.room m);
  run = λ l env base d. onward (x.run l env base d) (y.run l env (base + x.needs.room l.measures));
}

abbrev pub in_turn : {O : Type 0} → List (Item O) → Item O
in_turn [] = nothing
in_turn (x ∷ xs) = followed x (in_turn xs)

-- the objects of these items live while they run
abbrev pub lived : {O : Type 0} → Item O → Acts O
lived x l env base d =
    let ms = x.objects l.measures base in
    onward (x.run l (known ms env) base (born l.taking ms d)) (λ r. Some (dead ms r))

-- ---- steps

abbrev pub empty : {O : Type 0} → Bool → Item O
empty is_node = record { needs = as_node is_node none; objects = no_objects; run = passes }

-- the value isn't used (C99 6.8.3p2)
abbrev pub value_of : {O : Type 0} → Value O → Acts O
value_of x l env base d = with_value (x.run l env base d) (λ v d. Some d)

abbrev pub evaluated : {O : Type 0} → Bool → Value O → Item O
evaluated is_node x = acting (as_node is_node x.needs) (value_of x)

abbrev pub maybe_evaluated : {O : Type 0} → Option (Value O) → Item O
maybe_evaluated None = nothing
maybe_evaluated (Some x) = evaluated false x

-- a jump (C99 6.8.6)
abbrev pub jump : {O : Type 0} → Kind → Item O
jump kind = acting (as_node true none) (λ l env base d. Some (become kind d))

abbrev pub returns : {O : Type 0} → Value O → Acts O
returns x l env base d =
    with_value (x.run l env base d) (λ v d. Some (record d { kind = k.Returning; value = Some v }))

abbrev pub return_of : {O : Type 0} → Option (Value O) → Item O
return_of None = jump k.Returning
return_of (Some x) = acting (as_node true x.needs) (returns x)

-- ---- objects of a block (C99 6.7.8): what a declaration sets, where it is reached

abbrev pub setting_needs : (O : Type 0) → Setting → Needs
setting_needs O (setting.Value offset t e) = (value {O = O} e).needs
setting_needs O (setting.Text offset size bytes) = record { size = λ m. 1; room = λ m. 0 }

abbrev pub all_needs : (O : Type 0) → List Setting → Needs
all_needs O [] = none
all_needs O (x ∷ xs) = one_behind (setting_needs O x) (all_needs O xs)

-- of the object at an address
abbrev pub sets : {O : Type 0} → Setting → ℕ → Acts O
sets (setting.Value offset t e) a l env base d =
    with_value ((value e).run l env base d) (λ v d. Some (stored t (a + offset) v d))
sets (setting.Text offset size bytes) a l env base d =
    Some (with_store (lay (a + offset) size (text_byte bytes) d.store) d)

abbrev pub sets_all : {O : Type 0} → List Setting → ℕ → Acts O
sets_all [] a l env base d = Some d
sets_all {O = O} (x ∷ xs) a l env base d =
    onward (sets x a l env base d) (running (sets_all xs a l env (base + (setting_needs O x).room l.measures)))

abbrev pub zeroed_if : {O : Type 0} → Bool → ℕ → ℕ → Done O → Done O
zeroed_if true a n d = with_store (zero_range a n d.store) d
zeroed_if false a n d = d

abbrev pub declared : {O : Type 0} → ℕ → ℕ → Bool → List Setting → Item O
declared {O = O} at n is_zeroed xs = record {
  needs = record { size = λ m. 1 + (all_needs O xs).size m; room = λ m. 1 + (all_needs O xs).room m };
  objects = λ m base. record { at = at; place = base; size = n } ∷ [];
  run = λ l env base. running (λ d. sets_all xs (start (env at)) l env (base + 1)
      (zeroed_if is_zeroed (start (env at)) n d));
}

-- ---- blocks (C99 6.8.2): entered by a run that is running

abbrev pub block : {O : Type 0} → Bool → List (Item O) → Item O
block is_node xs = acting (as_node is_node (in_turn xs).needs) (lived (in_turn xs))

-- ---- labeled statements (C99 6.8.1): where the run arrives, it may be what it was looking for

abbrev pub arrived : {O : Type 0} → (Kind → Kind) → (Measures → ℕ) → Item O → Item O
arrived f more x = record {
  needs = record { size = λ m. 1 + (more m + x.needs.size m); room = x.needs.room };
  objects = x.objects;
  run = λ l env base d. x.run l env base (arrive f d);
}

abbrev pub no_more : Measures → ℕ
no_more m = 0

-- ---- selection (C99 6.8.4)

abbrev pub if_runs : {O : Type 0} → ℕ → Value O → Item O → Item O → Acts O
if_runs at c x y l env base d =
    with_value (c.run l env base d) (λ v. on_branch l.taking at v (λ b. one_of b
    (x.run l env (base + c.needs.room l.measures))
    (y.run l env (base + (c.needs.room l.measures + x.needs.room l.measures)))))

abbrev pub if_of : {O : Type 0} → ℕ → Value O → Item O → Item O → Item O
if_of at c x y = acting (as_node true (one_behind c.needs (one_behind x.needs y.needs))) (if_runs at c x y)

abbrev pub is_among : ℤ → List ℤ → Bool
is_among z [] = false
is_among z (x ∷ xs) = same z x || is_among z xs

-- to the case of the value, else to `default`, else behind the statement (C99 6.8.4.2p4, p5)
abbrev pub chosen : List ℤ → ℤ → Kind
chosen cases z = cond (is_among z cases) (k.Choosing z) k.Defaulting

abbrev pub chosen_side : List ℤ → ℤ → Side
chosen_side cases z = cond (is_among z cases) (side.Case z) side.Otherwise

abbrev pub chosen_at : {O : Type 0} → Taking O → ℕ → List ℤ → ℤ → Done O → Done O
chosen_at t at cases z d = become (chosen cases z) (note t (happening.Branch at (chosen_side cases z)) d)

abbrev pub switch_runs : {O : Type 0} → ℕ → WordType → List ℤ → Value O → Item O → Acts O
switch_runs at word cases c x l env base d =
    with_value (c.run l env base d) (λ v d.
    onward (lived x l env (base + c.needs.room l.measures) (chosen_at l.taking at cases (wrapped word v) d))
    (λ r. Some (arrive past_switch r)))

abbrev pub switch_of : {O : Type 0} → ℕ → WordType → List ℤ → Value O → Bool → List (Item O) → Item O
switch_of at word cases c is_node xs =
    let x = in_turn xs in
    acting (as_node true (one_behind c.needs (as_node is_node x.needs))) (switch_runs at word cases c x)

-- ---- iteration (C99 6.8.5)

-- the run leaves the bounds at the loop's keyword
abbrev pub left_at : {O : Type 0} → ℕ → Arrow O
left_at at d = Some (finished (finish.Left at) d)

-- a test, and what it leads to on either side; none is always true, and is no branch (C99 6.8.5.3p2)
abbrev pub tested : {O : Type 0} → ℕ → Option (Value O) → Level O → Env → ℕ → (Bool → Arrow O) → Arrow O
tested at None l env base go d = go true d
tested at (Some c) l env base go d = with_value (c.run l env base d) (λ v. on_branch l.taking at v go)

abbrev pub test_needs : {O : Type 0} → Option (Value O) → Needs
test_needs None = none
test_needs (Some c) = c.needs

-- what each turn takes, once more than there are turns
abbrev pub each_turn : Needs → Needs
each_turn x = record {
  size = λ m. 1 + (m.turns + 1) * x.size m;
  room = λ m. (m.turns + 1) * x.room m;
}

abbrev pub turn_needs : {O : Type 0} → Option (Value O) → Item O → Item O → Needs
turn_needs test body step = one_behind (test_needs test) (one_behind body.needs step.needs)

-- with so many turns left: the test, the body, the step; the next turn has its places behind those of this one
abbrev pub turns_from :
    {O : Type 0} → ℕ → Option (Value O) → Item O → Item O → Level O → Env → ℕ → ℕ → Arrow O
turns_from at test body step l env zero base d =
    tested at test l env base (λ b. one_of b (left_at at) stay) d
turns_from at test body step l env (suc n) base d =
    tested at test l env base (λ b. one_of b
    (λ d. onward (body.run l env (base + (test_needs test).room l.measures) d) (λ r. running (λ r. onward
    (step.run l env (base + ((test_needs test).room l.measures + body.needs.room l.measures)) r)
    (running (turns_from at test body step l env n (base + (turn_needs test body step).room l.measures))))
    (arrive past_continue r)))
    stay) d

abbrev pub broken_out : {O : Type 0} → Option (Done O) → Option (Done O)
broken_out o = onward o (λ r. Some (arrive past_break r))

-- C99 6.8.5.1, 6.8.5.3: the test stands before each turn
abbrev pub looped : {O : Type 0} → ℕ → Option (Value O) → Option (Value O) → Item O → Item O
looped at test step body =
    let after = maybe_evaluated step in
    acting (each_turn (turn_needs test body after))
    (λ l env base d. broken_out (turns_from at test body after l env l.measures.turns base d))

-- C99 6.8.5.2: the test stands behind each turn
abbrev pub rounds_from : {O : Type 0} → ℕ → Item O → Value O → Level O → Env → ℕ → ℕ → Arrow O
rounds_from at body test l env zero base d = left_at at d
rounds_from at body test l env (suc n) base d =
    onward (body.run l env base d) (λ r. running
    (tested at (Some test) l env (base + body.needs.room l.measures)
    (λ b. one_of b
    (rounds_from at body test l env n (base + (body.needs.room l.measures + test.needs.room l.measures)))
    stay))
    (arrive past_continue r))

abbrev pub repeated : {O : Type 0} → ℕ → Item O → Value O → Item O
repeated at body test =
    acting (each_turn (one_behind body.needs test.needs))
    (λ l env base d. broken_out (rounds_from at body test l env l.measures.turns base d))

-- ---- the fold

abbrev pub node_size : (O : Type 0) → Expr → Measures → ℕ
node_size O e m = (value {O = O} e).needs.size m

abbrev pub static_needs : (O : Type 0) → Bool → List Expr → Needs
static_needs O is_node es = as_node is_node (record { size = all_sizes (map (value {O = O}) es); room = λ m. 0 })

abbrev pub code_step : {O : Type 0} → open_.Code-F (Item O) → Item O
code_step (open_.Nothing is_node) = empty is_node
code_step (open_.Value is_node e) = evaluated is_node (value e)
code_step (open_.Declare at size is_zeroed xs) = declared at size is_zeroed xs
code_step {O = O} (open_.Static is_node es) =
    record { needs = static_needs O is_node es; objects = no_objects; run = passes }
code_step (open_.Block is_node xs) = block is_node xs
code_step (open_.Label name x) = arrived (at_label name) no_more x
code_step {O = O} (open_.Case z e x) = arrived (at_case (Some z)) (node_size O e) x
code_step (open_.Default x) = arrived at_default no_more x
code_step (open_.If at e x y) = if_of at (value e) x y
code_step (open_.Switch at word cases e is_node xs) = switch_of at word cases (value e) is_node xs
code_step (open_.Loop at test step x) = looped at (option_map value test) (option_map value step) x
code_step (open_.Repeat at test x) = repeated at x (value test)
code_step (open_.Goto name) = jump (k.Going name)
code_step open_.Continue = jump k.Continuing
code_step open_.Break = jump k.Breaking
code_step (open_.Return e) = return_of (option_map value e)

-- what code does
unfoldable pub code : {O : Type 0} → Code → Item O
code {O = O} c = fold-Code (Item O) code_step c
