-- What expressions of the core are worth: one function a node, over what stands in it, from left to right. `value` is
-- the fold.
use Rattle.std.specs.Prelude.{ℕ, suc, ◌+◌, ℤ, pos, Bool, true, false, not, List, [], ◌∷◌, Option, Some, None}
use Rattle.std.specs.Prelude.{unsigned_abs}
use Rattle.plain_data.specs.declared.run.Happening.TheVariants as happening
use Rattle.plain_data.specs.declared.run.Undefined.TheVariants.{MissingValue}
use Rattle.c_language.specs.Integers.{is_zero, number_of}
use Rattle.c_store.specs.Store.{start}
use Rattle.c_means.specs.Parts.{Env}
use Rattle.c_means.specs.Values.{address, bytes_within}
use Rattle.c_means.specs.Expressions.{behind}
use Rattle.core_tree.specs.declared.expr.Callee.{Callee}
use Rattle.core_tree.specs.declared.expr.Expr.{Expr, fold-Expr}
use Rattle.core_tree.specs.declared.expr.Expr.TheOpen as open_
use Rattle.core_tree.specs.declared.types.Access.{Access}
use Rattle.core_tree.specs.declared.types.Answered.{Answered}
use Rattle.core_tree.specs.declared.types.Answered.TheVariants as answered
use Rattle.core_tree.specs.declared.types.Operator.{Operator}
use Rattle.core_tree.specs.declared.types.Turning.{Turning}
use Rattle.core_tree.specs.declared.types.ValueType.{ValueType}
use Rattle.core_tree.specs.declared.types.ValueType.TheVariants as v
use Rattle.core_tree.specs.declared.types.WordType.{WordType}
use Rattle.core_tree.specs.Numbers.{size_of, converted_to, value_of_bytes, turned}
use Rattle.core_tree.specs.Memory.{load, put, operated}
use Rattle.core_tree.specs.Callees.{callee_size, callee_room, called}
use Rattle.core_tree.specs.States.{Done, Outcome, ◌>>=◌, found, stop, or_stop, note, on_branch, returned, Level}
use Rattle.core_tree.specs.States.{Measures}
use Rattle.core_tree.specs.States.{Needs, Run}

-- how many nodes and places an expression takes, and what it is worth
pub record Value (O : Type 0) : Type 0 where
  pub needs : Needs
  pub run : Level O → Run O ℤ

-- ---- nodes and places

-- a node without parts
abbrev pub alone : Needs
alone = record { size = λ m. 1; room = λ m. 0 }

-- a node over its parts, whose places stand one behind another
abbrev pub over_one : Needs → Needs
over_one x = record { size = λ m. suc (x.size m); room = x.room }

abbrev pub over_both : Needs → Needs → Needs
over_both x y = record { size = λ m. suc (x.size m + y.size m); room = λ m. x.room m + y.room m }

abbrev pub over_three : Needs → Needs → Needs → Needs
over_three c x y = record {
  size = λ m. suc (c.size m + (x.size m + y.size m));
  room = λ m. c.room m + (x.room m + y.room m);
}

-- ---- forms without parts

abbrev pub constant : {O : Type 0} → ℤ → Value O
constant z = record { needs = alone; run = λ l env base d. found z d }

abbrev pub fixed : {O : Type 0} → ℕ → Value O
fixed place = constant (pos (start place))

-- the object that this entry of its block made
abbrev pub local : {O : Type 0} → ℕ → Value O
local at = record { needs = alone; run = λ l env base d. found (pos (start (env at))) d }

-- ---- forms over one value

-- with the value that the part is worth
abbrev pub on_value : {O : Type 0} → Needs → (ℤ → Done O → Outcome O ℤ) → Value O → Value O
on_value needs f x = record {
  needs = needs;
  run = λ l env base d. do
    v ← x.run l env base d
    f v.0 v.1;
}

-- a node of the source
abbrev pub node_on : {O : Type 0} → (ℤ → Done O → Outcome O ℤ) → Value O → Value O
node_on f x = on_value (over_one x.needs) f x

-- a conversion, which is no node of the source
abbrev pub between : {O : Type 0} → (ℤ → Done O → Outcome O ℤ) → Value O → Value O
between f x = on_value x.needs f x

abbrev pub loaded : {O : Type 0} → Access → Value O → Value O
loaded access x = between (λ a d. load access (unsigned_abs a) d) x

abbrev pub target : {O : Type 0} → Value O → Value O
target x = node_on (λ a d. found (pos (address a)) d) x

abbrev pub pointer : {O : Type 0} → Value O → Value O
pointer x = node_on (λ a d. found a d) x

abbrev pub offset : {O : Type 0} → ℕ → Value O → Value O
offset bytes x = node_on (λ a d. found (pos (behind bytes (unsigned_abs a))) d) x

abbrev pub extract : {O : Type 0} → ℕ → ValueType → Value O → Value O
extract bytes member x =
    node_on (λ z d. found (value_of_bytes member (bytes_within bytes (size_of member) (unsigned_abs z))) d) x

abbrev pub convert : {O : Type 0} → ValueType → Value O → Value O
convert to x = between (λ z d. found (converted_to to z) d) x

abbrev pub cast : {O : Type 0} → ValueType → Value O → Value O
cast to x = node_on (λ z d. found (converted_to to z) d) x

abbrev pub turn : {O : Type 0} → ℕ → Turning → WordType → Value O → Value O
turn at operator word x = node_on (λ z d. or_stop at (turned operator word z) d) x

abbrev pub negated : {O : Type 0} → Value O → Value O
negated x = node_on (λ z d. found (number_of (is_zero z)) d) x

-- ---- forms over two and three values

abbrev pub operate : {O : Type 0} → ℕ → Operator → Value O → Value O → Value O
operate at operator x y = record {
  needs = over_both x.needs y.needs;
  run = λ l env base d. do
    v ← x.run l env base d
    w ← y.run l env (base + x.needs.room l.measures) v.1
    operated at operator v.0 w.0 w.1;
}

abbrev pub truth_of : {O : Type 0} → Value O → Level O → Run O ℤ
truth_of y l env base d = do
  w ← y.run l env base d
  found (number_of (not (is_zero w.0))) w.1

-- C99 6.5.13p4: the right operand isn't evaluated where the left one is 0
abbrev pub and_then : {O : Type 0} → Value O → Level O → Env → ℕ → Bool → Done O → Outcome O ℤ
and_then y l env base true d = truth_of y l env base d
and_then y l env base false d = found (pos 0) d

-- C99 6.5.14p4: nor where it isn't 0
abbrev pub or_else : {O : Type 0} → Value O → Level O → Env → ℕ → Bool → Done O → Outcome O ℤ
or_else y l env base true d = found (pos 1) d
or_else y l env base false d = truth_of y l env base d

abbrev pub both : {O : Type 0} → ℕ → Value O → Value O → Value O
both at x y = record {
  needs = over_both x.needs y.needs;
  run = λ l env base d. do
    v ← x.run l env base d
    on_branch l.taking at v.0 (and_then y l env (base + x.needs.room l.measures)) v.1;
}

abbrev pub either : {O : Type 0} → ℕ → Value O → Value O → Value O
either at x y = record {
  needs = over_both x.needs y.needs;
  run = λ l env base d. do
    v ← x.run l env base d
    on_branch l.taking at v.0 (or_else y l env (base + x.needs.room l.measures)) v.1;
}

abbrev pub one_run : {O : Type 0} → Value O → Value O → Level O → Env → ℕ → Bool → Done O → Outcome O ℤ
one_run x y l env base true d = x.run l env base d
one_run x y l env base false d = y.run l env (base + x.needs.room l.measures) d

-- both have places, the first one's first
abbrev pub choose : {O : Type 0} → ℕ → Value O → Value O → Value O → Value O
choose at c x y = record {
  needs = over_three c.needs x.needs y.needs;
  run = λ l env base d. do
    v ← c.run l env base d
    on_branch l.taking at v.0 (one_run x y l env (base + c.needs.room l.measures)) v.1;
}

abbrev pub comma : {O : Type 0} → Value O → Value O → Value O
comma x y = record {
  needs = over_both x.needs y.needs;
  run = λ l env base d. do
    v ← x.run l env base d
    y.run l env (base + x.needs.room l.measures) v.1;
}

-- ---- assignment

abbrev pub store : {O : Type 0} → ℕ → Access → Value O → Value O → Value O
store at access x y = record {
  needs = over_both x.needs y.needs;
  run = λ l env base d. do
    a ← x.run l env base d
    w ← y.run l env (base + x.needs.room l.measures) a.1
    put at access (unsigned_abs a.0) w.0 w.1;
}

abbrev pub update : {O : Type 0} → ℕ → Operator → Access → Value O → Value O → Value O
update at operator access x y = record {
  needs = over_both x.needs y.needs;
  run = λ l env base d. do
    a ← x.run l env base d
    v ← load access (unsigned_abs a.0) a.1
    w ← y.run l env (base + x.needs.room l.measures) v.1
    z ← operated at operator v.0 w.0 w.1
    put at access (unsigned_abs a.0) z.0 z.1;
}

abbrev pub either_value : Answered → ℤ → ℤ → ℤ
either_value answered.Before v w = v
either_value answered.Stored v w = w

abbrev pub step : {O : Type 0} → ℕ → Operator → Access → Answered → Value O → Value O
step at operator access answer x = record {
  needs = over_one x.needs;
  run = λ l env base d. do
    a ← x.run l env base d
    v ← load access (unsigned_abs a.0) a.1
    w ← operated at operator v.0 (pos 1) v.1
    z ← put at access (unsigned_abs a.0) w.0 w.1
    found (either_value answer v.0 z.0) z.1;
}

-- ---- calls

abbrev pub all_sizes : {O : Type 0} → List (Value O) → Measures → ℕ
all_sizes [] m = 0
all_sizes (x ∷ xs) m = x.needs.size m + all_sizes xs m

abbrev pub all_rooms : {O : Type 0} → List (Value O) → Measures → ℕ
all_rooms [] m = 0
all_rooms (x ∷ xs) m = x.needs.room m + all_rooms xs m

-- from left to right
abbrev pub arguments : {O : Type 0} → List (Value O) → Level O → Run O (List ℤ)
arguments [] l env base d = found [] d
arguments (x ∷ xs) l env base d = do
  v ← x.run l env base d
  vs ← arguments xs l env (base + x.needs.room l.measures) v.1
  found (v.0 ∷ vs.0) vs.1

-- a value that is used must be there (C99 6.9.1p12)
abbrev pub needed : {O : Type 0} → Bool → ℕ → ValueType → Option ℤ → Done O → Outcome O ℤ
needed used at type (Some z) d = found z d
needed false at type None d = found (pos 0) d
needed true at v.Void None d = found (pos 0) d
needed true at type None d = stop at MissingValue d

-- the arguments, the event, what is called, and its answer
abbrev pub acting :
    {O : Type 0} → Callee → ℕ → ValueType → Level O → Env → List ℤ → ℕ → Done O → Outcome O (Option ℤ)
acting c at type l env vs base d =
    returned l.taking d (called l c at type env vs base d.store d.out)

abbrev pub call : {O : Type 0} → ℕ → List (Value O) → Callee → ValueType → Bool → Value O
call at xs c type used = record {
  needs = record {
    size = λ m. suc (all_sizes xs m + callee_size c m);
    room = λ m. all_rooms xs m + callee_room c m;
  };
  run = λ l env base d. do
    vs ← arguments xs l env base d
    v ← acting c at type l env vs.0 (base + all_rooms xs l.measures) (note l.taking (happening.Call at) vs.1)
    needed used at type v.0 v.1;
}

-- ---- the fold

abbrev pub value_step : {O : Type 0} → open_.Expr-F (Value O) → Value O
value_step (open_.Constant z) = constant z
value_step (open_.Fixed place) = fixed place
value_step (open_.Local at) = local at
value_step (open_.Load access x) = loaded access x
value_step (open_.Target x) = target x
value_step (open_.Pointer x) = pointer x
value_step (open_.Offset bytes x) = offset bytes x
value_step (open_.Extract bytes member x) = extract bytes member x
value_step (open_.Convert to x) = convert to x
value_step (open_.Cast to x) = cast to x
value_step (open_.Turn at operator word is_constant x) = turn at operator word x
value_step (open_.Not x) = negated x
value_step (open_.Operate at operator is_constant x y) = operate at operator x y
value_step (open_.And at x y) = both at x y
value_step (open_.Or at x y) = either at x y
value_step (open_.Choose at c x y) = choose at c x y
value_step (open_.Store at access x y) = store at access x y
value_step (open_.Update at operator access x y) = update at operator access x y
value_step (open_.Step at operator access answer x) = step at operator access answer x
value_step (open_.Comma x y) = comma x y
value_step (open_.Call at xs c type used) = call at xs c type used

-- what an expression is worth
unfoldable pub value : {O : Type 0} → Expr → Value O
value {O} e = fold-Expr (Value O) value_step e
