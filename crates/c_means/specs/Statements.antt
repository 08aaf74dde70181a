-- What statements and declarations do (C99 6.7, 6.8): one function a form, over what stands in it. `stmt` is the fold.
use Rattle.std.specs.Prelude.{ℕ, zero, suc, ◌+◌, ◌*◌, ℤ, Bool, true, false, cond, not, ◌&&◌, ◌||◌, nat_lt, List, []}
use Rattle.std.specs.Prelude.{◌∷◌, ◌++◌, map, option_map, Option, Some, None, is_some}
use Rattle.std.specs.Str.{bytes_eq}
use Rattle.plain_data.specs.declared.run.Finish.TheVariants as finish
use Rattle.plain_data.specs.declared.run.Happening.TheVariants as happening
use Rattle.plain_data.specs.declared.run.Side.{Side}
use Rattle.plain_data.specs.declared.run.Side.TheVariants as side
use Rattle.c_language.specs.declared.unit.Declaration.{Declaration}
use Rattle.c_language.specs.declared.unit.ForStart.{ForStart}
use Rattle.c_language.specs.declared.unit.ForStart.TheVariants as start_
use Rattle.c_language.specs.declared.unit.InitDeclarator.{InitDeclarator}
use Rattle.c_language.specs.declared.unit.Stmt.{Stmt, fold-Stmt}
use Rattle.c_language.specs.declared.unit.Stmt.TheOpen as open_
use Rattle.c_language.specs.declared.ctype.CType.{CType}
use Rattle.c_language.specs.declared.ctype.IntegerKind.{IntegerKind}
use Rattle.c_language.specs.declared.ctype.IntegerKind.TheVariants as int_
use Rattle.c_language.specs.Types.{is_void, is_floating, is_integer}
use Rattle.c_language.specs.Integers.{promoted, converted}
use Rattle.c_store.specs.Store.{start, zero_range}
use Rattle.c_language.specs.declared.scope.Duration.TheVariants as duration
use Rattle.c_language.specs.declared.scope.Entry.{Entry}
use Rattle.c_language.specs.declared.scope.Linkage.{Linkage}
use Rattle.c_language.specs.declared.scope.Linkage.TheVariants as linkage
use Rattle.c_language.specs.declared.scope.Means.{Means}
use Rattle.c_language.specs.declared.scope.Means.TheVariants as means
use Rattle.c_language.specs.declared.scope.Rule.TheVariants as rule
use Rattle.c_language.specs.Scopes.{Name, Scope, enter, leave}
use Rattle.c_language.specs.Typing.{constant_of, used, not_constant, condition_faults, is_assignable}
use Rattle.c_language.specs.Declares.{Said, Saying, Formed, DeclaratorSays, said_by}
use Rattle.c_language.specs.Declarations.{Declared, declares, object_type, is_extern}
use Rattle.c_means.specs.declared.kind.Kind.{Kind}
use Rattle.c_means.specs.declared.kind.Kind.TheVariants as k
use Rattle.c_means.specs.Parts.{Env, Level, note}
use Rattle.c_means.specs.Values.{class_in, bytes_of, converted_to}
use Rattle.c_means.specs.Operators.{value_type, kind_in}
use Rattle.c_means.specs.Expressions.{on_branch}
use Rattle.c_means.specs.declared.breach.Breach.{Breach}
use Rattle.c_means.specs.declared.breach.BrokenRule.TheVariants as broken
use Rattle.c_means.specs.Notes.{Noted, ExprNoted, noted, declarator_noted, specifier_noted}
use Rattle.c_means.specs.Items.{Arrow, Acts, Case, Lasting, Item, Label, Context, Code, breach, breach_if, typing}
use Rattle.c_means.specs.Items.{running, become, arrive, passes, with_value, nothing, followed, with_breaches, marked, node}
use Rattle.c_means.specs.Marks.{Mark, Takes, sides}
use Rattle.c_means.specs.Items.{guarded, closed, without_cases, in_scope, opened, block_of, unchosen, sub, in_turn}
use Rattle.c_means.specs.Items.{labels_of, every_of, past_break, past_continue, past_switch, at_label, at_case}
use Rattle.c_means.specs.Items.{at_default, same}
use Rattle.c_means.specs.Initials.{Initial, Initially, initially, initialising_if, said_if}

-- ---- a step that an expression takes

-- what is told of an expression, in front of what is done
abbrev pub plain : Noted → Scope → List Breach → Acts → Item
plain x s bs run = record (nothing s) {
  breaches = typing x.part.typed.faults ++ bs;
  calls = x.notes.calls;
  called = x.notes.called;
  size = x.part.size;
  room = x.part.room;
  marks = x.part.marks;
  run = λ l env base. running (run l env base);
}

-- C99 6.8.3p2: a void expression, whose value isn't used
abbrev pub value_of : Noted → Item
value_of x = plain x x.part.typed.after [] (λ l env base d. with_value (x.part.effect l env base d) (λ v d. d))

abbrev pub maybe_value : Option ExprNoted → Scope → Item
maybe_value None s = nothing s
maybe_value (Some e) s = value_of (e s)

-- ---- declarations in a block (C99 6.7, 6.2.4)

-- a declarator with its initializer
pub record Declaring : Type 0 where
  pub declarator : DeclaratorSays
  pub initial : Option Initially

abbrev pub zeroed_if : Bool → ℕ → ℕ → Arrow
zeroed_if true a n d = record d { store = zero_range a n d.store }
zeroed_if false a n d = d

-- an automatic object is there from the block's entry, and is initialised where its declaration is reached (C99
-- 6.2.4p5, p6)
abbrev pub automatic : Entry → ℕ → Initial → Scope → Item
automatic e n x s = record (nothing s) {
  calls = x.calls;
  called = x.called;
  size = λ l. 1 + x.size l;
  room = λ l. 1 + x.room l;
  objects = λ l base. record { at = e.at; place = base; size = n } ∷ [];
  marks = x.marks;
  run = λ l env base. running (λ d. x.run (start (env e.at)) l env (base + 1)
      (zeroed_if x.is_zeroed (start (env e.at)) n d));
}

abbrev pub no_env : Env
no_env at = 0

-- it is initialised once, before the program starts (C99 6.2.4p3)
abbrev pub lasting_object : ℕ → Entry → ℕ → Bool → Initial → Lasting
lasting_object at e n defined x = record {
  at = at;
  entry = e;
  size = n;
  is_defined = defined;
  set = λ l d. x.run (start (l.static e.at)) l no_env 0 d;
}

-- a name with linkage is declared elsewhere too
abbrev pub link : Name → Linkage → List Name
link name linkage.None = []
link name linkage.Internal = name ∷ []
link name linkage.External = name ∷ []

-- an object with static storage duration; what is declared elsewhere has no initializer
abbrev pub lasting : ℕ → Entry → ℕ → Linkage → Bool → Initial → Scope → Item
lasting at e n l defined x s = record (nothing s) {
  breaches = x.constant;
  calls = x.calls;
  lasting = lasting_object at e n defined x ∷ [];
  links = link e.name l;
  size = λ l. cond defined (1 + x.size l) 0;
  marks = λ l. cond defined (x.marks l) [];
}

-- by what the name means: only objects act
abbrev pub declared_means : ℕ → Entry → Means → Bool → Initial → Scope → Item
declared_means at e (means.Object t duration.Automatic l) defined x s = automatic e (bytes_of s.tables (Some t)) x s
declared_means at e (means.Object t duration.Static l) defined x s =
    lasting at e (bytes_of s.tables (Some t)) l defined x s
declared_means at e (means.Function t l) defined x s = record (nothing s) { links = e.name ∷ [] }
declared_means at e (means.Typedef t) defined x s = nothing s
declared_means at e (means.Constant z) defined x s = nothing s
declared_means at e means.Faulty defined x s = nothing s

abbrev pub declared_entry : ℕ → Option Entry → Bool → Initial → Scope → Item
declared_entry at None defined x s = nothing s
declared_entry at (Some e) defined x s = declared_means at e e.means defined x s

abbrev pub type_in_entry : Option Entry → Option CType
type_in_entry None = None
type_in_entry (Some e) = object_type e.means

-- The name is in force in its own initializer (C99 6.2.1p7), with the type that the declarator gives it: `plain` is
-- the declaration without its initializer, `whole` with it.
abbrev pub declared_item : ℕ → Bool → Option Initially → Declared → Declared → Item
declared_item at defined i plain whole =
    with_breaches (typing whole.faults)
    (declared_entry at whole.entry defined (initialising_if i (type_in_entry plain.entry) plain.after) whole.after)

-- without `extern`, or with an initializer, an object is defined (C99 6.9.2p1, p2)
abbrev pub defines : Said → Option Initially → Bool
defines said i = not (is_extern said.storage) || is_some i

abbrev pub name_offset : Option (ℕ × Name) → ℕ
name_offset None = 0
name_offset (Some n) = n.0

abbrev pub declares_formed : Said → Formed → Option Initially → Item
declares_formed said f i =
    declared_item (name_offset f.name) (defines said i) i (declares said f None) (declares said f (said_if i))

abbrev pub declares_all : Said → List Declaring → Scope → Item
declares_all said [] s = nothing s
declares_all said (x ∷ xs) s =
    let i = declares_formed said (x.declarator s) x.initial in followed i (declares_all said xs i.after)

abbrev pub is_alone : List Declaring → Bool
is_alone [] = true
is_alone (x ∷ xs) = false

-- the specifiers, then each declarator in the scope that those before it leave
abbrev pub declares_by : List Saying → List Declaring → Scope → Item
declares_by specifiers xs s =
    let said = said_by specifiers (is_alone xs) [] s in
    with_breaches (typing said.faults) (declares_all said xs said.scope)

abbrev pub declaring : InitDeclarator → Declaring
declaring x = record { declarator = declarator_noted x.declarator; initial = option_map initially x.initializer }

abbrev pub declaration : Declaration → Scope → Item
declaration x s = declares_by (map specifier_noted x.specifiers) (map declaring x.declarators) s

-- ---- statements

-- a form that gives its block no label
abbrev pub code : (Context → Item) → List Label → Code
code here every = record { labels = []; own = []; every = every; is_block = false; here = here; content = here }

-- ---- compound statements (C99 6.8.2): the objects of a block live from its entry to its end

abbrev pub compound : List Code → Code
compound items = record {
  labels = [];
  own = labels_of items;
  every = every_of items;
  is_block = true;
  here = λ c. without_cases (guarded (closed (content items (opened (labels_of items) (unchosen c)))));
  content = content items;
}
  where
    content : List Code → Context → Item
    content items c = node (in_turn items c)

-- ---- labeled statements (C99 6.8.1)

-- where the run arrives, it may be what it was looking for
abbrev pub arrived : (Kind → Kind) → Item → Item
arrived f x = record x { run = λ l env base d. x.run l env base (arrive f d) }

-- whether a label stands before an offset in the function
abbrev pub stood_before : ℕ → Name → List Label → Bool
stood_before at name [] = false
stood_before at name (l ∷ ls) = (bytes_eq l.name name && nat_lt l.at at) || stood_before at name ls

-- a label names one statement of the function (C99 6.8.1p3)
abbrev pub labeled : ℕ → Name → Code → Code
labeled at name body = record {
  labels = label ∷ body.labels;
  own = label ∷ body.labels;
  every = label ∷ body.every;
  is_block = false;
  here = here;
  content = here;
}
  where
    label : Label
    label = record { at = at; name = name }

    here : Context → Item
    here c = node (with_breaches (breach_if (stood_before at name c.every) at broken.BadGoto)
        (arrived (at_label name) (body.here c)))

-- a case belongs to the `switch` whose block it stands in (C99 6.8.1p2)
abbrev pub is_chosen : Option IntegerKind → Bool
is_chosen None = false
is_chosen (Some kind) = true

-- case values are converted to the type in which the `switch` compares (C99 6.8.4.2p5)
abbrev pub case_value : Option IntegerKind → Option ℤ → Option ℤ
case_value None z = z
case_value (Some kind) None = None
case_value (Some kind) (Some z) = Some (converted kind z)

abbrev pub case_breaches : ℕ → Noted → Context → List Breach
case_breaches at x c =
    typing (x.part.typed.faults ++ not_constant x.part.typed) ++ breach_if
    (not (is_chosen c.chooses)) at broken.BadGoto

abbrev pub chosen_by : ℕ → Option ℤ → Item → Item
chosen_by at value x = record x { cases = record { at = at; value = value } ∷ x.cases }

-- a case without value breaks a rule, and is no `default`: it is the statement behind it
abbrev pub case_of : ℕ → Noted → Option ℤ → Item → Item
case_of at x None y = y
case_of at x (Some z) y =
    record (chosen_by at (Some z) (arrived (at_case (Some z)) y)) {
      size = λ l. 1 + (x.part.size l + y.size l);
      marks = λ l. x.part.marks l ++ y.marks l;
    }

abbrev pub case_item : ℕ → Noted → Code → Context → Item
case_item at x body c =
    let i = with_breaches (case_breaches at x c)
    (case_of at x (case_value c.chooses (constant_of x.part.typed)) (body.here (in_scope x.part.typed.after c))) in
    record i { calls = x.notes.calls ++ i.calls }

abbrev pub with_here : Code → (Context → Item) → Code
with_here body here = record {
  labels = body.labels;
  own = body.labels;
  every = body.every;
  is_block = false;
  here = here;
  content = here;
}

abbrev pub case_labeled : ℕ → ExprNoted → Code → Code
case_labeled at value body = with_here body (λ c. case_item at (value c.scope) body c)

abbrev pub default_labeled : ℕ → Code → Code
default_labeled at body =
    with_here body (λ c. node (with_breaches (breach_if (not (is_chosen c.chooses)) at broken.BadGoto)
    (chosen_by at None (arrived at_default (body.here c)))))

-- ---- selection (C99 6.8.4)

abbrev pub one_of : {A : Type 0} → Bool → A → A → A
one_of true a b = a
one_of false a b = b

-- a condition is a scalar, by the statement's keyword
abbrev pub condition_breaches : ℕ → Noted → List Breach
condition_breaches at x = typing (condition_faults at x.part.typed)

-- two parts one behind the other, with what is done given
abbrev pub acting : Acts → Item → Item
acting run x = record x { cases = []; objects = λ l base. []; run = λ l env base. running (run l env base) }

-- an expression in front of what its value decides
abbrev pub tested : Noted → Item
tested x = record (plain x x.part.typed.after [] passes) { breaches = [] }

abbrev pub if_runs : ℕ → Noted → Item → Item → Acts
if_runs at x first second l env base d =
    with_value (x.part.run l env base d) (λ v. on_branch at v (λ b. one_of b
    (first.run l env (base + x.part.room l))
    (second.run l env (base + (x.part.room l + first.room l)))))

-- C99 6.8.4.1p2; the whole statement is a block (C99 6.8.4p3)
abbrev pub if_item : ℕ → Noted → Item → Item → Item
if_item at x first second =
    node (record (acting (if_runs at x first second)
    (with_breaches (condition_breaches at x)
    (marked (sides at) (followed (tested x) (followed first second))))) { after = leave second.after })

abbrev pub maybe_sub : Option Code → Context → Item
maybe_sub None c = nothing c.scope
maybe_sub (Some x) c = sub x c

abbrev pub if_from : ℕ → Noted → Code → Option Code → Context → Item
if_from at x positive negative c =
    let first = sub positive (in_scope x.part.typed.after c) in
    if_item at x first (maybe_sub negative (in_scope first.after c))

abbrev pub every_if : Option Code → List Label
every_if None = []
every_if (Some x) = x.every

abbrev pub if_of : ℕ → ExprNoted → Code → Option Code → Code
if_of at condition positive negative =
    code (λ c. if_from at (condition (enter c.scope)) positive negative c) (positive.every ++ every_if negative)

-- the value's type, promoted; what is no integer breaks a rule
abbrev pub compared_in : Option IntegerKind → IntegerKind
compared_in None = int_.Int
compared_in (Some kind) = promoted kind

abbrev pub switch_kind : Noted → IntegerKind
switch_kind x = compared_in (kind_in (value_type x.part.typed))

abbrev pub integer_fault : ℕ → Option CType → List Breach
integer_fault at None = []
integer_fault at (Some t) = cond (is_integer t) [] (breach at (broken.Typing rule.TypeMismatch))

abbrev pub switch_breaches : ℕ → Noted → List Breach
switch_breaches at x = typing (used x.part.typed).faults ++ integer_fault at (value_type x.part.typed)

abbrev pub same_case : Option ℤ → Option ℤ → Bool
same_case None None = true
same_case (Some x) (Some y) = same x y
same_case None (Some y) = false
same_case (Some x) None = false

abbrev pub is_among : Option ℤ → List Case → Bool
is_among z [] = false
is_among z (x ∷ xs) = same_case z x.value || is_among z xs

-- each value once, and one `default` (C99 6.8.4.2p3); `before` are the cases before
abbrev pub repeated_cases : List Case → List Case → List Breach
repeated_cases before [] = []
repeated_cases before (x ∷ xs) =
    breach_if (is_among x.value before) x.at broken.BadGoto ++ repeated_cases (x ∷ before) xs

-- to the case of the value, else to `default`, else behind the statement (C99 6.8.4.2p4, p5)
abbrev pub chosen : List Case → ℤ → Kind
chosen cases v = cond (is_among (Some v) cases) (k.Choosing v) k.Defaulting

abbrev pub chosen_side : Kind → ℤ → Side
chosen_side (k.Choosing c) v = side.Case v
chosen_side _ v = side.Otherwise

abbrev pub choose : ℕ → Kind → ℤ → Arrow
choose at kind v d = become kind (note (happening.Branch at (chosen_side kind v)) d)

abbrev pub switch_runs : ℕ → Noted → Item → Acts
switch_runs at x body l env base d =
    with_value (x.part.run l env base d) (λ v d.
    let z = converted (switch_kind x) v in
    arrive past_switch (body.run l env (base + x.part.room l) (choose at (chosen body.cases z) z d)))

abbrev pub case_marks : ℕ → List Case → List Mark
case_marks at [] = []
case_marks at (x ∷ xs) = case_mark at x.value ++ case_marks at xs
  where
    case_mark : ℕ → Option ℤ → List Mark
    case_mark at None = []
    case_mark at (Some z) = Takes at (side.Case z) ∷ []

-- each case in order, then none of them
abbrev pub switch_marks : ℕ → List Case → List Mark
switch_marks at cases = case_marks at cases ++ Takes at side.Otherwise ∷ []

-- C99 6.8.4.2
abbrev pub switch_item : ℕ → Noted → Item → Item
switch_item at x body =
    node (record (acting (switch_runs at x body)
    (with_breaches (switch_breaches at x ++ repeated_cases [] body.cases)
    (marked (switch_marks at body.cases) (followed (tested x) body)))) { after = leave body.after })

abbrev pub switch_context : Noted → Context → Context
switch_context x c = record (in_scope x.part.typed.after c) { breaks = true; chooses = Some (switch_kind x) }

abbrev pub switch_from : ℕ → Noted → Code → Context → Item
switch_from at x body c = switch_item at x (block_of body (switch_context x c))

abbrev pub switch_of : ℕ → ExprNoted → Code → Code
switch_of at value body = code (λ c. switch_from at (value (enter c.scope)) body c) body.every

-- ---- iteration (C99 6.8.5)

-- A test: what is told of it, and what it leads to on either side.
pub record Test : Type 0 where
  pub item : Item
  pub run : Level → Env → ℕ → (Bool → Arrow) → Arrow

abbrev pub test_of : ℕ → Noted → Test
test_of at x = record {
  item = with_breaches (condition_breaches at x) (marked (sides at) (tested x));
  run = λ l env base go d. with_value (x.part.run l env base d) (λ v. on_branch at v go);
}

-- a constant that isn't zero takes the place of an omitted condition (C99 6.8.5.3p2); it is no branch
abbrev pub always : Scope → Test
always s = record { item = nothing s; run = λ l env base go. go true }

abbrev pub maybe_test : ℕ → Option ExprNoted → Scope → Test
maybe_test at None s = always s
maybe_test at (Some e) s = test_of at (e s)

-- the run leaves the bounds at the loop's keyword
abbrev pub left_at : ℕ → Arrow
left_at at = become (k.Ended (finish.Left at))

abbrev pub turn_room : Test → Item → Item → Level → ℕ
turn_room test body step l = test.item.room l + (body.room l + step.room l)

-- with so many turns left: the test, the body, the step; the next turn has its places behind those of this one
abbrev pub turns_from : ℕ → Test → Item → Item → Level → Env → ℕ → ℕ → Arrow
turns_from at test body step l env zero base d =
    test.run l env base (λ b. one_of b (left_at at) (λ d. d)) d
turns_from at test body step l env (suc n) base d =
    test.run l env base (λ b. one_of b
    (λ d. running (λ d. running (turns_from at test body step l env n (base + turn_room test body step l))
    (step.run l env (base + (test.item.room l + body.room l)) d))
    (arrive past_continue (body.run l env (base + test.item.room l) d)))
    (λ d. d)) d

-- what each turn takes, once more than there are turns
abbrev pub each_turn : Item → Item
each_turn x = record x {
  size = λ l. 1 + (l.turns + 1) * x.size l;
  room = λ l. (l.turns + 1) * x.room l;
}

-- C99 6.8.5.1, 6.8.5.3: the test stands before each turn
abbrev pub looped : ℕ → Test → Item → Item → Item
looped at test body step =
    record (acting (λ l env base d. arrive past_break (turns_from at test body step l env l.turns base d))
    (each_turn (followed test.item (followed body step)))) {
      marks = λ l. test.item.marks l ++ (step.marks l ++ body.marks l);
    }

-- C99 6.8.5.2: the test stands behind each turn
abbrev pub rounds_from : ℕ → Item → Test → Level → Env → ℕ → ℕ → Arrow
rounds_from at body test l env zero base d = left_at at d
rounds_from at body test l env (suc n) base d =
    running (test.run l env (base + body.room l)
    (λ b. one_of b (rounds_from at body test l env n (base + (body.room l + test.item.room l))) (λ d. d)))
    (arrive past_continue (body.run l env base d))

abbrev pub repeated : ℕ → Item → Test → Item
repeated at body test =
    record (acting (λ l env base d. arrive past_break (rounds_from at body test l env l.turns base d))
    (each_turn (followed body test.item))) { marks = λ l. test.item.marks l ++ body.marks l }

-- `break` and `continue` in a loop are its own (C99 6.8.6.2, 6.8.6.3)
abbrev pub in_loop : Scope → Context → Context
in_loop s c = record (unchosen (in_scope s c)) { breaks = true; continues = true }

-- an iteration statement is a block (C99 6.8.5p5)
abbrev pub left_scope : Item → Item
left_scope x = record x { after = leave x.after }

abbrev pub while_from : ℕ → Test → Code → Context → Item
while_from at test body c =
    let inside = sub body (in_loop test.item.after c) in
    left_scope (looped at test inside (nothing inside.after))

abbrev pub while_of : ℕ → ExprNoted → Code → Code
while_of at condition body = code (λ c. while_from at (test_of at (condition (enter c.scope))) body c) body.every

abbrev pub do_from : ℕ → Item → ExprNoted → Item
do_from at body condition = left_scope (repeated at body (test_of at (condition body.after)))

abbrev pub do_of : ℕ → Code → ExprNoted → Code
do_of at body condition = code (λ c. do_from at (sub body (in_loop (enter c.scope) c)) condition) body.every

-- the step stands before the body in the source, and runs behind it
abbrev pub for_turns : ℕ → Test → Item → Code → Context → Item
for_turns at test step body c =
    let inside = sub body (in_loop step.after c) in
    record (looped at test inside step) { after = inside.after }

abbrev pub for_from : ℕ → Item → Option ExprNoted → Option ExprNoted → Code → Context → Item
for_from at first condition step body c =
    let test = maybe_test at condition first.after in
    guarded (closed (followed first (for_turns at test (maybe_value step test.item.after) body c)))

abbrev pub for_of : ℕ → (Scope → Item) → Option ExprNoted → Option ExprNoted → Code → Code
for_of at begins condition step body =
    code (λ c. for_from at (begins (enter c.scope)) condition step body c) body.every

-- ---- jumps (C99 6.8.6)

-- a step without expression
abbrev pub jump : List Breach → Kind → Context → Item
jump bs kind c = node (record (nothing c.scope) { breaches = bs; run = λ l env base. running (become kind) })

-- a `goto` leads to a label behind it, in its block or one around it
abbrev pub leads : ℕ → Name → List Label → Bool
leads at name [] = false
leads at name (l ∷ ls) = (bytes_eq l.name name && nat_lt at l.at) || leads at name ls

abbrev pub goto_of : ℕ → Name → Context → Item
goto_of at name c = jump (breach_if (not (leads at name c.labels)) at broken.BadGoto) (k.Going name) c

abbrev pub continue_of : ℕ → Context → Item
continue_of at c = jump (breach_if (not c.continues) at broken.BadGoto) k.Continuing c

abbrev pub break_of : ℕ → Context → Item
break_of at c = jump (breach_if (not c.breaks) at broken.BadGoto) k.Breaking c

abbrev pub returns_void : Option CType → Bool
returns_void None = true
returns_void (Some t) = is_void t

-- `return` without an expression is of a void function (C99 6.8.6.4p1)
abbrev pub bare_return : ℕ → Context → Item
bare_return at c = jump (breach_if (not (returns_void c.result)) at (broken.Typing rule.TypeMismatch)) k.Returning c

abbrev pub return_rule : ℕ → CType → CType → List Breach
return_rule at t u =
    cond (is_floating t) (breach at (broken.Typing rule.FloatUsed))
    (breach_if (is_void t || not (is_assignable t u)) at (broken.Typing rule.TypeMismatch))

abbrev pub return_breaches : ℕ → Option CType → Option CType → List Breach
return_breaches at None u = []
return_breaches at (Some t) None = []
return_breaches at (Some t) (Some u) = return_rule at t u

-- the value is converted as by an assignment (C99 6.8.6.4p3)
abbrev pub returns : Noted → Option CType → Acts
returns x t l env base d =
    with_value (x.part.run l env base d) (λ v d. record d {
      kind = k.Returning;
      value = Some (converted_to
          (class_in t) v);
    })

abbrev pub value_return : ℕ → Noted → Context → Item
value_return at x c =
    node (record (plain x x.part.typed.after [] (returns x c.result)) {
      breaches = typing (used x.part.typed).faults ++ return_breaches at c.result (value_type x.part.typed);
    })

abbrev pub return_of : ℕ → Option ExprNoted → Context → Item
return_of at None c = bare_return at c
return_of at (Some e) c = value_return at (e c.scope) c

-- ---- the fold

abbrev pub begun_by : ForStart → Scope → Item
begun_by (start_.Value value) s = maybe_value (option_map noted value) s
begun_by (start_.Declared d) s = declaration d s

abbrev pub stmt_step : open_.Stmt-F Code → Code
stmt_step (open_.Block at items) = compound items
stmt_step (open_.Declared d) = code (λ c. declaration d c.scope) []
stmt_step (open_.Value at value) = code (λ c. node (maybe_value (option_map noted value) c.scope)) []
stmt_step (open_.Label at name body) = labeled at name body
stmt_step (open_.Case at value body) = case_labeled at (noted value) body
stmt_step (open_.Default at body) = default_labeled at body
stmt_step (open_.If at condition positive negative) = if_of at (noted condition) positive negative
stmt_step (open_.Switch at value body) = switch_of at (noted value) body
stmt_step (open_.While at condition body) = while_of at (noted condition) body
stmt_step (open_.Do at body condition) = do_of at body (noted condition)
stmt_step (open_.For at begins condition step body) =
    for_of at (begun_by begins) (option_map noted condition) (option_map noted step) body
stmt_step (open_.Goto at name) = code (goto_of at name) []
stmt_step (open_.Continue at) = code (continue_of at) []
stmt_step (open_.Break at) = code (break_of at) []
stmt_step (open_.Return at value) = code (return_of at (option_map noted value)) []

-- what a statement is worth
unfoldable pub stmt : Stmt → Code
stmt x = fold-Stmt Code stmt_step x
