-- Statements meet no place but those of their rooms: one lemma a form, and one induction over all statements.
use Rattle.std.proofs.Common.{◌≡◌, ◌≤◌, ℕ, zero, suc, ◌+◌, ◌*◌, ℤ, Bool, true, false, List, [], ◌∷◌, Option, Some, None}
use Rattle.std.proofs.Common.{refl, sym, ap, subst, ◌∙◌, arith, le_refl, suc-mul, one-mul}
use Rattle.std.specs.Prelude.{map, option_map}
use Rattle.c_language.specs.declared.expr.Expr.{Expr}
use Rattle.c_language.specs.declared.unit.ForStart.{ForStart}
use Rattle.c_language.specs.declared.unit.ForStart.TheVariants as start_
use Rattle.c_language.specs.declared.unit.Stmt.{Stmt}
use Rattle.c_language.specs.declared.ctype.CType.{CType}
use Rattle.c_language.specs.Integers.{converted}
use Rattle.c_grammar.proofs.UnitEquations.{EachStmt, MaybeStmt, StmtSteps, of_stmt}
use Rattle.c_language.specs.Scopes.{Name, Scope, enter}
use Rattle.c_means.specs.declared.kind.Kind.{Kind}
use Rattle.c_means.specs.declared.kind.Kind.TheVariants as k
use Rattle.c_means.specs.Parts.{State, Env, Level}
use Rattle.c_means.specs.Values.{class_in, converted_to}
use Rattle.c_means.specs.Expressions.{on_branch}
use Rattle.c_means.specs.declared.breach.Breach.{Breach}
use Rattle.c_means.specs.Notes.{Noted, ExprNoted, noted}
use Rattle.c_means.specs.Items.{Item, Code, Context, Label, Arrow, Acts, running, become, arrive}
use Rattle.c_means.specs.Items.{with_value, nothing, followed, marked, node, guarded, closed}
use Rattle.c_means.specs.Marks.{Mark, sides}
use Rattle.c_means.specs.Items.{in_scope, opened, block_of, unchosen, sub, in_turn, labels_of, past_break, past_continue}
use Rattle.c_means.specs.Items.{past_switch, at_label, at_case, at_default}
use Rattle.c_means.specs.Statements.{plain, value_of, maybe_value, tested, acting, one_of, if_runs, if_item, maybe_sub}
use Rattle.c_means.specs.Statements.{switch_runs, switch_item, switch_kind, choose, chosen, Test, test_of, always}
use Rattle.c_means.specs.Statements.{maybe_test, turn_room, turns_from, left_at, each_turn, looped, rounds_from}
use Rattle.c_means.specs.Statements.{repeated}
use Rattle.c_means.specs.Statements.{left_scope, while_from, in_loop, do_from, for_turns, for_from, jump, returns}
use Rattle.c_means.specs.Statements.{return_of, code, compound, arrived, labeled, case_of, case_value, case_labeled}
use Rattle.c_means.specs.Statements.{default_labeled, stmt, begun_by, switch_context}
use Rattle.c_language.specs.Typing.{constant_of}
use Rattle.c_means.proofs.RunEquations as eqs
use Rattle.c_places.proofs.Counts.{met}
use Rattle.c_places.proofs.Items.{Counting, ItemKeeps, CodeKeeps, EachCode, LastingKeep, ActsWithin, Adds, runs}
use Rattle.c_places.proofs.Items.{with_value_adds, on_branch_adds, nothing_keeps, followed_keeps, closed_keeps}
use Rattle.c_places.proofs.Items.{guarded_keeps, breaches_keep, node_keeps, without_cases_keep, block_keeps, sub_keeps}
use Rattle.c_places.proofs.Items.{in_turn_keeps}
use Rattle.c_places.proofs.Initials.{NotedKeeps, ExprKeeps, noted_is_kept}
use Rattle.c_places.proofs.Blind.{still}
use Rattle.c_places.proofs.Declarations.{declaration_keeps}

expr_keeps : (e : Expr) → ExprKeeps (noted e)
expr_keeps e s = noted_is_kept e s

abbrev MaybeExpr : Option ExprNoted → Type 0
MaybeExpr None = Unit {0}
MaybeExpr (Some f) = ExprKeeps f

maybe_expr : (e : Option Expr) → MaybeExpr (option_map noted e)
maybe_expr None = tt
maybe_expr (Some e) = expr_keeps e

-- ---- a step of an expression

plain_keeps : (x : Noted) → NotedKeeps x → (s : Scope) (bs : List Breach) (run : Acts) → ActsWithin x.part.room run →
    ItemKeeps (plain x s bs run)
plain_keeps x hx s bs run h = record {
  acts = λ w p l c env base d.
      let up = c.calls.rises.more base (base + x.part.room l) (omega arith) in
      omega (
        arith,
        runs p (w base) (w (base + x.part.room l)) (run l env base) d (h w p l c env base d) up,
      );
  lasting = tt;
  size = hx.blind.size;
  room = hx.blind.room;
}

effect_within : (x : Noted) → NotedKeeps x →
    ActsWithin x.part.room (λ l env base d. with_value (x.part.effect l env base d) (λ v d. d))
effect_within x h w p l c env base d =
    let end = w (base + x.part.room l) in
    with_value_adds p (w base) end end (met p d) (x.part.effect l env base d) (λ v d. d)
    ((h.keeps w p l c.calls).effect env base d) (λ v d. le_refl _) (le_refl _)

value_keeps : (x : Noted) → NotedKeeps x → ItemKeeps (value_of x)
value_keeps x h = plain_keeps x h x.part.typed.after [] _ (effect_within x h)

maybe_value_keeps : (f : Option ExprNoted) (s : Scope) → MaybeExpr f → ItemKeeps (maybe_value f s)
maybe_value_keeps None s h = nothing_keeps s
maybe_value_keeps (Some f) s h = value_keeps (f s) (h s)

nothing_within : (x : Noted) → ActsWithin x.part.room (λ l env base d. d)
nothing_within x w p l c env base d =
    omega (arith, c.calls.rises.more base (base + x.part.room l) (omega arith))

tested_keeps : (x : Noted) → NotedKeeps x → ItemKeeps (tested x)
tested_keeps x hx =
    let h = plain_keeps x hx x.part.typed.after [] (λ l env base d. d) (nothing_within x) in
    record { acts = h.acts; lasting = tt; size = h.size; room = h.room }

acting_keeps : (run : Acts) (x : Item) → LastingKeep x.lasting → ((l : Level) → x.size l ≡ x.size (still l)) →
    ((l : Level) → x.room l ≡ x.room (still l)) → ActsWithin x.room run → ItemKeeps (acting run x)
acting_keeps run x hl size room h = record {
  acts = λ w p l c env base d.
      let up = c.calls.rises.more base (base + x.room l) (omega arith) in
      omega (arith, runs p (w base) (w (base + x.room l)) (run l env base) d (h w p l c env base d) up);
  lasting = hl;
  size = size;
  room = room;
}

-- what it adds, without the places of its objects
alone : (x : Item) → ItemKeeps x → ActsWithin x.room x.run
alone x h w p l c env base d = omega (arith, h.acts w p l c env base d)

-- ---- selection

if_within : (at : ℕ) (x : Noted) (first second : Item) → NotedKeeps x → ItemKeeps first → ItemKeeps second →
    ActsWithin (λ l. x.part.room l + (first.room l + second.room l)) (if_runs at x first second)
if_within at x first second hx hf hs w p l c env base d =
    let middle = base + x.part.room l in
    let last = base + (x.part.room l + first.room l) in
    let end = base + (x.part.room l + (first.room l + second.room l)) in
    let f = first.run l env middle in
    let g = second.run l env last in
    let go : Bool → Arrow = λ b. one_of b f g in
    with_value_adds p (w base) (w middle) (w end) (met p d) (x.part.run l env base d) (λ v. on_branch at v go)
    ((hx.keeps w p l c.calls).run env base d)
    (λ v. on_branch_adds p (w middle) (w end) at v go (sides middle last end
    (λ d. alone first hf w p l c env middle d) (λ d. alone second hs w p l c env last d)
    (c.calls.rises.more (middle + first.room l) end (omega arith)) (c.calls.rises.more middle last (omega arith))
    (c.calls.rises.more (last + second.room l) end (omega arith))))
    (c.calls.rises.more middle end (omega arith))
  where
    sides : (middle last end : ℕ) →
        Adds p (w middle) (w (middle + first.room l)) (first.run l env middle) →
        Adds p (w last) (w (last + second.room l)) (second.run l env last) →
        w (middle + first.room l) ≤ w end → w middle ≤ w last → w (last + second.room l) ≤ w end →
        (b : Bool) → Adds p (w middle) (w end) (one_of b (first.run l env middle) (second.run l env last))
    sides middle last end hf hs a b e true d = omega (arith, hf d, a)
    sides middle last end hf hs a b e false d = omega (arith, hs d, b, e)

if_keeps : (at : ℕ) (x : Noted) (first second : Item) → NotedKeeps x → ItemKeeps first → ItemKeeps second →
    ItemKeeps (if_item at x first second)
if_keeps at x first second hx hf hs =
    let all = followed_keeps (tested x) (followed first second) (tested_keeps x hx) (followed_keeps first second hf hs) in
    let h = acting_keeps (if_runs at x first second) (followed (tested x) (followed first second)) all.lasting all.size
    all.room
    (if_within at x first second hx hf hs) in
    record { acts = h.acts; lasting = h.lasting; size = λ l. omega (arith, h.size l); room = h.room }

abbrev MaybeCode : Option Code → Type 0
MaybeCode None = Unit {0}
MaybeCode (Some x) = CodeKeeps x

maybe_sub_keeps : (x : Option Code) (c : Context) → MaybeCode x → ItemKeeps (maybe_sub x c)
maybe_sub_keeps None c h = nothing_keeps c.scope
maybe_sub_keeps (Some x) c h = sub_keeps x c h

switch_within : (at : ℕ) (x : Noted) (body : Item) → NotedKeeps x → ItemKeeps body →
    ActsWithin (λ l. x.part.room l + body.room l) (switch_runs at x body)
switch_within at x body hx hb w p l c env base d =
    let middle = base + x.part.room l in
    let end = base + (x.part.room l + body.room l) in
    with_value_adds p (w base) (w middle) (w end) (met p d) (x.part.run l env base d)
    (λ v d. let z = converted (switch_kind x) v in
    arrive past_switch (body.run l env middle (choose at (chosen body.cases z) z d)))
    ((hx.keeps w p l c.calls).run env base d)
    (λ v d. let z = converted (switch_kind x) v in
    omega (
      arith,
      alone body hb w p l c env middle (choose at (chosen body.cases z) z d),
      c.calls.rises.more (middle + body.room l) end (omega arith),
    ))
    (c.calls.rises.more middle end (omega arith))

switch_keeps : (at : ℕ) (x : Noted) (body : Item) → NotedKeeps x → ItemKeeps body → ItemKeeps (switch_item at x body)
switch_keeps at x body hx hb =
    let all = followed_keeps (tested x) body (tested_keeps x hx) hb in
    let h = acting_keeps (switch_runs at x body) (followed (tested x) body) all.lasting all.size all.room
    (switch_within at x body hx hb) in
    record { acts = h.acts; lasting = h.lasting; size = λ l. omega (arith, h.size l); room = h.room }

-- ---- iteration

-- a test keeps to its places, and what follows it to those behind them
record TestKeeps (t : Test) : Type 0 where
  item : ItemKeeps t.item
  leads : (w : ℕ → ℕ) (p : ℕ) (l : Level) → Counting w p l → (env : Env) (base n : ℕ) (go : Bool → Arrow) →
      w (base + t.item.room l) ≤ n → ((b : Bool) → Adds p (w (base + t.item.room l)) n (go b)) →
      Adds p (w base) n (t.run l env base go)

-- whatever stands at its tokens
told_keeps : (x : Item) (marks : Level → List Mark) → ItemKeeps x → ItemKeeps (record x { marks = marks })
told_keeps x marks h = record { acts = h.acts; lasting = h.lasting; size = h.size; room = h.room }

test_keeps : (at : ℕ) (x : Noted) → NotedKeeps x → TestKeeps (test_of at x)
test_keeps at x hx = record {
  item = breaches_keep _ (marked (sides at) (tested x)) (told_keeps (tested x) _ (tested_keeps x hx));
  leads = λ w p l c env base n go up h d.
      let end = w (base + x.part.room l) in
      with_value_adds p (w base) end n (met p d) (x.part.run l env base d) (λ v. on_branch at v go)
      ((hx.keeps w p l c.calls).run env base d) (λ v. on_branch_adds p end n at v go h) up;
}

always_keeps : (s : Scope) → TestKeeps (always s)
always_keeps s = record {
  item = nothing_keeps s;
  leads = λ w p l c env base n go up h d.
      omega (arith, h true d, c.calls.rises.more base (base + 0) (omega arith));
}

maybe_test_keeps : (at : ℕ) (f : Option ExprNoted) (s : Scope) → MaybeExpr f → TestKeeps (maybe_test at f s)
maybe_test_keeps at None s h = always_keeps s
maybe_test_keeps at (Some f) s h = test_keeps at (f s) (h s)

next_turn : (n r : ℕ) → (suc n + 1) * r ≡ r + (n + 1) * r
next_turn n r =
    let e : suc n + 1 ≡ suc (n + 1) = omega arith in
    ap (λ m. m * r) e ∙ suc-mul (n + 1) r ∙ (let sum : (n + 1) * r + r ≡ r + (n + 1) * r = omega arith in sum)

first_turn : (r : ℕ) → (zero + 1) * r ≡ r
first_turn r = let e : zero + 1 ≡ suc zero = omega arith in ap (λ m. m * r) e ∙ one-mul r

turns_within : (at : ℕ) (test : Test) (body step : Item) → TestKeeps test → ItemKeeps body → ItemKeeps step →
    (w : ℕ → ℕ) (p : ℕ) (l : Level) → Counting w p l → (env : Env) (n base : ℕ) →
    Adds p (w base) (w (base + (n + 1) * turn_room test body step l)) (turns_from at test body step l env n base)
turns_within at test body step ht hb hs w p l c env zero base =
    let r = turn_room test body step l in
    let end = w (base + (zero + 1) * r) in
    let middle = w (base + test.item.room l) in
    let up = c.calls.rises.more (base + test.item.room l) (base + (zero + 1) * r) (omega (arith, first_turn r)) in
    ht.leads w p l c env base end (λ b. one_of b (left_at at) (λ d. d)) up (ends middle end up)
  where
    ends : (i j : ℕ) → i ≤ j → (b : Bool) → Adds p i j (one_of b (left_at at) (λ d. d))
    ends i j h true d = omega (arith, h)
    ends i j h false d = omega (arith, h)
turns_within at test body step ht hb hs w p l c env (suc n) base =
    let r = turn_room test body step l in
    let all = (n + 1) * r in
    let end = base + (suc n + 1) * r in
    let b1 = base + test.item.room l in
    let b2 = base + (test.item.room l + body.room l) in
    let b3 = base + r in
    let up = c.calls.rises.more b1 end (omega (arith, next_turn n r)) in
    let turns = turns_from at test body step l env n b3 in
    let steps : Arrow = λ d. running turns (step.run l env b2 d) in
    ht.leads w p l c env base (w end) (λ b. one_of b (λ d. running steps (arrive past_continue (body.run l env b1 d)))
    (λ d. d)) up
    (sides (w b1) (w end) steps up (λ d. let d1 = arrive past_continue (body.run l env b1 d) in
    let d2 = step.run l env b2 d1 in
    let rest = turns_within at test body step ht hb hs w p l c env n b3 d2 in
    let u2 = c.calls.rises.more b3 (b3 + all) (omega arith) in
    let u3 = c.calls.rises.more (b3 + all) end (omega (arith, next_turn n r)) in
    let u4 = c.calls.rises.more (b2 + step.room l) b3 (omega arith) in
    let u5 = c.calls.rises.more (b1 + body.room l) b2 (omega arith) in
    let u6 = c.calls.rises.more b2 (b2 + step.room l) (omega arith) in
    let one = runs p (w b3) (w (b3 + all)) turns d2 rest u2 in
    let two = runs p (w b2) (w end) steps d1 (omega (arith, one, alone step hs w p l c env b2 d1, u3, u4))
    (omega (arith, u2, u3, u4, u6)) in
    omega (arith, two, alone body hb w p l c env b1 d, u5)))
  where
    sides : (i j : ℕ) (steps : Arrow) → i ≤ j →
        ((d : State) → met p (running steps (arrive past_continue (body.run l env (base + test.item.room l) d))) + i
        ≤ met p d + j) →
        (b : Bool) → Adds p i j (one_of b
        (λ d. running steps (arrive past_continue (body.run l env (base + test.item.room l) d))) (λ d. d))
    sides i j steps h go true d = go d
    sides i j steps h go false d = omega (arith, h)

looped_keeps : (at : ℕ) (test : Test) (body step : Item) → TestKeeps test → ItemKeeps body → ItemKeeps step →
    ItemKeeps (looped at test body step)
looped_keeps at test body step ht hb hs =
    let all = followed_keeps test.item (followed body step) ht.item (followed_keeps body step hb hs) in
    let turns : Acts = λ l env base d. arrive past_break (turns_from at test body step l env l.turns base d) in
    let each = each_turn (followed test.item (followed body step)) in
    told_keeps (acting turns each) _
    (acting_keeps turns each all.lasting
    (λ l. ap (λ n. 1 + (l.turns + 1) * n) (all.size l)) (λ l. ap (λ n. (l.turns + 1) * n) (all.room l))
    (λ w p l c env base d. turns_within at test body step ht hb hs w p l c env l.turns base d))

rounds_within : (at : ℕ) (body : Item) (test : Test) → ItemKeeps body → TestKeeps test →
    (w : ℕ → ℕ) (p : ℕ) (l : Level) → Counting w p l → (env : Env) (n base : ℕ) →
    Adds p (w base) (w (base + (n + 1) * (body.room l + test.item.room l))) (rounds_from at body test l env n base)
rounds_within at body test hb ht w p l c env zero base d =
    let r = body.room l + test.item.room l in
    omega (arith, c.calls.rises.more base (base + (zero + 1) * r) (omega arith))
rounds_within at body test hb ht w p l c env (suc n) base d =
    let r = body.room l + test.item.room l in
    let all = (n + 1) * r in
    let end = base + (suc n + 1) * r in
    let b1 = base + body.room l in
    let b2 = base + r in
    let d1 = arrive past_continue (body.run l env base d) in
    let turns = rounds_from at body test l env n b2 in
    let u1 = c.calls.rises.more (b1 + test.item.room l) end (omega (arith, next_turn n r)) in
    let u2 = c.calls.rises.more (b1 + test.item.room l) b2 (omega arith) in
    let u3 = c.calls.rises.more (b2 + all) end (omega (arith, next_turn n r)) in
    let u4 = c.calls.rises.more b1 (b1 + test.item.room l) (omega arith) in
    let go : Bool → Arrow = λ b. one_of b turns (λ d. d) in
    let step = ht.leads w p l c env b1 (w end) go u1
    (sides (w (b1 + test.item.room l)) (w b2) (w end) turns u1 u2
    (λ d. omega (arith, rounds_within at body test hb ht w p l c env n b2 d, u3))) in
    omega (
      arith,
      alone body hb w p l c env base d,
      runs p (w b1) (w end) (test.run l env b1 go) d1 (step d1) (omega (arith, u1, u4)),
    )
  where
    sides : (i m j : ℕ) (turns : Arrow) → i ≤ j → i ≤ m → ((d : State) → met p (turns d) + m ≤ met p d + j) →
        (b : Bool) → Adds p i j (one_of b turns (λ d. d))
    sides i m j turns h u go true d = omega (arith, go d, u)
    sides i m j turns h u go false d = omega (arith, h)

repeated_keeps : (at : ℕ) (body : Item) (test : Test) → ItemKeeps body → TestKeeps test →
    ItemKeeps (repeated at body test)
repeated_keeps at body test hb ht =
    let all = followed_keeps body test.item hb ht.item in
    let rounds : Acts = λ l env base d. arrive past_break (rounds_from at body test l env l.turns base d) in
    let each = each_turn (followed body test.item) in
    told_keeps (acting rounds each) _
    (acting_keeps rounds each all.lasting
    (λ l. ap (λ n. 1 + (l.turns + 1) * n) (all.size l)) (λ l. ap (λ n. (l.turns + 1) * n) (all.room l))
    (λ w p l c env base d. rounds_within at body test hb ht w p l c env l.turns base d))

left_keeps : (x : Item) → ItemKeeps x → ItemKeeps (left_scope x)
left_keeps x h = record { acts = h.acts; lasting = h.lasting; size = h.size; room = h.room }

while_keeps : (at : ℕ) (test : Test) (body : Code) (c : Context) → TestKeeps test → CodeKeeps body →
    ItemKeeps (while_from at test body c)
while_keeps at test body c ht hb =
    let inside = sub body (in_loop test.item.after c) in
    left_keeps (looped at test inside (nothing inside.after))
    (looped_keeps at test inside (nothing inside.after) ht (sub_keeps body (in_loop test.item.after c) hb)
    (nothing_keeps inside.after))

do_keeps : (at : ℕ) (body : Item) (condition : ExprNoted) → ItemKeeps body → ExprKeeps condition →
    ItemKeeps (do_from at body condition)
do_keeps at body condition hb hc =
    let test = test_of at (condition body.after) in
    left_keeps (repeated at body test)
    (repeated_keeps at body test hb (test_keeps at (condition body.after) (hc body.after)))

for_turns_keep : (at : ℕ) (test : Test) (step : Item) (body : Code) (c : Context) → TestKeeps test → ItemKeeps step →
    CodeKeeps body → ItemKeeps (for_turns at test step body c)
for_turns_keep at test step body c ht hs hb =
    let inside = sub body (in_loop step.after c) in
    let h = looped_keeps at test inside step ht (sub_keeps body (in_loop step.after c) hb) hs in
    record { acts = h.acts; lasting = h.lasting; size = h.size; room = h.room }

for_keeps : (at : ℕ) (first : Item) (condition step : Option ExprNoted) (body : Code) (c : Context) →
    ItemKeeps first → MaybeExpr condition → MaybeExpr step → CodeKeeps body →
    ItemKeeps (for_from at first condition step body c)
for_keeps at first condition step body c hf hc hs hb =
    let test = maybe_test at condition first.after in
    let next = maybe_value step test.item.after in
    let turns = for_turns at test next body c in
    guarded_keeps (closed (followed first turns)) (λ p l base. refl)
    (closed_keeps (followed first turns)
    (followed_keeps first turns hf
    (for_turns_keep at test next body c (maybe_test_keeps at condition first.after hc)
    (maybe_value_keeps step test.item.after hs) hb)))

-- ---- jumps

jump_keeps : (bs : List Breach) (kind : Kind) (c : Context) → ItemKeeps (jump bs kind c)
jump_keeps bs kind c = record {
  acts = λ w p l h env base d.
      let up = h.calls.rises.more base (base + 0) (omega arith) in
      omega (arith, runs p (w base) (w (base + 0)) (become kind) d (omega (arith, up)) up);
  lasting = tt;
  size = λ l. refl;
  room = λ l. refl;
}

returns_within : (x : Noted) (t : Option CType) → NotedKeeps x → ActsWithin x.part.room (returns x t)
returns_within x t hx w p l c env base d =
    let end = w (base + x.part.room l) in
    with_value_adds p (w base) end end (met p d) (x.part.run l env base d)
    (λ v d. record d { kind = k.Returning; value = Some (converted_to (class_in t) v) })
    ((hx.keeps w p l c.calls).run env base d) (λ v d. le_refl _) (le_refl _)

return_keeps : (at : ℕ) (value : Option ExprNoted) (c : Context) → MaybeExpr value → ItemKeeps (return_of at value c)
return_keeps at None c h = jump_keeps _ k.Returning c
return_keeps at (Some f) c h =
    let x = f c.scope in
    let kept = plain_keeps x (h c.scope) x.part.typed.after [] (returns x c.result) (returns_within x c.result (h c.scope)) in
    record { acts = kept.acts; lasting = kept.lasting; size = λ l. omega (arith, kept.size l); room = kept.room }

-- ---- statements by what stands in them

code_keeps : (here : Context → Item) (every : List Label) → ((c : Context) → ItemKeeps (here c)) →
    CodeKeeps (code here every)
code_keeps here every h = record { here = h; content = h }

compound_keeps : (xs : List Code) → EachCode xs → CodeKeeps (compound xs)
compound_keeps xs h = record {
  here = λ c.
      let inside = node (in_turn xs (opened (labels_of xs) (unchosen c))) in
      without_cases_keep (guarded (closed inside)) (guarded_keeps (closed inside) (λ p l base. refl)
      (closed_keeps inside (node_keeps (in_turn xs (opened (labels_of xs) (unchosen c)))
      (in_turn_keeps xs (opened (labels_of xs) (unchosen c)) h))));
  content = λ c. node_keeps (in_turn xs c) (in_turn_keeps xs c h);
}

-- a run that arrives goes on as any other
arrived_keeps : (f : Kind → Kind) (x : Item) → ItemKeeps x → ItemKeeps (arrived f x)
arrived_keeps f x h = record {
  acts = λ w p l c env base d. h.acts w p l c env base (arrive f d);
  lasting = h.lasting;
  size = h.size;
  room = h.room;
}

labeled_keeps : (at : ℕ) (name : Name) (body : Code) → CodeKeeps body → CodeKeeps (labeled at name body)
labeled_keeps at name body h = record { here = kept; content = kept }
  where
    kept : (c : Context) → ItemKeeps ((labeled at name body).here c)
    kept c =
        let inside = arrived_keeps (at_label name) (body.here c) (h.here c) in
        record {
          acts = inside.acts;
          lasting = inside.lasting;
          size = λ l. omega (arith, inside.size l);
          room = inside.room;
        }

case_of_keeps : (at : ℕ) (x : Noted) (z : Option ℤ) (y : Item) → NotedKeeps x → ItemKeeps y →
    ItemKeeps (case_of at x z y)
case_of_keeps at x None y hx h = h
case_of_keeps at x (Some z) y hx h =
    let inside = arrived_keeps (at_case (Some z)) y h in
    record {
      acts = inside.acts;
      lasting = inside.lasting;
      size = λ l. omega (arith, hx.blind.size l, h.size l);
      room = inside.room;
    }

case_keeps : (at : ℕ) (value : ExprNoted) (body : Code) → ExprKeeps value → CodeKeeps body →
    CodeKeeps (case_labeled at value body)
case_keeps at value body hv h = record { here = kept; content = kept }
  where
    kept : (c : Context) → ItemKeeps ((case_labeled at value body).here c)
    kept c =
        let x = value c.scope in
        let inside = case_of_keeps at x (case_value c.chooses (constant_of x.part.typed))
        (body.here (in_scope x.part.typed.after c)) (hv c.scope) (h.here (in_scope x.part.typed.after c)) in
        record { acts = inside.acts; lasting = inside.lasting; size = inside.size; room = inside.room }

default_keeps : (at : ℕ) (body : Code) → CodeKeeps body → CodeKeeps (default_labeled at body)
default_keeps at body h = record { here = kept; content = kept }
  where
    kept : (c : Context) → ItemKeeps ((default_labeled at body).here c)
    kept c =
        let inside = arrived_keeps at_default (body.here c) (h.here c) in
        record {
          acts = inside.acts;
          lasting = inside.lasting;
          size = λ l. omega (arith, inside.size l);
          room = inside.room;
        }

-- ---- the induction

abbrev Keeping : Stmt → Type 0
Keeping x = CodeKeeps (stmt x)

-- what holds of what a statement does
holds : (x : Stmt) (y : Code) → stmt x ≡ y → CodeKeeps y → Keeping x
holds x y e h = subst CodeKeeps (sym e) h

each_code : (xs : List Stmt) → EachStmt Keeping xs → EachCode (map stmt xs)
each_code [] h = tt
each_code (x ∷ xs) h = (h.0, each_code xs h.1)

maybe_code : (x : Option Stmt) → MaybeStmt Keeping x → MaybeCode (option_map stmt x)
maybe_code None h = tt
maybe_code (Some x) h = h

begun_keeps : (x : ForStart) (s : Scope) → ItemKeeps (begun_by x s)
begun_keeps (start_.Value value) s = maybe_value_keeps (option_map noted value) s (maybe_expr value)
begun_keeps (start_.Declared d) s = declaration_keeps d s

steps : StmtSteps Keeping
steps = record {
  on_block = λ at xs h. holds _ _ (eqs.does-Block at xs) (compound_keeps (map stmt xs) (each_code xs h));
  on_declared = λ d. holds _ _ (eqs.does-Declared d) (code_keeps _ [] (λ c. declaration_keeps d c.scope));
  on_value = λ at e. holds _ _ (eqs.does-Value at e) (code_keeps _ []
      (λ c. node_keeps (maybe_value (option_map noted e) c.scope)
      (maybe_value_keeps (option_map noted e) c.scope (maybe_expr e))));
  on_label = λ at n x h. holds _ _ (eqs.does-Label at n x) (labeled_keeps at n (stmt x) h);
  on_case = λ at e x h. holds _ _ (eqs.does-Case at e x) (case_keeps at (noted e) (stmt x) (expr_keeps e) h);
  on_default = λ at x h. holds _ _ (eqs.does-Default at x) (default_keeps at (stmt x) h);
  on_if = λ at e x y hx hy. holds _ _ (eqs.does-If at e x y) (code_keeps _ _
      (λ c. let z = noted e (enter c.scope) in
      let first = in_scope z.part.typed.after c in
      let second = in_scope (sub (stmt x) first).after c in
      if_keeps at z (sub (stmt x) first) (maybe_sub (option_map stmt y) second) (expr_keeps e (enter c.scope))
      (sub_keeps (stmt x) first hx) (maybe_sub_keeps (option_map stmt y) second (maybe_code y hy))));
  on_switch = λ at e x h. holds _ _ (eqs.does-Switch at e x) (code_keeps _ _
      (λ c. let z = noted e (enter c.scope) in
      switch_keeps at z (block_of (stmt x) (switch_context z c)) (expr_keeps e (enter c.scope))
      (block_keeps (stmt x) (switch_context z c) h)));
  on_while = λ at e x h. holds _ _ (eqs.does-While at e x) (code_keeps _ _
      (λ c. while_keeps at (test_of at (noted e (enter c.scope))) (stmt x) c
      (test_keeps at (noted e (enter c.scope)) (expr_keeps e (enter c.scope))) h));
  on_do = λ at x e h. holds _ _ (eqs.does-Do at x e) (code_keeps _ _
      (λ c. do_keeps at (sub (stmt x) (in_loop (enter c.scope) c)) (noted e)
      (sub_keeps (stmt x) (in_loop (enter c.scope) c) h) (expr_keeps e)));
  on_for = λ at b e f x h. holds _ _ (eqs.does-For at b e f x) (code_keeps _ _
      (λ c. for_keeps at (begun_by b (enter c.scope)) (option_map noted e) (option_map noted f) (stmt x) c
      (begun_keeps b (enter c.scope)) (maybe_expr e) (maybe_expr f) h));
  on_goto = λ at n. holds _ _ (eqs.does-Goto at n) (code_keeps _ [] (λ c. jump_keeps _ (k.Going n) c));
  on_continue = λ at. holds _ _ (eqs.does-Continue at) (code_keeps _ [] (λ c. jump_keeps _ k.Continuing c));
  on_break = λ at. holds _ _ (eqs.does-Break at) (code_keeps _ [] (λ c. jump_keeps _ k.Breaking c));
  on_return = λ at e. holds _ _ (eqs.does-Return at e) (code_keeps _ []
      (λ c. return_keeps at (option_map noted e) c (maybe_expr e)));
}

-- a statement meets no place but those of its room
pub statement_keeps : (x : Stmt) → CodeKeeps (stmt x)
statement_keeps x = of_stmt Keeping steps x
