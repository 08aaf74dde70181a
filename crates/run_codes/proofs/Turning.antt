-- One turn of a loop, and the turns that are left.
use Rattle.std.proofs.Common.{◌≡◌, ℕ, zero, suc, ◌+◌, ◌-◌, ◌*◌, ◌<◌, ◌≤◌, Bool, true, false, Option, Some, refl, sym, ap, ◌∙◌}
use Rattle.std.proofs.Common.{arith, Ok}
use Rattle.plain_data.specs.declared.run.Finish.TheVariants.{Left}
use Rattle.c_means.specs.declared.kind.Kind.{Kind}
use Rattle.c_means.specs.declared.kind.Kind.TheVariants as k
use Rattle.c_means.specs.Parts.{Env}
use Rattle.c_machine.specs.Kinds.{is_running}
use Rattle.c_means.specs.Items.{past_continue}
use Rattle.core_tree.specs.States.{Output, Done, Arrow, Level, where_running, running, onward, arrive, finished, one_of, stay}
use Rattle.core_tree.specs.Values.{Value}
use Rattle.core_tree.specs.Codes.{Item, tested, test_needs, turn_needs, turns_from, rounds_from, left_at}
use Rattle.core_running.specs.Running.{Low}
use Rattle.run_codes.specs.Turns.{Turns}

at_running : {A : Type 0} (kind : Kind) (a b : A) → is_running kind ≡ true → where_running kind a b ≡ a
at_running k.Running a b h = refl
at_running k.Breaking a b h = absurd cc
at_running k.Continuing a b h = absurd cc
at_running k.Returning a b h = absurd cc
at_running (k.Going label) a b h = absurd cc
at_running (k.Choosing value) a b h = absurd cc
at_running k.Defaulting a b h = absurd cc
at_running (k.Ended finish) a b h = absurd cc

past_running : {A : Type 0} (kind : Kind) (a b : A) → is_running kind ≡ false → where_running kind a b ≡ b
past_running k.Running a b h = absurd cc
past_running k.Breaking a b h = refl
past_running k.Continuing a b h = refl
past_running k.Returning a b h = refl
past_running (k.Going label) a b h = refl
past_running (k.Choosing value) a b h = refl
past_running k.Defaulting a b h = refl
past_running (k.Ended finish) a b h = refl

pub goes : (f : Arrow Output) (d : Done Output) → is_running d.kind ≡ true → running f d ≡ f d
goes f d h = at_running d.kind (f d) (Some d) h

pub stays : (f : Arrow Output) (d : Done Output) → is_running d.kind ≡ false → running f d ≡ Some d
stays f d h = past_running d.kind (f d) (Some d) h

-- ---- `while` and `for`

module _ (at : ℕ) (test : Option (Value Output)) (body step : Item Output) (l : Level Output) (env : Env) where
  from : ℕ → ℕ → Arrow Output
  from n base d = turns_from at test body step l env n base d

  -- the test ended the run, or said that the loop is over
  pub turn_ends : (n base : ℕ) (d e : Done Output)
      → ((go : Bool → Arrow Output) → tested at test l env base go d ≡ Some e)
      → turns_from at test body step l env n base d ≡ Some e
  turn_ends zero base d e h = h _
  turn_ends (suc n) base d e h = h _

  pub turn_over : (n base : ℕ) (d e : Done Output)
      → ((go : Bool → Arrow Output) → tested at test l env base go d ≡ go false e)
      → turns_from at test body step l env n base d ≡ Some e
  turn_over zero base d e h = h _
  turn_over (suc n) base d e h = h _

  -- no turn is left
  pub turn_none : (base : ℕ) (d e f : Done Output)
      → ((go : Bool → Arrow Output) → tested at test l env base go d ≡ go true e) → f ≡ finished (Left at) e
      → turns_from at test body step l env zero base d ≡ Some f
  turn_none base d e f h is = h _ ∙ ap Some (sym is)

  -- what a turn does behind its body
  behind : ℕ → ℕ → Arrow Output
  behind n base g =
      onward (step.run l env (base + ((test_needs test).room l.measures + body.needs.room l.measures)) g)
      (running (from n (base + (turn_needs test body step).room l.measures)))

  turn : (n base p : ℕ) (d e f g : Done Output) → p ≡ base + (test_needs test).room l.measures
      → ((go : Bool → Arrow Output) → tested at test l env base go d ≡ go true e)
      → body.run l env p e ≡ Some f → g ≡ arrive past_continue f
      → turns_from at test body step l env (suc n) base d ≡ running (behind n base) g
  unfolding from behind
  turn n base p d e f g is h ran past =
      let next : Arrow Output = λ r. running (behind n base) (arrive past_continue r) in
      let body_at : body.run l env (base + (test_needs test).room l.measures) e ≡ Some f =
      ap (λ q. body.run l env q e) (sym is) ∙ ran in
      h _ ∙ ap (λ o. onward o next) body_at ∙ ap (running (behind n base)) (sym past)

  -- the body left the loop, or ended the run
  pub left_by_body : (n base p : ℕ) (d e f g : Done Output) → p ≡ base + (test_needs test).room l.measures
      → ((go : Bool → Arrow Output) → tested at test l env base go d ≡ go true e)
      → body.run l env p e ≡ Some f → g ≡ arrive past_continue f → is_running g.kind ≡ false
      → turns_from at test body step l env (suc n) base d ≡ Some g
  left_by_body n base p d e f g is h ran past off =
      turn n base p d e f g is h ran past ∙ stays (behind n base) g off

  stepped : (n base p q : ℕ) (d e f g z : Done Output) (env' : Env) → p ≡ base + (test_needs test).room l.measures
      → q ≡ base + ((test_needs test).room l.measures + body.needs.room l.measures) → env' ≡ env
      → ((go : Bool → Arrow Output) → tested at test l env base go d ≡ go true e)
      → body.run l env p e ≡ Some f → g ≡ arrive past_continue f → is_running g.kind ≡ true
      → step.run l env' q g ≡ Some z
      → turns_from at test body step l env (suc n) base d
      ≡ running (from n (base + (turn_needs test body step).room l.measures)) z
  unfolding behind
  stepped n base p q d e f g z env' is there kept h ran past on went =
      let step_at : step.run l env (base + ((test_needs test).room l.measures + body.needs.room l.measures)) g
      ≡ Some z =
      ap (λ q. step.run l env q g) (sym there) ∙ ap (λ v. step.run l v q g) (sym kept) ∙ went in
      turn n base p d e f g is h ran past ∙ goes (behind n base) g on
      ∙ ap (λ o. onward o (running (from n (base + (turn_needs test body step).room l.measures)))) step_at

  -- a whole turn: the loop goes on where the run is running
  pub turned : (b : Bool) (base p q whole : ℕ) (d e f g z : Done Output) (env' : Env)
      → p ≡ base + (test_needs test).room l.measures
      → q ≡ base + ((test_needs test).room l.measures + body.needs.room l.measures)
      → whole ≡ (turn_needs test body step).room l.measures → env' ≡ env
      → ((go : Bool → Arrow Output) → tested at test l env base go d ≡ go true e)
      → body.run l env p e ≡ Some f → g ≡ arrive past_continue f → is_running g.kind ≡ true
      → step.run l env' q g ≡ Some z → b ≡ is_running z.kind
      → Turns (Ok b) (λ n. turns_from at test body step l env n) whole base d z
  unfolding from
  turned true base p q whole d e f g z env' is there all kept h ran past on went b = λ n.
      stepped n base p q d e f g z env' is there kept h ran past on went
      ∙ goes (from n (base + (turn_needs test body step).room l.measures)) z (sym b)
      ∙ ap (λ w. turns_from at test body step l env n (base + w) z) (sym all)
  turned false base p q whole d e f g z env' is there all kept h ran past on went b = λ n.
      stepped n base p q d e f g z env' is there kept h ran past on went
      ∙ stays (from n (base + (turn_needs test body step).room l.measures)) z (sym b)

-- ---- `do`

module _ (at : ℕ) (body : Item Output) (test : Value Output) (l : Level Output) (env : Env) where
  again : ℕ → ℕ → Bool → Arrow Output
  again n base b = one_of b
      (rounds_from at body test l env n (base + (body.needs.room l.measures + test.needs.room l.measures))) stay

  tried : ℕ → ℕ → Arrow Output
  tried n base d = tested at (Some test) l env (base + body.needs.room l.measures) (again n base) d

  round : (n base : ℕ) (d f g : Done Output) → body.run l env base d ≡ Some f → g ≡ arrive past_continue f
      → rounds_from at body test l env (suc n) base d ≡ running (tried n base) g
  unfolding tried again
  round n base d f g ran past =
      ap (λ o. onward o (λ r. running (tried n base) (arrive past_continue r))) ran
      ∙ ap (running (tried n base)) (sym past)

  pub round_left : (n base : ℕ) (d f g : Done Output) → body.run l env base d ≡ Some f → g ≡ arrive past_continue f
      → is_running g.kind ≡ false → rounds_from at body test l env (suc n) base d ≡ Some g
  round_left n base d f g ran past off = round n base d f g ran past ∙ stays (tried n base) g off

  round_tried : (n base p : ℕ) (d f g : Done Output) (env' : Env) → p ≡ base + body.needs.room l.measures → env' ≡ env
      → body.run l env base d ≡ Some f → g ≡ arrive past_continue f → is_running g.kind ≡ true
      → rounds_from at body test l env (suc n) base d ≡ tested at (Some test) l env' p (again n base) g
  unfolding tried
  round_tried n base p d f g env' is kept ran past on =
      round n base d f g ran past ∙ goes (tried n base) g on
      ∙ ap (λ q. tested at (Some test) l env q (again n base) g) (sym is)
      ∙ ap (λ v. tested at (Some test) l v p (again n base) g) (sym kept)

  pub round_ends : (n base p : ℕ) (d f g e : Done Output) (env' : Env) → p ≡ base + body.needs.room l.measures
      → env' ≡ env → body.run l env base d ≡ Some f → g ≡ arrive past_continue f → is_running g.kind ≡ true
      → ((go : Bool → Arrow Output) → tested at (Some test) l env' p go g ≡ Some e)
      → rounds_from at body test l env (suc n) base d ≡ Some e
  round_ends n base p d f g e env' is kept ran past on h =
      round_tried n base p d f g env' is kept ran past on ∙ h (again n base)

  pub rounded : (b : Bool) (base p whole : ℕ) (d f g e : Done Output) (env' : Env)
      → p ≡ base + body.needs.room l.measures
      → whole ≡ body.needs.room l.measures + test.needs.room l.measures → env' ≡ env
      → body.run l env base d ≡ Some f → g ≡ arrive past_continue f → is_running g.kind ≡ true
      → ((go : Bool → Arrow Output) → tested at (Some test) l env' p go g ≡ go b e)
      → Turns (Ok b) (λ n. rounds_from at body test l env n) whole base d e
  unfolding again
  rounded true base p whole d f g e env' is all kept ran past on h = λ n.
      round_tried n base p d f g env' is kept ran past on ∙ h (again n base)
      ∙ ap (λ w. rounds_from at body test l env n (base + w) e) (sym all)
  rounded false base p whole d f g e env' is all kept ran past on h = λ n.
      round_tried n base p d f g env' is kept ran past on ∙ h (again n base)

-- ---- the turns that are left

less : (left : ℕ) → 0 < left → suc (left - 1) ≡ left
less left h = omega arith

-- one turn went by
pub one_less : (from : Env → ℕ → ℕ → Arrow Output) (env env' : Env) (left base whole : ℕ) (d e : Done Output)
    (x : Option (Done Output)) → 0 < left → env' ≡ env
    → ((n : ℕ) → from env' (suc n) base d ≡ from env' n (base + whole) e)
    → from env left base d ≡ x → from env (left - 1) (base + whole) e ≡ x
one_less from env env' left base whole d e x some kept h is =
    ap (λ v. from v (left - 1) (base + whole) e) (sym kept) ∙ sym (h (left - 1))
    ∙ ap (λ v. from v (suc (left - 1)) base d) kept ∙ ap (λ n. from env n base d) (less left some) ∙ is

-- in one turn the loop ended
pub last_one : (from : Env → ℕ → ℕ → Arrow Output) (env env' : Env) (left base : ℕ) (d e : Done Output)
    (x : Option (Done Output)) → 0 < left → env' ≡ env → ((n : ℕ) → from env' (suc n) base d ≡ Some e)
    → from env left base d ≡ x → x ≡ Some e
last_one from env env' left base d e x some kept h is =
    sym is ∙ sym (ap (λ n. from env n base d) (less left some)) ∙ ap (λ v. from v (suc (left - 1)) base d) (sym kept)
    ∙ h (left - 1)

-- ---- places

pub low_part : (next left whole part : ℕ) → part ≤ whole → Low next ((left + 1) * whole) → Low next part
low_part next left whole part h low = omega (arith, h, low, split left whole)
  where
    split : (n t : ℕ) → (n + 1) * t ≡ n * t + t
    split n t = omega arith

pub low_next : (next left whole : ℕ) → 0 < left → Low next ((left + 1) * whole)
    → Low (next + whole) ((left - 1 + 1) * whole)
low_next next left whole some low = rw (less_one left some) (omega (arith, low, split left whole))
  where
    less_one : (left : ℕ) → 0 < left → left - 1 + 1 ≡ left
    less_one left h = omega arith

    split : (n t : ℕ) → (n + 1) * t ≡ n * t + t
    split n t = omega arith
