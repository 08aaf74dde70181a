-- What each kind of code is walked to.
use Rattle.std.proofs.Common.{◌≡◌, ◌+◌, ◌<◌, ◌≤◌, ℕ, zero, suc, ℤ, Bool, true, false, List, [], ◌∷◌, length, map, drop, get_or, Option, Some, refl, sym, ap, subst, ◌∙◌, arith}
use Rattle.std.specs.Prelude.{option_map}
use Rattle.std.proofs.lemmas.List.{drop_more, drop_all}
use Rattle.plain_data.specs.declared.run.Finish.{Finish}
use Rattle.plain_data.specs.declared.run.Finish.TheVariants as finish
use Rattle.c_means.specs.declared.kind.Kind.{Kind}
use Rattle.c_means.specs.declared.kind.Kind.TheVariants as k
use Rattle.c_means.specs.Items.{past_continue, past_switch, at_label, at_case, at_default}
use Rattle.c_language.specs.Scopes.{Name}
use Rattle.core_tree.specs.declared.code.Code.{Code}
use Rattle.core_tree.specs.declared.code.Code.TheVariants as tree
use Rattle.core_tree.specs.declared.code.Setting.{Setting}
use Rattle.core_tree.specs.declared.expr.Expr.{Expr}
use Rattle.core_tree.specs.declared.types.WordType.{WordType}
use Rattle.c_store.specs.Store.{start, zero_range}
use Rattle.c_means.specs.Parts.{Env}
use Rattle.core_tree.specs.Codes.{Item, code, in_turn, maybe_evaluated, no_more, node_size, empty, static_needs, no_objects, passes, declared, zeroed_if, sets_all, return_of}
use Rattle.core_tree.specs.States.{Done, Acts, Arrow, running, where_running, with_store}
use Rattle.core_tree.specs.Values.{Value, value}
use Rattle.core_tree.proofs.Equations as is
use Rattle.positions.specs.Sets.{has}
use Rattle.log_expr.specs.declared.course.Course.{Course}
use Rattle.log_expr.specs.declared.flow.Flow.{Flow}
use Rattle.log_expr.specs.declared.table.Entry.{Entry}
use Rattle.log_expr.specs.Below.{Site, Extends, ReachesCode}
use Rattle.log_expr.specs.CodeWalks.{CoversActs, CoversTest, WalksAction, WalksTest, WalksStep, WalksSettings, WalksCode, setting_acts}
use Rattle.log_expr.specs.Courses.{only_running, only_choosing, but_running, jumps, SetAsideStays, Enters, Leaves, Passes, BeginsAgain, EndsBody, BeginsTurn}
use Rattle.log_expr.specs.Covers.{Pair, FlowAlike, CoversCode, CoversValue, one, two}
use Rattle.log_expr.specs.Flows.{Wider, place, Holds, Arrives, unchanged}
use Rattle.log_expr.specs.Tables.{known_at, Grows}
use Rattle.log_expr.proofs.CodeForms.{covers_nothing, covers_followed, covers_block, covers_jump, covers_arrived, covers_if, covers_switch, code_narrower, code_wider, holds_same}
use Rattle.log_expr.proofs.CodeSteps.{but_wider, only_in, choosing_in, stays_then, stays_same, restored, value_later, code_later, test_later, evaluated_kept, evaluated_passes, evaluated_code}
use Rattle.log_expr.proofs.FlowWays.{arrives_then, flow_here, holds_as, where_it_runs}
use Rattle.log_expr.proofs.Growing.{extends_then, extends_same}
use Rattle.log_expr.proofs.Turns as turn
use Rattle.log_expr.proofs.Turns.{LoopLeads, while_of, do_of, test_wider, test_some, covers_looped, covers_repeated, turned_wider, ended_passes, ended_wider, unbroken}

abbrev Rows : Type 0
Rows = List (List Entry)

abbrev Covers : Site → Rows → Item ℕ → Flow → Flow → Type 0
Covers x t i s u = CoversCode x.whole x.turns (known_at t x.left) i s u

through_equal : (a b c : Flow) → b ≡ a → Arrives unchanged b c → Arrives unchanged a c
through_equal a b c e h = subst (λ z. Arrives unchanged z c) e h

-- a run of the same kind with another store
zeroed_run : (u : Flow) (f g : Arrow ℕ) (d e : Done ℕ) → e.kind ≡ d.kind → FlowAlike u (running f d) (running g d) → FlowAlike u (running f e) (running g e) → FlowAlike u (running (λ _. f e) d) (running (λ _. g e) d)
zeroed_run u f g d e q h i = by d.kind h (subst (λ z. FlowAlike u (where_running z (f e) (Some e)) (where_running z (g e) (Some e))) q i)
  where
    by : (z : Kind) → FlowAlike u (where_running z (f d) (Some d)) (where_running z (g d) (Some d)) → FlowAlike u (where_running z (f e) (Some e)) (where_running z (g e) (Some e))
        → FlowAlike u (where_running z (f e) (Some d)) (where_running z (g e) (Some d))
    by k.Running h i = i
    by k.Breaking h i = h
    by k.Continuing h i = h
    by k.Returning h i = h
    by (k.Going l) h i = h
    by (k.Choosing v) h i = h
    by k.Defaulting h i = h
    by (k.Ended v) h i = h

-- what passes a part that was entered passes the whole
passes_entered : (a b c d : Course) → Enters a b → Arrives unchanged b.passing c.passing → Leaves c d → Arrives unchanged (but_running a.at) d.at
passes_entered a b c d e s l = through_equal (but_running a.at) b.passing d.at e.passing (arrives_then b.passing c.passing d.at s l.passed)

equal_wider : (s u : Flow) → u ≡ s → Arrives unchanged s u
equal_wider s u e = subst (λ z. Arrives unchanged s z) (sym e) (λ kind y m. m)

-- what is left of items leads on, whatever it leads to
pub record CodesLead (x : Site) (t t' : Rows) (all rest : List (Item ℕ)) (a b : Course) : Type 0 where
  pub stays : SetAsideStays a b
  pub extends_ : Extends x.whole t t'
  pub leads : (last : Rows) (u : Flow) → Grows t' last → Covers x last (in_turn rest) b.at u → Covers x last (in_turn all) a.at u

module _ {x : Site} where
  walked_as : {i j : Item ℕ} {t t' : Rows} {a b : Course} → i ≡ j → WalksCode x t t' j a b → WalksCode x t t' i a b
  walked_as {i} {j} {t} {t'} {a} {b} e h = subst (λ z. WalksCode x t t' z a b) (sym e) h

  -- the part as it was handed out
  part : {y y' : Code} {t t' : Rows} {a b : Course} → y' ≡ y → WalksCode x t t' (code y') a b → WalksCode x t t' (code y) a b
  part {y} {y'} {t} {t'} {a} {b} e h = subst (λ z. WalksCode x t t' (code z) a b) e h

  parts : {ys ys' : List Code} {t t' : Rows} {a b : Course} → ys' ≡ ys → WalksCode x t t' (in_turn (map code ys')) a b → WalksCode x t t' (in_turn (map code ys)) a b
  parts {ys} {ys'} {t} {t'} {a} {b} e h = subst (λ z. WalksCode x t t' (in_turn (map code z)) a b) e h

  action : {y y' : Expr} {t t' : Rows} {a b : Course} → y' ≡ y → WalksAction x t t' (value y') a b → WalksAction x t t' (value y) a b
  action {y} {y'} {t} {t'} {a} {b} e h = subst (λ z. WalksAction x t t' (value z) a b) e h

  -- ---- statements without parts

  pub on_Nothing : {c : Code} {n : Bool} {t : Rows} {a : Course} → c ≡ tree.Nothing n → WalksCode x t t (code c) a a
  on_Nothing {c} {n} {t} {a} q = walked_as (ap code q ∙ is.does-Nothing n) (record {
    stays = stays_same a;
    code = record { extends_ = extends_same x.whole t; covers = record { alike = λ p env base d h. flow_here a.at d h } };
  })

  pub on_Static : {c : Code} {n : Bool} {es : List Expr} {t : Rows} {a : Course} → c ≡ tree.Static n es → WalksCode x t t (code c) a a
  on_Static {c} {n} {es} {t} {a} q = walked_as (ap code q ∙ is.does-Static n es) (record {
    stays = stays_same a;
    code = record { extends_ = extends_same x.whole t; covers = record { alike = λ p env base d h. flow_here a.at d h } };
  })

  pub on_Value : {c : Code} {n : Bool} {e e' : Expr} {t t' : Rows} {a b : Course} → c ≡ tree.Value n e → e' ≡ e → WalksAction x t t' (value e') a b → WalksCode x t t' (code c) a b
  on_Value {c} {n} {e} {e'} {t} {t'} {a} {b} q g w =
      let r = action g w in
      walked_as (ap code q ∙ is.does-Value n e) (record { stays = r.stays; code = evaluated_code t t' n (value e) a.at b.at r.evaluates })

  pub on_Declare : {c : Code} {at size : ℕ} {zeroed : Bool} {xs xs' : List Setting} {t t' : Rows} {a b : Course} → c ≡ tree.Declare at size zeroed xs → xs' ≡ xs → WalksSettings x t t' xs' a b → WalksCode x t t' (code c) a b
  on_Declare {c} {at} {size} {zeroed} {xs} {xs'} {t} {t'} {a} {b} q g w =
      let r : WalksSettings x t t' xs a b = subst (λ z. WalksSettings x t t' z a b) g w in
      walked_as (ap code q ∙ is.does-Declare at size zeroed xs) (record {
        stays = r.stays;
        code = record {
          extends_ = r.extends_;
          covers = record {
            alike = λ p env base d h. by zeroed p env base d (start (env at)) (r.covers (start (env at))) h;
          };
        };
      })
    where
      -- zeroing touches the store alone
      by : (z : Bool) (p : Pair (known_at t' x.left)) (env : Env) (base : ℕ) (d : Done ℕ) (n : ℕ) → CoversActs x.whole x.turns (known_at t' x.left) (setting_acts xs n) a.at b.at → Holds a.at d
          → FlowAlike b.at (running (λ d. sets_all xs n (one x.whole x.turns p) env (base + 1) (zeroed_if z n size d)) d) (running (λ d. sets_all xs n (two x.whole x.turns p) env (base + 1) (zeroed_if z n size d)) d)
      by true p env base d n c h = zeroed_run b.at (sets_all xs n (one x.whole x.turns p) env (base + 1)) (sets_all xs n (two x.whole x.turns p) env (base + 1)) d (with_store (zero_range n size d.store) d) refl (c.alike p env (base + 1) d h) (c.alike p env (base + 1) (with_store (zero_range n size d.store) d) h)
      by false p env base d n c h = c.alike p env (base + 1) d h

  -- ---- jumps

  jumped : (kind : Kind) (t : Rows) (a : Course) (u : Flow) → Arrives (jumps kind) a.at u → (i : Item ℕ) → Covers x t i a.at u → WalksCode x t t i a (record a { at = u })
  jumped kind t a u g i c = record { stays = record { passing = refl; starts = refl; outer = refl }; code = record { extends_ = extends_same x.whole t; covers = c } }

  pub on_Goto : {c : Code} {name : Name} {t : Rows} {a : Course} {u : Flow} → c ≡ tree.Goto name → ((l : Name) → Arrives (jumps (k.Going l)) a.at u) → WalksCode x t t (code c) a (record a { at = u })
  on_Goto {c} {name} {t} {a} {u} q g = walked_as (ap code q ∙ is.does-Goto name) (jumped (k.Going name) t a u (g name) _ (covers_jump x.whole x.turns (known_at t x.left) (k.Going name) a.at u (g name)))

  pub on_Continue : {c : Code} {t : Rows} {a : Course} {u : Flow} → c ≡ tree.Continue → Arrives (jumps k.Continuing) a.at u → WalksCode x t t (code c) a (record a { at = u })
  on_Continue {c} {t} {a} {u} q g = walked_as (ap code q ∙ is.does-Continue) (jumped k.Continuing t a u g _ (covers_jump x.whole x.turns (known_at t x.left) k.Continuing a.at u g))

  pub on_Break : {c : Code} {t : Rows} {a : Course} {u : Flow} → c ≡ tree.Break → Arrives (jumps k.Breaking) a.at u → WalksCode x t t (code c) a (record a { at = u })
  on_Break {c} {t} {a} {u} q g = walked_as (ap code q ∙ is.does-Break) (jumped k.Breaking t a u g _ (covers_jump x.whole x.turns (known_at t x.left) k.Breaking a.at u g))

  pub on_Return : {c : Code} {e : Option Expr} {t t' : Rows} {a b : Course} → c ≡ tree.Return e → WalksCode x t t' (return_of (option_map value e)) a b → WalksCode x t t' (code c) a b
  on_Return {c} {e} q w = walked_as (ap code q ∙ is.does-Return e) w

  -- ---- labels

  pub on_Label : {c y y' : Code} {name : Name} {t t' : Rows} {a b : Course} {u : Flow} → c ≡ tree.Label name y → y' ≡ y → ((l : Name) → Arrives (at_label l) a.at u) → WalksCode x t t' (code y') (record a { at = u }) b
      → WalksCode x t t' (code c) a b
  on_Label {c} {y} {y'} {name} {t} {t'} {a} {b} {u} q g f w =
      let r = part g w in
      walked_as (ap code q ∙ is.does-Label name y) (record {
        stays = record { passing = r.stays.passing; starts = r.stays.starts; outer = r.stays.outer };
        code = record { extends_ = r.code.extends_; covers = covers_arrived x.whole x.turns (known_at t' x.left) (at_label name) no_more (code y) a.at u b.at (f name) r.code.covers };
      })

  pub on_Case : {c y y' : Code} {z : ℤ} {e : Expr} {t t' : Rows} {a b : Course} {u : Flow} → c ≡ tree.Case z e y → y' ≡ y → ((v : Option ℤ) → Arrives (at_case v) a.at u) → WalksCode x t t' (code y') (record a { at = u }) b
      → WalksCode x t t' (code c) a b
  on_Case {c} {y} {y'} {z} {e} {t} {t'} {a} {b} {u} q g f w =
      let r = part g w in
      walked_as (ap code q ∙ is.does-Case z e y) (record {
        stays = record { passing = r.stays.passing; starts = r.stays.starts; outer = r.stays.outer };
        code = record { extends_ = r.code.extends_; covers = covers_arrived x.whole x.turns (known_at t' x.left) (at_case (Some z)) (node_size ℕ e) (code y) a.at u b.at (f (Some z)) r.code.covers };
      })

  pub on_Default : {c y y' : Code} {t t' : Rows} {a b : Course} {u : Flow} → c ≡ tree.Default y → y' ≡ y → Arrives at_default a.at u → WalksCode x t t' (code y') (record a { at = u }) b → WalksCode x t t' (code c) a b
  on_Default {c} {y} {y'} {t} {t'} {a} {b} {u} q g f w =
      let r = part g w in
      walked_as (ap code q ∙ is.does-Default y) (record {
        stays = record { passing = r.stays.passing; starts = r.stays.starts; outer = r.stays.outer };
        code = record { extends_ = r.code.extends_; covers = covers_arrived x.whole x.turns (known_at t' x.left) at_default no_more (code y) a.at u b.at f r.code.covers };
      })

  -- ---- blocks and selection

  pub on_Block : {c : Code} {n : Bool} {ys ys' : List Code} {t t' : Rows} {a b d f : Course} → c ≡ tree.Block n ys → ys' ≡ ys → Enters a b → WalksCode x t t' (in_turn (map code ys')) b d → Leaves d f → WalksCode x t t' (code c) a f
  on_Block {c} {n} {ys} {ys'} {t} {t'} {a} {b} {d} {f} q g e w l =
      let r = parts g w in
      walked_as (ap code q ∙ is.does-Block n ys) (record {
        stays = restored a b d f e r.stays.outer l;
        code = record {
          extends_ = r.code.extends_;
          covers = covers_block x.whole x.turns (known_at t' x.left) n (map code ys) a.at f.at (passes_entered a b d f e (equal_wider b.passing d.passing r.stays.passing) l)
              (code_wider x.whole x.turns (known_at t' x.left) (in_turn (map code ys)) (only_running a.at.running) d.at f.at l.walked (subst (λ s. Covers x t' (in_turn (map code ys)) s d.at) e.at r.code.covers));
        };
      })

  pub on_If : {c y y' z z' : Code} {at : ℕ} {e e' : Expr} {t t1 t2 t3 : Rows} {a b d f g h i : Course} → c ≡ tree.If at e y z → e' ≡ e → y' ≡ y → z' ≡ z → WalksAction x t t1 (value e') a b → Enters b d
      → WalksCode x t1 t2 (code y') d f → BeginsAgain f g → WalksCode x t2 t3 (code z') g h → Leaves h i → WalksCode x t t3 (code c) a i
  on_If {c} {y} {y'} {z} {z'} {at} {e} {e'} {t} {t1} {t2} {t3} {a} {b} {d} {f} {g} {h} {i} q j m n w en wy ba wz l =
      let r = action j w in
      let u = part m wy in
      let v = part n wz in
      let late : Extends x.whole t1 t3 = extends_then x.whole t1 t2 t3 u.code.extends_ v.code.extends_ in
      let more : Arrives unchanged d.passing h.passing =
      arrives_then d.passing f.passing h.passing (equal_wider d.passing f.passing u.stays.passing)
      (arrives_then f.passing g.passing h.passing ba.rest.passing (equal_wider g.passing h.passing v.stays.passing)) in
      let rest : Arrives unchanged (but_running b.at) i.at = passes_entered b d h i en more l in
      walked_as (ap code q ∙ is.does-If at e y z) (record {
        stays = stays_then a b i r.stays (restored b d h i en (v.stays.outer ∙ ba.rest.outer ∙ u.stays.outer) l);
        code = record {
          extends_ = extends_then x.whole t t1 t3 r.evaluates.value.extends_ late;
          covers = covers_if x.whole x.turns (known_at t3 x.left) at (value e) (code y) (code z) a.at i.at b.at.running b.at.ended
              (value_later x t1 t3 (value e) a.at.running b.at.running b.at.ended late.grows r.evaluates.value.covers)
              (rest (k.Ended (finish.Left 0)))
              (code_later x t2 t3 (code y) (only_running b.at.running) f.at i.at v.code.extends_.grows
              (arrives_then f.at g.passing i.at ba.walked (arrives_then g.passing h.passing i.at (equal_wider g.passing h.passing v.stays.passing) l.passed))
              (subst (λ s. Covers x t2 (code y) s f.at) en.at u.code.covers))
              (code_wider x.whole x.turns (known_at t3 x.left) (code z) (only_running b.at.running) h.at i.at l.walked
              (subst (λ s. Covers x t3 (code z) s h.at) (ba.at ∙ ap only_running (u.stays.starts ∙ en.starts)) v.code.covers))
              (arrives_then (but_running a.at) (but_running b.at) i.at (evaluated_kept t t1 (value e) a.at b.at r.evaluates) rest);
        };
      })

  pub on_Switch : {c : Code} {at : ℕ} {word : WordType} {cases : List ℤ} {e e' : Expr} {n : Bool} {ys ys' : List Code} {t t1 t2 : Rows} {a b d f i : Course} {u m : Flow} → c ≡ tree.Switch at word cases e n ys → e' ≡ e → ys' ≡ ys
      → WalksAction x t t1 (value e') a b → Enters b d → Wider d.at.running u.choosing → WalksCode x t1 t2 (in_turn (map code ys')) (record d { at = u }) f → Arrives past_switch f.at m → Leaves (record f { at = m }) i
      → WalksCode x t t2 (code c) a i
  on_Switch {c} {at} {word} {cases} {e} {e'} {n} {ys} {ys'} {t} {t1} {t2} {a} {b} {d} {f} {i} {u} {m} q j o w en ch wy ps l =
      let r = action j w in
      let v = parts o wy in
      let rest : Arrives unchanged (but_running b.at) i.at = passes_entered b d (record f { at = m }) i en (equal_wider d.passing f.passing v.stays.passing) l in
      walked_as (ap code q ∙ is.does-Switch at word cases e n ys) (record {
        stays = stays_then a b i r.stays (restored b d (record f { at = m }) i en v.stays.outer l);
        code = record {
          extends_ = extends_then x.whole t t1 t2 r.evaluates.value.extends_ v.code.extends_;
          covers = covers_switch x.whole x.turns (known_at t2 x.left) at word cases (value e) n (map code ys) a.at f.at i.at b.at.running b.at.ended
              (value_later x t1 t2 (value e) a.at.running b.at.running b.at.ended v.code.extends_.grows r.evaluates.value.covers)
              (rest (k.Ended (finish.Left 0)))
              (code_narrower x.whole x.turns (known_at t2 x.left) (in_turn (map code ys)) (only_choosing b.at.running) u f.at
              (choosing_in b.at.running u (λ y g. ch y (subst (λ s. has s.running y ≡ true) (sym en.at) g))) v.code.covers)
              (λ kind y g. l.walked (past_switch kind) y (ps kind y g))
              (arrives_then (but_running a.at) (but_running b.at) i.at (evaluated_kept t t1 (value e) a.at b.at r.evaluates) rest);
        };
      })

  -- ---- loops

  pub on_Loop : {c : Code} (y : Code) {at : ℕ} {test step : Option Expr} {turns left : ℕ} {t t1 t2 : Rows} {a b d f i : Course} {u : Flow} → c ≡ tree.Loop at test step y → Enters a b
      → LoopLeads x (while_of at (option_map value test) (code y) (maybe_evaluated (option_map value step))) t t1 turns left b d → turns ≡ x.turns → left ≡ 0
      → WalksTest x t1 t2 (option_map value test) d f → ((e : Finish) → Arrives (jumps (k.Ended e)) f.at u) → Leaves (record f { at = u }) i → WalksCode x t t2 (code c) a i
  on_Loop {c} y {at} {test} {step} {turns} {left} {t} {t1} {t2} {a} {b} {d} {f} {i} {u} q en lead n z w ends l =
      let more : Arrives unchanged b.passing f.passing = arrives_then b.passing d.passing f.passing lead.passing w.rest.passing in
      let starts : d.at.running ≡ d.starts = ap (λ s. s.running) lead.at in
      let last : turn.Turns x (while_of at (option_map value test) (code y) (maybe_evaluated (option_map value step))) t2 0 d.starts i.at =
      turn.last_turn x.whole x.turns (known_at t2 x.left) at (option_map value test) (code y) (maybe_evaluated (option_map value step)) d.starts f.at.running i.at
      (test_wider x.whole x.turns (known_at t2 x.left) (option_map value test) d.starts f.at.running f.passing i.at l.passed
      (subst (λ s. CoversTest x.whole x.turns (known_at t2 x.left) (option_map value test) s f.at.running f.passing) starts w.covers))
      (λ y m. l.walked (k.Ended (finish.Left 0)) y (ends (finish.Left 0) k.Running y m)) in
      let whole = lead.leads t2 i.at w.extends_.grows (arrives_then d.passing f.passing i.at w.rest.passing l.passed)
      (subst (λ j. turn.Turns x (while_of at (option_map value test) (code y) (maybe_evaluated (option_map value step))) t2 j d.starts i.at) (sym z) last) in
      walked_as (ap code q ∙ is.does-Loop at test step y) (record {
        stays = restored a b (record f { at = u }) i en (w.rest.outer ∙ lead.outer) l;
        code = record {
          extends_ = extends_then x.whole t t1 t2 lead.extends_ w.extends_;
          covers = covers_looped x.whole x.turns (known_at t2 x.left) at (option_map value test) (option_map value step) (code y) a.at i.at
              (subst (λ j. turn.Turns x (while_of at (option_map value test) (code y) (maybe_evaluated (option_map value step))) t2 j a.at.running i.at) n
              (subst (λ s. turn.Turns x (while_of at (option_map value test) (code y) (maybe_evaluated (option_map value step))) t2 turns s i.at) en.starts whole))
              (passes_entered a b (record f { at = u }) i en more l);
        };
      })

  pub on_Repeat : {c : Code} (y : Code) {at : ℕ} {e : Expr} {turns left : ℕ} {t t1 : Rows} {a b d i : Course} {u : Flow} → c ≡ tree.Repeat at e y → Enters a b
      → LoopLeads x (do_of at (code y) (value e)) t t1 turns left b d → turns ≡ x.turns → left ≡ 0 → ((e : Finish) → Arrives (jumps (k.Ended e)) d.at u) → Leaves (record d { at = u }) i → WalksCode x t t1 (code c) a i
  on_Repeat {c} y {at} {e} {turns} {left} {t} {t1} {a} {b} {d} {i} {u} q en lead n z ends l =
      let starts : d.at.running ≡ d.starts = ap (λ s. s.running) lead.at in
      let last : turn.Turns x (do_of at (code y) (value e)) t1 0 d.starts i.at =
      turn.last_round x.whole x.turns (known_at t1 x.left) at (code y) (value e) d.starts i.at
      (λ y m. l.walked (k.Ended (finish.Left 0)) y (ends (finish.Left 0) k.Running y (subst (λ s. has s y ≡ true) (sym starts) m))) in
      let whole = lead.leads t1 i.at (λ f d i e o. o) l.passed (subst (λ j. turn.Turns x (do_of at (code y) (value e)) t1 j d.starts i.at) (sym z) last) in
      walked_as (ap code q ∙ is.does-Repeat at e y) (record {
        stays = restored a b (record d { at = u }) i en lead.outer l;
        code = record {
          extends_ = lead.extends_;
          covers = covers_repeated x.whole x.turns (known_at t1 x.left) at (code y) (value e) a.at i.at
              (subst (λ j. turn.Turns x (do_of at (code y) (value e)) t1 j a.at.running i.at) n
              (subst (λ s. turn.Turns x (do_of at (code y) (value e)) t1 turns s i.at) en.starts whole))
              (passes_entered a b (record d { at = u }) i en lead.passing l);
        };
      })

  pub turn_start : {loop : ℕ → Acts ℕ} {t : Rows} {turns : ℕ} {a b : Course} → Enters a b → LoopLeads x loop t t turns turns b b
  turn_start {loop} {t} {turns} {a} {b} e = turn.loop_start x loop t turns b (e.at ∙ ap only_running (sym e.starts))

  -- another turn of a `while` or `for`
  pub turn_more : (y : Code) (at : ℕ) (test step : Option Expr) {y' : Code} {turns left n left' : ℕ} {t t1 t2 t3 t4 : Rows} {b d f g h i j : Course}
      → LoopLeads x (while_of at (option_map value test) (code y) (maybe_evaluated (option_map value step))) t t1 turns left b d → left ≡ suc n → y' ≡ y
      → WalksTest x t1 t2 (option_map value test) d f → WalksCode x t2 t3 (code y') f g → EndsBody g h → WalksStep x t3 t4 (option_map value step) h i → BeginsTurn n i j left'
      → LoopLeads x (while_of at (option_map value test) (code y) (maybe_evaluated (option_map value step))) t t4 turns left' b j
  turn_more y at test step {y'} {turns} {left} {n} {left'} {t} {t1} {t2} {t3} {t4} {b} {d} {f} {g} {h} {i} {j} lead e q wt wc eb ws bt =
      let r = part q wc in
      let late : Extends x.whole t2 t4 = extends_then x.whole t2 t3 t4 r.code.extends_ ws.step.extends_ in
      let f_h : Arrives unchanged f.passing h.passing = arrives_then f.passing g.passing h.passing (equal_wider f.passing g.passing r.stays.passing) eb.rest.passing in
      let h_j : Arrives unchanged h.passing j.passing = arrives_then h.passing i.passing j.passing (equal_wider h.passing i.passing ws.stays.passing) bt.passing in
      let kept : i.at ≡ record (only_running i.at.running) { ended = i.at.ended } = ws.kept ∙ ap (λ (s : Flow). record s { running = i.at.running; ended = i.at.ended }) eb.at in
      turn.loop_more x (while_of at (option_map value test) (code y) (maybe_evaluated (option_map value step))) t t1 t4 turns left n left' b d i j lead e (extends_then x.whole t1 t2 t4 wt.extends_ late)
      (ws.stays.outer ∙ eb.rest.outer ∙ r.stays.outer ∙ wt.rest.outer) (ws.stays.starts ∙ eb.rest.starts ∙ r.stays.starts ∙ wt.rest.starts)
      (arrives_then d.passing f.passing i.passing wt.rest.passing (arrives_then f.passing h.passing i.passing f_h (equal_wider h.passing i.passing ws.stays.passing)))
      (λ last u gr ar k' more.
      let h_u : Arrives unchanged h.passing u = arrives_then h.passing j.passing u h_j ar in
      turn.more_turns x.whole x.turns (known_at last x.left) at (option_map value test) (code y) (maybe_evaluated (option_map value step)) d.starts f.at.running u
      (test_wider x.whole x.turns (known_at last x.left) (option_map value test) d.starts f.at.running f.passing u (arrives_then f.passing h.passing u f_h h_u)
      (test_later x t2 last (option_map value test) d.starts f.at.running f.passing (λ p q' o v m. gr p q' o v (late.grows p q' o v m))
      (subst (λ s. CoversTest x.whole x.turns (known_at t2 x.left) (option_map value test) s f.at.running f.passing) (ap (λ s. s.running) lead.at) wt.covers)))
      g.at i.at h.at.running k'
      (code_later x t3 last (code y) (only_running f.at.running) g.at g.at (λ p q' o v m. gr p q' o v (ws.step.extends_.grows p q' o v m)) (λ kind v m. m)
      (code_narrower x.whole x.turns (known_at t3 x.left) (code y) (only_running f.at.running) f.at g.at (only_in f.at.running f.at (λ v m. m)) r.code.covers))
      (λ kind v m. turned_wider h.at.running h.passing u h_u (past_continue kind) v (eb.held kind v m))
      (code_later x t4 last (maybe_evaluated (option_map value step)) (only_running h.at.running) i.at i.at gr (λ kind v m. m)
      (subst (λ s. Covers x t4 (maybe_evaluated (option_map value step)) s i.at) eb.at ws.step.covers))
      (subst (λ s. Arrives unchanged (but_running s) (unbroken u)) (sym kept) (ended_passes i.at.running i.at.ended u (λ v m. ar (k.Ended (finish.Left 0)) v (bt.walked (k.Ended (finish.Left 0)) v m))))
      more)
      bt

  -- another turn of a `do`
  pub round_more : (y : Code) (e : Expr) {y' : Code} {at : ℕ} {e' : Expr} {turns left n left' : ℕ} {t t1 t2 t3 : Rows} {b d f g h i j : Course}
      → LoopLeads x (do_of at (code y) (value e)) t t1 turns left b d → left ≡ suc n → y' ≡ y → e' ≡ e
      → WalksCode x t1 t2 (code y') d f → EndsBody f g → WalksAction x t2 t3 (value e') g h → Passes h i → BeginsTurn n i j left'
      → LoopLeads x (do_of at (code y) (value e)) t t3 turns left' b j
  round_more y e {y'} {at} {e'} {turns} {left} {n} {left'} {t} {t1} {t2} {t3} {b} {d} {f} {g} {h} {i} {j} lead q o p wc eb wa ps bt =
      let r = part o wc in
      let v = action p wa in
      let g_i : Arrives unchanged g.passing i.passing = arrives_then g.passing h.passing i.passing (equal_wider g.passing h.passing v.stays.passing) ps.rest.passing in
      let g_j : Arrives unchanged g.passing j.passing = arrives_then g.passing i.passing j.passing g_i bt.passing in
      let h_j : Arrives unchanged h.at j.passing = arrives_then h.at i.passing j.passing ps.walked bt.passing in
      turn.loop_more x (do_of at (code y) (value e)) t t1 t3 turns left n left' b d i j lead q (extends_then x.whole t1 t2 t3 r.code.extends_ v.evaluates.value.extends_)
      (ps.rest.outer ∙ v.stays.outer ∙ eb.rest.outer ∙ r.stays.outer) (ps.rest.starts ∙ v.stays.starts ∙ eb.rest.starts ∙ r.stays.starts)
      (arrives_then d.passing f.passing i.passing (equal_wider d.passing f.passing r.stays.passing) (arrives_then f.passing g.passing i.passing eb.rest.passing g_i))
      (λ last u gr ar k' more.
      turn.more_rounds x.whole x.turns (known_at last x.left) at (code y) (value e) d.starts u f.at g.at.running i.at.running k'
      (code_later x t2 last (code y) (only_running d.starts) f.at f.at (λ a b' c' z m. gr a b' c' z (v.evaluates.value.extends_.grows a b' c' z m)) (λ kind z m. m)
      (subst (λ s. Covers x t2 (code y) s f.at) lead.at r.code.covers))
      (λ kind z m. turned_wider g.at.running g.passing u (arrives_then g.passing j.passing u g_j ar) (past_continue kind) z (eb.held kind z m))
      (subst (λ s. CoversTest x.whole x.turns (known_at last x.left) (Some (value e)) g.at.running s.running u) (sym ps.at)
      (test_some x.whole x.turns (known_at last x.left) (value e) g.at.running h.at.running h.at.ended u
      (value_later x t3 last (value e) g.at.running h.at.running h.at.ended gr v.evaluates.value.covers)
      (λ z m. ar k.Running z (h_j k.Running z m)) (λ z m. ar (k.Ended (finish.Left 0)) z (h_j (k.Ended (finish.Left 0)) z m))))
      more)
      bt

  -- ---- items

  pub codes_start : (cs : List Code) (t : Rows) (a : Course) → CodesLead x t t (map code cs) (map code (drop 0 cs)) a a
  codes_start cs t a = record { stays = stays_same a; extends_ = extends_same x.whole t; leads = λ last u g c. c }

  pub codes_more : {all : List (Item ℕ)} (cs : List Code) (i : ℕ) {y y' : Code} {t t' t'' : Rows} {a b c : Course} → i < length cs → y ≡ get_or cs i y → y' ≡ y → CodesLead x t t' all (map code (drop i cs)) a b → WalksCode x t' t'' (code y') b c
      → CodesLead x t t'' all (map code (drop (i + 1) cs)) a c
  codes_more {all} cs i {y} {y'} {t} {t'} {t''} {a} {b} {c} h e g l w =
      let r = part g w in
      let m : CodesLead x t t' all (code y ∷ map code (drop (i + 1) cs)) a b =
      subst (λ z. CodesLead x t t' all (map code z) a b) (drop_more cs i y h ∙ ap (λ z. z ∷ drop (i + 1) cs) (sym e)) l in
      record {
        stays = stays_then a b c m.stays r.stays;
        extends_ = extends_then x.whole t t' t'' m.extends_ r.code.extends_;
        leads = λ last u gr k'. m.leads last u (λ f d i e o. gr f d i e (r.code.extends_.grows f d i e o))
            (covers_followed x.whole x.turns (known_at last x.left) (code y) (in_turn (map code (drop (i + 1) cs))) b.at c.at u
            (code_later x t'' last (code y) b.at c.at c.at gr (λ kind v m. m) r.code.covers) k');
      }

  pub codes_end : {all : List (Item ℕ)} (cs : List Code) (i : ℕ) {t t' : Rows} {a b : Course} → length cs ≤ i → CodesLead x t t' all (map code (drop i cs)) a b → WalksCode x t t' (in_turn all) a b
  codes_end {all} cs i {t} {t'} {a} {b} h l =
      let m : CodesLead x t t' all [] a b = subst (λ z. CodesLead x t t' all (map code z) a b) (drop_all i cs h) l in
      record {
        stays = m.stays;
        code = record { extends_ = m.extends_; covers = m.leads t' b.at (λ f d i e o. o) (covers_nothing x.whole x.turns (known_at t' x.left) b.at b.at (λ kind y o. o)) };
      }
