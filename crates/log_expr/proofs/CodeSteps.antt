-- Steps of a walk of code, in order.
use Rattle.std.proofs.Common.{◌≡◌, ◌+◌, ◌<◌, ◌≤◌, ℕ, zero, suc, ℤ, Bool, true, false, List, [], ◌∷◌, ◌++◌, length, take, drop, get_or, Option, Some, None, refl, sym, ap, subst, ◌∙◌, arith}
use Rattle.std.specs.Prelude.{option_map}
use Rattle.std.proofs.lemmas.List.{drop_more, drop_all}
use Rattle.plain_data.specs.declared.run.Finish.TheVariants as finish
use Rattle.c_means.specs.declared.kind.Kind.TheVariants as k
use Rattle.c_means.specs.Parts.{Env}
use Rattle.c_means.specs.Initials.{text_byte}
use Rattle.c_store.specs.Store.{lay}
use Rattle.core_tree.specs.declared.code.Setting.{Setting}
use Rattle.core_tree.specs.declared.code.Setting.TheVariants as setting
use Rattle.core_tree.specs.declared.expr.Expr.{Expr}
use Rattle.core_tree.specs.declared.types.ValueType.{ValueType}
use Rattle.core_tree.specs.Codes.{Item, nothing, sets, sets_all, setting_needs, evaluated, maybe_evaluated, return_of}
use Rattle.core_tree.specs.Memory.{stored}
use Rattle.core_tree.specs.States.{Done, Acts, Arrow, onward, running, with_value, with_store}
use Rattle.core_tree.specs.Values.{Value, value}
use Rattle.positions.specs.Sets.{has}
use Rattle.log_expr.specs.declared.course.Aside.{Aside}
use Rattle.log_expr.specs.declared.course.Course.{Course}
use Rattle.log_expr.specs.declared.flow.Flow.{Flow}
use Rattle.log_expr.specs.declared.table.Entry.{Entry}
use Rattle.log_expr.specs.Below.{Site, Extends, ReachesValue, ReachesCode}
use Rattle.log_expr.specs.CodeWalks.{CoversActs, CoversTest, Evaluates, WalksAction, WalksTest, WalksStep, WalksSetting, WalksSettings, WalksCode, setting_acts}
use Rattle.log_expr.specs.Courses.{only_running, only_choosing, but_running, jumps, SetAsideStays, IsPassedMore, Enters, Leaves, Passes}
use Rattle.log_expr.specs.Covers.{Whole, Pair, one, two, FlowAlike, CoversValue, CoversCode}
use Rattle.log_expr.specs.Flows.{Wider, place, Holds, Arrives, unchanged}
use Rattle.log_expr.specs.Tables.{Known, known_at, Grows}
use Rattle.log_expr.proofs.CodeForms.{code_wider, code_narrower, covers_nothing, covers_evaluated, covers_jump, covers_return, covers_with, holds_same}
use Rattle.log_expr.proofs.FlowWays.{arrives_then, flow_here, through, holds_as, where_it_runs, only_held, with_found}
use Rattle.log_expr.proofs.Growing.{extends_then, extends_same, value_grown, code_grown, test_grown}
use Rattle.log_expr.proofs.Turns.{test_none, test_some, ended_wider}

abbrev Rows : Type 0
Rows = List (List Entry)

-- ---- flows

pub but_wider : (u : Flow) → Arrives unchanged (but_running u) u
but_wider u k.Running y m = absurd cc
but_wider u k.Breaking y m = m
but_wider u k.Continuing y m = m
but_wider u k.Returning y m = m
but_wider u (k.Going l) y m = m
but_wider u (k.Choosing z) y m = m
but_wider u k.Defaulting y m = m
but_wider u (k.Ended f) y m = m

pub only_in : (xs : List ℕ) (u : Flow) → Wider xs u.running → Arrives unchanged (only_running xs) u
only_in xs u x k.Running y m = x y m
only_in xs u x k.Breaking y m = absurd cc
only_in xs u x k.Continuing y m = absurd cc
only_in xs u x k.Returning y m = absurd cc
only_in xs u x (k.Going l) y m = absurd cc
only_in xs u x (k.Choosing z) y m = absurd cc
only_in xs u x k.Defaulting y m = absurd cc
only_in xs u x (k.Ended f) y m = absurd cc

pub choosing_in : (xs : List ℕ) (u : Flow) → Wider xs u.choosing → Arrives unchanged (only_choosing xs) u
choosing_in xs u x k.Running y m = absurd cc
choosing_in xs u x k.Breaking y m = absurd cc
choosing_in xs u x k.Continuing y m = absurd cc
choosing_in xs u x k.Returning y m = absurd cc
choosing_in xs u x (k.Going l) y m = absurd cc
choosing_in xs u x (k.Choosing z) y m = x y m
choosing_in xs u x k.Defaulting y m = x y m
choosing_in xs u x (k.Ended f) y m = absurd cc

kept_passes : (s : Flow) (xs ys : List ℕ) → Wider s.ended ys → Arrives unchanged (but_running s) (but_running (record s { running = xs; ended = ys }))
kept_passes s xs ys x k.Running y m = m
kept_passes s xs ys x k.Breaking y m = m
kept_passes s xs ys x k.Continuing y m = m
kept_passes s xs ys x k.Returning y m = m
kept_passes s xs ys x (k.Going l) y m = m
kept_passes s xs ys x (k.Choosing z) y m = m
kept_passes s xs ys x k.Defaulting y m = m
kept_passes s xs ys x (k.Ended f) y m = x y m

but_jumped : (s u : Flow) → Arrives (jumps k.Returning) s u → Arrives unchanged (but_running s) u
but_jumped s u g k.Running y m = absurd cc
but_jumped s u g k.Breaking y m = g k.Breaking y m
but_jumped s u g k.Continuing y m = g k.Continuing y m
but_jumped s u g k.Returning y m = g k.Returning y m
but_jumped s u g (k.Going l) y m = g (k.Going l) y m
but_jumped s u g (k.Choosing z) y m = g (k.Choosing z) y m
but_jumped s u g k.Defaulting y m = g k.Defaulting y m
but_jumped s u g (k.Ended f) y m = g (k.Ended f) y m

next_in : (r : Flow) → Arrives unchanged (record (only_running r.running) { ended = r.ended }) r
next_in r k.Running y m = m
next_in r k.Breaking y m = absurd cc
next_in r k.Continuing y m = absurd cc
next_in r k.Returning y m = absurd cc
next_in r (k.Going l) y m = absurd cc
next_in r (k.Choosing z) y m = absurd cc
next_in r k.Defaulting y m = absurd cc
next_in r (k.Ended f) y m = m

-- ---- what was set aside

pub stays_then : (a b c : Course) → SetAsideStays a b → SetAsideStays b c → SetAsideStays a c
stays_then a b c x y = record { passing = y.passing ∙ x.passing; starts = y.starts ∙ x.starts; outer = y.outer ∙ x.outer }

pub stays_same : (a : Course) → SetAsideStays a a
stays_same a = record { passing = refl; starts = refl; outer = refl }

-- behind a part that was entered
pub restored : (a b c d : Course) → Enters a b → c.outer ≡ b.outer → Leaves c d → SetAsideStays a d
restored a b c d e o l =
    let r = l.restored a.outer (record { passing = a.passing; starts = a.starts }) (o ∙ e.outer) in
    record { passing = r.0; starts = r.1; outer = r.2 }

module _ (x : Site) where
  pub value_later : (t t' : Rows) (v : Value ℕ) (from to ended : List ℕ) → Grows t t' → CoversValue x.whole x.turns (known_at t x.left) v from to ended → CoversValue x.whole x.turns (known_at t' x.left) v from to ended
  value_later t t' v from to ended g c = value_grown x.whole x.turns x.left t t' g v from to ended c

  -- in a table that has grown, into more
  pub code_later : (t t' : Rows) (i : Item ℕ) (s u v : Flow) → Grows t t' → Arrives unchanged u v → CoversCode x.whole x.turns (known_at t x.left) i s u → CoversCode x.whole x.turns (known_at t' x.left) i s v
  code_later t t' i s u v g a c = code_wider x.whole x.turns (known_at t' x.left) i s u v a (code_grown x.whole x.turns x.left t t' g i s u c)

  pub test_later : (t t' : Rows) (c : Option (Value ℕ)) (from to : List ℕ) (u : Flow) → Grows t t' → CoversTest x.whole x.turns (known_at t x.left) c from to u → CoversTest x.whole x.turns (known_at t' x.left) c from to u
  test_later t t' c from to u g h = test_grown x.whole x.turns x.left t t' g c from to u h

module _ {x : Site} where
  -- ---- expressions of runs that are running

  pub evaluated_kept : (t t' : Rows) (v : Value ℕ) (s u : Flow) → Evaluates x t t' v s u → Arrives unchanged (but_running s) (but_running u)
  evaluated_kept t t' v s u e = subst (λ z. Arrives unchanged (but_running s) (but_running z)) (sym e.rest) (kept_passes s u.running u.ended e.value.wider)

  pub evaluated_passes : (t t' : Rows) (v : Value ℕ) (s u : Flow) → Evaluates x t t' v s u → Arrives unchanged (but_running s) u
  evaluated_passes t t' v s u e = arrives_then (but_running s) (but_running u) u (evaluated_kept t t' v s u e) (but_wider u)

  pub evaluated_code : (t t' : Rows) (is_node : Bool) (v : Value ℕ) (s u : Flow) → Evaluates x t t' v s u → ReachesCode x t t' (evaluated is_node v) s u
  evaluated_code t t' is_node v s u e = record {
    extends_ = e.value.extends_;
    covers = covers_evaluated x.whole x.turns (known_at t' x.left) is_node v s u u.running u.ended e.value.covers (λ y m. m) (λ y m. m) (evaluated_passes t t' v s u e);
  }

  pub tested_some : {t t' : Rows} {v v' : Value ℕ} {a b c : Course} → v' ≡ v → WalksAction x t t' v' a b → Passes b c → WalksTest x t t' (Some v) a c
  tested_some {t} {t'} {v} {v'} {a} {b} {c} q w p =
      let r : WalksAction x t t' v a b = subst (λ z. WalksAction x t t' z a b) q w in
      let same : c.at ≡ b.at = p.at in
      record {
        rest = record {
          passing = λ kind y m. p.rest.passing kind y (subst (λ f. has (place f kind) y ≡ true) (sym r.stays.passing) m);
          starts = p.rest.starts ∙ r.stays.starts;
          outer = p.rest.outer ∙ r.stays.outer;
        };
        extends_ = r.evaluates.value.extends_;
        covers = subst (λ f. CoversTest x.whole x.turns (known_at t' x.left) (Some v) a.at.running f.running c.passing) (sym same)
            (test_some x.whole x.turns (known_at t' x.left) v a.at.running b.at.running b.at.ended c.passing r.evaluates.value.covers (p.walked k.Running) (ended_wider b.at c.passing p.walked));
        kept = subst (λ f. f ≡ record a.at { running = f.running; ended = f.ended }) (sym same) r.evaluates.rest;
      }

  pub tested_none : {t : Rows} {a : Course} → WalksTest x t t None a a
  tested_none {t} {a} = record {
    rest = record { passing = λ kind y m. m; starts = refl; outer = refl };
    extends_ = extends_same x.whole t;
    covers = test_none x.whole x.turns (known_at t x.left) a.at.running a.at.running a.passing (λ y m. m);
    kept = refl;
  }

  pub stepped_some : {t t' : Rows} {v v' : Value ℕ} {a b : Course} → v' ≡ v → WalksAction x t t' v' a b → WalksStep x t t' (Some v) a b
  stepped_some {t} {t'} {v} {v'} {a} {b} q w =
      let r : WalksAction x t t' v a b = subst (λ z. WalksAction x t t' z a b) q w in
      record { stays = r.stays; kept = r.evaluates.rest; step = evaluated_code t t' false v a.at b.at r.evaluates }

  pub stepped_none : {t : Rows} {a : Course} → WalksStep x t t None a a
  stepped_none {t} {a} = record {
    stays = stays_same a;
    kept = refl;
    step = record { extends_ = extends_same x.whole t; covers = covers_nothing x.whole x.turns (known_at t x.left) a.at a.at (λ kind y m. m) };
  }

  -- ---- options

  pub test_in_some : {o : Option Expr} {y y' : Expr} {t t' : Rows} {a b c : Course} → o ≡ Some y → y' ≡ y → WalksAction x t t' (value y') a b → Passes b c → WalksTest x t t' (option_map value o) a c
  test_in_some {o} {y} {y'} {t} {t'} {a} {b} {c} q e w p = subst (λ z. WalksTest x t t' (option_map value z) a c) (sym q) (tested_some (ap value e) w p)

  pub test_in_none : {o : Option Expr} {t : Rows} {a : Course} → o ≡ None → WalksTest x t t (option_map value o) a a
  test_in_none {o} {t} {a} q = subst (λ z. WalksTest x t t (option_map value z) a a) (sym q) tested_none

  pub step_in_some : {o : Option Expr} {y y' : Expr} {t t' : Rows} {a b : Course} → o ≡ Some y → y' ≡ y → WalksAction x t t' (value y') a b → WalksStep x t t' (option_map value o) a b
  step_in_some {o} {y} {y'} {t} {t'} {a} {b} q e w = subst (λ z. WalksStep x t t' (option_map value z) a b) (sym q) (stepped_some (ap value e) w)

  pub step_in_none : {o : Option Expr} {t : Rows} {a : Course} → o ≡ None → WalksStep x t t (option_map value o) a a
  step_in_none {o} {t} {a} q = subst (λ z. WalksStep x t t (option_map value z) a a) (sym q) stepped_none

  -- ---- `return`

  pub returned_none : {t : Rows} {a : Course} {u : Flow} → Arrives (jumps k.Returning) a.at u → WalksCode x t t (return_of None) a (record a { at = u })
  returned_none {t} {a} {u} g = record {
    stays = record { passing = refl; starts = refl; outer = refl };
    code = record { extends_ = extends_same x.whole t; covers = covers_jump x.whole x.turns (known_at t x.left) k.Returning a.at u g };
  }

  pub returned_some : {t t' : Rows} {v v' : Value ℕ} {a b : Course} {u : Flow} → v' ≡ v → WalksAction x t t' v' a b → Arrives (jumps k.Returning) b.at u → WalksCode x t t' (return_of (Some v)) a (record b { at = u })
  returned_some {t} {t'} {v} {v'} {a} {b} {u} q w g =
      let r : WalksAction x t t' v a b = subst (λ z. WalksAction x t t' z a b) q w in
      record {
        stays = record { passing = r.stays.passing; starts = r.stays.starts; outer = r.stays.outer };
        code = record {
          extends_ = r.evaluates.value.extends_;
          covers = covers_return x.whole x.turns (known_at t' x.left) v a.at u b.at.running b.at.ended r.evaluates.value.covers (g k.Running) (g (k.Ended (finish.Left 0)))
              (arrives_then (but_running a.at) (but_running b.at) u (evaluated_kept t t' v a.at b.at r.evaluates) (but_jumped b.at u g));
        };
      }

-- ---- declarations

module _ (x : Site) where
  set_none : (t : Rows) (a : ℕ) (s u : Flow) → Arrives unchanged s u → CoversActs x.whole x.turns (known_at t x.left) (setting_acts [] a) s u
  set_none t a s u g = record {
    alike = λ p env base d h. where_it_runs s u (λ d. Some d) (λ d. Some d) d h (arrives_then (but_running s) s u (but_wider s) g)
        (λ e m. flow_here u d (g d.kind d.out h));
  }

  set_text : (t : Rows) (offset size : ℕ) (bytes : List ℕ) (rest : List Setting) (a : ℕ) (s u : Flow) → Arrives unchanged (but_running s) u
      → CoversActs x.whole x.turns (known_at t x.left) (setting_acts rest a) s u → CoversActs x.whole x.turns (known_at t x.left) (setting_acts (setting.Text offset size bytes ∷ rest) a) s u
  set_text t offset size bytes rest a s u g c = record {
    alike = λ p env base d h.
        let l = one x.whole x.turns p in
        let l' = two x.whole x.turns p in
        let n : ℕ = base + (setting_needs ℕ (setting.Text offset size bytes)).room l.measures in
        where_it_runs s u (sets_all (setting.Text offset size bytes ∷ rest) a l env base) (sets_all (setting.Text offset size bytes ∷ rest) a l' env base) d h g
        (λ e m. c.alike p env n (with_store (lay (a + offset) size (text_byte bytes) d.store) d) (holds_as s (with_store (lay (a + offset) size (text_byte bytes) d.store) d) k.Running e m));
  }

  set_value : (t : Rows) (offset : ℕ) (type : ValueType) (e : Expr) (rest : List Setting) (a : ℕ) (s r u : Flow) → CoversValue x.whole x.turns (known_at t x.left) (value e) s.running r.running r.ended
      → Arrives unchanged (but_running s) u → CoversActs x.whole x.turns (known_at t x.left) (setting_acts rest a) r u
      → CoversActs x.whole x.turns (known_at t x.left) (setting_acts (setting.Value offset type e ∷ rest) a) s u
  set_value t offset type e rest a s r u v g c = record {
    alike = λ p env base d h.
        let l = one x.whole x.turns p in
        let l' = two x.whole x.turns p in
        let n : ℕ = base + (setting_needs ℕ (setting.Value offset type e)).room l.measures in
        let next : Flow = record (only_running r.running) { ended = r.ended } in
        where_it_runs s u (sets_all (setting.Value offset type e ∷ rest) a l env base) (sets_all (setting.Value offset type e ∷ rest) a l' env base) d h g
        (λ q m. through next u (sets (setting.Value offset type e) a l env base d) (sets (setting.Value offset type e) a l' env base d)
        (running (sets_all rest a l env n)) (running (sets_all rest a l' env n))
        (with_found r.running r.ended next _ _ (λ z d. Some (stored type (a + offset) z d)) (λ z d. Some (stored type (a + offset) z d)) (v.alike p env base d q m) (λ y o. o)
        (λ z d f o. flow_here next (stored type (a + offset) z d) (holds_as next (stored type (a + offset) z d) k.Running f o)))
        (λ i o. c.alike p env n i (next_in r i.kind i.out o)));
  }

-- what is left of what a declaration sets leads on, whatever it leads to
pub record SettingsLead (x : Site) (t t' : Rows) (all rest : List Setting) (a b : Course) : Type 0 where
  pub stays : SetAsideStays a b
  pub extends_ : Extends x.whole t t'
  pub kept : Arrives unchanged (but_running a.at) (but_running b.at)
  pub leads : (last : Rows) (u : Flow) (n : ℕ) → Grows t' last → Arrives unchanged (but_running b.at) u
      → CoversActs x.whole x.turns (known_at last x.left) (setting_acts rest n) b.at u → CoversActs x.whole x.turns (known_at last x.left) (setting_acts all n) a.at u

module _ {x : Site} where
  pub return_in_some : {o : Option Expr} {y y' : Expr} {t t' : Rows} {a b : Course} {u : Flow} → o ≡ Some y → y' ≡ y → WalksAction x t t' (value y') a b → Arrives (jumps k.Returning) b.at u
      → WalksCode x t t' (return_of (option_map value o)) a (record b { at = u })
  return_in_some {o} {y} {y'} {t} {t'} {a} {b} {u} q e w g = subst (λ z. WalksCode x t t' (return_of (option_map value z)) a (record b { at = u })) (sym q) (returned_some (ap value e) w g)

  pub return_in_none : {o : Option Expr} {t : Rows} {a : Course} {u : Flow} → o ≡ None → Arrives (jumps k.Returning) a.at u → WalksCode x t t (return_of (option_map value o)) a (record a { at = u })
  return_in_none {o} {t} {a} {u} q g = subst (λ z. WalksCode x t t (return_of (option_map value z)) a (record a { at = u })) (sym q) (returned_none g)

  pub setting_value : {t t' : Rows} {s : Setting} {offset : ℕ} {type : ValueType} {e e' : Expr} {a b : Course} → s ≡ setting.Value offset type e → e' ≡ e → WalksAction x t t' (value e') a b → WalksSetting x t t' s a b
  setting_value {t} {t'} {s} {offset} {type} {e} {e'} {a} {b} q i w =
      let r : WalksAction x t t' (value e) a b = subst (λ z. WalksAction x t t' (value z) a b) i w in
      subst (λ z. WalksSetting x t t' z a b) (sym q) (record {
        stays = r.stays;
        extends_ = r.evaluates.value.extends_;
        kept = evaluated_kept t t' (value e) a.at b.at r.evaluates;
        leads = λ rest last u n g x' c. set_value x last offset type e rest n a.at b.at u
            (value_later x t' last (value e) a.at.running b.at.running b.at.ended g r.evaluates.value.covers)
            (arrives_then (but_running a.at) (but_running b.at) u (evaluated_kept t t' (value e) a.at b.at r.evaluates) x') c;
      })

  pub setting_text : {t : Rows} {s : Setting} {offset size : ℕ} {bytes : List ℕ} {a : Course} → s ≡ setting.Text offset size bytes → WalksSetting x t t s a a
  setting_text {t} {s} {offset} {size} {bytes} {a} q = subst (λ z. WalksSetting x t t z a a) (sym q) (record {
    stays = stays_same a;
    extends_ = extends_same x.whole t;
    kept = λ kind y m. m;
    leads = λ rest last u n g x' c. set_text x last offset size bytes rest n a.at u x' c;
  })

  pub settings_start : (xs : List Setting) (t : Rows) (a : Course) → SettingsLead x t t xs (drop 0 xs) a a
  settings_start xs t a = record { stays = stays_same a; extends_ = extends_same x.whole t; kept = λ kind y m. m; leads = λ last u n g y c. c }

  pub settings_more : (xs : List Setting) (i : ℕ) {s : Setting} {t t' t'' : Rows} {a b c : Course} → i < length xs → s ≡ get_or xs i s → SettingsLead x t t' xs (drop i xs) a b → WalksSetting x t' t'' s b c
      → SettingsLead x t t'' xs (drop (i + 1) xs) a c
  settings_more xs i {s} {t} {t'} {t''} {a} {b} {c} h e l w =
      let m : SettingsLead x t t' xs (s ∷ drop (i + 1) xs) a b = subst (λ z. SettingsLead x t t' xs z a b) (drop_more xs i s h ∙ ap (λ z. z ∷ drop (i + 1) xs) (sym e)) l in
      record {
        stays = stays_then a b c m.stays w.stays;
        extends_ = extends_then x.whole t t' t'' m.extends_ w.extends_;
        kept = arrives_then (but_running a.at) (but_running b.at) (but_running c.at) m.kept w.kept;
        leads = λ last u n g y k. m.leads last u n (λ f d i e o. g f d i e (w.extends_.grows f d i e o)) (arrives_then (but_running b.at) (but_running c.at) u w.kept y)
            (w.leads (drop (i + 1) xs) last u n g y k);
      }

  pub settings_end : (xs : List Setting) (i : ℕ) {t t' : Rows} {a b : Course} → length xs ≤ i → SettingsLead x t t' xs (drop i xs) a b → WalksSettings x t t' xs a b
  settings_end xs i {t} {t'} {a} {b} h l =
      let m : SettingsLead x t t' xs [] a b = subst (λ z. SettingsLead x t t' xs z a b) (drop_all i xs h) l in
      record {
        stays = m.stays;
        extends_ = m.extends_;
        covers = λ n. m.leads t' b.at n (λ f d i e o. o) (but_wider b.at) (set_none x t' n b.at b.at (λ kind y o. o));
      }
