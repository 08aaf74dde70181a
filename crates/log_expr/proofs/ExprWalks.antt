-- What each kind of expression is walked to.
use Rattle.std.proofs.Common.{◌≡◌, ◌||◌, ◌<◌, ◌≤◌, ◌+◌, ℕ, suc, ℤ, pos, Bool, true, false, List, [], ◌∷◌, ◌++◌, length, map, drop, get_or, refl, sym, ap, subst, ◌∙◌}
use Rattle.std.specs.Prelude.{unsigned_abs}
use Rattle.std.proofs.lemmas.List.{drop_more, drop_all}
use Rattle.c_means.specs.Values.{address, bytes_within}
use Rattle.c_means.specs.Expressions.{behind}
use Rattle.c_store.specs.Store.{start}
use Rattle.c_language.specs.Integers.{is_zero, number_of}
use Rattle.core_tree.specs.declared.expr.Callee.{Callee}
use Rattle.core_tree.specs.declared.expr.Expr.{Expr}
use Rattle.core_tree.specs.declared.expr.Expr.TheVariants as expr
use Rattle.core_tree.specs.declared.types.Access.{Access}
use Rattle.core_tree.specs.declared.types.Answered.{Answered}
use Rattle.core_tree.specs.declared.types.Operator.{Operator}
use Rattle.core_tree.specs.declared.types.Turning.{Turning}
use Rattle.core_tree.specs.declared.types.ValueType.{ValueType}
use Rattle.core_tree.specs.declared.types.WordType.{WordType}
use Rattle.core_tree.specs.Memory.{load}
use Rattle.core_tree.specs.Numbers.{size_of, converted_to, value_of_bytes, turned}
use Rattle.core_tree.specs.States.{or_stop}
use Rattle.core_tree.specs.Values.{Value, value, constant, local, both, either, choose}
use Rattle.core_tree.proofs.Equations as is
use Rattle.positions.specs.Sets.{has}
use Rattle.log_expr.specs.declared.table.Entry.{Entry}
use Rattle.log_expr.specs.declared.trail.Trail.{Trail}
use Rattle.log_expr.specs.Below.{Site, ReachesValue, WalksValue, WalksValues, WalksCallee}
use Rattle.log_expr.specs.Trails.{IsPut, Stops, Saves, Switches, Joins}
use Rattle.log_expr.proofs.Outcomes.{keeps_load, keeps_or_stop}
use Rattle.log_expr.proofs.ValueForms.{covers_constant, covers_local}
use Rattle.log_expr.specs.Tables.{known_at}
use Rattle.log_expr.proofs.ValueWalks as walks
use Rattle.log_expr.proofs.ValueWalks.{TrailLeads}

flipped : (old more now : List ℕ) → IsPut old more now → IsPut more old now
flipped old more now p y = p y ∙ by (has old y) (has more y)
  where
    by : (a b : Bool) → (a || b) ≡ (b || a)
    by true true = refl
    by true false = refl
    by false true = refl
    by false false = refl

abbrev Rows : Type 0
Rows = List (List Entry)

module _ {x : Site} where
  walked_as : {u v : Value ℕ} {t t' : Rows} {a b : Trail} → u ≡ v → WalksValue x t t' v a b → WalksValue x t t' u a b
  walked_as {u} {v} {t} {t'} {a} {b} e h = subst (λ z. WalksValue x t t' z a b) (sym e) h

  -- the part as it was handed out
  part : {y y' : Expr} {t t' : Rows} {a b : Trail} → y' ≡ y → WalksValue x t t' (value y') a b → WalksValue x t t' (value y) a b
  part {y} {y'} {t} {t'} {a} {b} e h = subst (λ z. WalksValue x t t' (value z) a b) e h

  stopped : {v : Value ℕ} {t t' : Rows} {a b c : Trail} → Stops b c → b.aside ≡ a.aside → ReachesValue x t t' v a.at b.at a.ended c.ended → WalksValue x t t' v a c
  stopped {v} {t} {t'} {a} {b} {c} s i r = record { aside = s.aside ∙ i; value = subst (λ l. ReachesValue x t t' v a.at l a.ended c.ended) (sym s.at) r }

  pub on_Constant : {e : Expr} {z : ℤ} {t : Rows} {a : Trail} → e ≡ expr.Constant z → WalksValue x t t (value e) a a
  on_Constant {e} {z} {t} {a} q = walked_as (ap value q ∙ is.worth-Constant z) (record { aside = refl; value = walks.reach_leaf x (constant z) t a.at a.at a.ended refl (covers_constant x.whole x.turns (known_at t x.left) z a.at a.ended) })

  pub on_Fixed : {e : Expr} {p : ℕ} {t : Rows} {a : Trail} → e ≡ expr.Fixed p → WalksValue x t t (value e) a a
  on_Fixed {e} {p} {t} {a} q = walked_as (ap value q ∙ is.worth-Fixed p) (record { aside = refl; value = walks.reach_leaf x (constant (pos (start p))) t a.at a.at a.ended refl (covers_constant x.whole x.turns (known_at t x.left) (pos (start p)) a.at a.ended) })

  pub on_Local : {e : Expr} {n : ℕ} {t : Rows} {a : Trail} → e ≡ expr.Local n → WalksValue x t t (value e) a a
  on_Local {e} {n} {t} {a} q = walked_as (ap value q ∙ is.worth-Local n) (record { aside = refl; value = walks.reach_leaf x (local n) t a.at a.at a.ended refl (covers_local x.whole x.turns (known_at t x.left) n a.at a.ended) })

  pub on_Target : {e y y' : Expr} {t t' : Rows} {a b : Trail} → e ≡ expr.Target y → y' ≡ y → WalksValue x t t' (value y') a b → WalksValue x t t' (value e) a b
  on_Target {e} {y} {y'} {t} {t'} {a} {b} q g h =
      let r = part g h in
      walked_as (ap value q ∙ is.worth-Target y) (record { aside = r.aside; value = walks.reach_plain x _ (λ z. pos (address z)) (value y) t t' a.at b.at a.ended b.ended r.value })

  pub on_Pointer : {e y y' : Expr} {t t' : Rows} {a b : Trail} → e ≡ expr.Pointer y → y' ≡ y → WalksValue x t t' (value y') a b → WalksValue x t t' (value e) a b
  on_Pointer {e} {y} {y'} {t} {t'} {a} {b} q g h =
      let r = part g h in
      walked_as (ap value q ∙ is.worth-Pointer y) (record { aside = r.aside; value = walks.reach_plain x _ (λ z. z) (value y) t t' a.at b.at a.ended b.ended r.value })

  pub on_Not : {e y y' : Expr} {t t' : Rows} {a b : Trail} → e ≡ expr.Not y → y' ≡ y → WalksValue x t t' (value y') a b → WalksValue x t t' (value e) a b
  on_Not {e} {y} {y'} {t} {t'} {a} {b} q g h =
      let r = part g h in
      walked_as (ap value q ∙ is.worth-Not y) (record { aside = r.aside; value = walks.reach_plain x _ (λ z. number_of (is_zero z)) (value y) t t' a.at b.at a.ended b.ended r.value })

  pub on_Offset : {e y y' : Expr} {n : ℕ} {t t' : Rows} {a b : Trail} → e ≡ expr.Offset n y → y' ≡ y → WalksValue x t t' (value y') a b → WalksValue x t t' (value e) a b
  on_Offset {e} {y} {y'} {n} {t} {t'} {a} {b} q g h =
      let r = part g h in
      walked_as (ap value q ∙ is.worth-Offset n y) (record { aside = r.aside; value = walks.reach_plain x _ (λ z. pos (behind n (unsigned_abs z))) (value y) t t' a.at b.at a.ended b.ended r.value })

  pub on_Extract : {e y y' : Expr} {n : ℕ} {m : ValueType} {t t' : Rows} {a b : Trail} → e ≡ expr.Extract n m y → y' ≡ y → WalksValue x t t' (value y') a b → WalksValue x t t' (value e) a b
  on_Extract {e} {y} {y'} {n} {m} {t} {t'} {a} {b} q g h =
      let r = part g h in
      walked_as (ap value q ∙ is.worth-Extract n m y) (record { aside = r.aside; value = walks.reach_plain x _ (λ z. value_of_bytes m (bytes_within n (size_of m) (unsigned_abs z))) (value y) t t' a.at b.at a.ended b.ended r.value })

  pub on_Convert : {e y y' : Expr} {to : ValueType} {t t' : Rows} {a b : Trail} → e ≡ expr.Convert to y → y' ≡ y → WalksValue x t t' (value y') a b → WalksValue x t t' (value e) a b
  on_Convert {e} {y} {y'} {to} {t} {t'} {a} {b} q g h =
      let r = part g h in
      walked_as (ap value q ∙ is.worth-Convert to y) (record { aside = r.aside; value = walks.reach_plain x _ (λ z. converted_to to z) (value y) t t' a.at b.at a.ended b.ended r.value })

  pub on_Cast : {e y y' : Expr} {to : ValueType} {t t' : Rows} {a b : Trail} → e ≡ expr.Cast to y → y' ≡ y → WalksValue x t t' (value y') a b → WalksValue x t t' (value e) a b
  on_Cast {e} {y} {y'} {to} {t} {t'} {a} {b} q g h =
      let r = part g h in
      walked_as (ap value q ∙ is.worth-Cast to y) (record { aside = r.aside; value = walks.reach_plain x _ (λ z. converted_to to z) (value y) t t' a.at b.at a.ended b.ended r.value })

  pub on_Load : {e y y' : Expr} {access : Access} {t t' : Rows} {a b c : Trail} → e ≡ expr.Load access y → y' ≡ y → WalksValue x t t' (value y') a b → Stops b c → WalksValue x t t' (value e) a c
  on_Load {e} {y} {y'} {access} {t} {t'} {a} {b} {c} q g h s =
      let r = part g h in
      walked_as (ap value q ∙ is.worth-Load access y) (stopped s r.aside (walks.reach_on x _ (λ z d. load access (unsigned_abs z) d) (value y) t t' a.at b.at a.ended b.ended c.ended (λ z d. keeps_load access (unsigned_abs z) d) r.value s.ended))

  pub on_Turn : {e y y' : Expr} {at : ℕ} {o : Turning} {word : WordType} {k : Bool} {t t' : Rows} {a b c : Trail} → e ≡ expr.Turn at o word k y → y' ≡ y → WalksValue x t t' (value y') a b → Stops b c → WalksValue x t t' (value e) a c
  on_Turn {e} {y} {y'} {at} {o} {word} {k} {t} {t'} {a} {b} {c} q g h s =
      let r = part g h in
      walked_as (ap value q ∙ is.worth-Turn at o word k y) (stopped s r.aside (walks.reach_on x _ (λ z d. or_stop at (turned o word z) d) (value y) t t' a.at b.at a.ended b.ended c.ended (λ z d. keeps_or_stop at (turned o word z) d) r.value s.ended))

  pub on_Step : {e y y' : Expr} {at : ℕ} {o : Operator} {access : Access} {answer : Answered} {t t' : Rows} {a b c : Trail} → e ≡ expr.Step at o access answer y → y' ≡ y → WalksValue x t t' (value y') a b → Stops b c → WalksValue x t t' (value e) a c
  on_Step {e} {y} {y'} {at} {o} {access} {answer} {t} {t'} {a} {b} {c} q g h s =
      let r = part g h in
      walked_as (ap value q ∙ is.worth-Step at o access answer y) (stopped s r.aside (walks.reach_step x at o access answer (value y) t t' a.at b.at a.ended b.ended c.ended r.value s.ended))

  pub on_Comma : {e y y' z z' : Expr} {t t' t'' : Rows} {a b c : Trail} → e ≡ expr.Comma y z → y' ≡ y → z' ≡ z → WalksValue x t t' (value y') a b → WalksValue x t' t'' (value z') b c → WalksValue x t t'' (value e) a c
  on_Comma {e} {y} {y'} {z} {z'} {t} {t'} {t''} {a} {b} {c} q g i h j =
      let r = part g h in
      let s = part i j in
      walked_as (ap value q ∙ is.worth-Comma y z) (record { aside = s.aside ∙ r.aside; value = walks.reach_comma x (value y) (value z) t t' t'' a.at b.at c.at a.ended b.ended c.ended r.value s.value })

  pub on_Operate : {e y y' z z' : Expr} {at : ℕ} {o : Operator} {k : Bool} {t t' t'' : Rows} {a b c d : Trail} → e ≡ expr.Operate at o k y z → y' ≡ y → z' ≡ z → WalksValue x t t' (value y') a b → WalksValue x t' t'' (value z') b c → Stops c d
      → WalksValue x t t'' (value e) a d
  on_Operate {e} {y} {y'} {z} {z'} {at} {o} {k} {t} {t'} {t''} {a} {b} {c} {d} q g i h j s =
      let r = part g h in
      let u = part i j in
      walked_as (ap value q ∙ is.worth-Operate at o k y z) (stopped s (u.aside ∙ r.aside) (walks.reach_operate x (value y) (value z) t t' t'' a.at b.at c.at a.ended b.ended c.ended r.value u.value d.ended s.ended at o))

  pub on_Store : {e y y' z z' : Expr} {at : ℕ} {access : Access} {t t' t'' : Rows} {a b c d : Trail} → e ≡ expr.Store at access y z → y' ≡ y → z' ≡ z → WalksValue x t t' (value y') a b → WalksValue x t' t'' (value z') b c → Stops c d
      → WalksValue x t t'' (value e) a d
  on_Store {e} {y} {y'} {z} {z'} {at} {access} {t} {t'} {t''} {a} {b} {c} {d} q g i h j s =
      let r = part g h in
      let u = part i j in
      walked_as (ap value q ∙ is.worth-Store at access y z) (stopped s (u.aside ∙ r.aside) (walks.reach_store x (value y) (value z) t t' t'' a.at b.at c.at a.ended b.ended c.ended r.value u.value d.ended s.ended at access))

  pub on_Update : {e y y' z z' : Expr} {at : ℕ} {o : Operator} {access : Access} {t t' t'' : Rows} {a b c d f : Trail} → e ≡ expr.Update at o access y z → y' ≡ y → z' ≡ z → WalksValue x t t' (value y') a b → Stops b c
      → WalksValue x t' t'' (value z') c d → Stops d f → WalksValue x t t'' (value e) a f
  on_Update {e} {y} {y'} {z} {z'} {at} {o} {access} {t} {t'} {t''} {a} {b} {c} {d} {f} q g i h p j s =
      let r = part g h in
      let u = part i j in
      walked_as (ap value q ∙ is.worth-Update at o access y z)
      (stopped s (u.aside ∙ p.aside ∙ r.aside)
      (walks.reach_update x at o access (value y) (value z) t t' t'' a.at b.at d.at a.ended b.ended c.ended d.ended f.ended r.value p.ended
      (subst (λ l. ReachesValue x t' t'' (value z) l d.at c.ended d.ended) p.at u.value) s.ended))

  -- what was set aside behind a part is what is joined
  module _ {u v : Value ℕ} {t t' t'' : Rows} {a b c d f : Trail} (r : WalksValue x t t' u a b) (s : Saves b c) (h : WalksValue x t' t'' v c d) (j : Joins d f) where
    set_aside : d.aside ≡ b.aside ++ b.at ∷ []
    set_aside = h.aside ∙ s.aside

    second : ReachesValue x t' t'' v b.at d.at b.ended d.ended
    second = subst (λ l. ReachesValue x t' t'' v l d.at b.ended d.ended) s.at (subst (λ l. ReachesValue x t' t'' v c.at d.at l d.ended) s.ended h.value)

    joined_put : IsPut b.at d.at f.at
    joined_put = flipped d.at b.at f.at (j.joined b.aside b.at set_aside).0

    joined_aside : f.aside ≡ a.aside
    joined_aside = (j.joined b.aside b.at set_aside).1 ∙ r.aside

  pub on_And : {e y y' z z' : Expr} {at : ℕ} {t t' t'' : Rows} {a b c d f : Trail} → e ≡ expr.And at y z → y' ≡ y → z' ≡ z → WalksValue x t t' (value y') a b → Saves b c → WalksValue x t' t'' (value z') c d → Joins d f
      → WalksValue x t t'' (value e) a f
  on_And {e} {y} {y'} {z} {z'} {at} {t} {t'} {t''} {a} {b} {c} {d} {f} q g i h s k j =
      let r = part g h in
      let u = part i k in
      walked_as (ap value q ∙ is.worth-And at y z) (record {
        aside = joined_aside r s u j;
        value = subst (λ l. ReachesValue x t t'' (both at (value y) (value z)) a.at f.at a.ended l) (sym j.ended)
            (walks.reach_both x (value y) (value z) t t' t'' a.at b.at d.at a.ended b.ended d.ended r.value (second r s u j) f.at (joined_put r s u j) at);
      })

  pub on_Or : {e y y' z z' : Expr} {at : ℕ} {t t' t'' : Rows} {a b c d f : Trail} → e ≡ expr.Or at y z → y' ≡ y → z' ≡ z → WalksValue x t t' (value y') a b → Saves b c → WalksValue x t' t'' (value z') c d → Joins d f
      → WalksValue x t t'' (value e) a f
  on_Or {e} {y} {y'} {z} {z'} {at} {t} {t'} {t''} {a} {b} {c} {d} {f} q g i h s k j =
      let r = part g h in
      let u = part i k in
      walked_as (ap value q ∙ is.worth-Or at y z) (record {
        aside = joined_aside r s u j;
        value = subst (λ l. ReachesValue x t t'' (either at (value y) (value z)) a.at f.at a.ended l) (sym j.ended)
            (walks.reach_either x (value y) (value z) t t' t'' a.at b.at d.at a.ended b.ended d.ended r.value (second r s u j) f.at (joined_put r s u j) at);
      })

  pub on_Choose : {e k k' y y' z z' : Expr} {at : ℕ} {t t1 t2 t3 : Rows} {a b c d f g h : Trail} → e ≡ expr.Choose at k y z → k' ≡ k → y' ≡ y → z' ≡ z → WalksValue x t t1 (value k') a b → Saves b c
      → WalksValue x t1 t2 (value y') c d → Switches d f → WalksValue x t2 t3 (value z') f g → Joins g h → WalksValue x t t3 (value e) a h
  on_Choose {e} {k} {k'} {y} {y'} {z} {z'} {at} {t} {t1} {t2} {t3} {a} {b} {c} {d} {f} {g} {h} q i j l ck s cy w cz n =
      let r = part i ck in
      let u = part j cy in
      let v = part l cz in
      let turned = w.turned b.aside b.at (u.aside ∙ s.aside) in
      let joined = n.joined b.aside d.at (v.aside ∙ turned.1) in
      walked_as (ap value q ∙ is.worth-Choose at k y z) (record {
        aside = joined.1 ∙ r.aside;
        value = subst (λ m. ReachesValue x t t3 (choose at (value k) (value y) (value z)) a.at h.at a.ended m) (sym n.ended)
            (walks.reach_choose x at (value k) (value y) (value z) t t1 t2 t3 a.at b.at d.at g.at h.at a.ended b.ended d.ended g.ended r.value
            (subst (λ m. ReachesValue x t1 t2 (value y) m d.at b.ended d.ended) s.at (subst (λ m. ReachesValue x t1 t2 (value y) c.at d.at m d.ended) s.ended u.value))
            (subst (λ m. ReachesValue x t2 t3 (value z) m g.at d.ended g.ended) turned.0 (subst (λ m. ReachesValue x t2 t3 (value z) f.at g.at m g.ended) w.ended v.value))
            (flipped g.at d.at h.at joined.0));
      })

  pub on_Call : {e : Expr} {at : ℕ} {ys ys' : List Expr} {callee : Callee} {type : ValueType} {used : Bool} {count : ℕ} {t t' t'' : Rows} {a b c d : Trail} → e ≡ expr.Call at ys callee type used → ys' ≡ ys → count ≡ length ys
      → WalksValues x t t' (map value ys') a b → WalksCallee x t' t'' callee count b c → Stops c d → WalksValue x t t'' (value e) a d
  on_Call {e} {at} {ys} {ys'} {callee} {type} {used} {count} {t} {t'} {t''} {a} {b} {c} {d} q g n h k s =
      let r : WalksValues x t t' (map value ys) a b = subst (λ l. WalksValues x t t' (map value l) a b) g h in
      walked_as (ap value q ∙ is.worth-Call at ys callee type used)
      (stopped s (k.aside ∙ r.aside) (walks.reach_call x at (map value ys) callee type used count t t' t'' a.at b.at c.at a.ended b.ended c.ended d.ended (n ∙ sym (map_length ys)) r.values k.callee s.ended))
    where
      map_length : (es : List Expr) → length (map (value {O = ℕ}) es) ≡ length es
      map_length [] = refl
      map_length (z ∷ zs) = ap suc (map_length zs)

  -- ---- arguments

  pub leads_start : (es : List Expr) (t : Rows) (a : Trail) → TrailLeads x t t (map value es) (map value (drop 0 es)) a a
  leads_start es t a = record { aside = refl; lead = walks.lead_start x t (map value es) a.at a.at a.ended refl }

  pub leads_more : {all : List (Value ℕ)} (es : List Expr) (i : ℕ) {y y' : Expr} {t t' t'' : Rows} {a b c : Trail} → i < length es → y ≡ get_or es i y → y' ≡ y → TrailLeads x t t' all (map value (drop i es)) a b → WalksValue x t' t'' (value y') b c
      → TrailLeads x t t'' all (map value (drop (i + 1) es)) a c
  leads_more {all} es i {y} {y'} {t} {t'} {t''} {a} {b} {c} h e g l w =
      let r = part g w in
      let m : TrailLeads x t t' all (value y ∷ map value (drop (i + 1) es)) a b =
      subst (λ z. TrailLeads x t t' all (map value z) a b) (drop_more es i y h ∙ ap (λ z. z ∷ drop (i + 1) es) (sym e)) l in
      record { aside = r.aside ∙ l.aside; lead = walks.lead_more x t t' t'' all (value y) (map value (drop (i + 1) es)) a.at b.at c.at a.ended b.ended c.ended m.lead r.value }

  pub leads_end : {all : List (Value ℕ)} (es : List Expr) (i : ℕ) {t t' : Rows} {a b : Trail} → length es ≤ i → TrailLeads x t t' all (map value (drop i es)) a b → WalksValues x t t' all a b
  leads_end {all} es i {t} {t'} {a} {b} h l =
      let m : TrailLeads x t t' all [] a b = subst (λ z. TrailLeads x t t' all (map value z) a b) (drop_all i es h) l in
      record { aside = l.aside; values = walks.lead_end x t t' all a.at b.at a.ended b.ended m.lead }
