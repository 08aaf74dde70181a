-- What breaks a rule has a core too: its operands are evaluated, and it is worth 0.
use Rattle.std.proofs.Common.{◌≡◌, ℕ, suc, ◌+◌, ℤ, pos, false, Option, Some, None, Ok, Err, refl, sym, ap, ap₂, ◌∙◌}
use Rattle.c_language.specs.declared.expr.BinaryOperator.{BinaryOperator}
use Rattle.c_language.specs.declared.expr.BinaryOperator.TheVariants as binary
use Rattle.c_language.specs.declared.expr.UnaryOperator.{UnaryOperator}
use Rattle.c_means.specs.Parts.{State, Env, Part}
use Rattle.c_means.specs.Parts as c
use Rattle.c_means.specs.Operators.{value_type, kind_in}
use Rattle.c_means.specs.Values.{address}
use Rattle.c_means.specs.Operators as operators
use Rattle.c_means.specs.Expressions as forms
use Rattle.core_tree.specs.declared.expr.Expr.{Expr}
use Rattle.core_tree.specs.declared.expr.Expr.TheVariants as expr
use Rattle.core_tree.specs.declared.types.ValueType.TheVariants as v
use Rattle.core_tree.specs.States.{Output, Level, ◌>>=◌, found}
use Rattle.core_tree.specs.Values.{value}
use Rattle.core_tree.proofs.Equations as eq
use Rattle.elaborate.specs.Means.{Numbering}
use Rattle.elaborate.specs.Means.{as_done, as_found, as_value, Like, Does, IsValueOf, IsAddressOf, HasNoAddress}
use Rattle.elaborate.proofs.States.{then_same}
use Rattle.elaborate.proofs.Values.{as_value_then, by_worth, rerun, node_does, between_does}

module _ (numbering : Numbering) where
  -- its address
  pub nowhere_address : (e : Expr) (p : Part) → IsValueOf numbering e p → HasNoAddress p
      → IsAddressOf numbering (expr.Convert v.Void e) p
  nowhere_address e p h lacks = by_worth numbering _ _ _ _ _ (eq.worth-Convert v.Void e) (rerun numbering _ _ _ _ _
      (between_does numbering (value e) p.size p.room p.run _ (λ z d. Ok (pos 0, d)) h (λ z d. refl))
      (λ l env base d. sym (as_value_then (p.run l env base d) (λ v. Ok (0, v.1)))
      ∙ ap as_value (sym (lacks.reaches l env base d))))

  -- `+`, `-` and `~` of what is no integer
  pub unturned_value : (e : Expr) (at : ℕ) (op : UnaryOperator) (p : Part) → IsValueOf numbering e p
      → kind_in (value_type p.typed) ≡ None
      → IsValueOf numbering (expr.Cast v.Void e) (forms.on_value at op (operators.turned_value at op) p)
  unturned_value e at op p h none = by_worth numbering _ _ _ _ _ (eq.worth-Cast v.Void e)
      (node_does numbering (value e) p.size p.room p.run _
      (λ z d. operators.turned_value at op (operators.operand p.typed.after.tables p.typed z) d) h
      (λ z d. ap (λ k. as_found (operators.turned_of at op k z d)) (sym none)))

  -- ---- two operands

  -- one behind the other, and 0
  comma_does : (e f : Expr) (n m r s : c.Level → ℕ) (run run' : c.Level → c.Run ℤ) → Does numbering (value e) n r run
      → Does numbering (value f) m s run'
      → Does numbering (value (expr.Comma e f)) (λ l. suc (n l + m l)) (λ l. r l + s l)
      (λ l env base d. c.◌>>=◌ (run l env base d) (λ v. run' l env (base + r l) v.1))
  comma_does e f n m r s run run' h i = by_worth numbering _ _ _ _ _ (eq.worth-Comma e f) (record {
    size = λ l k like. ap₂ (λ a b. suc (a + b)) (h.size l k like) (i.size l k like);
    room = λ l k like. ap₂ (λ a b. a + b) (h.room l k like) (i.room l k like);
    runs = λ l k like env base d.
        ap (λ o. o >>= (λ v. (value f).run k env (base + (value {O = Output} e).needs.room k.measures) v.1))
        (h.runs l k like env base d)
        ∙ then_same (run l env base d) (λ v. run' l env (base + r l) v.1)
        (λ v. (value f).run k env (base + (value {O = Output} e).needs.room k.measures) v.1)
        (λ v d. ap (λ b. (value f).run k env (base + b) (as_done d)) (h.room l k like)
        ∙ i.runs l k like env (base + r l) d);
  })

  then_then : {A B C : Type 0} (o : c.Outcome A) (f : A × State → c.Outcome B) (g : B × State → c.Outcome C)
      → c.◌>>=◌ (c.◌>>=◌ o f) g ≡ c.◌>>=◌ o (λ v. c.◌>>=◌ (f v) g)
  then_then (Ok x) f g = refl
  then_then (Err d) f g = refl

  pub both_refused : (e f : Expr) (n m r s : c.Level → ℕ) (run run' : c.Level → c.Run ℤ) → Does numbering (value e) n r run
      → Does numbering (value f) m s run'
      → Does numbering (value (expr.Convert v.Void (expr.Comma e f))) (λ l. suc (n l + m l)) (λ l. r l + s l)
      (λ l env base d. c.◌>>=◌ (run l env base d) (λ v. c.◌>>=◌ (run' l env (base + r l) v.1) (λ w. c.refused w.1)))
  both_refused e f n m r s run run' h i =
      by_worth numbering _ _ _ _ _ (eq.worth-Convert v.Void (expr.Comma e f)) (rerun numbering _ _ _ _ _
      (between_does numbering (value (expr.Comma e f)) _ _ _ _ (λ z d. c.refused d)
      (comma_does e f n m r s run run' h i) (λ z d. refl))
      (λ l env base d. then_then (run l env base d) (λ v. run' l env (base + r l) v.1) (λ w. c.refused w.1)))

  -- two operands, and what is done with both, where that is refused
  paired : {A B C : Type 0} (o : c.Outcome A) (f : State → c.Outcome B) (g : (A × B) × State → c.Outcome C)
      (r : State → c.Outcome C) → ((v : A × B) (d : State) → g (v, d) ≡ r d)
      → c.◌>>=◌ o (λ v. c.◌>>=◌ (f v.1) (λ w. r w.1)) ≡ c.◌>>=◌ (c.◌>>=◌ o (λ v. c.◌>>=◌ (f v.1) (λ w. Ok ((v.0, w.0), w.1)))) g
  paired {A = A} {B = B} {C = C} (Ok x) f g r same = inner (f x.1) where
    inner : (p : c.Outcome B) → c.◌>>=◌ p (λ w. r w.1) ≡ c.◌>>=◌ (c.◌>>=◌ p (λ w. Ok ((x.0, w.0), w.1))) g
    inner (Ok y) = sym (same (x.0, y.0) y.1)
    inner (Err d) = refl
  paired (Err d) f g r same = refl

  -- operators on operands on which they have no meaning
  pub refused_value : (at : ℕ) (b : BinaryOperator) (e f : Expr) (p q : Part) → IsValueOf numbering e p → IsValueOf numbering f q
      → ((v w : ℤ) (d : State) → operators.operated_on at b p.typed q.typed v w d ≡ c.refused d)
      → IsValueOf numbering (expr.Convert v.Void (expr.Comma e f)) (forms.both_evaluated at b p q)
  refused_value at b e f p q h i same = rerun numbering _ _ _ _ _
      (both_refused e f p.size q.size p.room q.room p.run q.run h i)
      (λ l env base d. paired (p.run l env base d) (λ d. q.run l env (base + p.room l) d)
      (λ v. operators.operated_on at b p.typed q.typed v.0.0 v.0.1 v.1) c.refused (λ v d. same v.0 v.1 d))

  -- and their target
  pub refused_target : (at : ℕ) (e f : Expr) (p q : Part) → IsValueOf numbering e p → IsValueOf numbering f q
      → ((v w : ℤ) (d : State) → operators.operated_on at binary.Add p.typed q.typed v w d ≡ c.refused d)
      → IsAddressOf numbering (expr.Convert v.Void (expr.Comma e f)) (forms.subscript at p q)
  refused_target at e f p q h i same = rerun numbering _ _ _ _ _
      (both_refused e f p.size q.size p.room q.room p.run q.run h i)
      (λ l env base d. target (p.run l env base d) (λ d. q.run l env (base + p.room l) d))
    where
      target : (o : c.Outcome ℤ) (g : State → c.Outcome ℤ) → c.◌>>=◌ o (λ v. c.◌>>=◌ (g v.1) (λ w. c.refused w.1))
          ≡ as_value (c.◌>>=◌ {A = ℤ × ℤ} (c.◌>>=◌ o (λ v. c.◌>>=◌ (g v.1) (λ w. Ok ((v.0, w.0), w.1)))) (λ v.
          c.◌>>=◌ (operators.operated_on at binary.Add p.typed q.typed v.0.0 v.0.1 v.1) (λ a. Ok (address a.0, a.1))))
      target (Ok x) g = inner (g x.1) where
        inner : (o : c.Outcome ℤ) → c.◌>>=◌ o (λ w. c.refused w.1) ≡ as_value (c.◌>>=◌ {A = ℤ × ℤ}
            (c.◌>>=◌ o (λ w. Ok ((x.0, w.0), w.1))) (λ v.
            c.◌>>=◌ (operators.operated_on at binary.Add p.typed q.typed v.0.0 v.0.1 v.1) (λ a. Ok (address a.0, a.1))))
        inner (Ok y) = ap (λ o. as_value (c.◌>>=◌ o (λ a. Ok (address a.0, a.1)))) (sym (same x.0 y.0 y.1))
        inner (Err d) = refl
      target (Err d) g = refl

  -- ---- what can't be updated

  -- its address is found, and 0
  unstepped : (e : Expr) (p : Part) (f : ℤ × ℤ → ℤ) (at : ℕ) (b : BinaryOperator) → f (pos 0, pos 0) ≡ pos 0
      → IsAddressOf numbering e p → forms.is_updated b p.typed operators.one.kind ≡ false
      → Does numbering (value (expr.Cast v.Void e)) (λ l. suc (p.size l)) p.room
      (λ l env base d. c.◌>>=◌ (forms.stepped at b p l env base d) (λ v. Ok (f v.0, v.1)))
  unstepped e p f at b zero h unfit = by_worth numbering _ _ _ _ _ (eq.worth-Cast v.Void e) (rerun numbering _ _ _ _ _
      (node_does numbering (value e) p.size p.room (λ l env base d. as_value (p.reach l env base d)) _
      (λ z d. Ok (pos 0, d)) h (λ z d. refl))
      (λ l env base d. left (p.reach l env base d)
      ∙ ap (λ b'. c.◌>>=◌ (forms.steps_if b' at b p l env base d) (λ v. Ok (f v.0, v.1))) (sym unfit)))
    where
      left : (o : c.Outcome ℕ) → c.◌>>=◌ (as_value o) (λ v. Ok (pos 0, v.1))
          ≡ c.◌>>=◌ (c.◌>>=◌ o (λ a. Ok ((pos 0, pos 0), a.1))) (λ v. Ok (f v.0, v.1))
      left (Ok a) = ap (λ z. Ok (z, a.1)) (sym zero)
      left (Err d) = refl

  pub unstepped_before : (at : ℕ) (b : BinaryOperator) (e : Expr) (p : Part) → IsAddressOf numbering e p
      → forms.is_updated b p.typed operators.one.kind ≡ false → IsValueOf numbering (expr.Cast v.Void e) (forms.postfix_by at b p)
  unstepped_before at b e p h unfit = unstepped e p (λ v. v.0) at b refl h unfit

  pub unstepped_stored : (at : ℕ) (u : UnaryOperator) (b : BinaryOperator) (e : Expr) (p : Part) → IsAddressOf numbering e p
      → forms.is_updated b p.typed operators.one.kind ≡ false → IsValueOf numbering (expr.Cast v.Void e) (forms.prefix at u b p)
  unstepped_stored at u b e p h unfit = unstepped e p (λ v. v.1) at b refl h unfit

  -- `op=`
  pub unupdated_value : (at : ℕ) (b : BinaryOperator) (e f : Expr) (p q : Part) → IsAddressOf numbering e p
      → IsValueOf numbering f q → forms.is_updated b p.typed (kind_in (value_type q.typed)) ≡ false
      → IsValueOf numbering (expr.Convert v.Void (expr.Comma e f)) (forms.assignment at (Some b) p q)
  unupdated_value at b e f p q h i unfit = rerun numbering _ _ _ _ _
      (both_refused e f p.size q.size p.room q.room (λ l env base d. as_value (p.reach l env base d)) q.run h i)
      (λ l env base d. left (p.reach l env base d) (λ d. c.◌>>=◌ (q.run l env (base + p.room l) d) (λ w. c.refused w.1))
      ∙ ap (λ b'. forms.compound_if b' at b p q l env base d) (sym unfit))
    where
      left : (o : c.Outcome ℕ) (g : State → c.Outcome ℤ) → c.◌>>=◌ (as_value o) (λ v. g v.1) ≡ c.◌>>=◌ o (λ v. g v.1)
      left (Ok a) g = refl
      left (Err d) g = refl
