-- What each kind of expression prints.
use Rattle.std.proofs.Common.{◌≡◌, ◌||◌, ◌<◌, ◌≤◌, ◌+◌, ℕ, suc, ℤ, pos, Bool, List, [], ◌∷◌, ◌++◌, length, map, drop, get_or, refl, sym, ap, subst, ◌∙◌}
use Rattle.std.specs.Prelude.{unsigned_abs}
use Rattle.std.proofs.lemmas.List.{drop_more, drop_all}
use Rattle.c_means.specs.Values.{address, bytes_within}
use Rattle.c_means.specs.Expressions.{behind}
use Rattle.c_store.specs.Store.{start}
use Rattle.c_language.specs.Integers.{is_zero, number_of}
use Rattle.core_tree.specs.declared.expr.Callee.{Callee}
use Rattle.core_tree.specs.declared.expr.Expr.{Expr}
use Rattle.core_tree.specs.declared.expr.Expr.TheVariants as expr
use Rattle.core_tree.specs.declared.types.Access.{Access}
use Rattle.core_tree.specs.declared.types.Answered.{Answered}
use Rattle.core_tree.specs.declared.types.Operator.{Operator}
use Rattle.core_tree.specs.declared.types.Turning.{Turning}
use Rattle.core_tree.specs.declared.types.ValueType.{ValueType}
use Rattle.core_tree.specs.declared.types.WordType.{WordType}
use Rattle.core_tree.specs.Memory.{load}
use Rattle.core_tree.specs.Numbers.{size_of, converted_to, value_of_bytes, turned}
use Rattle.core_tree.specs.States.{Output, or_stop, found}
use Rattle.core_tree.specs.Values.{Value, value}
use Rattle.core_tree.proofs.Equations as is
use Rattle.log_language.specs.declared.told.Told.{Told}
use Rattle.log_language.specs.declared.tree.LogExpr.{LogExpr}
use Rattle.log_language.specs.declared.tree.LogExpr.TheVariants as tree
use Rattle.log_language.specs.Language as says
use Rattle.log_language.specs.Steps.{Saves, Switches, Joins}
use Rattle.log_language.specs.Tells.{Wider, TellsValue, TellsValues, GoesValue, GoesValues, GoesCall}
use Rattle.log_language.proofs.Says.{keeps_found, keeps_load, keeps_or_stop}
use Rattle.log_language.proofs.ValueTexts as form

walked_as : {u v : Value Output} {a b : Told} → u ≡ v → GoesValue v a b → GoesValue u a b
walked_as {u} {v} {a} {b} e h = subst (λ z. GoesValue z a b) (sym e) h

part : {y y' : Expr} {a b : Told} → y' ≡ y → GoesValue (value y') a b → GoesValue (value y) a b
part {y} {y'} {a} {b} e h = subst (λ z. GoesValue (value z) a b) e h

pub first_wider : (a b : LogExpr) → Wider a (tree.Choice a b)
first_wider a b x t m = says.first a b t m

pub second_wider : (a b : LogExpr) → Wider b (tree.Choice a b)
second_wider a b x t m = says.second a b t m

pub on_Constant : {e : Expr} {z : ℤ} {a : Told} → e ≡ expr.Constant z → GoesValue (value e) a a
on_Constant {e} {z} {a} q = walked_as (ap value q ∙ is.worth-Constant z) (record { aside = refl; tells = form.says_constant z a.so_far })

pub on_Fixed : {e : Expr} {n : ℕ} {a : Told} → e ≡ expr.Fixed n → GoesValue (value e) a a
on_Fixed {e} {n} {a} q = walked_as (ap value q ∙ is.worth-Fixed n) (record { aside = refl; tells = form.says_constant (pos (start n)) a.so_far })

pub on_Local : {e : Expr} {n : ℕ} {a : Told} → e ≡ expr.Local n → GoesValue (value e) a a
on_Local {e} {n} {a} q = walked_as (ap value q ∙ is.worth-Local n) (record { aside = refl; tells = form.says_local n a.so_far })

pub on_Target : {e y y' : Expr} {a b : Told} → e ≡ expr.Target y → y' ≡ y → GoesValue (value y') a b → GoesValue (value e) a b
on_Target {e} {y} {y'} {a} {b} q g h =
    let r = part g h in
    walked_as (ap value q ∙ is.worth-Target y) (record { aside = r.aside; tells = form.says_on _ (λ z d. found (pos (address z)) d) (value y) a.so_far b.so_far (λ z d. keeps_found _ d) r.tells })

pub on_Pointer : {e y y' : Expr} {a b : Told} → e ≡ expr.Pointer y → y' ≡ y → GoesValue (value y') a b → GoesValue (value e) a b
on_Pointer {e} {y} {y'} {a} {b} q g h =
    let r = part g h in
    walked_as (ap value q ∙ is.worth-Pointer y) (record { aside = r.aside; tells = form.says_on _ (λ z d. found z d) (value y) a.so_far b.so_far (λ z d. keeps_found _ d) r.tells })

pub on_Not : {e y y' : Expr} {a b : Told} → e ≡ expr.Not y → y' ≡ y → GoesValue (value y') a b → GoesValue (value e) a b
on_Not {e} {y} {y'} {a} {b} q g h =
    let r = part g h in
    walked_as (ap value q ∙ is.worth-Not y) (record { aside = r.aside; tells = form.says_on _ (λ z d. found (number_of (is_zero z)) d) (value y) a.so_far b.so_far (λ z d. keeps_found _ d) r.tells })

pub on_Offset : {e y y' : Expr} {n : ℕ} {a b : Told} → e ≡ expr.Offset n y → y' ≡ y → GoesValue (value y') a b → GoesValue (value e) a b
on_Offset {e} {y} {y'} {n} {a} {b} q g h =
    let r = part g h in
    walked_as (ap value q ∙ is.worth-Offset n y) (record { aside = r.aside; tells = form.says_on _ (λ z d. found (pos (behind n (unsigned_abs z))) d) (value y) a.so_far b.so_far (λ z d. keeps_found _ d) r.tells })

pub on_Extract : {e y y' : Expr} {n : ℕ} {m : ValueType} {a b : Told} → e ≡ expr.Extract n m y → y' ≡ y → GoesValue (value y') a b → GoesValue (value e) a b
on_Extract {e} {y} {y'} {n} {m} {a} {b} q g h =
    let r = part g h in
    walked_as (ap value q ∙ is.worth-Extract n m y) (record { aside = r.aside; tells = form.says_on _ (λ z d. found (value_of_bytes m (bytes_within n (size_of m) (unsigned_abs z))) d) (value y) a.so_far b.so_far (λ z d. keeps_found _ d) r.tells })

pub on_Convert : {e y y' : Expr} {to : ValueType} {a b : Told} → e ≡ expr.Convert to y → y' ≡ y → GoesValue (value y') a b → GoesValue (value e) a b
on_Convert {e} {y} {y'} {to} {a} {b} q g h =
    let r = part g h in
    walked_as (ap value q ∙ is.worth-Convert to y) (record { aside = r.aside; tells = form.says_on _ (λ z d. found (converted_to to z) d) (value y) a.so_far b.so_far (λ z d. keeps_found _ d) r.tells })

pub on_Cast : {e y y' : Expr} {to : ValueType} {a b : Told} → e ≡ expr.Cast to y → y' ≡ y → GoesValue (value y') a b → GoesValue (value e) a b
on_Cast {e} {y} {y'} {to} {a} {b} q g h =
    let r = part g h in
    walked_as (ap value q ∙ is.worth-Cast to y) (record { aside = r.aside; tells = form.says_on _ (λ z d. found (converted_to to z) d) (value y) a.so_far b.so_far (λ z d. keeps_found _ d) r.tells })

pub on_Load : {e y y' : Expr} {access : Access} {a b : Told} → e ≡ expr.Load access y → y' ≡ y → GoesValue (value y') a b → GoesValue (value e) a b
on_Load {e} {y} {y'} {access} {a} {b} q g h =
    let r = part g h in
    walked_as (ap value q ∙ is.worth-Load access y) (record { aside = r.aside; tells = form.says_on _ (λ z d. load access (unsigned_abs z) d) (value y) a.so_far b.so_far (λ z d. keeps_load access (unsigned_abs z) d) r.tells })

pub on_Turn : {e y y' : Expr} {at : ℕ} {o : Turning} {word : WordType} {k : Bool} {a b : Told} → e ≡ expr.Turn at o word k y → y' ≡ y → GoesValue (value y') a b → GoesValue (value e) a b
on_Turn {e} {y} {y'} {at} {o} {word} {k} {a} {b} q g h =
    let r = part g h in
    walked_as (ap value q ∙ is.worth-Turn at o word k y) (record { aside = r.aside; tells = form.says_on _ (λ z d. or_stop at (turned o word z) d) (value y) a.so_far b.so_far (λ z d. keeps_or_stop at (turned o word z) d) r.tells })

pub on_Step : {e y y' : Expr} {at : ℕ} {o : Operator} {access : Access} {answer : Answered} {a b : Told} → e ≡ expr.Step at o access answer y → y' ≡ y → GoesValue (value y') a b → GoesValue (value e) a b
on_Step {e} {y} {y'} {at} {o} {access} {answer} {a} {b} q g h =
    let r = part g h in
    walked_as (ap value q ∙ is.worth-Step at o access answer y) (record { aside = r.aside; tells = form.says_step at o access answer (value y) a.so_far b.so_far r.tells })

pub on_Comma : {e y y' z z' : Expr} {a b c : Told} → e ≡ expr.Comma y z → y' ≡ y → z' ≡ z → GoesValue (value y') a b → GoesValue (value z') b c → GoesValue (value e) a c
on_Comma {e} {y} {y'} {z} {z'} {a} {b} {c} q g i h j =
    let r = part g h in
    let s = part i j in
    walked_as (ap value q ∙ is.worth-Comma y z) (record { aside = s.aside ∙ r.aside; tells = form.says_comma (value y) (value z) a.so_far b.so_far c.so_far r.tells s.tells })

pub on_Operate : {e y y' z z' : Expr} {at : ℕ} {o : Operator} {k : Bool} {a b c : Told} → e ≡ expr.Operate at o k y z → y' ≡ y → z' ≡ z → GoesValue (value y') a b → GoesValue (value z') b c → GoesValue (value e) a c
on_Operate {e} {y} {y'} {z} {z'} {at} {o} {k} {a} {b} {c} q g i h j =
    let r = part g h in
    let s = part i j in
    walked_as (ap value q ∙ is.worth-Operate at o k y z) (record { aside = s.aside ∙ r.aside; tells = form.says_operate at o (value y) (value z) a.so_far b.so_far c.so_far r.tells s.tells })

pub on_Store : {e y y' z z' : Expr} {at : ℕ} {access : Access} {a b c : Told} → e ≡ expr.Store at access y z → y' ≡ y → z' ≡ z → GoesValue (value y') a b → GoesValue (value z') b c → GoesValue (value e) a c
on_Store {e} {y} {y'} {z} {z'} {at} {access} {a} {b} {c} q g i h j =
    let r = part g h in
    let s = part i j in
    walked_as (ap value q ∙ is.worth-Store at access y z) (record { aside = s.aside ∙ r.aside; tells = form.says_store at access (value y) (value z) a.so_far b.so_far c.so_far r.tells s.tells })

pub on_Update : {e y y' z z' : Expr} {at : ℕ} {o : Operator} {access : Access} {a b c : Told} → e ≡ expr.Update at o access y z → y' ≡ y → z' ≡ z → GoesValue (value y') a b → GoesValue (value z') b c → GoesValue (value e) a c
on_Update {e} {y} {y'} {z} {z'} {at} {o} {access} {a} {b} {c} q g i h j =
    let r = part g h in
    let s = part i j in
    walked_as (ap value q ∙ is.worth-Update at o access y z) (record { aside = s.aside ∙ r.aside; tells = form.says_update at o access (value y) (value z) a.so_far b.so_far c.so_far r.tells s.tells })

pub on_And : {e y y' z z' : Expr} {at : ℕ} {a b c : Told} → e ≡ expr.And at y z → y' ≡ y → z' ≡ z → GoesValue (value y') a b → GoesValue (value z') b c → GoesValue (value e) a c
on_And {e} {y} {y'} {z} {z'} {at} {a} {b} {c} q g i h j =
    let r = part g h in
    let s = part i j in
    walked_as (ap value q ∙ is.worth-And at y z) (record { aside = s.aside ∙ r.aside; tells = form.says_both (value y) (value z) a.so_far b.so_far c.so_far r.tells s.tells at })

pub on_Or : {e y y' z z' : Expr} {at : ℕ} {a b c : Told} → e ≡ expr.Or at y z → y' ≡ y → z' ≡ z → GoesValue (value y') a b → GoesValue (value z') b c → GoesValue (value e) a c
on_Or {e} {y} {y'} {z} {z'} {at} {a} {b} {c} q g i h j =
    let r = part g h in
    let s = part i j in
    walked_as (ap value q ∙ is.worth-Or at y z) (record { aside = s.aside ∙ r.aside; tells = form.says_either (value y) (value z) a.so_far b.so_far c.so_far r.tells s.tells at })

pub on_Choose : {e k k' y y' z z' : Expr} {at : ℕ} {a b c d f g h : Told} → e ≡ expr.Choose at k y z → k' ≡ k → y' ≡ y → z' ≡ z → GoesValue (value k') a b → Saves b c → GoesValue (value y') c d → Switches d f
    → GoesValue (value z') f g → Joins g h → GoesValue (value e) a h
on_Choose {e} {k} {k'} {y} {y'} {z} {z'} {at} {a} {b} {c} {d} {f} {g} {h} q i j l ck s cy w cz n =
    let r = part i ck in
    let u = part j cy in
    let v = part l cz in
    let turned = w.turned b.aside b.so_far (u.aside ∙ s.aside) in
    let joined = n.joined b.aside d.so_far (v.aside ∙ turned.1) in
    walked_as (ap value q ∙ is.worth-Choose at k y z) (record {
      aside = joined.1 ∙ r.aside;
      tells = form.says_choose at (value k) (value y) (value z) a.so_far b.so_far d.so_far g.so_far h.so_far r.tells
          (subst (λ m. TellsValue (value y) m d.so_far) s.so_far u.tells) (subst (λ m. TellsValue (value z) m g.so_far) turned.0 v.tells)
          (subst (Wider d.so_far) (sym joined.0) (first_wider d.so_far g.so_far)) (subst (Wider g.so_far) (sym joined.0) (second_wider d.so_far g.so_far));
    })

pub on_Call : {e : Expr} {at : ℕ} {ys ys' : List Expr} {callee : Callee} {type : ValueType} {used : Bool} {a b c : Told} → e ≡ expr.Call at ys callee type used → ys' ≡ ys → GoesValues (map value ys') a b → GoesCall callee b c → GoesValue (value e) a c
on_Call {e} {at} {ys} {ys'} {callee} {type} {used} {a} {b} {c} q g h k =
    let r : GoesValues (map value ys) a b = subst (λ l. GoesValues (map value l) a b) g h in
    walked_as (ap value q ∙ is.worth-Call at ys callee type used)
    (record { aside = k.aside ∙ r.aside; tells = form.says_call at (map value ys) callee type used a.so_far b.so_far c.so_far r.tells k.tells })

-- ---- arguments: what is left of them leads on, whatever it leads to

pub record ValuesLead (all rest : List (Value Output)) (a b : Told) : Type 0 where
  pub aside : b.aside ≡ a.aside
  pub leads : (e : LogExpr) → TellsValues rest b.so_far e → TellsValues all a.so_far e

pub values_start : (es : List Expr) (a : Told) → ValuesLead (map value es) (map value (drop 0 es)) a a
values_start es a = record { aside = refl; leads = λ e h. h }

pub values_more : {all : List (Value Output)} (es : List Expr) (i : ℕ) {y y' : Expr} {a b c : Told} → i < length es → y ≡ get_or es i y → y' ≡ y → ValuesLead all (map value (drop i es)) a b → GoesValue (value y') b c
    → ValuesLead all (map value (drop (i + 1) es)) a c
values_more {all} es i {y} {y'} {a} {b} {c} h e g l w =
    let r = part g w in
    let m : ValuesLead all (value y ∷ map value (drop (i + 1) es)) a b = subst (λ z. ValuesLead all (map value z) a b) (drop_more es i y h ∙ ap (λ z. z ∷ drop (i + 1) es) (sym e)) l in
    record { aside = r.aside ∙ m.aside; leads = λ n k. m.leads n (form.says_more (value y) (map value (drop (i + 1) es)) b.so_far c.so_far n r.tells k) }

pub values_end : {all : List (Value Output)} (es : List Expr) (i : ℕ) {a b : Told} → length es ≤ i → ValuesLead all (map value (drop i es)) a b → GoesValues all a b
values_end {all} es i {a} {b} h l =
    let m : ValuesLead all [] a b = subst (λ z. ValuesLead all (map value z) a b) (drop_all i es h) l in
    record { aside = m.aside; tells = m.leads b.so_far (form.says_none b.so_far) }
