-- What each kind of code prints.
use Rattle.std.proofs.Common.{◌≡◌, ◌+◌, ◌<◌, ◌≤◌, ℕ, ℤ, Bool, List, [], ◌∷◌, ◌++◌, length, map, drop, get_or, Option, Some, None, refl, sym, ap, subst, ◌∙◌}
use Rattle.std.specs.Prelude.{option_map, slice_get}
use Rattle.std.proofs.lemmas.List.{drop_more, drop_all}
use Rattle.c_means.specs.declared.kind.Kind.TheVariants as k
use Rattle.c_means.specs.Items.{at_label, at_case, at_default}
use Rattle.c_language.specs.Scopes.{Name}
use Rattle.core_tree.specs.declared.code.Code.{Code}
use Rattle.core_tree.specs.declared.code.Code.TheVariants as tree_of
use Rattle.core_tree.specs.declared.code.Setting.{Setting}
use Rattle.core_tree.specs.declared.code.Setting.TheVariants as setting
use Rattle.core_tree.specs.declared.expr.Expr.{Expr}
use Rattle.core_tree.specs.declared.program.Core.{Core}
use Rattle.core_tree.specs.declared.program.Function.{Function}
use Rattle.core_tree.specs.declared.types.ValueType.{ValueType}
use Rattle.core_tree.specs.declared.types.WordType.{WordType}
use Rattle.core_tree.specs.Codes.{Item, code, in_turn, lived, no_more, node_size, value_of, return_of, returns, if_runs, switch_runs}
use Rattle.core_tree.specs.States.{Output}
use Rattle.core_tree.specs.Values.{Value, value}
use Rattle.core_tree.proofs.Equations as is
use Rattle.log_language.specs.declared.told.Told.{Told}
use Rattle.log_language.specs.declared.tree.LogExpr.{LogExpr}
use Rattle.log_language.specs.declared.tree.LogExpr.TheVariants as tree
use Rattle.log_language.specs.Steps.{Saves, Switches, Joins, EntersLoop, LeavesLoop}
use Rattle.log_language.specs.Tells.{Wider, TellsValue, TellsMaybe, TellsActs, GoesValue, GoesMaybe, GoesSetting, GoesSettings, GoesCode, setting_acts, IsExpression}
use Rattle.log_language.proofs.CodeTexts as form
use Rattle.log_language.proofs.LoopTexts.{loop, says_looped, says_repeated}
use Rattle.log_language.proofs.OnValues.{first_wider, second_wider}
use Rattle.log_language.proofs.Says.{wider_same}

walked_as : {i j : Item Output} {a b : Told} → i ≡ j → GoesCode j a b → GoesCode i a b
walked_as {i} {j} {a} {b} e h = subst (λ z. GoesCode z a b) (sym e) h

part : {y y' : Code} {a b : Told} → y' ≡ y → GoesCode (code y') a b → GoesCode (code y) a b
part {y} {y'} {a} {b} e h = subst (λ z. GoesCode (code z) a b) e h

parts : {ys ys' : List Code} {a b : Told} → ys' ≡ ys → GoesCode (in_turn (map code ys')) a b → GoesCode (in_turn (map code ys)) a b
parts {ys} {ys'} {a} {b} e h = subst (λ z. GoesCode (in_turn (map code z)) a b) e h

action : {y y' : Expr} {a b : Told} → y' ≡ y → GoesValue (value y') a b → GoesValue (value y) a b
action {y} {y'} {a} {b} e h = subst (λ z. GoesValue (value z) a b) e h

-- ---- expressions that may be missing, and settings

pub maybe_some : {o : Option Expr} {y y' : Expr} {a b : Told} → o ≡ Some y → y' ≡ y → GoesValue (value y') a b → GoesMaybe (option_map value o) a b
maybe_some {o} {y} {y'} {a} {b} q e w =
    let r = action e w in
    subst (λ z. GoesMaybe (option_map value z) a b) (sym q) (record { aside = r.aside; tells = r.tells })

pub maybe_none : {o : Option Expr} {a : Told} → o ≡ None → GoesMaybe (option_map value o) a a
maybe_none {o} {a} q = subst (λ z. GoesMaybe (option_map value z) a a) (sym q) (record { aside = refl; tells = refl })

pub setting_value : {s : Setting} {offset : ℕ} {type : ValueType} {e e' : Expr} {a b : Told} → s ≡ setting.Value offset type e → e' ≡ e → GoesValue (value e') a b → GoesSetting s a b
setting_value {s} {offset} {type} {e} {e'} {a} {b} q i w =
    let r = action i w in
    subst (λ z. GoesSetting z a b) (sym q) (record { aside = r.aside; leads = λ rest m n c. form.says_set_value offset type e rest n a.so_far b.so_far m r.tells c })

pub setting_text : {s : Setting} {offset size : ℕ} {bytes : List ℕ} {a : Told} → s ≡ setting.Text offset size bytes → GoesSetting s a a
setting_text {s} {offset} {size} {bytes} {a} q = subst (λ z. GoesSetting z a a) (sym q) (record { aside = refl; leads = λ rest m n c. form.says_set_text offset size bytes rest n a.so_far m c })

pub record SettingsLead (all rest : List Setting) (a b : Told) : Type 0 where
  pub aside : b.aside ≡ a.aside
  pub leads : (e : LogExpr) (n : ℕ) → TellsActs (setting_acts rest n) b.so_far e → TellsActs (setting_acts all n) a.so_far e

pub settings_start : (xs : List Setting) (a : Told) → SettingsLead xs (drop 0 xs) a a
settings_start xs a = record { aside = refl; leads = λ e n h. h }

pub settings_more : (xs : List Setting) (i : ℕ) {s : Setting} {a b c : Told} → i < length xs → s ≡ get_or xs i s → SettingsLead xs (drop i xs) a b → GoesSetting s b c → SettingsLead xs (drop (i + 1) xs) a c
settings_more xs i {s} {a} {b} {c} h e l w =
    let m : SettingsLead xs (s ∷ drop (i + 1) xs) a b = subst (λ z. SettingsLead xs z a b) (drop_more xs i s h ∙ ap (λ z. z ∷ drop (i + 1) xs) (sym e)) l in
    record { aside = w.aside ∙ m.aside; leads = λ y n k'. m.leads y n (w.leads (drop (i + 1) xs) y n k') }

pub settings_end : (xs : List Setting) (i : ℕ) {a b : Told} → length xs ≤ i → SettingsLead xs (drop i xs) a b → GoesSettings xs a b
settings_end xs i {a} {b} h l =
    let m : SettingsLead xs [] a b = subst (λ z. SettingsLead xs z a b) (drop_all i xs h) l in
    record { aside = m.aside; tells = λ n. m.leads b.so_far n (form.says_set_none n b.so_far) }

-- ---- statements

pub on_Nothing : {c : Code} {n : Bool} {a : Told} → c ≡ tree_of.Nothing n → GoesCode (code c) a a
on_Nothing {c} {n} {a} q = walked_as (ap code q ∙ is.does-Nothing n) (record { aside = refl; tells = form.says_passes a.so_far _ refl })

pub on_Static : {c : Code} {n : Bool} {es : List Expr} {a : Told} → c ≡ tree_of.Static n es → GoesCode (code c) a a
on_Static {c} {n} {es} {a} q = walked_as (ap code q ∙ is.does-Static n es) (record { aside = refl; tells = form.says_passes a.so_far _ refl })

pub on_Value : {c : Code} {n : Bool} {e e' : Expr} {a b : Told} → c ≡ tree_of.Value n e → e' ≡ e → GoesValue (value e') a b → GoesCode (code c) a b
on_Value {c} {n} {e} {e'} {a} {b} q g w =
    let r = action g w in
    walked_as (ap code q ∙ is.does-Value n e) (record { aside = r.aside; tells = form.says_running (value_of (value e)) a.so_far b.so_far (form.says_value (value e) a.so_far b.so_far r.tells) })

pub on_Declare : {c : Code} {at size : ℕ} {zeroed : Bool} {xs xs' : List Setting} {a b : Told} → c ≡ tree_of.Declare at size zeroed xs → xs' ≡ xs → GoesSettings xs' a b → GoesCode (code c) a b
on_Declare {c} {at} {size} {zeroed} {xs} {xs'} {a} {b} q g w =
    let r : GoesSettings xs a b = subst (λ z. GoesSettings z a b) g w in
    walked_as (ap code q ∙ is.does-Declare at size zeroed xs) (record { aside = r.aside; tells = form.says_declared at size zeroed xs a.so_far b.so_far r.tells })

pub on_Block : {c : Code} {n : Bool} {ys ys' : List Code} {a b : Told} → c ≡ tree_of.Block n ys → ys' ≡ ys → GoesCode (in_turn (map code ys')) a b → GoesCode (code c) a b
on_Block {c} {n} {ys} {ys'} {a} {b} q g w =
    let r = parts g w in
    walked_as (ap code q ∙ is.does-Block n ys) (record { aside = r.aside; tells = form.says_running (lived (in_turn (map code ys))) a.so_far b.so_far (form.says_lived (in_turn (map code ys)) a.so_far b.so_far r.tells) })

pub on_Label : {c y y' : Code} {name : Name} {a b : Told} → c ≡ tree_of.Label name y → y' ≡ y → GoesCode (code y') a b → GoesCode (code c) a b
on_Label {c} {y} {y'} {name} {a} {b} q g w =
    let r = part g w in
    walked_as (ap code q ∙ is.does-Label name y) (record { aside = r.aside; tells = form.says_arrived (at_label name) no_more (code y) a.so_far b.so_far r.tells })

pub on_Case : {c y y' : Code} {z : ℤ} {e : Expr} {a b : Told} → c ≡ tree_of.Case z e y → y' ≡ y → GoesCode (code y') a b → GoesCode (code c) a b
on_Case {c} {y} {y'} {z} {e} {a} {b} q g w =
    let r = part g w in
    walked_as (ap code q ∙ is.does-Case z e y) (record { aside = r.aside; tells = form.says_arrived (at_case (Some z)) (node_size Output e) (code y) a.so_far b.so_far r.tells })

pub on_Default : {c y y' : Code} {a b : Told} → c ≡ tree_of.Default y → y' ≡ y → GoesCode (code y') a b → GoesCode (code c) a b
on_Default {c} {y} {y'} {a} {b} q g w =
    let r = part g w in
    walked_as (ap code q ∙ is.does-Default y) (record { aside = r.aside; tells = form.says_arrived at_default no_more (code y) a.so_far b.so_far r.tells })

pub on_Goto : {c : Code} {name : Name} {a : Told} → c ≡ tree_of.Goto name → GoesCode (code c) a a
on_Goto {c} {name} {a} q = walked_as (ap code q ∙ is.does-Goto name) (record { aside = refl; tells = form.says_jump (k.Going name) a.so_far })

pub on_Continue : {c : Code} {a : Told} → c ≡ tree_of.Continue → GoesCode (code c) a a
on_Continue {c} {a} q = walked_as (ap code q ∙ is.does-Continue) (record { aside = refl; tells = form.says_jump k.Continuing a.so_far })

pub on_Break : {c : Code} {a : Told} → c ≡ tree_of.Break → GoesCode (code c) a a
on_Break {c} {a} q = walked_as (ap code q ∙ is.does-Break) (record { aside = refl; tells = form.says_jump k.Breaking a.so_far })

pub on_Return : {c : Code} {e : Option Expr} {a b : Told} → c ≡ tree_of.Return e → GoesMaybe (option_map value e) a b → GoesCode (code c) a b
on_Return {c} {e} {a} {b} q w = walked_as (ap code q ∙ is.does-Return e) (record { aside = w.aside; tells = by (option_map value e) w.tells })
  where
    by : (v : Option (Value Output)) → TellsMaybe v a.so_far b.so_far → TellsActs (return_of v).run a.so_far b.so_far
    by None h = subst (TellsActs (return_of {O = Output} None).run a.so_far) (sym h) (form.says_jump k.Returning a.so_far)
    by (Some v) h = form.says_running (returns v) a.so_far b.so_far (form.says_returns v a.so_far b.so_far h)

-- ---- selection

pub on_If : {c y y' z z' : Code} {at : ℕ} {e e' : Expr} {a b d f g h i : Told} → c ≡ tree_of.If at e y z → e' ≡ e → y' ≡ y → z' ≡ z → GoesValue (value e') a b → Saves b d → GoesCode (code y') d f → Switches f g
    → GoesCode (code z') g h → Joins h i → GoesCode (code c) a i
on_If {c} {y} {y'} {z} {z'} {at} {e} {e'} {a} {b} {d} {f} {g} {h} {i} q j m n ck s cy w cz o =
    let r = action j ck in
    let u = part m cy in
    let v = part n cz in
    let turned = w.turned b.aside b.so_far (u.aside ∙ s.aside) in
    let joined = o.joined b.aside f.so_far (v.aside ∙ turned.1) in
    walked_as (ap code q ∙ is.does-If at e y z) (record {
      aside = joined.1 ∙ r.aside;
      tells = form.says_running (if_runs at (value e) (code y) (code z)) a.so_far i.so_far
          (form.says_if at (value e) (code y) (code z) a.so_far b.so_far f.so_far h.so_far i.so_far r.tells
          (subst (λ m. TellsActs (code {O = Output} y).run m f.so_far) s.so_far u.tells) (subst (λ m. TellsActs (code {O = Output} z).run m h.so_far) turned.0 v.tells)
          (subst (Wider f.so_far) (sym joined.0) (first_wider f.so_far h.so_far)) (subst (Wider h.so_far) (sym joined.0) (second_wider f.so_far h.so_far)));
    })

pub on_Switch : {c : Code} {at : ℕ} {word : WordType} {cases : List ℤ} {e e' : Expr} {n : Bool} {ys ys' : List Code} {a b d : Told} → c ≡ tree_of.Switch at word cases e n ys → e' ≡ e → ys' ≡ ys → GoesValue (value e') a b
    → GoesCode (in_turn (map code ys')) b d → GoesCode (code c) a d
on_Switch {c} {at} {word} {cases} {e} {e'} {n} {ys} {ys'} {a} {b} {d} q j o w wy =
    let r = action j w in
    let v = parts o wy in
    walked_as (ap code q ∙ is.does-Switch at word cases e n ys) (record {
      aside = v.aside ∙ r.aside;
      tells = form.says_running (switch_runs at word cases (value e) (in_turn (map code ys))) a.so_far d.so_far
          (form.says_switch at word cases (value e) (in_turn (map code ys)) a.so_far b.so_far d.so_far r.tells v.tells);
    })

-- ---- loops

pub on_Loop : {c y y' : Code} {at : ℕ} {test step : Option Expr} {a b d f g h i : Told} → c ≡ tree_of.Loop at test step y → y' ≡ y → EntersLoop a b → GoesMaybe (option_map value test) b d → GoesCode (code y') d f
    → GoesMaybe (option_map value step) f g → LeavesLoop g h → GoesMaybe (option_map value test) h i → GoesCode (code c) a i
on_Loop {c} {y} {y'} {at} {test} {step} {a} {b} {d} {f} {g} {h} {i} q n en wt wc ws le wl =
    let r = part n wc in
    let left = le.left a.aside a.so_far (ws.aside ∙ r.aside ∙ wt.aside ∙ en.aside) in
    walked_as (ap code q ∙ is.does-Loop at test step y) (record {
      aside = wl.aside ∙ left.1;
      tells = says_looped at (option_map value test) (option_map value step) (code y) a.so_far d.so_far f.so_far g.so_far i.so_far
          (subst (λ z. TellsMaybe (option_map value test) z d.so_far) en.so_far wt.tells) r.tells ws.tells
          (subst (λ z. TellsMaybe (option_map value test) z i.so_far) left.0 wl.tells);
    })

pub on_Repeat : {c y y' : Code} {at : ℕ} {e e' : Expr} {a b d f g : Told} → c ≡ tree_of.Repeat at e y → y' ≡ y → e' ≡ e → EntersLoop a b → GoesCode (code y') b d → GoesValue (value e') d f → LeavesLoop f g → GoesCode (code c) a g
on_Repeat {c} {y} {y'} {at} {e} {e'} {a} {b} {d} {f} {g} q n o en wc wv le =
    let r = part n wc in
    let v = action o wv in
    let left = le.left a.aside a.so_far (v.aside ∙ r.aside ∙ en.aside) in
    walked_as (ap code q ∙ is.does-Repeat at e y) (record {
      aside = left.1;
      tells = subst (TellsActs _ a.so_far) (sym left.0)
          (says_repeated at (code y) (value e) a.so_far d.so_far f.so_far (subst (λ z. TellsActs (code {O = Output} y).run z d.so_far) en.so_far r.tells) v.tells);
    })

-- ---- items

pub record CodesLead (all rest : List (Item Output)) (a b : Told) : Type 0 where
  pub aside : b.aside ≡ a.aside
  pub leads : (e : LogExpr) → TellsActs (in_turn rest).run b.so_far e → TellsActs (in_turn all).run a.so_far e

pub codes_start : (cs : List Code) (a : Told) → CodesLead (map code cs) (map code (drop 0 cs)) a a
codes_start cs a = record { aside = refl; leads = λ e h. h }

pub codes_more : {all : List (Item Output)} (cs : List Code) (i : ℕ) {y y' : Code} {a b c : Told} → i < length cs → y ≡ get_or cs i y → y' ≡ y → CodesLead all (map code (drop i cs)) a b → GoesCode (code y') b c
    → CodesLead all (map code (drop (i + 1) cs)) a c
codes_more {all} cs i {y} {y'} {a} {b} {c} h e g l w =
    let r = part g w in
    let m : CodesLead all (code y ∷ map code (drop (i + 1) cs)) a b = subst (λ z. CodesLead all (map code z) a b) (drop_more cs i y h ∙ ap (λ z. z ∷ drop (i + 1) cs) (sym e)) l in
    record { aside = r.aside ∙ m.aside; leads = λ n t. m.leads n (form.says_followed (code y) (in_turn (map code (drop (i + 1) cs))) b.so_far c.so_far n r.tells t) }

pub codes_end : {all : List (Item Output)} (cs : List Code) (i : ℕ) {a b : Told} → length cs ≤ i → CodesLead all (map code (drop i cs)) a b → GoesCode (in_turn all) a b
codes_end {all} cs i {a} {b} h l =
    let m : CodesLead all [] a b = subst (λ z. CodesLead all (map code z) a b) (drop_all i cs h) l in
    record { aside = m.aside; tells = m.leads b.so_far (form.says_passes b.so_far _ refl) }

-- ---- functions

same_some : {A : Type 0} (o : Option A) (x y : A) → o ≡ Some x → o ≡ Some y → x ≡ y
same_some {A} None x y p q = absurd cc
same_some {A} (Some z) x y p q = cc

pub expression_is : {p : Core} {f : ℕ} {fn : Function} {items : List Code} {a b : Told} → slice_get p.functions f ≡ Some fn → items ≡ fn.items → a.so_far ≡ tree.Silent → GoesCode (in_turn (map code items)) a b
    → IsExpression p f b.so_far
expression_is {p} {f} {fn} {items} {a} {b} q i s w = record {
  says = λ limits of n fn' q' talk vs base st o. form.body_says fn' b.so_far (tells fn' (same_some (slice_get p.functions f) fn fn' q q')) _ talk vs base st o;
}
  where
    tells : (fn' : Function) → fn ≡ fn' → TellsActs (in_turn (map code fn'.items)).run tree.Silent b.so_far
    tells fn' e =
        subst (λ z. TellsActs (in_turn (map code z)).run tree.Silent b.so_far) (i ∙ ap (λ (g : Function). g.items) e)
        (subst (λ z. TellsActs (in_turn (map code items)).run z b.so_far) s w.tells)

pub expression_nowhere : {p : Core} {f : ℕ} {e : LogExpr} → slice_get p.functions f ≡ None → IsExpression p f e
expression_nowhere {p} {f} {e} q = record { says = λ limits of n fn q' talk vs base st o. absurd (none_some (slice_get p.functions f) fn q q') }
  where
    none_some : (o : Option Function) (fn : Function) → o ≡ None → o ≡ Some fn → ⊥
    none_some None fn p q = cc
    none_some (Some g) fn p q = cc
