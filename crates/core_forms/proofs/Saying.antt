-- What the code says of a form, over what it holds of the parts, is what the definition says over the parts.
use Rattle.std.proofs.Common.{◌≡◌, ℕ, List, Option, Bool, refl, sym, ap, ap₂, ◌∙◌}
use Rattle.std.specs.Prelude.{◌++◌}
use Rattle.c_language.specs.declared.token.IntegerConstant.{IntegerConstant}
use Rattle.c_language.specs.declared.expr.BinaryOperator.{BinaryOperator}
use Rattle.c_language.specs.declared.expr.UnaryOperator.{UnaryOperator}
use Rattle.c_language.specs.declared.tables.Tables.{Tables}
use Rattle.c_language.specs.declared.shown.Shown.{Shown}
use Rattle.c_language.specs.declared.shown.Told.{Told}
use Rattle.c_language.specs.declared.scope.Fault.{Fault}
use Rattle.c_language.specs.Scopes.{Name}
use Rattle.c_language.specs.Typing.{Typed, told_of, used_told}
use Rattle.c_language.specs.Typing as says

-- a part as a value
abbrev pub value_told : Typed → Told
value_told x = used_told x.after.tables (told_of x)

pub said_unary : (op : UnaryOperator) (at : ℕ) (tables : Tables) (x told : Told) (p : Typed) → tables ≡ p.after.tables
    → x ≡ says.operand_told p.after.tables op (told_of p)
    → told ≡ says.node_over at x.shown (says.unary_judged tables op) x.faults → told ≡ told_of (says.unary at op p)
said_unary op at tables x told p t h s =
    s ∙ ap₂ (λ a (b : Told). says.node_over at b.shown (says.unary_judged a op) b.faults) t h

pub said_postfix : (at : ℕ) (tables : Tables) (x told : Told) (p : Typed) → tables ≡ p.after.tables
    → x ≡ told_of p
    → told ≡ says.node_over at x.shown (says.stepped tables) x.faults → told ≡ told_of (says.postfix at p)
said_postfix at tables x told p t h s =
    s ∙ ap₂ (λ a (b : Told). says.node_over at b.shown (says.stepped a) b.faults) t h

pub said_size : (at : ℕ) (tables : Tables) (x told : Told) (p : Typed) → tables ≡ p.after.tables → x ≡ told_of p
    → told ≡ says.node_over at x.shown (says.size_shown tables) x.faults
    → told ≡ told_of (says.size_of_expression at p)
said_size at tables x told p t h s =
    s ∙ ap₂ (λ a (b : Told). says.node_over at b.shown (says.size_shown a) b.faults) t h

pub said_member : (at : ℕ) (name : Name) (tables : Tables) (x told : Told) (p : Typed) → tables ≡ p.after.tables
    → x ≡ told_of p
    → told ≡ says.node_over at x.shown (says.member_shown_of tables name) x.faults
    → told ≡ told_of (says.member at name p)
said_member at name tables x told p t h s =
    s ∙ ap₂ (λ a (b : Told). says.node_over at b.shown (says.member_shown_of a name) b.faults) t h

pub said_arrow : (at : ℕ) (name : Name) (tables : Tables) (x told : Told) (p : Typed) → tables ≡ p.after.tables
    → x ≡ value_told p
    → told ≡ says.node_over at x.shown (says.pointed_member tables name) x.faults
    → told ≡ told_of (says.arrow at name p)
said_arrow at name tables x told p t h s =
    s ∙ ap₂ (λ a (b : Told). says.node_over at b.shown (says.pointed_member a name) b.faults) t h

-- two parts, of which the second stands behind the first
over_same : (at : ℕ) (f : Tables → Shown → Shown → says.Judgement) (tables : Tables) (x y told : Told) (a b : Told)
    (t : Tables) → tables ≡ t → x ≡ a → y ≡ b
    → told ≡ says.node_over_two at x.shown y.shown (f tables) (x.faults ++ y.faults)
    → told ≡ says.node_over_two at a.shown b.shown (f t) (a.faults ++ b.faults)
over_same at f tables x y told a b t e h i s =
    s ∙ ap (λ u. says.node_over_two at x.shown y.shown (f u) (x.faults ++ y.faults)) e
    ∙ ap₂ (λ (v w : Told). says.node_over_two at v.shown w.shown (f t) (v.faults ++ w.faults)) h i

pub said_binary : (op : BinaryOperator) (at : ℕ) (tables : Tables) (x y told : Told) (p q : Typed)
    → tables ≡ q.after.tables → x ≡ value_told p → y ≡ value_told q
    → told ≡ says.node_over_two at x.shown y.shown (says.operated tables op) (x.faults ++ y.faults)
    → told ≡ told_of (says.binary at op p q)
said_binary op at tables x y told p q = over_same at (λ t. says.operated t op) tables x y told (value_told p)
    (value_told q) q.after.tables

pub said_subscript : (at : ℕ) (tables : Tables) (x y told : Told) (p q : Typed)
    → tables ≡ q.after.tables → x ≡ value_told p → y ≡ value_told q
    → told ≡ says.node_over_two at x.shown y.shown (says.element tables) (x.faults ++ y.faults)
    → told ≡ told_of (says.subscript at p q)
said_subscript at tables x y told p q = over_same at says.element tables x y told (value_told p) (value_told q)
    q.after.tables

pub said_assignment : (op : Option BinaryOperator) (at : ℕ) (tables : Tables) (x y told : Told) (p q : Typed)
    → tables ≡ q.after.tables → x ≡ told_of p → y ≡ value_told q
    → told ≡ says.node_over_two at x.shown y.shown (says.assignment_judged tables op) (x.faults ++ y.faults)
    → told ≡ told_of (says.assignment at op p q)
said_assignment op at tables x y told p q = over_same at (λ t. says.assignment_judged t op) tables x y told
    (told_of p) (value_told q) q.after.tables

pub said_comma : (at : ℕ) (x y told : Told) (p q : Typed) → x ≡ told_of p → y ≡ value_told q
    → told ≡ says.node_over_two at x.shown y.shown (λ a b. says.second_judged b) (x.faults ++ y.faults)
    → told ≡ told_of (says.comma at p q)
said_comma at x y told p q = over_same at (λ t a b. says.second_judged b) q.after.tables x y told (told_of p)
    (value_told q) q.after.tables refl

pub said_choice : (at : ℕ) (c x y told : Told) (r p q : Typed) → c ≡ value_told r → x ≡ value_told p
    → y ≡ value_told q
    → told ≡ says.choice_over at c.shown x.shown y.shown (c.faults ++ x.faults ++ y.faults)
    → told ≡ told_of (says.choice at r p q)
said_choice at c x y told r p q g h i s =
    s ∙ ap (λ (v : Told). says.choice_over at v.shown x.shown y.shown (v.faults ++ x.faults ++ y.faults)) g
    ∙ ap₂ (λ (v w : Told). says.choice_over at (value_told r).shown v.shown w.shown
    ((value_told r).faults ++ v.faults ++ w.faults)) h i

pub said_cast : (at : ℕ) (t : says.NamedType) (faults : List Fault) (x told : Told) (p : Typed) → x ≡ value_told p
    → told ≡ says.cast_over at t x.shown (faults ++ x.faults) → told ≡ told_of (says.cast at t faults p)
said_cast at t faults x told p h s = s ∙ ap (λ (v : Told). says.cast_over at t v.shown (faults ++ v.faults)) h
