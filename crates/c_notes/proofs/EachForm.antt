-- What is noted of each kind of expression, from what the code has found of its parts: one lemma a constructor.
use Rattle.std.proofs.Common.{◌≡◌, ℕ, ℤ, List, [], ◌++◌, Option, Some, None, Bool, true, false, refl, sym, ap, subst, ◌∙◌}
use Rattle.c_language.specs.declared.token.IntegerConstant.{IntegerConstant}
use Rattle.c_language.specs.declared.expr.UnaryOperator.{UnaryOperator}
use Rattle.c_language.specs.declared.expr.UnaryOperator.TheVariants as u_
use Rattle.c_language.specs.declared.expr.PostfixOperator.{PostfixOperator}
use Rattle.c_language.specs.declared.expr.PostfixOperator.TheVariants as postfix_
use Rattle.c_language.specs.declared.expr.BinaryOperator.{BinaryOperator}
use Rattle.c_language.specs.declared.expr.BinaryOperator.TheVariants as o_
use Rattle.c_language.specs.declared.expr.Expr.{Expr}
use Rattle.c_language.specs.declared.expr.TypeName.{TypeName}
use Rattle.c_language.specs.declared.expr.Expr.TheVariants as expr
use Rattle.c_language.specs.declared.scope.Entry.{Entry}
use Rattle.c_language.specs.declared.scope.Means.{Means}
use Rattle.c_language.specs.declared.scope.Means.TheVariants as means_
use Rattle.c_language.specs.declared.shown.Told.{Told}
use Rattle.c_language.specs.declared.shown.Shown.{Shown}
use Rattle.c_language.specs.Scopes.{Name, Scope, look_up}
use Rattle.c_language.specs.Typing as t
use Rattle.c_language.specs.Typing.{Typed, NamedType, typed_in, used, used_told, over_two}
use Rattle.c_language.specs.Declares.{TypeSaid}
use Rattle.c_language.specs.Trees.{type_name_says}
use Rattle.c_declares.specs.declared.type_names.TypeSaid.{TypeSaid as Said}
use Rattle.c_declares.specs.Views.{type_said_in}
use Rattle.c_typing.proofs.Says as says
use Rattle.c_means.specs.Parts.{Level}
use Rattle.c_means.specs.Expressions as m
use Rattle.c_means.proofs.Fusion as means_fusion
use Rattle.c_means.specs.declared.profile.Profile.{Profile}
use Rattle.c_means.specs.Notes as n
use Rattle.c_means.specs.Notes.{Noted, noted, type_name_noted}
use Rattle.c_means.proofs.NoteEquations as eq
use Rattle.c_means.proofs.RunFusion as notes_fusion
use Rattle.c_notes.specs.declared.notes.ExprNotes.{ExprNotes}
use Rattle.c_notes.specs.declared.notes.NotedExpr.{NotedExpr}
use Rattle.c_notes.specs.Tellings as spec
use Rattle.c_notes.specs.Tellings.{notes_of}
use Rattle.c_notes.specs.Relations.{IsNoted, IsForm}
use Rattle.c_notes.proofs.Parts.{told_both, of_none, of_one, of_two, of_three}

-- ---- what was read through an owner

pub of-child : {p : Profile} {e e' : Expr} (s : Scope) {x : NotedExpr} {s1 : Scope} → IsNoted p e s x s1 → e ≡ e' →
    IsNoted p e' s x s1
of-child {p} s {x} {s1} h is = subst (λ (z : Expr). IsNoted p z s x s1) is h

-- ---- primary expressions

leafed : (x : Told) (z : NotedExpr) (g : Option Shown → ExprNotes) → z ≡ record { told = x; notes = g x.shown } →
    z.notes ≡ g z.told.shown
leafed x z g is = ap (λ (y : NotedExpr). y.notes) is ∙ ap (λ (y : NotedExpr). g y.told.shown) (sym is)

pub on-Integer : {p : Profile} {e : Expr} (at : ℕ) (constant : IntegerConstant) {s : Scope} (x : Told) (z : NotedExpr) →
    e ≡ expr.Integer at constant → x ≡ t.integer_told at constant →
    z ≡ record { told = x; notes = spec.leaf x.shown } → IsNoted p e s z s
on-Integer {p} {e} at constant {s} x z is said found =
    let same = says.on-Integer at constant {s = s} is (ap (λ (y : NotedExpr). y.told) found ∙ said) in
    record {
      typed = same;
      notes = λ l knows. of_none p l e s z s (n.leaf (m.integer_constant at constant s)) spec.leaf refl
          (ap (λ f. f s) (ap noted is ∙ eq.notes-Integer at constant)) same (leafed x z spec.leaf found);
    }

pub on-Floating : {p : Profile} {e : Expr} (at : ℕ) {s : Scope} (x : Told) (z : NotedExpr) →
    e ≡ expr.Floating at → x ≡ t.floating_told at → z ≡ record { told = x; notes = spec.leaf x.shown } →
    IsNoted p e s z s
on-Floating {p} {e} at {s} x z is said found =
    let same = says.on-Floating at {s = s} is (ap (λ (y : NotedExpr). y.told) found ∙ said) in
    record {
      typed = same;
      notes = λ l knows. of_none p l e s z s (n.leaf (m.floating_constant at s)) spec.leaf refl
          (ap (λ f. f s) (ap noted is ∙ eq.notes-Floating at)) same (leafed x z spec.leaf found);
    }

pub on-Character : {p : Profile} {e : Expr} (at : ℕ) (value : ℤ) {s : Scope} (x : Told) (z : NotedExpr) →
    e ≡ expr.Character at value → x ≡ t.character_told at value →
    z ≡ record { told = x; notes = spec.leaf x.shown } → IsNoted p e s z s
on-Character {p} {e} at value {s} x z is said found =
    let same = says.on-Character at value {s = s} is (ap (λ (y : NotedExpr). y.told) found ∙ said) in
    record {
      typed = same;
      notes = λ l knows. of_none p l e s z s (n.leaf (m.character_constant at value s)) spec.leaf refl
          (ap (λ f. f s) (ap noted is ∙ eq.notes-Character at value)) same (leafed x z spec.leaf found);
    }

pub on-StringLiteral : {p : Profile} {e : Expr} (at : ℕ) (pieces read : List (List ℕ)) {s : Scope} (x : Told)
    (z : NotedExpr) → e ≡ expr.StringLiteral at pieces → read ≡ pieces →
    x ≡ t.node at (t.literal_shown s.tables pieces) [] →
    z ≡ record { told = x; notes = spec.literal (m.joined read) x.shown } → IsNoted p e s z s
on-StringLiteral {p} {e} at pieces read {s} x z is same said found =
    let told = says.on-StringLiteral at pieces {s = s} is (ap (λ (y : NotedExpr). y.told) found ∙ said) in
    record {
      typed = told;
      notes = λ l knows. of_none p l e s z s (n.placed_leaf true (m.string_literal at pieces s))
          (spec.literal (m.joined pieces)) refl
          (ap (λ f. f s) (ap noted is ∙ eq.notes-StringLiteral at pieces)) told
          (leafed x z (spec.literal (m.joined read)) found
          ∙ ap (λ (ps : List (List ℕ)). spec.literal (m.joined ps) z.told.shown) same);
    }

pub on-FunctionName : {p : Profile} {e : Expr} (at : ℕ) (s : Scope) (x : Told) (z : NotedExpr) →
    e ≡ expr.FunctionName at → typed_in x s ≡ t.function_name at s.function s →
    z ≡ record { told = x; notes = spec.placed_leaf true x.shown } → IsNoted p e s z s
on-FunctionName {p} {e} at s x z is said found =
    let told = says.on-FunctionName at s z.told is
    (ap (λ (y : NotedExpr). typed_in y.told s) found ∙ said) in
    record {
      typed = told;
      notes = λ l knows. of_none p l e s z s (n.placed_leaf true (m.function_name at s.function s))
          (spec.placed_leaf true) refl
          (ap (λ f. f s) (ap noted is ∙ eq.notes-FunctionName at)) told (leafed x z (spec.placed_leaf true) found);
    }

named_core : (p : Profile) (l : Level) (at : ℕ) (s : Scope) (e : Option Entry) (b : Bool) →
    spec.placed_leaf b (m.identifier at s e).typed.shown ≡ notes_of p l (n.placed_leaf b (m.identifier at s e))
named_core p l at s None b = refl
named_core p l at s (Some e) b = by_means e e.means
  where
    by_means : (e : Entry) (k : Means) →
        spec.placed_leaf b (m.named_as (t.identifier at s (Some e)) e.at k).typed.shown
        ≡ notes_of p l (n.placed_leaf b (m.named_as (t.identifier at s (Some e)) e.at k))
    by_means e (means_.Object c d k) = refl
    by_means e (means_.Function c k) = refl
    by_means e (means_.Constant z) = refl
    by_means e (means_.Typedef c) = refl
    by_means e means_.Faulty = refl

pub on-Identifier : {p : Profile} {e : Expr} (at : ℕ) (name : Name) {s : Scope} (x : Told) (z : NotedExpr) (b : Bool) →
    e ≡ expr.Identifier at name → x ≡ t.named_told at (look_up s name) → b ≡ n.is_fixed_name (look_up s name) →
    z ≡ record { told = x; notes = spec.placed_leaf b x.shown } → IsNoted p e s z s
on-Identifier {p} {e} at name {s} x z b is said fixed found =
    let told = says.on-Identifier at name {s = s} is (ap (λ (y : NotedExpr). y.told) found ∙ said) in
    let entry = look_up s name in
    record {
      typed = told;
      notes = λ l knows. of_none p l e s z s (n.placed_leaf (n.is_fixed_name entry) (m.identifier at s entry))
          (spec.placed_leaf (n.is_fixed_name entry)) (named_core p l at s entry (n.is_fixed_name entry))
          (ap (λ f. f s) (ap noted is ∙ eq.notes-Identifier at name)) told
          (leafed x z (spec.placed_leaf b) found ∙ ap (λ (c : Bool). spec.placed_leaf c z.told.shown) fixed);
    }

pub on-Parenthesized : {p : Profile} {e : Expr} (at : ℕ) (inner : Expr) (s s1 : Scope) (z : NotedExpr) →
    e ≡ expr.Parenthesized at inner → IsNoted p inner s z s1 → IsNoted p e s z s1
on-Parenthesized {p} {e} at inner s s1 z is h = record {
  typed = says.on-Parenthesized at inner s s1 z.told is h.typed;
  notes = λ l knows. h.notes l knows
      ∙ sym (ap (notes_of p l) (ap (λ f. f s) (ap noted is ∙ eq.notes-Parenthesized at inner)));
}

-- ---- one operand

member_core : (p : Profile) (l : Level) (at : ℕ) (name : Name) (x : Noted) →
    spec.member (m.member at name x.part).typed.shown (notes_of p l x)
    ≡ notes_of p l (n.placed_over x.notes.is_place (m.member at name x.part) (n.over x.notes))
member_core p l at name x = by_kind x.part.is_place
  where
    by_kind : (b : Bool) →
        spec.member (m.member_by b (m.offset_of x.part.typed.after.tables (t.type_of x.part.typed) name)
        (t.member at name x.part.typed) x.part).typed.shown (notes_of p l x)
        ≡ notes_of p l (n.placed_over x.notes.is_place
        (m.member_by b (m.offset_of x.part.typed.after.tables (t.type_of x.part.typed) name)
        (t.member at name x.part.typed) x.part) (n.over x.notes))
    by_kind true = refl
    by_kind false = refl

pub on-Member : {p : Profile} {e : Expr} (at : ℕ) (object : Expr) (name : Name) (s s1 : Scope) (x z : NotedExpr) →
    e ≡ expr.Member at object name → IsNoted p object s x s1 →
    IsForm (t.member at name (typed_in x.told s1)) (λ w. spec.member w x.notes) z s1 → IsNoted p e s z s1
on-Member {p} {e} at object name s s1 x z is h found =
    let told = says.on-Member at object name s s1 x.told z.told is h.typed found.typed in
    record {
      typed = told;
      notes = λ l knows. of_one p l e object s s s1 s1 x z
          (λ y. n.placed_over y.notes.is_place (m.member at name y.part) (n.over y.notes)) spec.member
          (member_core p l at name) (ap (λ f. f s) (ap noted is ∙ eq.notes-Member at object name)) h told
          found.notes knows;
    }

pub on-Arrow : {p : Profile} {e : Expr} (at : ℕ) (pointer : Expr) (name : Name) (s s1 : Scope) (x z : NotedExpr) →
    e ≡ expr.Arrow at pointer name → IsNoted p pointer s x s1 →
    IsForm (t.arrow at name (typed_in x.told s1)) (λ w. spec.arrow w x.notes) z s1 → IsNoted p e s z s1
on-Arrow {p} {e} at pointer name s s1 x z is h found =
    let told = says.on-Arrow at pointer name s s1 x.told z.told is h.typed found.typed in
    record {
      typed = told;
      notes = λ l knows. of_one p l e pointer s s s1 s1 x z
          (λ y. n.placed_over y.notes.is_address (m.arrow at name y.part) (n.over y.notes)) spec.arrow
          (λ y. refl) (ap (λ f. f s) (ap noted is ∙ eq.notes-Arrow at pointer name)) h told
          found.notes knows;
    }

postfix_core : (p : Profile) (l : Level) (at : ℕ) (op : PostfixOperator) (x : Noted) →
    spec.one_value (m.postfix at op x.part).typed.shown (notes_of p l x)
    ≡ notes_of p l (n.valued_over false (m.postfix at op x.part) (n.over x.notes))
postfix_core p l at postfix_.Increment x = refl
postfix_core p l at postfix_.Decrement x = refl

pub on-Postfix : {p : Profile} {e : Expr} (at : ℕ) (operator : PostfixOperator) (operand : Expr) (s s1 : Scope)
    (x z : NotedExpr) → e ≡ expr.Postfix at operator operand → IsNoted p operand s x s1 →
    IsForm (t.postfix at (typed_in x.told s1)) (λ w. spec.one_value w x.notes) z s1 → IsNoted p e s z s1
on-Postfix {p} {e} at operator operand s s1 x z is h found =
    let told = says.on-Postfix at operator operand s s1 x.told z.told is h.typed found.typed in
    record {
      typed = told;
      notes = λ l knows. of_one p l e operand s s s1 s1 x z
          (λ y. n.valued_over false (m.postfix at operator y.part) (n.over y.notes)) spec.one_value
          (postfix_core p l at operator)
          (ap (λ f. f s) (ap noted is ∙ eq.notes-Postfix at operator operand)) h told found.notes knows;
    }

unary_core : (p : Profile) (l : Level) (at : ℕ) (op : UnaryOperator) (x : Noted) →
    spec.unary op (n.unary_noted at op x).part.typed.shown (notes_of p l x) ≡ notes_of p l (n.unary_noted at op x)
unary_core p l at u_.Address x = refl
unary_core p l at u_.Indirection x = refl
unary_core p l at u_.Plus x = refl
unary_core p l at u_.Minus x = refl
unary_core p l at u_.Complement x = refl
unary_core p l at u_.Not x = refl
unary_core p l at u_.Increment x = refl
unary_core p l at u_.Decrement x = refl

pub on-Unary : {p : Profile} {e : Expr} (at : ℕ) (operator : UnaryOperator) (operand : Expr) (s s1 : Scope)
    (x z : NotedExpr) → e ≡ expr.Unary at operator operand → IsNoted p operand s x s1 →
    IsForm (t.unary at operator (typed_in x.told s1)) (λ w. spec.unary operator w x.notes) z s1 → IsNoted p e s z s1
on-Unary {p} {e} at operator operand s s1 x z is h found =
    let told = says.on-Unary at operator operand s s1 x.told z.told is h.typed found.typed in
    record {
      typed = told;
      notes = λ l knows. of_one p l e operand s s s1 s1 x z (n.unary_noted at operator) (spec.unary operator)
          (unary_core p l at operator) (ap (λ f. f s) (ap noted is ∙ eq.notes-Unary at operator operand)) h told
          found.notes knows;
    }

pub on-SizeofExpr : {p : Profile} {e : Expr} (at : ℕ) (operand : Expr) (s s1 : Scope) (x z : NotedExpr) →
    e ≡ expr.SizeofExpr at operand → IsNoted p operand s x s1 →
    IsForm (t.size_of_expression at (typed_in x.told s1)) (λ w. spec.unevaluated w x.notes) z s1 → IsNoted p e s z s1
on-SizeofExpr {p} {e} at operand s s1 x z is h found =
    let told = says.on-SizeofExpr at operand s s1 x.told z.told is h.typed found.typed in
    record {
      typed = told;
      notes = λ l knows. of_one p l e operand s s s1 s1 x z
          (λ y. n.valued_over false (m.size_of_expression at y.part) (n.unevaluated y.notes)) spec.unevaluated
          (λ y. refl) (ap (λ f. f s) (ap noted is ∙ eq.notes-SizeofExpr at operand)) h told found.notes knows;
    }

-- ---- two operands

subscript_core : (p : Profile) (l : Level) (at : ℕ) (x y : Noted) →
    spec.subscript (m.subscript at x.part y.part).typed.shown (notes_of p l x) (notes_of p l y)
    ≡ notes_of p l (n.placed_over (n.is_moved x y) (m.subscript at x.part y.part) (n.over_two x.notes y.notes))
subscript_core p l at x y = rw (told_both p l x.notes.calls y.notes.calls) refl

pub on-Subscript : {p : Profile} {e : Expr} (at : ℕ) (array index : Expr) (s s1 s2 : Scope) (x u y z : NotedExpr) →
    e ≡ expr.Subscript at array index → IsNoted p array s x s1 →
    u ≡ record x { told = used_told s1.tables x.told } → IsNoted p index s1 y s2 →
    IsForm (over_two at (typed_in u.told s2) (used (typed_in y.told s2)) (t.element s2.tables))
    (λ w. spec.subscript w u.notes y.notes) z s2 → IsNoted p e s z s2
on-Subscript {p} {e} at array index s s1 s2 x u y z is hx value hy found =
    let told = says.on-Subscript at array index s s1 s2 x.told u.told y.told z.told is hx.typed
    (ap (λ (v : NotedExpr). v.told) value) hy.typed found.typed in
    record {
      typed = told;
      notes = λ l knows. of_two p l e array index s s1 s2 x u y z
          (λ v w. n.placed_over (n.is_moved v w) (m.subscript at v.part w.part) (n.over_two v.notes w.notes))
          spec.subscript (subscript_core p l at)
          (ap (λ f. f s) (ap noted is ∙ eq.notes-Subscript at array index)) hx
          (ap (λ (v : NotedExpr). v.notes) value) hy told found.notes knows;
    }

binary_core : (p : Profile) (l : Level) (at : ℕ) (op : BinaryOperator) (x y : Noted) →
    spec.binary op (n.binary_noted at op x y).part.typed.shown (notes_of p l x) (notes_of p l y)
    ≡ notes_of p l (n.binary_noted at op x y)
binary_core p l at o_.Add x y = rw (told_both p l x.notes.calls y.notes.calls) refl
binary_core p l at o_.Subtract x y = rw (told_both p l x.notes.calls y.notes.calls) refl
binary_core p l at o_.Multiply x y = rw (told_both p l x.notes.calls y.notes.calls) refl
binary_core p l at o_.Divide x y = rw (told_both p l x.notes.calls y.notes.calls) refl
binary_core p l at o_.Remainder x y = rw (told_both p l x.notes.calls y.notes.calls) refl
binary_core p l at o_.ShiftLeft x y = rw (told_both p l x.notes.calls y.notes.calls) refl
binary_core p l at o_.ShiftRight x y = rw (told_both p l x.notes.calls y.notes.calls) refl
binary_core p l at o_.Less x y = rw (told_both p l x.notes.calls y.notes.calls) refl
binary_core p l at o_.Greater x y = rw (told_both p l x.notes.calls y.notes.calls) refl
binary_core p l at o_.LessEqual x y = rw (told_both p l x.notes.calls y.notes.calls) refl
binary_core p l at o_.GreaterEqual x y = rw (told_both p l x.notes.calls y.notes.calls) refl
binary_core p l at o_.Equal x y = rw (told_both p l x.notes.calls y.notes.calls) refl
binary_core p l at o_.NotEqual x y = rw (told_both p l x.notes.calls y.notes.calls) refl
binary_core p l at o_.BitAnd x y = rw (told_both p l x.notes.calls y.notes.calls) refl
binary_core p l at o_.BitXor x y = rw (told_both p l x.notes.calls y.notes.calls) refl
binary_core p l at o_.BitOr x y = rw (told_both p l x.notes.calls y.notes.calls) refl
binary_core p l at o_.LogicalAnd x y = rw (told_both p l x.notes.calls y.notes.calls) refl
binary_core p l at o_.LogicalOr x y = rw (told_both p l x.notes.calls y.notes.calls) refl

pub on-Binary : {p : Profile} {e : Expr} (at : ℕ) (operator : BinaryOperator) (left right : Expr) (s s1 s2 : Scope)
    (x u y z : NotedExpr) → e ≡ expr.Binary at operator left right → IsNoted p left s x s1 →
    u ≡ record x { told = used_told s1.tables x.told } → IsNoted p right s1 y s2 →
    IsForm (over_two at (typed_in u.told s2) (used (typed_in y.told s2)) (t.operated s2.tables operator))
    (λ w. spec.binary operator w u.notes y.notes) z s2 → IsNoted p e s z s2
on-Binary {p} {e} at operator left right s s1 s2 x u y z is hx value hy found =
    let told = says.on-Binary at operator left right s s1 s2 x.told u.told y.told z.told is hx.typed
    (ap (λ (v : NotedExpr). v.told) value) hy.typed found.typed in
    record {
      typed = told;
      notes = λ l knows. of_two p l e left right s s1 s2 x u y z (n.binary_noted at operator) (spec.binary operator)
          (binary_core p l at operator) (ap (λ f. f s) (ap noted is ∙ eq.notes-Binary at operator left right)) hx
          (ap (λ (v : NotedExpr). v.notes) value) hy told found.notes knows;
    }

assign_core : (p : Profile) (l : Level) (at : ℕ) (op : Option BinaryOperator) (x y : Noted) →
    spec.two_values (m.assignment at op x.part y.part).typed.shown (notes_of p l x) (notes_of p l y)
    ≡ notes_of p l (n.valued_over false (m.assignment at op x.part y.part) (n.over_two x.notes y.notes))
assign_core p l at op x y = rw (told_both p l x.notes.calls y.notes.calls) refl

pub on-Assign : {p : Profile} {e : Expr} (at : ℕ) (operator : Option BinaryOperator) (target value : Expr)
    (s s1 s2 : Scope) (x y z : NotedExpr) → e ≡ expr.Assign at operator target value → IsNoted p target s x s1 →
    IsNoted p value s1 y s2 →
    IsForm (t.assignment at operator (typed_in x.told s2) (typed_in y.told s2))
    (λ w. spec.two_values w x.notes y.notes) z s2 → IsNoted p e s z s2
on-Assign {p} {e} at operator target value s s1 s2 x y z is hx hy found =
    let told = says.on-Assign at operator target value s s1 s2 x.told y.told z.told is hx.typed hy.typed found.typed in
    record {
      typed = told;
      notes = λ l knows. of_two p l e target value s s1 s2 x x y z
          (λ v w. n.valued_over false (m.assignment at operator v.part w.part) (n.over_two v.notes w.notes))
          spec.two_values (assign_core p l at operator)
          (ap (λ f. f s) (ap noted is ∙ eq.notes-Assign at operator target value)) hx refl hy told found.notes knows;
    }

comma_core : (p : Profile) (l : Level) (at : ℕ) (x y : Noted) →
    spec.two_values (m.comma at x.part y.part).typed.shown (notes_of p l x) (notes_of p l y)
    ≡ notes_of p l (n.valued_over false (m.comma at x.part y.part) (n.over_two x.notes y.notes))
comma_core p l at x y = rw (told_both p l x.notes.calls y.notes.calls) refl

pub on-Comma : {p : Profile} {e : Expr} (at : ℕ) (left right : Expr) (s s1 s2 : Scope) (x y z : NotedExpr) →
    e ≡ expr.Comma at left right → IsNoted p left s x s1 → IsNoted p right s1 y s2 →
    IsForm (t.comma at (typed_in x.told s2) (typed_in y.told s2)) (λ w. spec.two_values w x.notes y.notes) z s2 →
    IsNoted p e s z s2
on-Comma {p} {e} at left right s s1 s2 x y z is hx hy found =
    let told = says.on-Comma at left right s s1 s2 x.told y.told z.told is hx.typed hy.typed found.typed in
    record {
      typed = told;
      notes = λ l knows. of_two p l e left right s s1 s2 x x y z
          (λ v w. n.valued_over false (m.comma at v.part w.part) (n.over_two v.notes w.notes)) spec.two_values
          (comma_core p l at) (ap (λ f. f s) (ap noted is ∙ eq.notes-Comma at left right)) hx refl hy told
          found.notes knows;
    }

-- ---- type names and choices

-- what is noted of a type name is what it says
named : (k : TypeName) (s s1 : Scope) (x : Said) → type_said_in x s1 ≡ type_name_says k s →
    type_name_noted k s ≡ type_said_in x s1
named k s s1 x said =
    ap (λ f. f s) (notes_fusion.type_name_same k ∙ means_fusion.type_name_same k) ∙ sym said

pub on-SizeofType : {p : Profile} {e : Expr} (at : ℕ) (name : TypeName) (s s1 : Scope) (k : Said) (z : NotedExpr) →
    e ≡ expr.SizeofType at name → type_said_in k s1 ≡ type_name_says name s →
    IsForm (t.size_of_type at k.ctype k.faults s1) (λ w. spec.leaf w) z s1 → IsNoted p e s z s1
on-SizeofType {p} {e} at name s s1 k z is said found =
    let told = says.on-SizeofType at name s s1 k z.told is said found.typed in
    record {
      typed = told;
      notes = λ l knows. of_none p l e s z s1 (n.leaf (m.size_of_type at k.ctype k.faults s1)) spec.leaf refl
          (ap (λ f. f s) (ap noted is ∙ eq.notes-SizeofType at name)
          ∙ ap (λ (y : TypeSaid). n.leaf (m.size_of_type at y.type y.faults y.after)) (named name s s1 k said)) told
          found.notes;
    }

pub on-Cast : {p : Profile} {e : Expr} (at : ℕ) (name : TypeName) (operand : Expr) (s s1 s2 : Scope) (k : Said)
    (x z : NotedExpr) → e ≡ expr.Cast at name operand → type_said_in k s1 ≡ type_name_says name s →
    IsNoted p operand s1 x s2 →
    IsForm (t.cast at k.ctype k.faults (typed_in x.told s2)) (λ w. spec.cast w x.notes) z s2 → IsNoted p e s z s2
on-Cast {p} {e} at name operand s s1 s2 k x z is said h found =
    let told = says.on-Cast at name operand s s1 s2 k x.told z.told is said h.typed found.typed in
    record {
      typed = told;
      notes = λ l knows. of_one p l e operand s s1 s2 s2 x z
          (λ y. n.cast_noted (m.cast at k.ctype k.faults y.part) y) spec.cast (λ y. refl)
          (ap (λ f. f s) (ap noted is ∙ eq.notes-Cast at name operand)
          ∙ ap (λ (y : TypeSaid). let v = noted operand y.after in n.cast_noted (m.cast at y.type y.faults v.part) v)
          (named name s s1 k said)) h told found.notes knows;
    }

choice_core : (p : Profile) (l : Level) (at : ℕ) (c x y : Noted) →
    spec.choice (m.choice at c.part x.part y.part).typed.shown (notes_of p l c) (notes_of p l x) (notes_of p l y)
    ≡ notes_of p l (n.choice_noted at c x y)
choice_core p l at c x y =
    rw (told_both p l (c.notes.calls ++ x.notes.calls) y.notes.calls, told_both p l c.notes.calls x.notes.calls) refl

pub on-Conditional : {p : Profile} {e : Expr} (at : ℕ) (condition positive negative : Expr) (s s1 s2 s3 : Scope)
    (c u x v y z : NotedExpr) → e ≡ expr.Conditional at condition positive negative →
    IsNoted p condition s c s1 → u ≡ record c { told = used_told s1.tables c.told } → IsNoted p positive s1 x s2 →
    v ≡ record x { told = used_told s2.tables x.told } → IsNoted p negative s2 y s3 →
    (z.told ≡ t.choice_over at u.told.shown v.told.shown (used_told s3.tables y.told).shown
    (u.told.faults ++ v.told.faults ++ (used_told s3.tables y.told).faults))
    × (z.notes ≡ spec.choice z.told.shown u.notes v.notes y.notes) → IsNoted p e s z s3
on-Conditional {p} {e} at condition positive negative s s1 s2 s3 c u x v y z is hc first hx second hy found =
    let told = says.on-Conditional at condition positive negative s s1 s2 s3 c.told u.told x.told v.told y.told z.told is
    hc.typed (ap (λ (k : NotedExpr). k.told) first) hx.typed (ap (λ (k : NotedExpr). k.told) second) hy.typed found.0 in
    record {
      typed = told;
      notes = λ l knows. of_three p l e condition positive negative s s1 s2 s3 c u x v y z (n.choice_noted at)
          spec.choice (choice_core p l at)
          (ap (λ f. f s) (ap noted is ∙ eq.notes-Conditional at condition positive negative)) hc
          (ap (λ (k : NotedExpr). k.notes) first) hx (ap (λ (k : NotedExpr). k.notes) second) hy told found.1 knows;
    }
