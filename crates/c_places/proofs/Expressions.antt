-- What an expression does meets no place but those of its room: one induction over all trees.
use Rattle.std.proofs.Common.{◌≡◌, ℕ, List, [], ◌∷◌, sym, subst}
use Rattle.std.specs.Prelude.{map}
use Rattle.c_language.specs.declared.expr.Expr.{Expr}
use Rattle.c_language.proofs.Induction.{Each, Steps, of_expr}
use Rattle.c_language.specs.Scopes.{Scope, look_up}
use Rattle.c_language.specs.Typing.{type_of, constant_of}
use Rattle.c_language.specs.Typing as says
use Rattle.c_means.specs.Parts.{Level}
use Rattle.c_means.specs.Expressions.{offset_of}
use Rattle.c_means.specs.Trees.{ExprMeans, part, through, type_name_said}
use Rattle.c_means.proofs.Equations as meaning
use Rattle.c_means.specs.Notes.{noted}
use Rattle.c_means.proofs.RunFusion.{part_noted}
use Rattle.c_places.proofs.Parts as parts
use Rattle.c_places.proofs.Parts.{Calling, Keeps, EachKeeps}

module _ (w : ℕ → ℕ) (p : ℕ) (l : Level) (c : Calling w p l) where
  abbrev KeepsExpr : Expr → Type 0
  KeepsExpr e = (s : Scope) → Keeps w p l (part e s)

  -- what holds of what a tree means
  holds : (e : Expr) (f : ExprMeans) → part e ≡ f → ((s : Scope) → Keeps w p l (f s)) → KeepsExpr e
  holds e f m h s = subst (λ g. Keeps w p l (g s)) (sym m) (h s)

  arguments : (es : List Expr) → Each KeepsExpr es → (s : Scope) →
      EachKeeps w p l c (through (map part es) s).all
  arguments [] h s = tt
  arguments (e ∷ es) h s = (h.0 s, arguments es h.1 (part e s).typed.after)

  steps : Steps (λ x. Unit {0}) KeepsExpr (λ x. Unit {0}) (λ x. Unit {0}) (λ x. Unit {0}) (λ x. Unit {0})
      (λ x. Unit {0}) (λ x. Unit {0})
  steps = record {
    on_integer = λ at k. holds _ _ (meaning.means-Integer at k) (λ s. parts.constant_keeps w p l c _ _);
    on_floating = λ at. holds _ _ (meaning.means-Floating at) (λ s. parts.unmeant_keeps w p l c _);
    on_character = λ at v. holds _ _ (meaning.means-Character at v) (λ s. parts.constant_keeps w p l c _ _);
    on_string_literal =
        λ at ps. holds _ _ (meaning.means-StringLiteral at ps) (λ s. parts.text_keeps w p l c at ps s);
    on_function_name = λ at. holds _ _ (meaning.means-FunctionName at) (λ s. parts.made_keeps w p l c at _);
    on_identifier =
        λ at n. holds _ _ (meaning.means-Identifier at n) (λ s. parts.identifier_keeps w p l c at s (look_up s n));
    on_parenthesized = λ at x hx. holds _ _ (meaning.means-Parenthesized at x) hx;
    on_subscript = λ at x y hx hy. holds _ _ (meaning.means-Subscript at x y)
        (λ s. parts.subscript_keeps w p l c at _ _ (hx s) (hy (part x s).typed.after));
    on_call = λ at f es hf hs. holds _ _ (meaning.means-Call at f es)
        (λ s. let xs = through (map part es) (part f s).typed.after in
        parts.call_keeps w p l c at (part f s) xs.all xs.after (arguments es hs (part f s).typed.after));
    on_member = λ at x n hx. holds _ _ (meaning.means-Member at x n)
        (λ s. let y = part x s in
        parts.member_keeps w p l c y.is_place (offset_of y.typed.after.tables (type_of y.typed) n)
        (says.member at n y.typed) y (hx s));
    on_arrow = λ at x n hx. holds _ _ (meaning.means-Arrow at x n) (λ s. parts.arrow_keeps w p l c at n _ (hx s));
    on_postfix =
        λ at op x hx. holds _ _ (meaning.means-Postfix at op x) (λ s. parts.postfix_keeps w p l c at op _ (hx s));
    on_unary = λ at op x hx. holds _ _ (meaning.means-Unary at op x) (λ s. parts.unary_keeps w p l c at op _ (hx s));
    on_sizeof_expr =
        λ at x hx. holds _ _ (meaning.means-SizeofExpr at x) (λ s. parts.constant_keeps w p l c _ _);
    on_sizeof_type =
        λ at t ht. holds _ _ (meaning.means-SizeofType at t) (λ s. parts.constant_keeps w p l c _ _);
    on_cast = λ at t x ht hx. holds _ _ (meaning.means-Cast at t x)
        (λ s. parts.cast_as_keeps w p l c _ _ _ (hx (type_name_said t s).after));
    on_binary = λ at op x y hx hy. holds _ _ (meaning.means-Binary at op x y)
        (λ s. parts.binary_keeps w p l c at op _ _ (hx s) (hy (part x s).typed.after));
    on_conditional = λ at e x y he hx hy. holds _ _ (meaning.means-Conditional at e x y)
        (λ s. let z = part x (part e s).typed.after in
        parts.choice_keeps w p l c at _ _ _ _ (he s) (hx (part e s).typed.after) (hy z.typed.after));
    on_assign = λ at op x y hx hy. holds _ _ (meaning.means-Assign at op x y)
        (λ s. parts.assignment_keeps w p l c at op _ _ (hx s) (hy (part x s).typed.after));
    on_comma = λ at x y hx hy. holds _ _ (meaning.means-Comma at x y)
        (λ s. parts.comma_keeps w p l c at _ _ (hx s) (hy (part x s).typed.after));
    on_specifier_storage = λ at k. tt;
    on_specifier_qualifier = λ at q. tt;
    on_specifier_inline = λ at. tt;
    on_specifier_word = λ at x. tt;
    on_specifier_typedef = λ at n. tt;
    on_specifier_tag = λ at k t. tt;
    on_specifier_aggregate = λ at k t ms h. tt;
    on_specifier_enum_tag = λ at t. tt;
    on_specifier_enumeration = λ at t es b h. tt;
    on_field_plain = λ d h. tt;
    on_field_bits = λ at d e hd he. tt;
    on_declarator_name = λ at n. tt;
    on_declarator_omitted = tt;
    on_declarator_grouped = λ at d h. tt;
    on_declarator_pointer = λ at qs d h. tt;
    on_declarator_array = λ at d ws e hd he. tt;
    on_declarator_function = λ at d ps b hd hs. tt;
    on_type_name = λ t hs hd. tt;
    on_member_declaration = λ m hs hf. tt;
    on_enumerator = λ e h. tt;
    on_parameter = λ q hs hd. tt;
  }

  -- from a base on, an expression meets only places of its room, and each once at most
  pub expression_keeps : (e : Expr) (s : Scope) → Keeps w p l (part e s)
  expression_keeps e =
      of_expr (λ x. Unit {0}) KeepsExpr (λ x. Unit {0}) (λ x. Unit {0}) (λ x. Unit {0}) (λ x. Unit {0})
      (λ x. Unit {0}) (λ x. Unit {0}) steps e

  pub noted_keeps : (e : Expr) (s : Scope) → Keeps w p l (noted e s).part
  noted_keeps e s = subst (Keeps w p l) (sym (part_noted e s)) (expression_keeps e s)
