-- What is noted of an expression has the part that the expression is worth: one induction over all trees.
use Rattle.std.proofs.Common.{◌≡◌, ℕ, List, [], ◌∷◌, Option, Some, None, refl, sym, ap, ◌∙◌}
use Rattle.std.proofs.Math.Path.{fun_ext}
use Rattle.std.specs.Prelude.{map, option_map}
use Rattle.c_language.specs.declared.expr.ArrayWord.{ArrayWord}
use Rattle.c_language.specs.declared.expr.BinaryOperator.{BinaryOperator}
use Rattle.c_language.specs.declared.expr.BinaryOperator.TheVariants as o
use Rattle.c_language.specs.declared.expr.Declarator.{Declarator}
use Rattle.c_language.specs.declared.expr.Declarator.TheOpen as open_
use Rattle.c_language.specs.declared.expr.Enumerator.{Enumerator}
use Rattle.c_language.specs.declared.expr.Expr.{Expr}
use Rattle.c_language.specs.declared.expr.Field.{Field}
use Rattle.c_language.specs.declared.expr.MemberDeclaration.{MemberDeclaration}
use Rattle.c_language.specs.declared.expr.Parameter.{Parameter}
use Rattle.c_language.specs.declared.expr.Specifier.{Specifier}
use Rattle.c_language.specs.declared.expr.TypeName.{TypeName}
use Rattle.c_language.specs.declared.expr.UnaryOperator.{UnaryOperator}
use Rattle.c_language.specs.declared.expr.UnaryOperator.TheVariants as u
use Rattle.c_language.specs.Folds.{DeclaratorLayer, FieldLayer, SpecifierLayer, MemberDeclarationLayer, ParameterLayer}
use Rattle.c_language.specs.Folds.{TypeNameLayer}
use Rattle.c_language.proofs.Induction.{Each, Maybe, Steps, of_expr, of_type_name, of_declarator, of_specifier}
use Rattle.c_language.proofs.Induction.{of_parameter, of_field, of_enumerator, of_member_declaration}
use Rattle.c_language.specs.Scopes.{Name, Scope}
use Rattle.c_language.specs.Declares.{Says, Counting, DeclaratorSays, FieldSays, NamedSays, Laying, Saying, TypeSays}
use Rattle.c_language.specs.Declares.{declarator_step, field_step}
use Rattle.c_language.specs.Declares.{specifier_step, member_step, parameter_step, type_name_step}
use Rattle.c_language.specs.Declares.{to_array, qualifiers_among, counted_by, enumerates_by, enumerates_typed}
use Rattle.c_language.specs.Declares.{bits_declared, bits_wide}
use Rattle.c_means.specs.Parts.{Part}
use Rattle.c_means.specs.Expressions.{binary, call, unary, subscript, member, arrow, postfix, size_of_expression}
use Rattle.c_means.specs.Expressions.{size_of_type, cast, choice, assignment, comma}
use Rattle.c_means.specs.Trees.{ExprMeans, said, part, part_step, declarator_said, specifier_said}
use Rattle.c_means.specs.Trees.{field_said, enumerator_said, member_said, parameter_said, type_name_said}
use Rattle.c_means.specs.Trees as means_trees
use Rattle.c_means.proofs.Equations as meaning
use Rattle.c_means.specs.Notes.{Noted, ExprNoted, typed_as, through, Through, noted, noted_step, declarator_noted}
use Rattle.c_means.specs.Notes.{specifier_noted, field_noted, enumerator_noted, member_noted, parameter_noted}
use Rattle.c_means.specs.Notes.{type_name_noted, unary_noted, binary_noted}
use Rattle.c_means.proofs.NoteEquations as notes

abbrev SameExpr : Expr → Type 0
SameExpr e = (s : Scope) → (noted e s).part ≡ part e s

-- ---- lists and what may be absent

each_same : {A B : Type 0} (f g : A → B) (xs : List A) → Each (λ x. f x ≡ g x) xs → map f xs ≡ map g xs
each_same f g [] h = refl
each_same f g (x ∷ xs) h = ap (λ y. y ∷ map f xs) h.0 ∙ ap (λ ys. g x ∷ ys) (each_same f g xs h.1)

maybe_same :
    {A B : Type 0} (f g : A → B) (x : Option A) → Maybe (λ x. f x ≡ g x) x → option_map f x ≡ option_map g x
maybe_same f g None h = refl
maybe_same f g (Some x) h = ap Some h

-- ---- forms whose cases are told apart

unary_part : (at : ℕ) (op : UnaryOperator) (x : Noted) → (unary_noted at op x).part ≡ unary at op x.part
unary_part at u.Address x = refl
unary_part at u.Indirection x = refl
unary_part at u.Plus x = refl
unary_part at u.Minus x = refl
unary_part at u.Complement x = refl
unary_part at u.Not x = refl
unary_part at u.Increment x = refl
unary_part at u.Decrement x = refl

binary_part :
    (at : ℕ) (op : BinaryOperator) (x y : Noted) → (binary_noted at op x y).part ≡ binary at op x.part y.part
binary_part at o.Multiply x y = refl
binary_part at o.Divide x y = refl
binary_part at o.Remainder x y = refl
binary_part at o.Add x y = refl
binary_part at o.Subtract x y = refl
binary_part at o.ShiftLeft x y = refl
binary_part at o.ShiftRight x y = refl
binary_part at o.Less x y = refl
binary_part at o.Greater x y = refl
binary_part at o.LessEqual x y = refl
binary_part at o.GreaterEqual x y = refl
binary_part at o.Equal x y = refl
binary_part at o.NotEqual x y = refl
binary_part at o.BitAnd x y = refl
binary_part at o.BitXor x y = refl
binary_part at o.BitOr x y = refl
binary_part at o.LogicalAnd x y = refl
binary_part at o.LogicalOr x y = refl

-- ---- expressions

-- what one step means and says is what the tree does
across : (e : Expr) (f : ExprNoted) (g : ExprMeans) → noted e ≡ f → part e ≡ g → ((s : Scope) → (f s).part ≡ g s) →
    SameExpr e
across e f g m t h s = ap (λ f. (f s).part) m ∙ h s ∙ sym (ap (λ f. f s) t)

-- a form over two parts, of which the second is the one that stands behind it
over : (x y : Expr) (F : Part → Part → Part) → SameExpr x → SameExpr y → (s : Scope) →
    F (noted x s).part (noted y (noted x s).part.typed.after).part ≡ F (part x s) (part y (part x s).typed.after)
over x y F hx hy s = ap (λ z. F z (noted y z.typed.after).part) (hx s) ∙ ap (F (part x s)) (hy (part x s).typed.after)

over_three : (x y z : Expr) (F : Part → Part → Part → Part) → SameExpr x → SameExpr y → SameExpr z →
    (s : Scope) →
    let p = (noted x s).part in
    let q = (noted y p.typed.after).part in
    F p q (noted z q.typed.after).part
    ≡ F (part x s) (part y (part x s).typed.after) (part z (part y (part x s).typed.after).typed.after)
over_three x y z F hx hy hz s =
    ap (λ p. let q = (noted y p.typed.after).part in F p q (noted z q.typed.after).part) (hx s)
    ∙ over y z (F (part x s)) hy hz (part x s).typed.after

-- arguments
abbrev seen : Through → means_trees.Through
seen t = record { all = t.parts; after = t.after }

abbrev before : Part → means_trees.Through → means_trees.Through
before x more = record { all = x ∷ more.all; after = more.after }

seen_same : (es : List Expr) → Each SameExpr es → (s : Scope) →
    seen (through (map noted es) s) ≡ means_trees.through (map part es) s
seen_same [] h s = refl
seen_same (e ∷ es) h s =
    ap (λ z. before z (seen (through (map noted es) z.typed.after))) (h.0 s)
    ∙ ap (before (part e s)) (seen_same es h.1 (part e s).typed.after)

call_same : (at : ℕ) (f : Expr) (es : List Expr) → SameExpr f → Each SameExpr es → (s : Scope) →
    (noted_step (open_.Call at (noted f) (map noted es)) s).part ≡ part_step (open_.Call at (part f) (map part es)) s
call_same at f es hf hs s =
    ap (λ z. called z (seen (through (map noted es) z.typed.after))) (hf s)
    ∙ ap (called (part f s)) (seen_same es hs (part f s).typed.after)
  where
    called : Part → means_trees.Through → Part
    called z xs = call at z xs.all xs.after

cast_same : (at : ℕ) (t : TypeName) (e : Expr) → type_name_noted t ≡ type_name_said t → SameExpr e → (s : Scope) →
    (noted_step (open_.Cast at (type_name_noted t) (noted e)) s).part
    ≡ part_step (open_.Cast at (type_name_said t) (part e)) s
cast_same at t e ht he s =
    ap (λ f. let x = f s in cast at x.type x.faults (noted e x.after).part) ht
    ∙ (let x = type_name_said t s in ap (cast at x.type x.faults) (he x.after))

-- ---- the steps of what stands among expressions

abbrev declarators : DeclaratorLayer (Says ExprNoted) → DeclaratorSays
declarators = declarator_step {E = ExprNoted} typed_as

abbrev fields : FieldLayer (Says ExprNoted) → FieldSays
fields = field_step {E = ExprNoted} typed_as

abbrev specifiers : SpecifierLayer (Says ExprNoted) → Saying
specifiers = specifier_step {E = ExprNoted}

abbrev members : MemberDeclarationLayer (Says ExprNoted) → Laying
members = member_step {E = ExprNoted}

abbrev parameters : ParameterLayer (Says ExprNoted) → NamedSays
parameters = parameter_step {E = ExprNoted}

abbrev type_names : TypeNameLayer (Says ExprNoted) → TypeSays
type_names = type_name_step {E = ExprNoted}

-- ---- what stands among expressions

array_same : (at : ℕ) (f g : DeclaratorSays) (words : List ArrayWord) (e : Option Expr) → f ≡ g → Maybe SameExpr e →
    (s : Scope) →
    declarators (open_.Array at f words (option_map noted e)) s
    ≡ declarator_step {E = ExprMeans} said (open_.Array at g words (option_map part e)) s
array_same at f g words None hf h s =
    ap (λ f. declarators (open_.Array at f words None) s) hf
array_same at f g words (Some e) hf h s =
    ap (λ f. declarators (open_.Array at f words (Some (noted e))) s) hf
    ∙ ap (λ z. to_array (qualifiers_among words) (g s) (counted_by z.typed)) (h (g s).after)

bits_same : (f : Option Declarator) (e : Expr) → option_map declarator_noted f ≡ option_map declarator_said f →
    SameExpr e → (x : _) →
    (let y = bits_declared (option_map declarator_noted f) x in bits_wide (noted e y.scope).part.typed y)
    ≡ (let y = bits_declared (option_map declarator_said f) x in bits_wide (part e y.scope).typed y)
bits_same f e hf he x =
    ap (λ f. let y = bits_declared f x in bits_wide (noted e y.scope).part.typed y) hf
    ∙ (let y = bits_declared (option_map declarator_said f) x in ap (λ w. bits_wide w.typed y) (he y.scope))

enumerates_same : (at : ℕ) (name : Name) (e : Option Expr) → Maybe SameExpr e → (x : Counting) →
    enumerates_by {E = ExprNoted} typed_as at name (option_map noted e) x
    ≡ enumerates_by {E = ExprMeans} said at name (option_map part e) x
enumerates_same at name None h x = refl
enumerates_same at name (Some e) h x = ap (λ z. enumerates_typed at name z.typed x.faults) (h x.scope)

-- ---- the induction

abbrev SameDeclarator : Declarator → Type 0
SameDeclarator x = declarator_noted x ≡ declarator_said x

abbrev SameField : Field → Type 0
SameField x = field_noted x ≡ field_said x

abbrev SameSpecifier : Specifier → Type 0
SameSpecifier x = specifier_noted x ≡ specifier_said x

abbrev SameEnumerator : Enumerator → Type 0
SameEnumerator x = enumerator_noted x ≡ enumerator_said x

abbrev SameMember : MemberDeclaration → Type 0
SameMember x = member_noted x ≡ member_said x

abbrev SameParameter : Parameter → Type 0
SameParameter x = parameter_noted x ≡ parameter_said x

abbrev SameTypeName : TypeName → Type 0
SameTypeName x = type_name_noted x ≡ type_name_said x

steps : Steps SameDeclarator SameExpr SameField SameSpecifier SameEnumerator SameMember SameParameter SameTypeName
steps = record {
  on_integer = λ at c. across _ _ _ (notes.notes-Integer at c) (meaning.means-Integer at c) (λ s. refl);
  on_floating = λ at. across _ _ _ (notes.notes-Floating at) (meaning.means-Floating at) (λ s. refl);
  on_character = λ at v. across _ _ _ (notes.notes-Character at v) (meaning.means-Character at v) (λ s. refl);
  on_string_literal =
      λ at ps. across _ _ _ (notes.notes-StringLiteral at ps) (meaning.means-StringLiteral at ps) (λ s. refl);
  on_function_name = λ at. across _ _ _ (notes.notes-FunctionName at) (meaning.means-FunctionName at) (λ s. refl);
  on_identifier = λ at n. across _ _ _ (notes.notes-Identifier at n) (meaning.means-Identifier at n)
      (λ s. refl);
  on_parenthesized = λ at x hx. across _ _ _ (notes.notes-Parenthesized at x) (meaning.means-Parenthesized at x) hx;
  on_subscript = λ at x y hx hy. across _ _ _ (notes.notes-Subscript at x y) (meaning.means-Subscript at x y)
      (over x y (subscript at) hx hy);
  on_call =
      λ at f es hf hs. across _ _ _ (notes.notes-Call at f es) (meaning.means-Call at f es) (call_same at f es hf hs);
  on_member = λ at x n hx. across _ _ _ (notes.notes-Member at x n) (meaning.means-Member at x n)
      (λ s. ap (member at n) (hx s));
  on_arrow = λ at x n hx. across _ _ _ (notes.notes-Arrow at x n) (meaning.means-Arrow at x n)
      (λ s. ap (arrow at n) (hx s));
  on_postfix = λ at op x hx. across _ _ _ (notes.notes-Postfix at op x) (meaning.means-Postfix at op x)
      (λ s. ap (postfix at op) (hx s));
  on_unary = λ at op x hx. across _ _ _ (notes.notes-Unary at op x) (meaning.means-Unary at op x)
      (λ s. unary_part at op (noted x s) ∙ ap (unary at op) (hx s));
  on_sizeof_expr = λ at x hx. across _ _ _ (notes.notes-SizeofExpr at x) (meaning.means-SizeofExpr at x)
      (λ s. ap (size_of_expression at) (hx s));
  on_sizeof_type = λ at t ht. across _ _ _ (notes.notes-SizeofType at t) (meaning.means-SizeofType at t)
      (λ s. ap (λ f. let x = f s in size_of_type at x.type x.faults x.after) ht);
  on_cast = λ at t x ht hx. across _ _ _ (notes.notes-Cast at t x) (meaning.means-Cast at t x)
      (cast_same at t x ht hx);
  on_binary = λ at op x y hx hy. across _ _ _ (notes.notes-Binary at op x y) (meaning.means-Binary at op x y)
      (λ s. binary_part at op _ _ ∙ over x y (binary at op) hx hy s);
  on_conditional =
      λ at c x y hc hx hy. across _ _ _ (notes.notes-Conditional at c x y) (meaning.means-Conditional at c x y)
      (over_three c x y (choice at) hc hx hy);
  on_assign = λ at op x y hx hy. across _ _ _ (notes.notes-Assign at op x y) (meaning.means-Assign at op x y)
      (over x y (assignment at op) hx hy);
  on_comma = λ at x y hx hy. across _ _ _ (notes.notes-Comma at x y) (meaning.means-Comma at x y)
      (over x y (comma at) hx hy);
  on_specifier_storage = λ at c. notes.notes-Storage at c ∙ fun_ext (λ x. refl) ∙ sym (meaning.means-Storage at c);
  on_specifier_qualifier =
      λ at q. notes.notes-Qualifier at q ∙ fun_ext (λ x. refl) ∙ sym (meaning.means-Qualifier at q);
  on_specifier_inline = λ at. notes.notes-Inline at ∙ fun_ext (λ x. refl) ∙ sym (meaning.means-Inline at);
  on_specifier_word = λ at w. notes.notes-Word at w ∙ fun_ext (λ x. refl) ∙ sym (meaning.means-Word at w);
  on_specifier_typedef = λ at n. notes.notes-Typedef at n ∙ fun_ext (λ x. refl) ∙ sym (meaning.means-Typedef at n);
  on_specifier_tag = λ at k t. notes.notes-Tag at k t ∙ fun_ext (λ x. refl) ∙ sym (meaning.means-Tag at k t);
  on_specifier_aggregate = λ at k t ms h. notes.notes-Aggregate at k t ms
      ∙ fun_ext (λ x. ap (λ ys. specifiers (open_.Aggregate at k t ys) x) (each_same member_noted member_said ms h))
      ∙ sym (meaning.means-Aggregate at k t ms);
  on_specifier_enum_tag = λ at t. notes.notes-EnumTag at t ∙ fun_ext (λ x. refl) ∙ sym (meaning.means-EnumTag at t);
  on_specifier_enumeration = λ at t es b h. notes.notes-Enumeration at t es b
      ∙ fun_ext (λ x. ap (λ ys. specifiers (open_.Enumeration at t ys b) x)
      (each_same enumerator_noted enumerator_said es h))
      ∙ sym (meaning.means-Enumeration at t es b);
  on_field_plain = λ d h. notes.notes-Plain d
      ∙ fun_ext (λ t. fun_ext (λ x. ap (λ f. fields (open_.Plain f) t x) h))
      ∙ sym (meaning.means-Plain d);
  on_field_bits = λ at d e hd he. notes.notes-Bits at d e
      ∙ fun_ext (λ t. fun_ext (bits_same d e (maybe_same declarator_noted declarator_said d hd) he))
      ∙ sym (meaning.means-Bits at d e);
  on_declarator_name = λ at n. notes.notes-Name at n ∙ fun_ext (λ s. refl) ∙ sym (meaning.means-Name at n);
  on_declarator_omitted = notes.notes-Omitted ∙ fun_ext (λ s. refl) ∙ sym meaning.means-Omitted;
  on_declarator_grouped =
      λ at d h. notes.notes-Grouped at d ∙ fun_ext (λ s. ap (λ f. f s) h) ∙ sym (meaning.means-Grouped at d);
  on_declarator_pointer = λ at qs d h. notes.notes-Pointer at qs d
      ∙ fun_ext (λ s. ap (λ f. declarators (open_.Pointer at qs f) s) h)
      ∙ sym (meaning.means-Pointer at qs d);
  on_declarator_array = λ at d ws e hd he. notes.notes-Array at d ws e
      ∙ fun_ext (array_same at (declarator_noted d) (declarator_said d) ws e hd he)
      ∙ sym (meaning.means-Array at d ws e);
  on_declarator_function = λ at d ps b hd hs. notes.notes-Function at d ps b
      ∙ fun_ext (λ s. ap (λ f. declarators (open_.Function at f (map parameter_noted ps) b) s) hd
      ∙ ap (λ qs. declarators (open_.Function at (declarator_said d) qs b) s)
      (each_same parameter_noted parameter_said ps hs))
      ∙ sym (meaning.means-Function at d ps b);
  on_type_name = λ t hs hd. notes.notes-TypeName t
      ∙ fun_ext (λ s. ap (λ ss. type_names (record { specifiers = ss; declarator = declarator_noted t.declarator }) s)
      (each_same specifier_noted specifier_said t.specifiers hs)
      ∙ ap (λ f. type_names (record { specifiers = map specifier_said t.specifiers; declarator = f }) s) hd)
      ∙ sym (meaning.means-TypeName t);
  on_member_declaration = λ m hs hf. notes.notes-MemberDeclaration m
      ∙ fun_ext (λ x. ap (λ ss. members (record { specifiers = ss; fields = map field_noted m.fields }) x)
      (each_same specifier_noted specifier_said m.specifiers hs)
      ∙ ap (λ fs. members (record { specifiers = map specifier_said m.specifiers; fields = fs }) x)
      (each_same field_noted field_said m.fields hf))
      ∙ sym (meaning.means-MemberDeclaration m);
  on_enumerator = λ e h. notes.notes-Enumerator e
      ∙ fun_ext (enumerates_same e.at e.name e.value h)
      ∙ sym (meaning.means-Enumerator e);
  on_parameter = λ p hs hd. notes.notes-Parameter p
      ∙ fun_ext (λ s. ap (λ ss. parameters (record { specifiers = ss; declarator = declarator_noted p.declarator }) s)
      (each_same specifier_noted specifier_said p.specifiers hs)
      ∙ ap (λ f. parameters (record { specifiers = map specifier_said p.specifiers; declarator = f }) s) hd)
      ∙ sym (meaning.means-Parameter p);
}

-- the part that is noted of an expression is what the expression is worth
pub part_noted : (e : Expr) (s : Scope) → (noted e s).part ≡ part e s
part_noted e =
    of_expr SameDeclarator SameExpr SameField SameSpecifier SameEnumerator SameMember SameParameter SameTypeName
    steps e

pub type_name_same : (t : TypeName) → type_name_noted t ≡ type_name_said t
type_name_same t =
    of_type_name SameDeclarator SameExpr SameField SameSpecifier SameEnumerator SameMember SameParameter SameTypeName
    steps t

pub declarator_same : (d : Declarator) → declarator_noted d ≡ declarator_said d
declarator_same d =
    of_declarator SameDeclarator SameExpr SameField SameSpecifier SameEnumerator SameMember SameParameter SameTypeName
    steps d

pub specifier_same : (x : Specifier) → specifier_noted x ≡ specifier_said x
specifier_same x =
    of_specifier SameDeclarator SameExpr SameField SameSpecifier SameEnumerator SameMember SameParameter SameTypeName
    steps x

pub parameter_same : (p : Parameter) → parameter_noted p ≡ parameter_said p
parameter_same p =
    of_parameter SameDeclarator SameExpr SameField SameSpecifier SameEnumerator SameMember SameParameter SameTypeName
    steps p

pub field_same : (x : Field) → field_noted x ≡ field_said x
field_same x =
    of_field SameDeclarator SameExpr SameField SameSpecifier SameEnumerator SameMember SameParameter SameTypeName
    steps x

pub enumerator_same : (x : Enumerator) → enumerator_noted x ≡ enumerator_said x
enumerator_same x =
    of_enumerator SameDeclarator SameExpr SameField SameSpecifier SameEnumerator SameMember SameParameter SameTypeName
    steps x

pub member_same : (x : MemberDeclaration) → member_noted x ≡ member_said x
member_same x =
    of_member_declaration SameDeclarator SameExpr SameField SameSpecifier SameEnumerator SameMember SameParameter
    SameTypeName steps x
