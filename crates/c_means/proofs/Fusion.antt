-- What the meaning of a tree says to the types is what the types say of the tree: one induction over all trees.
use Rattle.std.proofs.Common.{◌≡◌, ℕ, List, [], ◌∷◌, Option, Some, None, Bool, true, false, refl, sym, ap, ◌∙◌}
use Rattle.std.proofs.Math.Path.{fun_ext}
use Rattle.std.specs.Prelude.{map, option_map}
use Rattle.c_language.specs.declared.expr.ArrayWord.{ArrayWord}
use Rattle.c_language.specs.declared.expr.BinaryOperator.{BinaryOperator}
use Rattle.c_language.specs.declared.expr.BinaryOperator.TheVariants as o
use Rattle.c_language.specs.declared.expr.Declarator.{Declarator}
use Rattle.c_language.specs.declared.expr.Declarator.TheOpen as open_
use Rattle.c_language.specs.declared.expr.Enumerator.{Enumerator}
use Rattle.c_language.specs.declared.expr.Expr.{Expr}
use Rattle.c_language.specs.declared.expr.Field.{Field}
use Rattle.c_language.specs.declared.expr.MemberDeclaration.{MemberDeclaration}
use Rattle.c_language.specs.declared.expr.Parameter.{Parameter}
use Rattle.c_language.specs.declared.expr.PostfixOperator.{PostfixOperator}
use Rattle.c_language.specs.declared.expr.PostfixOperator.TheVariants as postfix_
use Rattle.c_language.specs.declared.expr.Specifier.{Specifier}
use Rattle.c_language.specs.declared.expr.TypeName.{TypeName}
use Rattle.c_language.specs.declared.expr.UnaryOperator.{UnaryOperator}
use Rattle.c_language.specs.declared.expr.UnaryOperator.TheVariants as u
use Rattle.c_language.specs.Folds.{DeclaratorLayer, FieldLayer, SpecifierLayer, MemberDeclarationLayer, ParameterLayer}
use Rattle.c_language.specs.Folds.{TypeNameLayer}
use Rattle.c_language.proofs.Induction.{Each, Maybe, Steps, of_expr, of_type_name, of_declarator, of_specifier}
use Rattle.c_language.proofs.Induction.{of_parameter, of_field, of_enumerator, of_member_declaration}
use Rattle.c_language.specs.declared.scope.Entry.{Entry}
use Rattle.c_language.specs.declared.scope.Means.{Means}
use Rattle.c_language.specs.declared.scope.Means.TheVariants as means
use Rattle.c_language.specs.Scopes.{Name, Scope, look_up}
use Rattle.c_language.specs.Typing.{Typed}
use Rattle.c_language.specs.Typing as says
use Rattle.c_language.specs.Declares.{Says, Counting, DeclaratorSays, FieldSays, NamedSays, Laying, Saying, TypeSays}
use Rattle.c_language.specs.Declares.{declarator_step, field_step}
use Rattle.c_language.specs.Declares.{specifier_step, member_step, parameter_step, type_name_step}
use Rattle.c_language.specs.Declares.{to_array, qualifiers_among, counted_by, enumerates_by, enumerates_typed}
use Rattle.c_language.specs.Declares.{bits_declared, bits_wide}
use Rattle.c_language.specs.Trees.{ExprSays, itself, typed, typed_step, declarator_says, specifier_says, field_says}
use Rattle.c_language.specs.Trees.{enumerator_says, member_says, parameter_says, type_name_says}
use Rattle.c_language.specs.Trees as says_trees
use Rattle.c_language.proofs.Equations as types
use Rattle.c_means.specs.Parts.{Part}
use Rattle.c_means.specs.Expressions.{Passed, arguments_said, binary, call, call_of, designated, identifier, member_by}
use Rattle.c_means.specs.Expressions.{named_as, postfix, unary}
use Rattle.c_means.specs.Trees.{ExprMeans, said, through, Through, part, part_step, declarator_said, specifier_said}
use Rattle.c_means.specs.Trees.{field_said, enumerator_said, member_said, parameter_said, type_name_said}
use Rattle.c_means.proofs.Equations as meaning

abbrev SameExpr : Expr → Type 0
SameExpr e = (s : Scope) → (part e s).typed ≡ typed e s

-- ---- lists and what may be absent

each_same : {A B : Type 0} (f g : A → B) (xs : List A) → Each (λ x. f x ≡ g x) xs → map f xs ≡ map g xs
each_same f g [] h = refl
each_same f g (x ∷ xs) h = ap (λ y. y ∷ map f xs) h.0 ∙ ap (λ ys. g x ∷ ys) (each_same f g xs h.1)

maybe_same :
    {A B : Type 0} (f g : A → B) (x : Option A) → Maybe (λ x. f x ≡ g x) x → option_map f x ≡ option_map g x
maybe_same f g None h = refl
maybe_same f g (Some x) h = ap Some h

-- ---- forms whose cases are told apart

identifier_typed : (at : ℕ) (s : Scope) (e : Option Entry) → (identifier at s e).typed ≡ says.identifier at s e
identifier_typed at s None = refl
identifier_typed at s (Some e) = named_typed (says.identifier at s (Some e)) e.at e.means
  where
    named_typed : (x : Typed) (at : ℕ) (m : Means) → (named_as x at m).typed ≡ x
    named_typed x at (means.Object t duration linkage) = refl
    named_typed x at (means.Function t linkage) = refl
    named_typed x at (means.Typedef t) = refl
    named_typed x at (means.Constant z) = refl
    named_typed x at means.Faulty = refl

member_typed : (b : Bool) (offset : ℕ) (x : Typed) (p : Part) → (member_by b offset x p).typed ≡ x
member_typed true offset x p = refl
member_typed false offset x p = refl

postfix_typed : (at : ℕ) (op : PostfixOperator) (p : Part) → (postfix at op p).typed ≡ says.postfix at p.typed
postfix_typed at postfix_.Increment p = refl
postfix_typed at postfix_.Decrement p = refl

unary_typed : (at : ℕ) (op : UnaryOperator) (p : Part) → (unary at op p).typed ≡ says.unary at op p.typed
unary_typed at u.Address p = refl
unary_typed at u.Indirection p = refl
unary_typed at u.Plus p = refl
unary_typed at u.Minus p = refl
unary_typed at u.Complement p = refl
unary_typed at u.Not p = refl
unary_typed at u.Increment p = refl
unary_typed at u.Decrement p = refl

binary_typed :
    (at : ℕ) (op : BinaryOperator) (x y : Part) → (binary at op x y).typed ≡ says.binary at op x.typed y.typed
binary_typed at o.Multiply x y = refl
binary_typed at o.Divide x y = refl
binary_typed at o.Remainder x y = refl
binary_typed at o.Add x y = refl
binary_typed at o.Subtract x y = refl
binary_typed at o.ShiftLeft x y = refl
binary_typed at o.ShiftRight x y = refl
binary_typed at o.Less x y = refl
binary_typed at o.Greater x y = refl
binary_typed at o.LessEqual x y = refl
binary_typed at o.GreaterEqual x y = refl
binary_typed at o.Equal x y = refl
binary_typed at o.NotEqual x y = refl
binary_typed at o.BitAnd x y = refl
binary_typed at o.BitXor x y = refl
binary_typed at o.BitOr x y = refl
binary_typed at o.LogicalAnd x y = refl
binary_typed at o.LogicalOr x y = refl

call_typed : (at : ℕ) (f : Part) (ps : List Part) (s : Scope) →
    (call at f ps s).typed
    ≡ says.call at f.typed.at f.typed.shown (arguments_said (says.no_arguments f.typed.faults) ps) s
call_typed at f ps s = called_typed (designated f.typed.shown) f.typed _ _
  where
    called_typed : (e : Option Entry) (f x : Typed) (qs : List Passed) → (call_of e f x qs).typed ≡ x
    called_typed None f x qs = refl
    called_typed (Some e) f x qs = refl

-- ---- expressions

-- what one step means and says is what the tree does
across : (e : Expr) (f : ExprMeans) (g : ExprSays) → part e ≡ f → typed e ≡ g → ((s : Scope) → (f s).typed ≡ g s) →
    SameExpr e
across e f g m t h s = ap (λ f. (f s).typed) m ∙ h s ∙ sym (ap (λ f. f s) t)

-- a form over one part, and over a part and the one that stands behind it
over : (x y : Expr) (F : Typed → Typed → Typed) → SameExpr x → SameExpr y → (s : Scope) →
    F (part x s).typed (part y (part x s).typed.after).typed ≡ F (typed x s) (typed y (typed x s).after)
over x y F hx hy s = ap (λ z. F z (part y z.after).typed) (hx s) ∙ ap (F (typed x s)) (hy (typed x s).after)

over_three : (x y z : Expr) (F : Typed → Typed → Typed → Typed) → SameExpr x → SameExpr y → SameExpr z →
    (s : Scope) →
    let p = (part x s).typed in
    let q = (part y p.after).typed in
    F p q (part z q.after).typed
    ≡ F (typed x s) (typed y (typed x s).after) (typed z (typed y (typed x s).after).after)
over_three x y z F hx hy hz s =
    ap (λ p. let q = (part y p.after).typed in F p q (part z q.after).typed) (hx s)
    ∙ over y z (F (typed x s)) hy hz (typed x s).after

-- arguments, behind those before them
abbrev seen : says_trees.Through → Through → says_trees.Through
seen x t = record { arguments = arguments_said x.arguments t.all; after = t.after }

seen_same : (es : List Expr) → Each SameExpr es → (x : says_trees.Through) →
    seen x (through (map part es) x.after) ≡ says_trees.through x (map typed es)
seen_same [] h x = refl
seen_same (e ∷ es) h x =
    seen_same es h.1 (says_trees.through_one x (part e x.after).typed)
    ∙ ap (λ z. says_trees.through (says_trees.through_one x z) (map typed es)) (h.0 x.after)

call_same : (at : ℕ) (f : Expr) (es : List Expr) → SameExpr f → Each SameExpr es → (s : Scope) →
    (part_step (open_.Call at (part f) (map part es)) s).typed ≡ typed_step (open_.Call at (typed f) (map typed es)) s
call_same at f es hf hs s =
    let p = (part f s).typed in
    let xs = through (map part es) p.after in
    call_typed at (part f s) xs.all xs.after
    ∙ ap (called p) (seen_same es hs (says_trees.behind_callee p))
    ∙ ap (λ z. called z (says_trees.through (says_trees.behind_callee z) (map typed es))) (hf s)
  where
    called : Typed → says_trees.Through → Typed
    called z xs = says.call at z.at z.shown xs.arguments xs.after

cast_same : (at : ℕ) (t : TypeName) (e : Expr) → type_name_said t ≡ type_name_says t → SameExpr e → (s : Scope) →
    (part_step (open_.Cast at (type_name_said t) (part e)) s).typed
    ≡ typed_step (open_.Cast at (type_name_says t) (typed e)) s
cast_same at t e ht he s =
    ap (λ f. let x = f s in says.cast at x.type x.faults (part e x.after).typed) ht
    ∙ (let x = type_name_says t s in ap (says.cast at x.type x.faults) (he x.after))

-- ---- the steps of what stands among expressions

abbrev declarators : DeclaratorLayer (Says ExprMeans) → DeclaratorSays
declarators = declarator_step {E = ExprMeans} said

abbrev fields : FieldLayer (Says ExprMeans) → FieldSays
fields = field_step {E = ExprMeans} said

abbrev specifiers : SpecifierLayer (Says ExprMeans) → Saying
specifiers = specifier_step {E = ExprMeans}

abbrev members : MemberDeclarationLayer (Says ExprMeans) → Laying
members = member_step {E = ExprMeans}

abbrev parameters : ParameterLayer (Says ExprMeans) → NamedSays
parameters = parameter_step {E = ExprMeans}

abbrev type_names : TypeNameLayer (Says ExprMeans) → TypeSays
type_names = type_name_step {E = ExprMeans}

-- ---- what stands among expressions

array_same : (at : ℕ) (f g : DeclaratorSays) (words : List ArrayWord) (e : Option Expr) → f ≡ g → Maybe SameExpr e →
    (s : Scope) →
    declarators (open_.Array at f words (option_map part e)) s
    ≡ declarator_step {E = ExprSays} itself (open_.Array at g words (option_map typed e)) s
array_same at f g words None hf h s =
    ap (λ f. declarators (open_.Array at f words None) s) hf
array_same at f g words (Some e) hf h s =
    ap (λ f. declarators (open_.Array at f words (Some (part e))) s) hf
    ∙ ap (λ z. to_array (qualifiers_among words) (g s) (counted_by z)) (h (g s).after)

bits_same : (f : Option Declarator) (e : Expr) → option_map declarator_said f ≡ option_map declarator_says f →
    SameExpr e → (x : _) →
    (let y = bits_declared (option_map declarator_said f) x in bits_wide (part e y.scope).typed y)
    ≡ (let y = bits_declared (option_map declarator_says f) x in bits_wide (typed e y.scope) y)
bits_same f e hf he x =
    ap (λ f. let y = bits_declared f x in bits_wide (part e y.scope).typed y) hf
    ∙ (let y = bits_declared (option_map declarator_says f) x in ap (λ w. bits_wide w y) (he y.scope))

enumerates_same : (at : ℕ) (name : Name) (e : Option Expr) → Maybe SameExpr e → (x : Counting) →
    enumerates_by {E = ExprMeans} said at name (option_map part e) x
    ≡ enumerates_by {E = ExprSays} itself at name (option_map typed e) x
enumerates_same at name None h x = refl
enumerates_same at name (Some e) h x = ap (λ z. enumerates_typed at name z x.faults) (h x.scope)

-- ---- the induction

abbrev SameDeclarator : Declarator → Type 0
SameDeclarator x = declarator_said x ≡ declarator_says x

abbrev SameField : Field → Type 0
SameField x = field_said x ≡ field_says x

abbrev SameSpecifier : Specifier → Type 0
SameSpecifier x = specifier_said x ≡ specifier_says x

abbrev SameEnumerator : Enumerator → Type 0
SameEnumerator x = enumerator_said x ≡ enumerator_says x

abbrev SameMember : MemberDeclaration → Type 0
SameMember x = member_said x ≡ member_says x

abbrev SameParameter : Parameter → Type 0
SameParameter x = parameter_said x ≡ parameter_says x

abbrev SameTypeName : TypeName → Type 0
SameTypeName x = type_name_said x ≡ type_name_says x

steps : Steps SameDeclarator SameExpr SameField SameSpecifier SameEnumerator SameMember SameParameter SameTypeName
steps = record {
  on_integer = λ at c. across _ _ _ (meaning.means-Integer at c) (types.says-Integer at c) (λ s. refl);
  on_floating = λ at. across _ _ _ (meaning.means-Floating at) (types.says-Floating at) (λ s. refl);
  on_character = λ at v. across _ _ _ (meaning.means-Character at v) (types.says-Character at v) (λ s. refl);
  on_string_literal =
      λ at ps. across _ _ _ (meaning.means-StringLiteral at ps) (types.says-StringLiteral at ps) (λ s. refl);
  on_function_name = λ at. across _ _ _ (meaning.means-FunctionName at) (types.says-FunctionName at) (λ s. refl);
  on_identifier = λ at n. across _ _ _ (meaning.means-Identifier at n) (types.says-Identifier at n)
      (λ s. identifier_typed at s (look_up s n));
  on_parenthesized = λ at x hx. across _ _ _ (meaning.means-Parenthesized at x) (types.says-Parenthesized at x) hx;
  on_subscript = λ at x y hx hy. across _ _ _ (meaning.means-Subscript at x y) (types.says-Subscript at x y)
      (over x y (says.subscript at) hx hy);
  on_call =
      λ at f es hf hs. across _ _ _ (meaning.means-Call at f es) (types.says-Call at f es) (call_same at f es hf hs);
  on_member = λ at x n hx. across _ _ _ (meaning.means-Member at x n) (types.says-Member at x n)
      (λ s. member_typed _ _ _ _ ∙ ap (says.member at n) (hx s));
  on_arrow = λ at x n hx. across _ _ _ (meaning.means-Arrow at x n) (types.says-Arrow at x n)
      (λ s. ap (says.arrow at n) (hx s));
  on_postfix = λ at op x hx. across _ _ _ (meaning.means-Postfix at op x) (types.says-Postfix at op x)
      (λ s. postfix_typed at op (part x s) ∙ ap (says.postfix at) (hx s));
  on_unary = λ at op x hx. across _ _ _ (meaning.means-Unary at op x) (types.says-Unary at op x)
      (λ s. unary_typed at op (part x s) ∙ ap (says.unary at op) (hx s));
  on_sizeof_expr = λ at x hx. across _ _ _ (meaning.means-SizeofExpr at x) (types.says-SizeofExpr at x)
      (λ s. ap (says.size_of_expression at) (hx s));
  on_sizeof_type = λ at t ht. across _ _ _ (meaning.means-SizeofType at t) (types.says-SizeofType at t)
      (λ s. ap (λ f. let x = f s in says.size_of_type at x.type x.faults x.after) ht);
  on_cast = λ at t x ht hx. across _ _ _ (meaning.means-Cast at t x) (types.says-Cast at t x) (cast_same at t x ht hx);
  on_binary = λ at op x y hx hy. across _ _ _ (meaning.means-Binary at op x y) (types.says-Binary at op x y)
      (λ s. binary_typed at op _ _ ∙ over x y (says.binary at op) hx hy s);
  on_conditional =
      λ at c x y hc hx hy. across _ _ _ (meaning.means-Conditional at c x y) (types.says-Conditional at c x y)
      (over_three c x y (says.choice at) hc hx hy);
  on_assign = λ at op x y hx hy. across _ _ _ (meaning.means-Assign at op x y) (types.says-Assign at op x y)
      (over x y (says.assignment at op) hx hy);
  on_comma = λ at x y hx hy. across _ _ _ (meaning.means-Comma at x y) (types.says-Comma at x y)
      (over x y (says.comma at) hx hy);
  on_specifier_storage = λ at c. meaning.means-Storage at c ∙ fun_ext (λ x. refl) ∙ sym (types.says-Storage at c);
  on_specifier_qualifier =
      λ at q. meaning.means-Qualifier at q ∙ fun_ext (λ x. refl) ∙ sym (types.says-Qualifier at q);
  on_specifier_inline = λ at. meaning.means-Inline at ∙ fun_ext (λ x. refl) ∙ sym (types.says-Inline at);
  on_specifier_word = λ at w. meaning.means-Word at w ∙ fun_ext (λ x. refl) ∙ sym (types.says-Word at w);
  on_specifier_typedef = λ at n. meaning.means-Typedef at n ∙ fun_ext (λ x. refl) ∙ sym (types.says-Typedef at n);
  on_specifier_tag = λ at k t. meaning.means-Tag at k t ∙ fun_ext (λ x. refl) ∙ sym (types.says-Tag at k t);
  on_specifier_aggregate = λ at k t ms h. meaning.means-Aggregate at k t ms
      ∙ fun_ext (λ x. ap (λ ys. specifiers (open_.Aggregate at k t ys) x) (each_same member_said member_says ms h))
      ∙ sym (types.says-Aggregate at k t ms);
  on_specifier_enum_tag = λ at t. meaning.means-EnumTag at t ∙ fun_ext (λ x. refl) ∙ sym (types.says-EnumTag at t);
  on_specifier_enumeration = λ at t es b h. meaning.means-Enumeration at t es b
      ∙ fun_ext (λ x. ap (λ ys. specifiers (open_.Enumeration at t ys b) x)
      (each_same enumerator_said enumerator_says es h))
      ∙ sym (types.says-Enumeration at t es b);
  on_field_plain = λ d h. meaning.means-Plain d
      ∙ fun_ext (λ t. fun_ext (λ x. ap (λ f. fields (open_.Plain f) t x) h))
      ∙ sym (types.says-Plain d);
  on_field_bits = λ at d e hd he. meaning.means-Bits at d e
      ∙ fun_ext (λ t. fun_ext (bits_same d e (maybe_same declarator_said declarator_says d hd) he))
      ∙ sym (types.says-Bits at d e);
  on_declarator_name = λ at n. meaning.means-Name at n ∙ fun_ext (λ s. refl) ∙ sym (types.says-Name at n);
  on_declarator_omitted = meaning.means-Omitted ∙ fun_ext (λ s. refl) ∙ sym types.says-Omitted;
  on_declarator_grouped =
      λ at d h. meaning.means-Grouped at d ∙ fun_ext (λ s. ap (λ f. f s) h) ∙ sym (types.says-Grouped at d);
  on_declarator_pointer = λ at qs d h. meaning.means-Pointer at qs d
      ∙ fun_ext (λ s. ap (λ f. declarators (open_.Pointer at qs f) s) h)
      ∙ sym (types.says-Pointer at qs d);
  on_declarator_array = λ at d ws e hd he. meaning.means-Array at d ws e
      ∙ fun_ext (array_same at (declarator_said d) (declarator_says d) ws e hd he)
      ∙ sym (types.says-Array at d ws e);
  on_declarator_function = λ at d ps b hd hs. meaning.means-Function at d ps b
      ∙ fun_ext (λ s. ap (λ f. declarators (open_.Function at f (map parameter_said ps) b) s) hd
      ∙ ap (λ qs. declarators (open_.Function at (declarator_says d) qs b) s)
      (each_same parameter_said parameter_says ps hs))
      ∙ sym (types.says-Function at d ps b);
  on_type_name = λ t hs hd. meaning.means-TypeName t
      ∙ fun_ext (λ s. ap (λ ss. type_names (record { specifiers = ss; declarator = declarator_said t.declarator }) s)
      (each_same specifier_said specifier_says t.specifiers hs)
      ∙ ap (λ f. type_names (record { specifiers = map specifier_says t.specifiers; declarator = f }) s) hd)
      ∙ sym (types.says-TypeName t);
  on_member_declaration = λ m hs hf. meaning.means-MemberDeclaration m
      ∙ fun_ext (λ x. ap (λ ss. members (record { specifiers = ss; fields = map field_said m.fields }) x)
      (each_same specifier_said specifier_says m.specifiers hs)
      ∙ ap (λ fs. members (record { specifiers = map specifier_says m.specifiers; fields = fs }) x)
      (each_same field_said field_says m.fields hf))
      ∙ sym (types.says-MemberDeclaration m);
  on_enumerator = λ e h. meaning.means-Enumerator e
      ∙ fun_ext (enumerates_same e.at e.name e.value h)
      ∙ sym (types.says-Enumerator e);
  on_parameter = λ p hs hd. meaning.means-Parameter p
      ∙ fun_ext (λ s. ap (λ ss. parameters (record { specifiers = ss; declarator = declarator_said p.declarator }) s)
      (each_same specifier_said specifier_says p.specifiers hs)
      ∙ ap (λ f. parameters (record { specifiers = map specifier_says p.specifiers; declarator = f }) s) hd)
      ∙ sym (types.says-Parameter p);
}

-- what an expression's meaning says to the types is what they say of it
pub part_typed : (e : Expr) (s : Scope) → (part e s).typed ≡ typed e s
part_typed e =
    of_expr SameDeclarator SameExpr SameField SameSpecifier SameEnumerator SameMember SameParameter SameTypeName
    steps e

pub type_name_same : (t : TypeName) → type_name_said t ≡ type_name_says t
type_name_same t =
    of_type_name SameDeclarator SameExpr SameField SameSpecifier SameEnumerator SameMember SameParameter SameTypeName
    steps t

pub declarator_same : (d : Declarator) → declarator_said d ≡ declarator_says d
declarator_same d =
    of_declarator SameDeclarator SameExpr SameField SameSpecifier SameEnumerator SameMember SameParameter SameTypeName
    steps d

pub specifier_same : (x : Specifier) → specifier_said x ≡ specifier_says x
specifier_same x =
    of_specifier SameDeclarator SameExpr SameField SameSpecifier SameEnumerator SameMember SameParameter SameTypeName
    steps x

pub parameter_same : (p : Parameter) → parameter_said p ≡ parameter_says p
parameter_same p =
    of_parameter SameDeclarator SameExpr SameField SameSpecifier SameEnumerator SameMember SameParameter SameTypeName
    steps p

pub field_same : (x : Field) → field_said x ≡ field_says x
field_same x =
    of_field SameDeclarator SameExpr SameField SameSpecifier SameEnumerator SameMember SameParameter SameTypeName
    steps x

pub enumerator_same : (x : Enumerator) → enumerator_said x ≡ enumerator_says x
enumerator_same x =
    of_enumerator SameDeclarator SameExpr SameField SameSpecifier SameEnumerator SameMember SameParameter SameTypeName
    steps x

pub member_same : (x : MemberDeclaration) → member_said x ≡ member_says x
member_same x =
    of_member_declaration SameDeclarator SameExpr SameField SameSpecifier SameEnumerator SameMember SameParameter
    SameTypeName steps x
