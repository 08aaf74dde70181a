-- What is found of a tree, by the form that it is.
use Rattle.std.proofs.Common.{◌≡◌, ◌<◌, ◌≤◌, ℕ, suc, ◌+◌, ℤ, List, [], ◌∷◌, ◌++◌, length, Option, map, drop, get_or, Result, IfOk, IsOkAnd, refl, sym, ap, ◌∙◌, subst}
use Rattle.c_language.specs.declared.token.IntegerConstant.{IntegerConstant}
use Rattle.c_language.specs.declared.expr.BinaryOperator.{BinaryOperator}
use Rattle.c_language.specs.declared.expr.PostfixOperator.{PostfixOperator}
use Rattle.c_language.specs.declared.expr.UnaryOperator.{UnaryOperator}
use Rattle.c_language.specs.declared.expr.Expr.{Expr}
use Rattle.c_language.specs.declared.expr.Expr.TheVariants as expr
use Rattle.c_language.specs.declared.expr.TypeName.{TypeName}
use Rattle.c_language.specs.Declares.{TypeSaid as SpecTypeSaid}
use Rattle.c_language.specs.Scopes.{Scope, Name, look_up}
use Rattle.c_language.specs.Typing.{Typed}
use Rattle.c_declares.specs.declared.type_names.TypeSaid.{TypeSaid}
use Rattle.c_declares.specs.Views.{type_said_in}
use Rattle.c_means.specs.Parts.{Part}
use Rattle.c_means.specs.Expressions as form
use Rattle.c_means.specs.Trees.{part, through, type_name_said}
use Rattle.c_means.proofs.Equations as eq
use Rattle.elaborate.specs.Means.{Numbering}
use Rattle.core_forms.specs.declared.built.Used.{Used}
use Rattle.core_forms.specs.Built.{IsBuilt, IsUsed, IsDiscarded}
use Rattle.c_language.specs.declared.shown.Told.{Told}
use Rattle.c_language.specs.Typing.{typed_in}
use Rattle.core_exprs.specs.declared.arguments.Passing.{Passing}
use Rattle.core_exprs.specs.Passing.{ArePassed}
use Rattle.core_exprs.specs.declared.found.Found.{Found}
use Rattle.core_exprs.specs.Found.{IsFoundOf, AreFound, Makes, OverOne, OverTwo}
use Rattle.plain_data.proofs.Tried.{of_one, of_two, of_three}

-- of a child that was read through its owner
of_child : (n : Numbering) (x : Found) (e e' : Expr) (s s1 : Scope) → IsFoundOf n x (part e s) s1 → e ≡ e'
    → IsFoundOf n x (part e' s) s1
of_child n x e e' s s1 h is = subst (λ e. IsFoundOf n x (part e s) s1) is h

-- a part that was taken, with the names in force behind it
record IsTaken (R : Used → Part → Type 0) (u : Used) (p : Part) (behind : Scope) : Type 0 where
  pub does : R u p
  pub after : behind ≡ p.typed.after

module _ {E : Type 0} (n : Numbering) where
  abbrev Finds : Result Found E → Part → Scope → Type 0
  Finds r p s = IfOk r (λ z. IsFoundOf n z p s)

  as_form : (r : Result Found E) (p q : Part) (s : Scope) → p ≡ q → Finds r q s → Finds r p s
  as_form r p q s is h = subst (λ p. Finds r p s) (sym is) h

  -- ---- no part

  pub in_integer : {e : Expr} (r : Result Found E) (at : ℕ) (c : IntegerConstant) (s : Scope)
      → e ≡ expr.Integer at c → Finds r (form.integer_constant at c s) s → Finds r (part e s) s
  in_integer r at c s is h = as_form r _ _ s (ap (λ x. part x s) is ∙ ap (λ (f : Scope → Part). f s) (eq.means-Integer at c)) h

  pub in_character : {e : Expr} (r : Result Found E) (at : ℕ) (value : ℤ) (s : Scope)
      → e ≡ expr.Character at value → Finds r (form.character_constant at value s) s → Finds r (part e s) s
  in_character r at value s is h = as_form r _ _ s (ap (λ x. part x s) is ∙ ap (λ (f : Scope → Part). f s) (eq.means-Character at value)) h

  pub in_floating : {e : Expr} (r : Result Found E) (at : ℕ) (s : Scope) → e ≡ expr.Floating at
      → Finds r (form.floating_constant at s) s → Finds r (part e s) s
  in_floating r at s is h = as_form r _ _ s (ap (λ x. part x s) is ∙ ap (λ (f : Scope → Part). f s) (eq.means-Floating at)) h

  pub in_literal : {e : Expr} (r : Result Found E) (at : ℕ) (pieces pieces' : List (List ℕ)) (s : Scope)
      → e ≡ expr.StringLiteral at pieces' → pieces ≡ pieces' → Finds r (form.string_literal at pieces s) s
      → Finds r (part e s) s
  in_literal r at pieces pieces' s is same h = as_form r _ _ s (ap (λ x. part x s) is ∙ ap (λ (f : Scope → Part). f s) (eq.means-StringLiteral at pieces')
      ∙ ap (λ ps. form.string_literal at ps s) (sym same)) h

  pub in_function_name : {e : Expr} (r : Result Found E) (at : ℕ) (s : Scope) → e ≡ expr.FunctionName at
      → Finds r (form.function_name at s.function s) s → Finds r (part e s) s
  in_function_name r at s is h = as_form r _ _ s (ap (λ x. part x s) is ∙ ap (λ (f : Scope → Part). f s) (eq.means-FunctionName at)) h

  pub in_name : {e : Expr} (r : Result Found E) (at : ℕ) (name : Name) (s : Scope) → e ≡ expr.Identifier at name
      → Finds r (form.identifier at s (look_up s name)) s → Finds r (part e s) s
  in_name r at name s is h = as_form r _ _ s (ap (λ x. part x s) is ∙ ap (λ (f : Scope → Part). f s) (eq.means-Identifier at name)) h

  -- ---- one part

  pub in_parentheses : {e inner inner' : Expr} (r : Result Found E) (at : ℕ) (s s1 : Scope)
      → e ≡ expr.Parenthesized at inner → inner' ≡ inner → Finds r (part inner' s) s1 → Finds r (part e s) s1
  in_parentheses {e} {inner} {inner'} r at s s1 is same h = as_form r _ _ s1 (ap (λ x. part x s) is ∙ ap (λ (f : Scope → Part). f s) (eq.means-Parenthesized at inner)
      ∙ ap (λ x. part x s) (sym same)) h

  one_part : (x r : Result Found E) (child child' : Expr) (s s1 : Scope) (whole form : Part) → whole ≡ form
      → child' ≡ child → Finds x (part child' s) s1
      → IfOk r (λ z. IsOkAnd x (λ x. IsFoundOf n x (part child s) s1 → IsFoundOf n z form s1)) → Finds r whole s1
  one_part x r child child' s s1 whole form is same h last =
      of_one x r (λ x. IsFoundOf n x (part child' s) s1)
      (λ z x. IsFoundOf n x (part child s) s1 → IsFoundOf n z form s1) (λ z. IsFoundOf n z whole s1) h last
      (λ x z hx does. subst (λ p. IsFoundOf n z p s1) (sym is) (does (of_child n x child' child s s1 hx same)))

  pub in_member : {e child child' : Expr} (x r : Result Found E) (at : ℕ) (name : Name) (s s1 : Scope)
      → e ≡ expr.Member at child name → child' ≡ child → Finds x (part child' s) s1
      → OverOne n s1 (form.member at name) x r
      → Finds r (part e s) s1
  in_member {e} {child} {child'} x r at name s s1 is same h last =
      one_part x r child child' s s1 (part e s) (form.member at name (part child s))
      (ap (λ x. part x s) is ∙ ap (λ (f : Scope → Part). f s) (eq.means-Member at child name)) same h (last (part child s))

  pub in_arrow : {e child child' : Expr} (x r : Result Found E) (at : ℕ) (name : Name) (s s1 : Scope)
      → e ≡ expr.Arrow at child name → child' ≡ child → Finds x (part child' s) s1
      → OverOne n s1 (form.arrow at name) x r
      → Finds r (part e s) s1
  in_arrow {e} {child} {child'} x r at name s s1 is same h last =
      one_part x r child child' s s1 (part e s) (form.arrow at name (part child s))
      (ap (λ x. part x s) is ∙ ap (λ (f : Scope → Part). f s) (eq.means-Arrow at child name)) same h (last (part child s))

  pub in_postfix : {e child child' : Expr} (x r : Result Found E) (at : ℕ) (op : PostfixOperator) (s s1 : Scope)
      → e ≡ expr.Postfix at op child → child' ≡ child → Finds x (part child' s) s1
      → OverOne n s1 (form.postfix at op) x r
      → Finds r (part e s) s1
  in_postfix {e} {child} {child'} x r at op s s1 is same h last =
      one_part x r child child' s s1 (part e s) (form.postfix at op (part child s))
      (ap (λ x. part x s) is ∙ ap (λ (f : Scope → Part). f s) (eq.means-Postfix at op child)) same h (last (part child s))

  pub in_unary : {e child child' : Expr} (x r : Result Found E) (at : ℕ) (op : UnaryOperator) (s s1 : Scope)
      → e ≡ expr.Unary at op child → child' ≡ child → Finds x (part child' s) s1
      → OverOne n s1 (form.unary at op) x r
      → Finds r (part e s) s1
  in_unary {e} {child} {child'} x r at op s s1 is same h last =
      one_part x r child child' s s1 (part e s) (form.unary at op (part child s))
      (ap (λ x. part x s) is ∙ ap (λ (f : Scope → Part). f s) (eq.means-Unary at op child)) same h (last (part child s))

  pub in_size : {e child child' : Expr} (x : Result Told E) (r : Result Found E) (at : ℕ) (s s1 : Scope)
      → e ≡ expr.SizeofExpr at child → child' ≡ child → IfOk x (λ x. typed_in x s1 ≡ (part child' s).typed)
      → ((p : Part) → IfOk r (λ z. IsOkAnd x (λ x. typed_in x s1 ≡ p.typed → IsFoundOf n z (form.size_of_expression at p) s1)))
      → Finds r (part e s) s1
  in_size {e} {child} {child'} x r at s s1 is same h last =
      of_one x r (λ x. typed_in x s1 ≡ (part child' s).typed)
      (λ z x. typed_in x s1 ≡ (part child s).typed → IsFoundOf n z (form.size_of_expression at (part child s)) s1)
      (λ z. IsFoundOf n z (part e s) s1) h (last (part child s))
      (λ x z hx does. subst (λ p. IsFoundOf n z p s1)
      (sym (ap (λ x. part x s) is ∙ ap (λ (f : Scope → Part). f s) (eq.means-SizeofExpr at child)))
      (does (hx ∙ ap (λ z. (part z s).typed) same)))

  -- ---- type names

  pub in_type_size : {e : Expr} {name name' : TypeName} (t : Result TypeSaid E) (r : Result Found E) (at : ℕ)
      (s s1 : Scope) → e ≡ expr.SizeofType at name → name' ≡ name
      → IfOk t (λ t. type_said_in t s1 ≡ type_name_said name' s)
      → IfOk r (λ z. IsOkAnd t (λ t. IsFoundOf n z (form.size_of_type at t.ctype t.faults s1) s1)) → Finds r (part e s) s1
  in_type_size {e} {name} {name'} t r at s s1 is same said h =
      of_one t r (λ t. type_said_in t s1 ≡ type_name_said name' s)
      (λ z t. IsFoundOf n z (form.size_of_type at t.ctype t.faults s1) s1) (λ z. IsFoundOf n z (part e s) s1) said h
      (λ t z says found. subst (λ p. IsFoundOf n z p s1)
      (sym (ap (λ x. part x s) is ∙ ap (λ (f : Scope → Part). f s) (eq.means-SizeofType at name)
      ∙ ap (λ (y : SpecTypeSaid). form.size_of_type at y.type y.faults y.after)
      (sym (says ∙ ap (λ x. type_name_said x s) same)))) found)

  pub in_cast : {e child child' : Expr} {name name' : TypeName} (t : Result TypeSaid E) (x r : Result Found E) (at : ℕ)
      (s s1 s2 : Scope) → e ≡ expr.Cast at name child → name' ≡ name → child' ≡ child
      → IfOk t (λ t. type_said_in t s1 ≡ type_name_said name' s) → Finds x (part child' s1) s2
      → ((p : Part) → IfOk r (λ z. IsOkAnd t (λ t. IsOkAnd x (λ x.
      IsFoundOf n x p s2 → IsFoundOf n z (form.cast at t.ctype t.faults p) s2))))
      → Finds r (part e s) s2
  in_cast {e} {child} {child'} {name} {name'} t x r at s s1 s2 is same sames said h last =
      of_two t x r (λ t. type_said_in t s1 ≡ type_name_said name' s) (λ x. IsFoundOf n x (part child' s1) s2)
      (λ z t x. IsFoundOf n x (part child s1) s2 → IsFoundOf n z (form.cast at t.ctype t.faults (part child s1)) s2)
      (λ z. IsFoundOf n z (part e s) s2) said h (last (part child s1))
      (λ t x z says hx does. subst (λ p. IsFoundOf n z p s2)
      (sym (ap (λ x. part x s) is ∙ ap (λ (f : Scope → Part). f s) (eq.means-Cast at name child)
      ∙ ap (λ (y : SpecTypeSaid). form.cast at y.type y.faults (part child y.after))
      (sym (says ∙ ap (λ x. type_name_said x s) same))))
      (does (of_child n x child' child s1 s2 hx sames)))

  -- ---- two and three parts

  taken : (R : Used → Part → Type 0) (x : Result Found E) (u : Result Used E) (child child' : Expr) (s s1 : Scope)
      → child' ≡ child → Finds x (part child' s) s1
      → Makes n s1 R x u
      → IfOk u (λ u. IsTaken R u (part child s) s1)
  taken R x u child child' s s1 same h used_ =
      of_one x u (λ x. IsFoundOf n x (part child' s) s1) (λ u x. IsFoundOf n x (part child s) s1 → R u (part child s))
      (λ u. IsTaken R u (part child s) s1) h (used_ (part child s))
      (λ x u hx does. let k = of_child n x child' child s s1 hx same in record { does = does k; after = k.after })

  two_parts : (R : Used → Part → Type 0) (x : Result Found E) (u : Result Used E) (y r : Result Found E)
      (left left' right right' : Expr) (s s1 s2 : Scope) (whole : Part) (over : Part → Part → Part)
      → whole ≡ over (part left s) (part right (part left s).typed.after) → left' ≡ left → right' ≡ right
      → Finds x (part left' s) s1 → Makes n s1 R x u
      → Finds y (part right' s1) s2
      → OverTwo n s2 R over u y r
      → Finds r whole s2
  two_parts R x u y r left left' right right' s s1 s2 whole over is same sames h used_ i last =
      of_two u y r (λ u. IsTaken R u (part left s) s1) (λ y. IsFoundOf n y (part right' s1) s2)
      (λ z u y. R u (part left s) → IsFoundOf n y (part right s1) s2
      → IsFoundOf n z (over (part left s) (part right s1)) s2)
      (λ z. IsFoundOf n z whole s2) (taken R x u left left' s s1 same h used_) i (last (part left s) (part right s1))
      (λ u y z hu hy does. subst (λ p. IsFoundOf n z p s2)
      (sym (is ∙ ap (λ t. over (part left s) (part right t)) (sym hu.after)))
      (does hu.does (of_child n y right' right s1 s2 hy sames)))

  pub in_subscript : {e left left' right right' : Expr} (x : Result Found E) (u : Result Used E) (y r : Result Found E)
      (at : ℕ) (s s1 s2 : Scope) → e ≡ expr.Subscript at left right → left' ≡ left → right' ≡ right
      → Finds x (part left' s) s1 → Makes n s1 (IsUsed n) x u
      → Finds y (part right' s1) s2
      → OverTwo n s2 (IsUsed n) (form.subscript at) u y r
      → Finds r (part e s) s2
  in_subscript {e} {left} {left'} {right} {right'} x u y r at s s1 s2 is =
      two_parts (IsUsed n) x u y r left left' right right' s s1 s2 (part e s) (form.subscript at)
      (ap (λ x. part x s) is ∙ ap (λ (f : Scope → Part). f s) (eq.means-Subscript at left right))

  pub in_binary : {e left left' right right' : Expr} (x : Result Found E) (u : Result Used E) (y r : Result Found E)
      (at : ℕ) (op : BinaryOperator) (s s1 s2 : Scope) → e ≡ expr.Binary at op left right → left' ≡ left → right' ≡ right
      → Finds x (part left' s) s1 → Makes n s1 (IsUsed n) x u
      → Finds y (part right' s1) s2
      → OverTwo n s2 (IsUsed n) (form.binary at op) u y r
      → Finds r (part e s) s2
  in_binary {e} {left} {left'} {right} {right'} x u y r at op s s1 s2 is =
      two_parts (IsUsed n) x u y r left left' right right' s s1 s2 (part e s) (form.binary at op)
      (ap (λ x. part x s) is ∙ ap (λ (f : Scope → Part). f s) (eq.means-Binary at op left right))

  pub in_comma : {e left left' right right' : Expr} (x : Result Found E) (u : Result Used E) (y r : Result Found E)
      (at : ℕ) (s s1 s2 : Scope) → e ≡ expr.Comma at left right → left' ≡ left → right' ≡ right
      → Finds x (part left' s) s1 → Makes n s1 (IsDiscarded n) x u
      → Finds y (part right' s1) s2
      → OverTwo n s2 (IsDiscarded n) (form.comma at) u y r
      → Finds r (part e s) s2
  in_comma {e} {left} {left'} {right} {right'} x u y r at s s1 s2 is =
      two_parts (IsDiscarded n) x u y r left left' right right' s s1 s2 (part e s) (form.comma at)
      (ap (λ x. part x s) is ∙ ap (λ (f : Scope → Part). f s) (eq.means-Comma at left right))

  pub in_assignment : {e left left' right right' : Expr} (x y r : Result Found E) (at : ℕ) (op : Option BinaryOperator)
      (s s1 s2 : Scope) → e ≡ expr.Assign at op left right → left' ≡ left → right' ≡ right
      → Finds x (part left' s) s1 → Finds y (part right' s1) s2
      → OverTwo n s2 (λ (x : Found). IsBuilt n x.built) (form.assignment at op) x y r
      → Finds r (part e s) s2
  in_assignment {e} {left} {left'} {right} {right'} x y r at op s s1 s2 is same sames h i last =
      of_two x y r (λ x. IsFoundOf n x (part left' s) s1) (λ y. IsFoundOf n y (part right' s1) s2)
      (λ z x y. IsBuilt n x.built (part left s) → IsFoundOf n y (part right s1) s2
      → IsFoundOf n z (form.assignment at op (part left s) (part right s1)) s2)
      (λ z. IsFoundOf n z (part e s) s2) h i (last (part left s) (part right s1))
      (λ x y z hx hy does. let k = of_child n x left' left s s1 hx same in subst (λ p. IsFoundOf n z p s2)
      (sym (ap (λ x. part x s) is ∙ ap (λ (f : Scope → Part). f s) (eq.means-Assign at op left right)
      ∙ ap (λ t. form.assignment at op (part left s) (part right t)) (sym k.after)))
      (does k.built (of_child n y right' right s1 s2 hy sames)))

  pub in_choice : {e a a' b b' d d' : Expr} (c : Result Found E) (w : Result Used E) (x : Result Found E)
      (u : Result Used E) (y r : Result Found E) (at : ℕ) (s s1 s2 s3 : Scope) → e ≡ expr.Conditional at a b d
      → a' ≡ a → b' ≡ b → d' ≡ d
      → Finds c (part a' s) s1 → Makes n s1 (IsUsed n) c w
      → Finds x (part b' s1) s2 → Makes n s2 (IsUsed n) x u
      → Finds y (part d' s2) s3
      → ((o p q : Part) → IfOk r (λ z. IsOkAnd w (λ w. IsOkAnd u (λ u. IsOkAnd y (λ y.
      IsUsed n w o → IsUsed n u p → IsFoundOf n y q s3 → IsFoundOf n z (form.choice at o p q) s3)))))
      → Finds r (part e s) s3
  in_choice {e} {a} {a'} {b} {b'} {d} {d'} c w x u y r at s s1 s2 s3 is first second third h used_ i uses j last =
      of_three w u y r (λ w. IsTaken (IsUsed n) w (part a s) s1) (λ u. IsTaken (IsUsed n) u (part b s1) s2)
      (λ y. IsFoundOf n y (part d' s2) s3)
      (λ z w u y. IsUsed n w (part a s) → IsUsed n u (part b s1) → IsFoundOf n y (part d s2) s3
      → IsFoundOf n z (form.choice at (part a s) (part b s1) (part d s2)) s3)
      (λ z. IsFoundOf n z (part e s) s3) (taken (IsUsed n) c w a a' s s1 first h used_)
      (taken (IsUsed n) x u b b' s1 s2 second i uses) j (last (part a s) (part b s1) (part d s2))
      (λ w u y z hw hu hy does. subst (λ p. IsFoundOf n z p s3)
      (sym (ap (λ x. part x s) is ∙ ap (λ (f : Scope → Part). f s) (eq.means-Conditional at a b d)
      ∙ ap (λ t. form.choice at (part a s) (part b t) (part d (part b t).typed.after)) (sym hw.after)
      ∙ ap (λ t. form.choice at (part a s) (part b s1) (part d t)) (sym hu.after)))
      (does hw.does hu.does (of_child n y d' d s2 s3 hy third)))

  -- ---- calls

  pub in_call : {e callee callee' : Expr} {arguments arguments' : List Expr} (r : Result Found E) (at : ℕ)
      (s s1 s2 : Scope) (f : Told) (xs : Passing) → e ≡ expr.Call at callee arguments → callee' ≡ callee
      → arguments' ≡ arguments → typed_in f s1 ≡ (part callee' s).typed
      → AreFound n f.faults arguments' s1 xs s2
      → ((p : Part) (ps : List Part) → p.typed.at ≡ f.at → p.typed.shown ≡ f.shown → ArePassed n p.typed.faults ps xs
      → Finds r (form.call at p ps s2) s2)
      → Finds r (part e s) s2
  in_call {e} {callee} {callee'} {arguments} {arguments'} r at s s1 s2 f xs is same sames h i last =
      let k = h ∙ ap (λ z. (part z s).typed) same in
      let m = subst (λ z. AreFound n f.faults z s1 xs s2) sames i in
      as_form r _ _ s2 (ap (λ x. part x s) is ∙ ap (λ (f : Scope → Part). f s) (eq.means-Call at callee arguments)
      ∙ ap (λ t. form.call at (part callee s) (through (map part arguments) t).all (through (map part arguments) t).after)
      (sym (ap (λ (z : Typed). z.after) k))
      ∙ ap (λ t. form.call at (part callee s) (through (map part arguments) s1).all t) (sym m.after))
      (last (part callee s) (through (map part arguments) s1).all (sym (ap (λ (z : Typed). z.at) k))
      (sym (ap (λ (z : Typed). z.shown) k))
      (subst (λ z. ArePassed n z (through (map part arguments) s1).all xs) (ap (λ (z : Typed). z.faults) k) m.passed))
