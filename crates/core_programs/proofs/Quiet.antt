-- At a level at which no call is left, no initializer takes a place or prints anything: one induction over all
-- expressions, and one over all initializers.
use Rattle.std.proofs.Common.{◌≡◌, ℕ, ◌+◌, ℤ, Bool, true, false, cond, List, [], ◌∷◌, ◌++◌, Option, Some, None, Ok, Err}
use Rattle.std.proofs.Common.{refl, sym, ap₂, subst, ◌∙◌}
use Rattle.std.specs.Prelude.{map, option_map, unwrap_or}
use Rattle.c_language.specs.declared.ctype.CType.{CType}
use Rattle.c_language.specs.declared.expr.Expr.{Expr}
use Rattle.c_language.specs.declared.scope.Entry.{Entry}
use Rattle.c_language.specs.declared.unit.Initializer.{Initializer}
use Rattle.c_language.specs.declared.unit.InitializerItem.{InitializerItem}
use Rattle.c_language.specs.Initials.{Part, Designates, ToMember, ToElement, is_text_of, filling_of}
use Rattle.c_language.specs.Scopes.{Scope, look_up}
use Rattle.c_language.specs.Typing.{type_of}
use Rattle.c_language.specs.Typing as says
use Rattle.c_language.proofs.Induction.{Each, Steps, of_expr}
use Rattle.c_grammar.proofs.UnitEquations.{EachValue, InitialSteps, of_initializer}
use Rattle.c_store.specs.Store.{start}
use Rattle.c_means.specs.declared.kind.Kind.{Kind}
use Rattle.c_means.specs.declared.kind.Kind.TheVariants as kind
use Rattle.c_means.specs.Parts.{State, Outcome, Env, Level}
use Rattle.c_means.specs.Expressions.{offset_of}
use Rattle.c_means.specs.Trees.{ExprMeans, part, through, type_name_said}
use Rattle.c_means.specs.Notes.{Noted, ExprNoted, noted}
use Rattle.c_means.specs.Items.{Arrow, with_value, running, where_running}
use Rattle.c_means.specs.Statements.{no_env, lasting_object}
use Rattle.c_means.specs.Initials.{Element, Evaluates, Indexes, Initial, initially, listed_item, designated}
use Rattle.c_means.specs.Initials.{indices, all_elements, evaluated, sets, sets_all, sets_text, stores, set_room}
use Rattle.c_means.specs.Initials.{all_rooms, initialising, initialising_if}
use Rattle.c_means.proofs.Equations as meaning
use Rattle.c_means.proofs.RunEquations as eqs
use Rattle.c_means.proofs.RunFusion.{part_noted}
use Rattle.core_tree.specs.States.{Output}
use Rattle.core_tree.specs.States as core
use Rattle.core_programs.specs.Quiet.{IsLast, IsQuiet}
use Rattle.core_programs.proofs.QuietSteps.{Leaves}
use Rattle.core_programs.proofs.QuietParts as parts
use Rattle.core_programs.proofs.QuietParts.{Quiet, EachQuiet}

-- ---- expressions

module _ (l : Level) (k : core.Level Output) (last : IsLast l k) where
  abbrev QuietExpr : Expr → Type 0
  QuietExpr e = (s : Scope) → Quiet l (part e s)

  holds : (e : Expr) (f : ExprMeans) → part e ≡ f → ((s : Scope) → Quiet l (f s)) → QuietExpr e
  holds e f m h s = subst (λ g. Quiet l (g s)) (sym m) (h s)

  arguments : (es : List Expr) → Each QuietExpr es → (s : Scope) → EachQuiet l k last (through (map part es) s).all
  arguments [] h s = tt
  arguments (e ∷ es) h s = (h.0 s, arguments es h.1 (part e s).typed.after)

  steps : Steps (λ x. Unit {0}) QuietExpr (λ x. Unit {0}) (λ x. Unit {0}) (λ x. Unit {0}) (λ x. Unit {0})
      (λ x. Unit {0}) (λ x. Unit {0})
  steps = record {
    on_integer = λ at c. holds _ _ (meaning.means-Integer at c) (λ s. parts.constant_quiet l k last _ _);
    on_floating = λ at. holds _ _ (meaning.means-Floating at) (λ s. parts.unmeant_quiet l k last _);
    on_character = λ at v. holds _ _ (meaning.means-Character at v) (λ s. parts.constant_quiet l k last _ _);
    on_string_literal = λ at ps. holds _ _ (meaning.means-StringLiteral at ps)
        (λ s. parts.text_quiet l k last at ps s);
    on_function_name = λ at. holds _ _ (meaning.means-FunctionName at) (λ s. parts.made_quiet l k last at _);
    on_identifier = λ at n. holds _ _ (meaning.means-Identifier at n)
        (λ s. parts.identifier_quiet l k last at s (look_up s n));
    on_parenthesized = λ at x hx. holds _ _ (meaning.means-Parenthesized at x) hx;
    on_subscript = λ at x y hx hy. holds _ _ (meaning.means-Subscript at x y)
        (λ s. parts.subscript_quiet l k last at _ _ (hx s) (hy (part x s).typed.after));
    on_call = λ at f es hf hs. holds _ _ (meaning.means-Call at f es)
        (λ s. let xs = through (map part es) (part f s).typed.after in
        parts.call_quiet l k last at (part f s) xs.all xs.after (arguments es hs (part f s).typed.after));
    on_member = λ at x n hx. holds _ _ (meaning.means-Member at x n)
        (λ s. let y = part x s in
        parts.member_quiet l k last y.is_place (offset_of y.typed.after.tables (type_of y.typed) n)
        (says.member at n y.typed) y (hx s));
    on_arrow = λ at x n hx. holds _ _ (meaning.means-Arrow at x n)
        (λ s. parts.arrow_quiet l k last at n _ (hx s));
    on_postfix = λ at op x hx. holds _ _ (meaning.means-Postfix at op x)
        (λ s. parts.postfix_quiet l k last at op _ (hx s));
    on_unary = λ at op x hx. holds _ _ (meaning.means-Unary at op x)
        (λ s. parts.unary_quiet l k last at op _ (hx s));
    on_sizeof_expr = λ at x hx. holds _ _ (meaning.means-SizeofExpr at x)
        (λ s. parts.constant_quiet l k last _ _);
    on_sizeof_type = λ at t ht. holds _ _ (meaning.means-SizeofType at t)
        (λ s. parts.constant_quiet l k last _ _);
    on_cast = λ at t x ht hx. holds _ _ (meaning.means-Cast at t x)
        (λ s. parts.cast_quiet l k last _ _ _ (hx (type_name_said t s).after));
    on_binary = λ at op x y hx hy. holds _ _ (meaning.means-Binary at op x y)
        (λ s. parts.binary_quiet l k last at op _ _ (hx s) (hy (part x s).typed.after));
    on_conditional = λ at c x y hc hx hy. holds _ _ (meaning.means-Conditional at c x y)
        (λ s. let z = part x (part c s).typed.after in
        parts.choice_quiet l k last at _ _ _ _ (hc s) (hx (part c s).typed.after) (hy z.typed.after));
    on_assign = λ at op x y hx hy. holds _ _ (meaning.means-Assign at op x y)
        (λ s. parts.assignment_quiet l k last at op _ _ (hx s) (hy (part x s).typed.after));
    on_comma = λ at x y hx hy. holds _ _ (meaning.means-Comma at x y)
        (λ s. parts.comma_quiet l k last at _ _ (hx s) (hy (part x s).typed.after));
    on_specifier_storage = λ at c. tt;
    on_specifier_qualifier = λ at q. tt;
    on_specifier_inline = λ at. tt;
    on_specifier_word = λ at x. tt;
    on_specifier_typedef = λ at n. tt;
    on_specifier_tag = λ at c t. tt;
    on_specifier_aggregate = λ at c t ms h. tt;
    on_specifier_enum_tag = λ at t. tt;
    on_specifier_enumeration = λ at t es b h. tt;
    on_field_plain = λ d h. tt;
    on_field_bits = λ at d e hd he. tt;
    on_declarator_name = λ at n. tt;
    on_declarator_omitted = tt;
    on_declarator_grouped = λ at d h. tt;
    on_declarator_pointer = λ at qs d h. tt;
    on_declarator_array = λ at d ws e hd he. tt;
    on_declarator_function = λ at d ps b hd hs. tt;
    on_type_name = λ t hs hd. tt;
    on_member_declaration = λ m hs hf. tt;
    on_enumerator = λ e h. tt;
    on_parameter = λ q hs hd. tt;
  }

  noted_quiet : (e : Expr) (s : Scope) → Quiet l (noted e s).part
  noted_quiet e s =
      subst (Quiet l) (sym (part_noted e s))
      (of_expr (λ x. Unit {0}) QuietExpr (λ x. Unit {0}) (λ x. Unit {0}) (λ x. Unit {0}) (λ x. Unit {0})
      (λ x. Unit {0}) (λ x. Unit {0}) steps e s)

  -- ---- the expressions of an initializer

  abbrev EachNoted : List Noted → Type 0
  EachNoted [] = Unit {0}
  EachNoted (x ∷ xs) = Quiet l x.part × EachNoted xs

  abbrev ElementQuiet : Element → Type 0
  ElementQuiet (Evaluates e) = (s : Scope) → Quiet l (e s).part
  ElementQuiet (Indexes e) = Unit {0}

  abbrev EachElement : List Element → Type 0
  EachElement [] = Unit {0}
  EachElement (x ∷ xs) = ElementQuiet x × EachElement xs

  elements_append : (xs ys : List Element) → EachElement xs → EachElement ys → EachElement (xs ++ ys)
  elements_append [] ys hx hy = hy
  elements_append (x ∷ xs) ys hx hy = (hx.0, elements_append xs ys hx.1 hy)

  evaluated_quiet : (es : List Element) (s : Scope) → EachElement es → EachNoted (evaluated es s)
  evaluated_quiet [] s h = tt
  evaluated_quiet (Evaluates e ∷ es) s h = (h.0 s, evaluated_quiet es (e s).part.typed.after h.1)
  evaluated_quiet (Indexes e ∷ es) s h = evaluated_quiet es (e s).part.typed.after h.1

  indices_quiet : (ds : List (Designates ExprNoted)) → EachElement (indices ds)
  indices_quiet [] = tt
  indices_quiet (ToMember at name ∷ ds) = indices_quiet ds
  indices_quiet (ToElement at e ∷ ds) = (tt, indices_quiet ds)

  abbrev QuietInitializer : Initializer → Type 0
  QuietInitializer x = EachElement (initially x).elements

  each_item : (xs : List InitializerItem) → EachValue QuietInitializer xs
      → EachElement (all_elements (map listed_item xs))
  each_item [] h = tt
  each_item (x ∷ xs) h =
      elements_append (listed_item x).elements (all_elements (map listed_item xs))
      (subst (λ y. EachElement y.elements) (sym (eqs.listed-Item x))
      (elements_append (indices (map designated x.designators)) (initially x.value).elements
      (indices_quiet (map designated x.designators)) h.0))
      (each_item xs h.1)

  initial_steps : InitialSteps QuietInitializer
  initial_steps = record {
    on_value = λ e. subst (λ y. EachElement y.elements) (sym (eqs.initially-Value e)) (noted_quiet e, tt);
    on_list = λ at xs trailing h. subst (λ y. EachElement y.elements) (sym (eqs.initially-List at xs trailing))
        (each_item xs h);
  }

  elements_quiet : (x : Initializer) → EachElement (initially x).elements
  elements_quiet x = of_initializer QuietInitializer initial_steps x

  -- ---- what they set

  value_leaves : (text : List ℕ) (x : Outcome ℤ) (f : ℤ → Arrow) → Leaves text x
      → ((z : ℤ) (d : State) → (f z d).printed ≡ d.printed) → (with_value x f).printed ≡ text
  value_leaves text (Ok v) f h same = same v.0 v.1 ∙ h.holds
  value_leaves text (Err d) f h same = h.holds

  sets_quiet : (p : Part) (x : Noted) → Quiet l x.part → (a : ℕ) (env : Env) (base : ℕ) (d : State)
      → (sets p x a l env base d).printed ≡ d.printed
  sets_quiet p x h a env base d = by_text (is_text_of p.type x.part.typed)
    where
      by_text : (b : Bool) → (cond b (sets_text x.part.typed.after.tables p a (unwrap_or (x.part.text l) []) d)
          (with_value (x.part.run l env base d) (stores x.part.typed.after.tables p.type (a + p.offset)))).printed
          ≡ d.printed
      by_text true = refl
      by_text false =
          value_leaves d.printed (x.part.run l env base d)
          (stores x.part.typed.after.tables p.type (a + p.offset)) (h.run env base d) (λ z d. refl)

  running_quiet : (f : Arrow) (d : State) (text : List ℕ) → (f d).printed ≡ text → d.printed ≡ text
      → (running f d).printed ≡ text
  running_quiet f d text h is = by d.kind
    where
      by : (x : Kind) → (where_running x (f d) d).printed ≡ text
      by kind.Running = h
      by kind.Breaking = is
      by kind.Continuing = is
      by kind.Returning = is
      by (kind.Going label) = is
      by (kind.Choosing z) = is
      by kind.Defaulting = is
      by (kind.Ended f) = is

  all_quiet : (ps : List Part) (xs : List Noted) → EachNoted xs → (a : ℕ) (env : Env) (base : ℕ) (d : State)
      → (sets_all ps xs a l env base d).printed ≡ d.printed
  all_quiet [] xs h a env base d = refl
  all_quiet (p ∷ ps) [] h a env base d = refl
  all_quiet (p ∷ ps) (x ∷ xs) h a env base d =
      let next = base + set_room p x l in
      let d' = sets p x a l env base d in
      let set = sets_quiet p x h.0 a env base d in
      running_quiet (sets_all ps xs a l env next) d' d.printed (all_quiet ps xs h.1 a env next d' ∙ set) set

  no_room : (p : Part) (x : Noted) → Quiet l x.part → set_room p x l ≡ 0
  no_room p x h = by_text (is_text_of p.type x.part.typed)
    where
      by_text : (b : Bool) → cond b 0 (x.part.room l) ≡ 0
      by_text true = refl
      by_text false = h.room

  no_rooms : (ps : List Part) (xs : List Noted) → EachNoted xs → all_rooms ps xs l ≡ 0
  no_rooms [] xs h = refl
  no_rooms (p ∷ ps) [] h = refl
  no_rooms (p ∷ ps) (x ∷ xs) h = ap₂ (λ a b. a + b) (no_room p x h.0) (no_rooms ps xs h.1)

-- ---- all initializers

pub initially_quiet : (x : Initializer) (t : CType) (s : Scope) → IsQuiet (initialising (initially x) t s)
initially_quiet x t s =
    let es = (initially x).elements in
    let ps = (filling_of (initially x).says t s).parts in
    record {
      room = λ l k last. no_rooms l k last ps (evaluated es s)
          (evaluated_quiet l k last es s (elements_quiet l k last x));
      prints = λ l k last a env base d. all_quiet l k last ps (evaluated es s)
          (evaluated_quiet l k last es s (elements_quiet l k last x)) a env base d;
    }

-- whether there is one or none, of an object or of what is none
pub maybe_quiet : (x : Option Initializer) (t : Option CType) (s : Scope)
    → IsQuiet (initialising_if (option_map initially x) t s)
maybe_quiet None t s = record { room = λ l k last. refl; prints = λ l k last a env base d. refl }
maybe_quiet (Some x) None s = record { room = λ l k last. refl; prints = λ l k last a env base d. refl }
maybe_quiet (Some x) (Some t) s = initially_quiet x t s

-- before `main` is called the initializer of an object prints nothing
pub lasting_quiet : (at : ℕ) (e : Entry) (n : ℕ) (defined : Bool) (x : Initial) → IsQuiet x → (l : Level)
    (k : core.Level Output) → IsLast l k → (d : State)
    → (running ((lasting_object at e n defined x).set l) d).printed ≡ d.printed
lasting_quiet at e n defined x h l k last d =
    running_quiet l k last ((lasting_object at e n defined x).set l) d d.printed
    (h.prints l k last (start (l.static e.at)) no_env 0 d) refl
