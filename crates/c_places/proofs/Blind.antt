-- How many nodes an expression unrolls to, how many places it takes, and of which literal it is the text: none of these
-- depends on the world, nor on what calls do.
use Rattle.std.proofs.Common.{◌≡◌, ℕ, suc, ℤ, Bool, true, false, List, [], ◌∷◌, Option, Some, None, refl, sym}
use Rattle.std.proofs.Common.{ap, subst, ◌∙◌, arith}
use Rattle.std.specs.Prelude.{map}
use Rattle.c_language.specs.declared.expr.BinaryOperator.{BinaryOperator}
use Rattle.c_language.specs.declared.expr.BinaryOperator.TheVariants as o
use Rattle.c_language.specs.declared.expr.Expr.{Expr}
use Rattle.c_language.specs.declared.expr.PostfixOperator.{PostfixOperator}
use Rattle.c_language.specs.declared.expr.PostfixOperator.TheVariants as postfix_
use Rattle.c_language.specs.declared.expr.UnaryOperator.{UnaryOperator}
use Rattle.c_language.specs.declared.expr.UnaryOperator.TheVariants as u
use Rattle.c_language.proofs.Induction.{Each, Steps, of_expr}
use Rattle.c_language.specs.declared.ctype.CType.{CType}
use Rattle.c_language.specs.declared.scope.Entry.{Entry}
use Rattle.c_language.specs.declared.scope.Means.{Means}
use Rattle.c_language.specs.declared.scope.Means.TheVariants as means
use Rattle.c_language.specs.Scopes.{Scope, look_up}
use Rattle.c_language.specs.Typing.{Typed, type_of}
use Rattle.c_language.specs.Typing as says
use Rattle.c_means.specs.Parts.{Level, Run, Site, Part, entered}
use Rattle.c_means.specs.Expressions.{Needs, valued, placed, over_one, over_both, over_three, named_as, identifier}
use Rattle.c_means.specs.Expressions.{member_by, offset_of, postfix, unary, binary}
use Rattle.c_means.specs.Expressions.{Passed, passed, all_sizes, all_rooms, passed_texts}
use Rattle.c_means.specs.Expressions.{text_at, direct_call, call_of, site, designated, parameters_of}
use Rattle.c_means.specs.Trees.{ExprMeans, part, through, type_name_said}
use Rattle.c_means.proofs.Equations as meaning
use Rattle.c_means.specs.Notes.{noted}
use Rattle.c_means.proofs.RunFusion.{part_noted}

-- what is left of a level where nothing runs: the rest is taken from nowhere
abbrev pub still : Level → Level
still l = record {
  world = record { word = λ p. 0; byte = λ a. 0 };
  limits = record { turns = 0; heap = 0; outside = 0; texts = 0; arguments = 0 };
  turns = l.turns;
  static = λ at. 0;
  identity = l.identity;
  size = l.size;
  room = l.room;
  marks = λ g. [];
  call = λ g env vs base s count. entered s count;
}

pub record Blind (x : Part) : Type 0 where
  pub text : (l : Level) → x.text l ≡ x.text (still l)
  pub size : (l : Level) → x.size l ≡ x.size (still l)
  pub room : (l : Level) → x.room l ≡ x.room (still l)

pub record BlindCounts (size room : Level → ℕ) : Type 0 where
  pub sizes : (l : Level) → size l ≡ size (still l)
  pub rooms : (l : Level) → room l ≡ room (still l)

abbrev pub BlindNeeds : Needs → Type 0
BlindNeeds n = BlindCounts n.size n.room

one_needs : (x : Part) → Blind x → BlindNeeds (over_one x)
one_needs x h = record { sizes = λ l. ap suc (h.size l); rooms = h.room }

both_need : (x y : Part) → Blind x → Blind y → BlindNeeds (over_both x y)
both_need x y hx hy = record {
  sizes = λ l. omega (arith, hx.size l, hy.size l);
  rooms = λ l. omega (arith, hx.room l, hy.room l);
}

three_need : (e x y : Part) → Blind e → Blind x → Blind y → BlindNeeds (over_three e x y)
three_need e x y he hx hy = record {
  sizes = λ l. omega (arith, he.size l, hx.size l, hy.size l);
  rooms = λ l. omega (arith, he.room l, hx.room l, hy.room l);
}

value_blind : (t : Typed) (n : Needs) (r : Level → Run ℤ) → BlindNeeds n → Blind (valued t n r)
value_blind t n r h = record { text = λ l. refl; size = h.sizes; room = h.rooms }

place_blind : (t : Typed) (rooted : Bool) (n : Needs) (r : Level → Run ℕ) → BlindNeeds n → Blind (placed t rooted n r)
place_blind t rooted n r h = record { text = λ l. refl; size = h.sizes; room = h.rooms }

-- ---- forms

named_blind : (t : Typed) (at : ℕ) (m : Means) → Blind (named_as t at m)
named_blind t at (means.Object x dur linkage) = record { text = λ l. refl; size = λ l. refl; room = λ l. refl }
named_blind t at (means.Function x linkage) = record { text = λ l. refl; size = λ l. refl; room = λ l. refl }
named_blind t at (means.Constant z) = record { text = λ l. refl; size = λ l. refl; room = λ l. refl }
named_blind t at (means.Typedef x) = record { text = λ l. refl; size = λ l. refl; room = λ l. refl }
named_blind t at means.Faulty = record { text = λ l. refl; size = λ l. refl; room = λ l. refl }

identifier_blind : (at : ℕ) (s : Scope) (e : Option Entry) → Blind (identifier at s e)
identifier_blind at s None = record { text = λ l. refl; size = λ l. refl; room = λ l. refl }
identifier_blind at s (Some e) = named_blind (says.identifier at s (Some e)) e.at e.means

member_blind : (b : Bool) (offset : ℕ) (t : Typed) (x : Part) → Blind x → Blind (member_by b offset t x)
member_blind true offset t x h = place_blind t x.rooted _ _ (one_needs x h)
member_blind false offset t x h = value_blind t _ _ (one_needs x h)

postfix_blind : (at : ℕ) (op : PostfixOperator) (x : Part) → Blind x → Blind (postfix at op x)
postfix_blind at postfix_.Increment x h = value_blind _ _ _ (one_needs x h)
postfix_blind at postfix_.Decrement x h = value_blind _ _ _ (one_needs x h)

unary_blind : (at : ℕ) (op : UnaryOperator) (x : Part) → Blind x → Blind (unary at op x)
unary_blind at u.Address x h = value_blind _ _ _ (one_needs x h)
unary_blind at u.Indirection x h = place_blind _ false _ _ (one_needs x h)
unary_blind at u.Plus x h = value_blind _ _ _ (one_needs x h)
unary_blind at u.Minus x h = value_blind _ _ _ (one_needs x h)
unary_blind at u.Complement x h = value_blind _ _ _ (one_needs x h)
unary_blind at u.Not x h = value_blind _ _ _ (one_needs x h)
unary_blind at u.Increment x h = value_blind _ _ _ (one_needs x h)
unary_blind at u.Decrement x h = value_blind _ _ _ (one_needs x h)

binary_blind : (at : ℕ) (op : BinaryOperator) (x y : Part) → Blind x → Blind y → Blind (binary at op x y)
binary_blind at o.LogicalAnd x y hx hy = value_blind _ _ _ (both_need x y hx hy)
binary_blind at o.LogicalOr x y hx hy = value_blind _ _ _ (both_need x y hx hy)
binary_blind at op x y hx hy = value_blind _ _ _ (both_need x y hx hy)

-- ---- calls

abbrev EachBlind : List Part → Type 0
EachBlind [] = Unit {0}
EachBlind (x ∷ xs) = Blind x × EachBlind xs

abbrev EachPassed : List Passed → Type 0
EachPassed [] = Unit {0}
EachPassed (q ∷ qs) = Blind q.part × EachPassed qs

passed_blind : (xs : List Part) (ts : List CType) → EachBlind xs → EachPassed (passed xs ts)
passed_blind [] ts h = tt
passed_blind (x ∷ xs) [] h = (h.0, passed_blind xs [] h.1)
passed_blind (x ∷ xs) (t ∷ ts) h = (h.0, passed_blind xs ts h.1)

sizes_blind : (qs : List Passed) → EachPassed qs → (l : Level) → all_sizes qs l ≡ all_sizes qs (still l)
sizes_blind [] h l = refl
sizes_blind (q ∷ qs) h l = omega (arith, h.0.size l, sizes_blind qs h.1 l)

rooms_blind : (qs : List Passed) → EachPassed qs → (l : Level) → all_rooms qs l ≡ all_rooms qs (still l)
rooms_blind [] h l = refl
rooms_blind (q ∷ qs) h l = omega (arith, h.0.room l, rooms_blind qs h.1 l)

texts_blind : (qs : List Passed) → EachPassed qs → (l : Level) → passed_texts qs l ≡ passed_texts qs (still l)
texts_blind [] h l = refl
texts_blind (q ∷ qs) h l =
    ap (λ t. t ∷ passed_texts qs l) (h.0.text l) ∙ ap (λ ts. q.part.text (still l) ∷ ts) (texts_blind qs h.1 l)

-- a call, by the texts of its arguments
abbrev with_texts : Site → List (Option (List ℕ)) → Site
with_texts g texts = record g { texts = texts }

site_blind : (at : ℕ) (e : Entry) (t : Typed) (qs : List Passed) → EachPassed qs → (l : Level) →
    site at e t qs l ≡ site at e t qs (still l)
site_blind at e t qs h l = ap (with_texts (site at e t qs l)) (texts_blind qs h l)

direct_blind : (at : ℕ) (e : Entry) (t : Typed) (qs : List Passed) → EachPassed qs →
    Blind (direct_call at t (site at e t qs) qs)
direct_blind at e t qs h = record {
  text = λ l. ap (text_at (l.identity e.name)) (texts_blind qs h l);
  size = λ l. let calls = ap l.size (site_blind at e t qs h l) in omega (arith, sizes_blind qs h l, calls);
  room = λ l. let calls = ap l.room (site_blind at e t qs h l) in omega (arith, rooms_blind qs h l, calls);
}

call_blind : (e : Option Entry) (f t : Typed) (qs : List Passed) → EachPassed qs → Blind (call_of e f t qs)
call_blind None f t qs h = record { text = λ l. refl; size = λ l. refl; room = λ l. refl }
call_blind (Some e) f t qs h = direct_blind f.at e t qs h

-- ---- the induction

abbrev BlindExpr : Expr → Type 0
BlindExpr e = (s : Scope) → Blind (part e s)

holds : (e : Expr) (f : ExprMeans) → part e ≡ f → ((s : Scope) → Blind (f s)) → BlindExpr e
holds e f m h s = subst (λ g. Blind (g s)) (sym m) (h s)

arguments : (es : List Expr) → Each BlindExpr es → (s : Scope) → EachBlind (through (map part es) s).all
arguments [] h s = tt
arguments (e ∷ es) h s = (h.0 s, arguments es h.1 (part e s).typed.after)

steps : Steps (λ x. Unit {0}) BlindExpr (λ x. Unit {0}) (λ x. Unit {0}) (λ x. Unit {0}) (λ x. Unit {0})
    (λ x. Unit {0}) (λ x. Unit {0})
steps = record {
  on_integer = λ at k. holds _ _ (meaning.means-Integer at k)
      (λ s. record { text = λ l. refl; size = λ l. refl; room = λ l. refl });
  on_floating = λ at. holds _ _ (meaning.means-Floating at)
      (λ s. record { text = λ l. refl; size = λ l. refl; room = λ l. refl });
  on_character = λ at v. holds _ _ (meaning.means-Character at v)
      (λ s. record { text = λ l. refl; size = λ l. refl; room = λ l. refl });
  on_string_literal = λ at ps. holds _ _ (meaning.means-StringLiteral at ps)
      (λ s. record { text = λ l. refl; size = λ l. refl; room = λ l. refl });
  on_function_name = λ at. holds _ _ (meaning.means-FunctionName at)
      (λ s. record { text = λ l. refl; size = λ l. refl; room = λ l. refl });
  on_identifier = λ at n. holds _ _ (meaning.means-Identifier at n) (λ s. identifier_blind at s (look_up s n));
  on_parenthesized = λ at x hx. holds _ _ (meaning.means-Parenthesized at x) hx;
  on_subscript = λ at x y hx hy. holds _ _ (meaning.means-Subscript at x y)
      (λ s. let y' = part y (part x s).typed.after in
      place_blind _ false _ _
      (both_need (part x s) y' (hx s) (hy (part x s).typed.after)));
  on_call = λ at f es hf hs. holds _ _ (meaning.means-Call at f es)
      (λ s. let g = part f s in
      let xs = through (map part es) g.typed.after in
      let ts = parameters_of xs.after.tables (type_of g.typed) in
      call_blind (designated g.typed.shown) g.typed _ (passed xs.all ts)
      (passed_blind xs.all ts (arguments es hs g.typed.after)));
  on_member = λ at x n hx. holds _ _ (meaning.means-Member at x n)
      (λ s. let y = part x s in
      member_blind y.is_place (offset_of y.typed.after.tables (type_of y.typed) n)
      (says.member at n y.typed) y (hx s));
  on_arrow = λ at x n hx. holds _ _ (meaning.means-Arrow at x n)
      (λ s. place_blind _ false _ _ (one_needs (part x s) (hx s)));
  on_postfix = λ at op x hx. holds _ _ (meaning.means-Postfix at op x) (λ s. postfix_blind at op (part x s) (hx s));
  on_unary = λ at op x hx. holds _ _ (meaning.means-Unary at op x) (λ s. unary_blind at op (part x s) (hx s));
  on_sizeof_expr = λ at x hx. holds _ _ (meaning.means-SizeofExpr at x)
      (λ s. record { text = λ l. refl; size = λ l. refl; room = λ l. refl });
  on_sizeof_type = λ at t ht. holds _ _ (meaning.means-SizeofType at t)
      (λ s. record { text = λ l. refl; size = λ l. refl; room = λ l. refl });
  on_cast = λ at t x ht hx. holds _ _ (meaning.means-Cast at t x)
      (λ s. let y = part x (type_name_said t s).after in
      value_blind _ _ _ (one_needs y (hx (type_name_said t s).after)));
  on_binary = λ at op x y hx hy. holds _ _ (meaning.means-Binary at op x y)
      (λ s. binary_blind at op (part x s) (part y (part x s).typed.after) (hx s) (hy (part x s).typed.after));
  on_conditional = λ at e x y he hx hy. holds _ _ (meaning.means-Conditional at e x y)
      (λ s. let f = part e s in
      let g = part x f.typed.after in
      let h = part y g.typed.after in
      value_blind _ _ _ (three_need f g h (he s) (hx f.typed.after) (hy g.typed.after)));
  on_assign = λ at op x y hx hy. holds _ _ (meaning.means-Assign at op x y)
      (λ s. let y' = part y (part x s).typed.after in
      value_blind _ _ _
      (both_need (part x s) y' (hx s) (hy (part x s).typed.after)));
  on_comma = λ at x y hx hy. holds _ _ (meaning.means-Comma at x y)
      (λ s. let y' = part y (part x s).typed.after in
      value_blind _ _ _
      (both_need (part x s) y' (hx s) (hy (part x s).typed.after)));
  on_specifier_storage = λ at k. tt;
  on_specifier_qualifier = λ at q. tt;
  on_specifier_inline = λ at. tt;
  on_specifier_word = λ at x. tt;
  on_specifier_typedef = λ at n. tt;
  on_specifier_tag = λ at k t. tt;
  on_specifier_aggregate = λ at k t ms h. tt;
  on_specifier_enum_tag = λ at t. tt;
  on_specifier_enumeration = λ at t es b h. tt;
  on_field_plain = λ d h. tt;
  on_field_bits = λ at d e hd he. tt;
  on_declarator_name = λ at n. tt;
  on_declarator_omitted = tt;
  on_declarator_grouped = λ at d h. tt;
  on_declarator_pointer = λ at qs d h. tt;
  on_declarator_array = λ at d ws e hd he. tt;
  on_declarator_function = λ at d ps b hd hs. tt;
  on_type_name = λ t hs hd. tt;
  on_member_declaration = λ m hs hf. tt;
  on_enumerator = λ e h. tt;
  on_parameter = λ q hs hd. tt;
}

pub noted_blind : (e : Expr) (s : Scope) → Blind (noted e s).part
noted_blind e s =
    subst Blind (sym (part_noted e s))
    (of_expr (λ x. Unit {0}) BlindExpr (λ x. Unit {0}) (λ x. Unit {0}) (λ x. Unit {0}) (λ x. Unit {0})
    (λ x. Unit {0}) (λ x. Unit {0}) steps e s)
