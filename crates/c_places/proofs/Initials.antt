-- An initializer meets no place but those of its room.
use Rattle.std.proofs.Common.{◌≤◌, ℕ, ◌+◌, Bool, true, false, cond, List, [], ◌∷◌, ◌++◌, Option, Some, None}
use Rattle.std.proofs.Common.{sym, ap, subst, arith, le_refl}
use Rattle.std.specs.Prelude.{map, unwrap_or}
use Rattle.c_language.specs.declared.unit.Initializer.{Initializer}
use Rattle.c_language.specs.declared.unit.InitializerItem.{InitializerItem}
use Rattle.c_language.specs.declared.ctype.CType.{CType}
use Rattle.c_grammar.proofs.UnitEquations.{EachValue, InitialSteps, of_initializer}
use Rattle.c_language.specs.Initials.{Part, Designates, ToMember, ToElement, is_text_of}
use Rattle.c_language.specs.Scopes.{Scope}
use Rattle.c_means.specs.Parts.{State, Env, Level}
use Rattle.c_means.specs.Notes.{Noted, ExprNoted}
use Rattle.c_means.specs.Items.{with_value}
use Rattle.c_means.specs.Initials.{Element, Evaluates, Indexes, Initially, Initial, initially, listed_item, designated}
use Rattle.c_means.specs.Initials.{indices, all_elements, evaluated, sets, sets_all, sets_text, stores, all_rooms}
use Rattle.c_means.specs.Initials.{initialising_if}
use Rattle.c_means.proofs.RunEquations as eqs
use Rattle.c_places.proofs.Counts.{met}
use Rattle.c_means.specs.Notes.{noted}
use Rattle.std.proofs.Common.{◌≡◌, refl}
use Rattle.c_places.proofs.Parts.{Calling, Keeps}
use Rattle.c_language.specs.declared.expr.Expr.{Expr}
use Rattle.c_means.specs.Initials.{all_sizes, set_size, set_room}
use Rattle.c_places.proofs.Expressions.{noted_keeps}
use Rattle.c_places.proofs.Blind.{still, Blind, noted_blind}
use Rattle.c_places.proofs.Items.{runs, with_value_adds}

-- ---- expressions

pub record NotedKeeps (x : Noted) : Type 0 where
  pub keeps : (w : ℕ → ℕ) (p : ℕ) (l : Level) → Calling w p l → Keeps w p l x.part
  pub blind : Blind x.part

pub noted_is_kept : (e : Expr) (s : Scope) → NotedKeeps (noted e s)
noted_is_kept e s = record { keeps = λ w p l c. noted_keeps w p l c e s; blind = noted_blind e s }

abbrev pub ExprKeeps : ExprNoted → Type 0
ExprKeeps f = (s : Scope) → NotedKeeps (f s)

abbrev pub EachNoted : List Noted → Type 0
EachNoted [] = Unit {0}
EachNoted (x ∷ xs) = NotedKeeps x × EachNoted xs

abbrev pub ElementKeeps : Element → Type 0
ElementKeeps (Evaluates e) = ExprKeeps e
ElementKeeps (Indexes e) = Unit {0}

abbrev pub EachElement : List Element → Type 0
EachElement [] = Unit {0}
EachElement (x ∷ xs) = ElementKeeps x × EachElement xs

elements_append : (xs ys : List Element) → EachElement xs → EachElement ys → EachElement (xs ++ ys)
elements_append [] ys hx hy = hy
elements_append (x ∷ xs) ys hx hy = (hx.0, elements_append xs ys hx.1 hy)

evaluated_keep : (es : List Element) (s : Scope) → EachElement es → EachNoted (evaluated es s)
evaluated_keep [] s h = tt
evaluated_keep (Evaluates e ∷ es) s h = (h.0 s, evaluated_keep es (e s).part.typed.after h.1)
evaluated_keep (Indexes e ∷ es) s h = evaluated_keep es (e s).part.typed.after h.1

indices_keep : (ds : List (Designates ExprNoted)) → EachElement (indices ds)
indices_keep [] = tt
indices_keep (ToMember at name ∷ ds) = indices_keep ds
indices_keep (ToElement at e ∷ ds) = (tt, indices_keep ds)

-- ---- all initializers

abbrev Keeping : Initializer → Type 0
Keeping x = EachElement (initially x).elements

each_item : (xs : List InitializerItem) → EachValue Keeping xs → EachElement (all_elements (map listed_item xs))
each_item [] h = tt
each_item (x ∷ xs) h =
    elements_append (listed_item x).elements (all_elements (map listed_item xs))
    (subst (λ y. EachElement y.elements) (sym (eqs.listed-Item x))
    (elements_append (indices (map designated x.designators)) (initially x.value).elements
    (indices_keep (map designated x.designators)) h.0))
    (each_item xs h.1)

steps : InitialSteps Keeping
steps = record {
  on_value = λ e. subst (λ y. EachElement y.elements) (sym (eqs.initially-Value e))
      (noted_is_kept e, tt);
  on_list = λ at xs trailing h. subst (λ y. EachElement y.elements) (sym (eqs.initially-List at xs trailing))
      (each_item xs h);
}

pub initially_keeps : (x : Initializer) → EachElement (initially x).elements
initially_keeps x = of_initializer Keeping steps x

-- ---- what they do

pub record InitialKeeps (x : Initial) : Type 0 where
  pub size : (l : Level) → x.size l ≡ x.size (still l)
  pub room : (l : Level) → x.room l ≡ x.room (still l)
  pub acts : (w : ℕ → ℕ) (p : ℕ) (l : Level) → Calling w p l → (a : ℕ) (env : Env) (base : ℕ) (d : State) →
      met p (x.run a l env base d) + w base ≤ met p d + w (base + x.room l)

sets_keep : (w : ℕ → ℕ) (p : ℕ) (l : Level) → Calling w p l → (q : Part) (x : Noted) → NotedKeeps x →
    (a : ℕ) (env : Env) (base : ℕ) (d : State) →
    met p (sets q x a l env base d) + w base ≤ met p d + w (base + set_room q x l)
sets_keep w p l c q x h a env base d = by_text (is_text_of q.type x.part.typed)
  where
    by_text : (b : Bool) → met p (cond b
        (sets_text x.part.typed.after.tables q a (unwrap_or (x.part.text l) []) d)
        (with_value (x.part.run l env base d) (stores x.part.typed.after.tables q.type (a + q.offset)))) + w base
        ≤ met p d + w (base + cond b 0 (x.part.room l))
    by_text true = omega (arith, c.rises.more base (base + 0) (omega arith))
    by_text false =
        with_value_adds p (w base) (w (base + x.part.room l)) (w (base + x.part.room l)) (met p d)
        (x.part.run l env base d) (stores x.part.typed.after.tables q.type (a + q.offset))
        ((h.keeps w p l c).run env base d) (λ v d'. le_refl _) (le_refl _)

sets_all_keep : (w : ℕ → ℕ) (p : ℕ) (l : Level) → Calling w p l → (qs : List Part) (xs : List Noted) → EachNoted xs →
    (a : ℕ) (env : Env) (base : ℕ) (d : State) →
    met p (sets_all qs xs a l env base d) + w base ≤ met p d + w (base + all_rooms qs xs l)
sets_all_keep w p l c [] xs h a env base d = omega (arith, c.rises.more base (base + 0) (omega arith))
sets_all_keep w p l c (q ∷ qs) [] h a env base d = omega (arith, c.rises.more base (base + 0) (omega arith))
sets_all_keep w p l c (q ∷ qs) (x ∷ xs) h a env base d =
    let next = base + set_room q x l in
    let rest = all_rooms qs xs l in
    let d' = sets q x a l env base d in
    let up = c.rises.more next (next + rest) (omega arith) in
    omega (
      arith,
      sets_keep w p l c q x h.0 a env base d,
      runs p (w next) (w (next + rest)) (sets_all qs xs a l env next) d'
          (sets_all_keep w p l c qs xs h.1 a env next d') up,
      c.rises.more (next + rest) (base + (set_room q x l + rest)) (omega arith),
    )

set_size_blind : (q : Part) (x : Noted) → NotedKeeps x → (l : Level) → set_size q x l ≡ set_size q x (still l)
set_size_blind q x h l = ap (cond (is_text_of q.type x.part.typed) 1) (h.blind.size l)

set_room_blind : (q : Part) (x : Noted) → NotedKeeps x → (l : Level) → set_room q x l ≡ set_room q x (still l)
set_room_blind q x h l = ap (cond (is_text_of q.type x.part.typed) 0) (h.blind.room l)

sizes_blind : (qs : List Part) (xs : List Noted) → EachNoted xs → (l : Level) →
    all_sizes qs xs l ≡ all_sizes qs xs (still l)
sizes_blind [] xs h l = refl
sizes_blind (q ∷ qs) [] h l = refl
sizes_blind (q ∷ qs) (x ∷ xs) h l = omega (arith, set_size_blind q x h.0 l, sizes_blind qs xs h.1 l)

rooms_blind : (qs : List Part) (xs : List Noted) → EachNoted xs → (l : Level) →
    all_rooms qs xs l ≡ all_rooms qs xs (still l)
rooms_blind [] xs h l = refl
rooms_blind (q ∷ qs) [] h l = refl
rooms_blind (q ∷ qs) (x ∷ xs) h l = omega (arith, set_room_blind q x h.0 l, rooms_blind qs xs h.1 l)

abbrev pub MaybeElements : Option Initially → Type 0
MaybeElements None = Unit {0}
MaybeElements (Some x) = EachElement x.elements

pub initial_keeps : (x : Option Initially) (t : Option CType) (s : Scope) → MaybeElements x →
    InitialKeeps (initialising_if x t s)
initial_keeps None t s h =
    record {
      size = λ l. refl;
      room = λ l. refl;
      acts = λ w p l c a env base d. omega (arith, c.rises.more base (base + 0) (omega arith));
    }
initial_keeps (Some x) None s h =
    record {
      size = λ l. refl;
      room = λ l. refl;
      acts = λ w p l c a env base d. omega (arith, c.rises.more base (base + 0) (omega arith));
    }
initial_keeps (Some x) (Some t) s h = record {
  size = sizes_blind _ (evaluated x.elements s) (evaluated_keep x.elements s h);
  room = rooms_blind _ (evaluated x.elements s) (evaluated_keep x.elements s h);
  acts = λ w p l c a env base d.
      sets_all_keep w p l c _ (evaluated x.elements s) (evaluated_keep x.elements s h) a env base d;
}
