-- How what is known follows the declarations.
use Rattle.std.proofs.Common.{◌≡◌, refl, ap, sym, subst, ◌∙◌, ℕ, suc, ◌-◌, ◌<◌, ◌≤◌, List, [], ◌∷◌, ◌++◌, length, take, get_or, reverse, Bool, true, false, cond, arith, Option, Some}
use Rattle.std.specs.Prelude.{IsSome}
use Rattle.std.specs.Str.{bytes_eq}
use Rattle.std.specs.Cmp.Lexicographic.{bytes_decides, nat_list_eq_equiv}
use Rattle.std.proofs.Math.Seq.{take-suc}
use Rattle.std.proofs.lemmas.List.{reverse-append}
use Rattle.c_grammar.specs.Parts.{Name, Bound, Frame, same_name}
use Rattle.c_scope.specs.Local.{found}
use Rattle.c_scope.specs.Kinds.{kind_at, Changes}
use Rattle.c_scope.specs.Known.{hidden_by, Knows}
use Rattle.c_scope.specs.declared.kinds.Kinds.{Kinds}
use Rattle.c_scope.specs.declared.known.Known.{Known}
use Rattle.c_scope.proofs.Same.{same_name_is}
use Rattle.c_scope.proofs.Found.{found_by, first}

same_is : (a b : Name) → bytes_eq b a ≡ same_name a b
same_is a b = nat_list_eq_equiv.symm b a ∙ same_name_is a b

found_cons : (name : Name) (b : Bound) (bs : Frame) → found name (b ∷ bs) ≡ cond (bytes_eq b.name name) (Some b.is_type) (found name bs)
found_cons name b bs = rw (same_is name b.name) (by_same (same_name name b.name)) where
  by_same : (same : Bool) → found_by same b (first name bs) ≡ cond same (Some b.is_type) (found name bs)
  by_same true = refl
  by_same false = refl

pub noted : (b : Bound) (names : Frame) (before after : Known) (old : Option Bool) → Knows before names → old ≡ kind_at before.kinds b.name
    → Changes b.name (Some b.is_type) before.kinds after.kinds → after.hidden.items ≡ before.hidden.items ++ old ∷ [] → Knows after (b ∷ names)
noted b names before after old knows was changes grows = record {
  now = λ name. changes name ∙ ap (λ (o : Option Bool). cond (bytes_eq b.name name) (Some b.is_type) o) (knows.now name) ∙ sym (found_cons name b names);
  before = ap reverse grows ∙ reverse-append before.hidden.items (old ∷ [])
      ∙ ap (λ (o : Option Bool). o ∷ reverse before.hidden.items) (was ∙ knows.now b.name) ∙ ap (λ (r : List (Option Bool)). found b.name names ∷ r) knows.before;
}

same_self : (name : Name) → bytes_eq name name ≡ true
same_self name = (bytes_decides name name).1 refl

chosen : (name other : Name) (names : Frame) (same : Bool) (t : Bool) → bytes_eq name other ≡ same
    → cond same (found name names) (cond same (Some t) (found other names)) ≡ found other names
chosen name other names true t e = ap (λ (n : Name). found n names) ((bytes_decides name other).0 e)
chosen name other names false t e = refl

pub undone : (b : Bound) (names : Frame) (before after : Known) (old : Option Bool) → Knows before (b ∷ names) → before.hidden.items ≡ after.hidden.items ++ old ∷ []
    → (IsSome (kind_at before.kinds b.name) → Changes b.name old before.kinds after.kinds) → Knows after names
undone b names before after old knows shrinks change =
    let log : old ∷ reverse after.hidden.items ≡ found b.name names ∷ hidden_by names =
    sym (ap reverse shrinks ∙ reverse-append after.hidden.items (old ∷ [])) ∙ knows.before in
    let is : old ≡ found b.name names = (cc) in
    let rest : reverse after.hidden.items ≡ hidden_by names = (cc) in
    let here : kind_at before.kinds b.name ≡ Some b.is_type = knows.now b.name ∙ found_cons b.name b names
    ∙ ap (λ (same : Bool). cond same (Some b.is_type) (found b.name names)) (same_self b.name) in
    let changes : Changes b.name old before.kinds after.kinds = change (subst (λ (o : Option Bool). IsSome o) (sym here) refl) in
    record {
      now = λ name. changes name ∙ ap (λ (o : Option Bool). cond (bytes_eq b.name name) o (kind_at before.kinds name)) is
          ∙ ap (λ (o : Option Bool). cond (bytes_eq b.name name) (found b.name names) o) (knows.now name ∙ found_cons name b names)
          ∙ chosen b.name name names (bytes_eq b.name name) b.is_type refl;
      before = rest;
    }

pub nothing_undone : (b : Bound) (names : Frame) (before : Known) → Knows before (b ∷ names) → before.hidden.items ≡ [] → ⊥
nothing_undone b names before knows none = wrong (sym (ap reverse none) ∙ knows.before) where
  wrong : ◌≡◌ {A = List (Option Bool)} [] (found b.name names ∷ hidden_by names) → ⊥
  wrong e = (cc)

-- the declarations up to one, undone from the last
pub front : (names : Frame) (outer : Frame) (count : ℕ) (b : Bound) → 0 < count → count ≤ length names → b ≡ get_or names (count - 1) b
    → reverse (take count names) ++ outer ≡ b ∷ (reverse (take (count - 1) names) ++ outer)
front names outer count b positive within is =
    let e : count ≡ suc (count - 1) = omega arith in
    subst (λ (n : ℕ). reverse (take n names) ++ outer ≡ b ∷ (reverse (take (count - 1) names) ++ outer)) (sym e)
    (rw (take-suc names (count - 1) b (omega arith), reverse-append, ← is) refl)

-- the same of a map alone
pub put_found : (b : Bound) (names : Frame) (before after : Kinds) → ((name : Name) → kind_at before name ≡ found name names)
    → Changes b.name (Some b.is_type) before after → (name : Name) → kind_at after name ≡ found name (b ∷ names)
put_found b names before after knows changes name =
    changes name ∙ ap (λ (o : Option Bool). cond (bytes_eq b.name name) (Some b.is_type) o) (knows name) ∙ sym (found_cons name b names)

pub put_last : (b : Bound) (names more : List Bound) (before after : Kinds) → ((name : Name) → kind_at before name ≡ found name (reverse names))
    → Changes b.name (Some b.is_type) before after → more ≡ names ++ b ∷ [] → (name : Name) → kind_at after name ≡ found name (reverse more)
put_last b names more before after knows changes grows =
    rw (grows, reverse-append) (put_found b (reverse names) before after knows changes)
