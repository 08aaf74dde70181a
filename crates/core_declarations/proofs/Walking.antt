-- Expressions of an initializer, gone through one behind the other.
use Rattle.std.proofs.Common.{◌≡◌, List, [], ◌∷◌, ◌++◌, map, refl, sym, ap, ◌∙◌, subst}
use Rattle.std.proofs.lemmas.List.{append-nil, append_assoc}
use Rattle.c_language.specs.declared.unit.Designator.{Designator}
use Rattle.c_language.specs.declared.unit.Designator.TheVariants as designator
use Rattle.c_language.specs.Scopes.{Scope}
use Rattle.c_language.specs.Initials.{Part, Filling}
use Rattle.c_means.specs.Notes.{Noted, ExprNoted, noted}
use Rattle.c_means.specs.Initials.{Element, Evaluates, Indexes, evaluated, designated, indices}
use Rattle.c_item_notes.specs.Levels.{Judged}
use Rattle.c_item_notes.specs.InitialTellings.{Seen, see, seen_in, no_notes, and_heard}
use Rattle.c_item_notes.specs.Levels.{heard}
use Rattle.c_item_notes.proofs.Designating.{by_notes, see_by}
use Rattle.elaborate.specs.Means.{Numbering}
use Rattle.core_declarations.specs.declared.initials.Walked.{Walked}
use Rattle.core_declarations.specs.declared.pairing.Paired.{Paired}
use Rattle.core_declarations.specs.Pairing.{Holds}
use Rattle.core_declarations.specs.Walked.{HasGone, Walks, behind}

-- ---- expressions one behind the other

evaluated_both : (xs ys : List Element) (s : Scope) → evaluated (xs ++ ys) s ≡ evaluated xs s ++ evaluated ys (behind xs s)
evaluated_both [] ys s = refl
evaluated_both (Evaluates e ∷ xs) ys s = ap (λ zs. e s ∷ zs) (evaluated_both xs ys (e s).part.typed.after)
evaluated_both (Indexes e ∷ xs) ys s = evaluated_both xs ys (e s).part.typed.after

behind_both : (xs ys : List Element) (s : Scope) → behind (xs ++ ys) s ≡ behind ys (behind xs s)
behind_both [] ys s = refl
behind_both (Evaluates e ∷ xs) ys s = behind_both xs ys (e s).part.typed.after
behind_both (Indexes e ∷ xs) ys s = behind_both xs ys (e s).part.typed.after

pub walks_none : (n : Numbering) (x : Walked) (s : Scope) → Walks n [] x s x s
walks_none n x s = record {
  goes = λ ns h. subst (λ ms. HasGone n ms x) (sym (append-nil ns)) h;
  after = refl;
}

pub walks_both : (n : Numbering) (xs ys : List Element) (x y z : Walked) (s t u : Scope) → Walks n xs x s y t
    → Walks n ys y t z u → Walks n (xs ++ ys) x s z u
walks_both n xs ys x y z s t u h k = record {
  goes = λ ns g. subst (λ ms. HasGone n ms z)
      (append_assoc ns (evaluated xs s) (evaluated ys t)
      ∙ ap (λ t. ns ++ (evaluated xs s ++ evaluated ys t)) h.after
      ∙ ap (λ ms. ns ++ ms) (sym (evaluated_both xs ys s)))
      (k.goes (ns ++ evaluated xs s) (h.goes ns g));
  after = k.after ∙ ap (behind ys) h.after ∙ sym (behind_both xs ys s);
}

pub walks_one : (n : Numbering) (e : ExprNoted) (x y : Walked) (s t : Scope)
    → ((ns : List Noted) → HasGone n ns x → HasGone n (ns ++ e s ∷ []) y) → t ≡ (e s).part.typed.after
    → Walks n (Evaluates e ∷ []) x s y t
walks_one n e x y s t h is = record { goes = h; after = is }

-- ---- designators, whose indices aren't evaluated

no_values : (ds : List Designator) (s : Scope) → evaluated (indices (map designated ds)) s ≡ []
no_values [] s = refl
no_values (designator.Member at name ∷ ds) s = no_values ds s
no_values (designator.Element at index ∷ ds) s = no_values ds (noted index s).part.typed.after

see_after : (j : Judged) (es : List Element) (z : Seen) → (see j es z).after ≡ behind es z.after
see_after j [] z = refl
see_after j (Evaluates e ∷ es) z = see_after j es (and_heard (heard j (e z.after)) z.notes)
see_after j (Indexes e ∷ es) z = see_after j es (seen_in z.notes (e z.after).part.typed.after)

-- no function is known of
nobody : Judged
nobody = record { externals = []; profile = record { log = []; identity = []; fills = []; never_null = [] } }

behind_indices : (ds : List Designator) (y : Filling) → behind (indices (map designated ds)) y.scope ≡ (by_notes ds y).scope
behind_indices ds y =
    sym (see_after nobody (indices (map designated ds)) (seen_in no_notes y.scope))
    ∙ ap (λ (z : Seen). z.after) (see_by nobody ds no_notes y)

pub walks_designated : (n : Numbering) (ds : List Designator) (es : List Element) (y : Filling) (x z : Walked) (t : Scope)
    → Walks n es x (by_notes ds y).scope z t → Walks n (indices (map designated ds) ++ es) x y.scope z t
walks_designated n ds es y x z t h =
    let is = indices (map designated ds) in
    record {
      goes = λ ns g. subst (λ ms. HasGone n (ns ++ ms) z)
          (ap (evaluated es) (sym (behind_indices ds y))
          ∙ sym (evaluated_both is es y.scope ∙ ap (λ ns. ns ++ evaluated es (behind is y.scope)) (no_values ds y.scope)))
          (h.goes ns g);
      after = h.after ∙ ap (behind es) (sym (behind_indices ds y)) ∙ sym (behind_both is es y.scope);
    }

-- only which parts are filled, and which expressions have theirs, is of account
gone_from : (n : Numbering) (ns : List Noted) (x y : Walked) → x.filling.parts ≡ y.filling.parts → x.paired ≡ y.paired
    → HasGone n ns x → HasGone n ns y
gone_from n ns x y parts paired h =
    subst (λ (ps : List Part). Holds n ns ps y.paired) parts
    (subst (λ (z : Paired). Holds n ns x.filling.parts z) paired h)

pub walks_from : (n : Numbering) (es : List Element) (x x' y y' : Walked) (s t : Scope)
    → x.filling.parts ≡ x'.filling.parts → x.paired ≡ x'.paired → y.filling.parts ≡ y'.filling.parts
    → y.paired ≡ y'.paired → Walks n es x' s y' t → Walks n es x s y t
walks_from n es x x' y y' s t p g q k h = record {
  goes = λ ns z. gone_from n (ns ++ evaluated es s) y' y (sym q) (sym k) (h.goes ns (gone_from n ns x x' p g z));
  after = h.after;
}
