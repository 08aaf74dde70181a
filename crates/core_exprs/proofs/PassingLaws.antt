-- Arguments one behind the other.
use Rattle.std.proofs.Common.{◌≡◌, ◌<◌, ◌≤◌, arith, ℕ, suc, ◌+◌, List, [], ◌∷◌, ◌++◌, length, Option, true, map, drop, refl, sym, ap, ap₂, ◌∙◌, subst}
use Rattle.std.proofs.lemmas.List.{append-nil, append_assoc, drop_all}
use Rattle.std.proofs.Math.Seq.{drop-cons}
use Rattle.std.specs.Prelude.{get_or}
use Rattle.c_language.specs.declared.expr.Expr as c_language
use Rattle.c_language.specs.declared.ctype.CType.{CType}
use Rattle.c_language.specs.declared.tables.Tables.{Tables}
use Rattle.c_language.specs.declared.scope.Fault.{Fault}
use Rattle.c_language.specs.declared.shown.Told.{Told}
use Rattle.c_language.specs.Scopes.{Scope}
use Rattle.c_language.specs.Typing.{Arguments, and_argument, no_arguments, told_of, type_in, used, used_told}
use Rattle.c_means.specs.Expressions.{arguments_said}
use Rattle.c_means.specs.Operators.{value_type}
use Rattle.c_means.specs.Parts.{Level, Part}
use Rattle.c_means.specs.Trees.{part, through}
use Rattle.core_tree.specs.declared.expr.Expr.{Expr}
use Rattle.elaborate.specs.Means.{Numbering}
use Rattle.core_forms.specs.declared.built.Used.{Used}
use Rattle.core_forms.specs.Nodes.{HasWorth}
use Rattle.core_forms.specs.Built.{IsUsed}
use Rattle.core_exprs.specs.declared.arguments.Passing.{Passing}
use Rattle.core_exprs.specs.declared.found.Found.{Found}
use Rattle.core_exprs.specs.Found.{IsFoundOf, AreFound, LeadsTo}
use Rattle.core_exprs.specs.Passing.{IsMarkedValue, AreValues, ArePassed, and_used, none_passed, texts_of, value_types}
use Rattle.core_exprs.proofs.EachForm.{on_used}

-- ---- one more

said_more : (xs : Arguments) (ps : List Part) (p : Part)
    → arguments_said xs (ps ++ p ∷ []) ≡ and_argument (arguments_said xs ps) (told_of (used p.typed))
said_more xs [] p = refl
said_more xs (q ∷ ps) p = said_more (and_argument xs (told_of (used q.typed))) ps p

types_more : (ps : List Part) (p : Part) → value_types (ps ++ p ∷ []) ≡ value_types ps ++ value_type p.typed ∷ []
types_more [] p = refl
types_more (q ∷ ps) p = ap (λ ts. value_type q.typed ∷ ts) (types_more ps p)

texts_more : (ps : List Part) (p : Part) (l : Level) → texts_of (ps ++ p ∷ []) l ≡ texts_of ps l ++ p.text l ∷ []
texts_more [] p l = refl
texts_more (q ∷ ps) p l = ap (λ ts. q.text l ∷ ts) (texts_more ps p l)

module _ (n : Numbering) where
  values_more : (es : List Expr) (ps : List Part) (e : Expr) (p : Part) → AreValues n es ps → IsMarkedValue n e p
      → AreValues n (es ++ e ∷ []) (ps ++ p ∷ [])
  values_more [] [] e p h v = (v, tt)
  values_more [] (q ∷ ps) e p h v = absurd h
  values_more (f ∷ es) [] e p h v = absurd h
  values_more (f ∷ es) (q ∷ ps) e p h v = (h.0, values_more es ps e p h.1 v)

  and_more : (faults : List Fault) (ps : List Part) (p : Part) (x : Passing) (u : Used) (text : Option (List ℕ))
      → ArePassed n faults ps x → IsUsed n u p → ((l : Level) → l.identity ≡ n.identity → text ≡ p.text l)
      → ArePassed n faults (ps ++ p ∷ []) (and_used x u text)
  and_more faults ps p x u text h k same = record {
    said = ap₂ and_argument h.said k.told ∙ sym (said_more (no_arguments faults) ps p);
    types = ap₂ (λ ts (v : Told). ts ++ type_in v.shown ∷ []) h.types k.told ∙ sym (types_more ps p);
    texts = λ l is. ap₂ (λ ts t. ts ++ t ∷ []) (h.texts l is) (same l is) ∙ sym (texts_more ps p l);
    values = values_more x.values ps u.value p h.values (record { value = k.value; marks = k.marks });
  }

  pub and_found : (faults : List Fault) (ps : List Part) (p : Part) (x : Passing) (tables : Tables) (s : Scope)
      (f : Found) (u : Used) (y : Passing) → tables ≡ s.tables → ArePassed n faults ps x → IsFoundOf n f p s
      → HasWorth true tables f.built (used_told tables f.built.told) u → y ≡ and_used x u f.text
      → ArePassed n faults (ps ++ p ∷ []) y
  and_found faults ps p x tables s f u y t h k m is =
      subst (λ y. ArePassed n faults (ps ++ p ∷ []) y) (sym is)
      (and_more faults ps p x u f.text h (on_used n tables s f p u t k m) k.text)

  -- ---- the loop

  pub begins : (faults : List Fault) (es : List c_language.Expr) (s : Scope) (x : Passing) → x ≡ none_passed faults
      → LeadsTo n faults es s es x s
  begins faults es s x is = subst (λ x. LeadsTo n faults es s es x s) (sym is) (record {
    done = [];
    passed = record { said = refl; types = refl; texts = λ l k. refl; values = tt };
    all = refl;
    after = refl;
  })

  goes : (faults : List Fault) (es : List c_language.Expr) (s : Scope) (e : c_language.Expr) (rest : List c_language.Expr)
      (x y : Passing) (here s1 : Scope) (f : Found) → LeadsTo n faults es s (e ∷ rest) x here
      → IsFoundOf n f (part e here) s1
      → ((ps : List Part) → ArePassed n faults ps x → ArePassed n faults (ps ++ part e here ∷ []) y)
      → LeadsTo n faults es s rest y s1
  goes faults es s e rest x y here s1 f h k step = record {
    done = h.done ++ part e here ∷ [];
    passed = step h.done h.passed;
    all = append_assoc h.done (part e here ∷ []) (through (map part rest) s1).all
        ∙ ap (λ t. h.done ++ part e here ∷ (through (map part rest) t).all) k.after ∙ h.all;
    after = ap (λ t. (through (map part rest) t).after) k.after ∙ h.after;
  }

  add_one : (i : ℕ) → i + 1 ≡ suc i
  add_one i = omega arith

  pub goes_on : (faults : List Fault) (es : List c_language.Expr) (s : Scope) (i : ℕ) (e e' : c_language.Expr) (x y : Passing)
      (here s1 : Scope) (f : Found) → i < length es → e ≡ get_or es i e → e' ≡ e
      → LeadsTo n faults es s (drop i es) x here → IsFoundOf n f (part e' here) s1
      → ((ps : List Part) (p : Part) → ArePassed n faults ps x → IsFoundOf n f p s1 → ArePassed n faults (ps ++ p ∷ []) y)
      → LeadsTo n faults es s (drop (i + 1) es) y s1
  goes_on faults es s i e e' x y here s1 f within is same h k step =
      let cut : drop i es ≡ e ∷ drop (i + 1) es = drop-cons es i e within
      ∙ ap (λ z. z ∷ drop (suc i) es) (sym is) ∙ ap (λ j. e ∷ drop j es) (sym (add_one i)) in
      let found = subst (λ z. IsFoundOf n f (part z here) s1) same k in
      goes faults es s e (drop (i + 1) es) x y here s1 f (subst (λ z. LeadsTo n faults es s z x here) cut h) found
      (λ ps g. step ps (part e here) g found)

  over : (faults : List Fault) (es : List c_language.Expr) (s : Scope) (x : Passing) (here : Scope)
      → LeadsTo n faults es s [] x here → AreFound n faults es s x here
  over faults es s x here h = record {
    passed = subst (λ ps. ArePassed n faults ps x) (sym (append-nil h.done) ∙ h.all) h.passed;
    after = h.after;
  }

  pub ends : (faults : List Fault) (es : List c_language.Expr) (s : Scope) (i : ℕ) (x : Passing) (here : Scope)
      → length es ≤ i → LeadsTo n faults es s (drop i es) x here → AreFound n faults es s x here
  ends faults es s i x here past h =
      over faults es s x here (subst (λ z. LeadsTo n faults es s z x here) (drop_all i es past) h)
