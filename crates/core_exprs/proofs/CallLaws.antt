-- A call by a name, by what was found of its arguments.
use Rattle.std.proofs.Common.{◌≡◌, ℕ, ℤ, List, [], ◌∷◌, Option, Some, None, true, false, refl, sym, ap, ap₂, ◌∙◌, subst}
use Rattle.c_language.specs.declared.ctype.CType.{CType}
use Rattle.c_language.specs.declared.tables.Tables.{Tables}
use Rattle.c_language.specs.declared.scope.Entry.{Entry}
use Rattle.c_language.specs.declared.shown.Shown.{Shown}
use Rattle.c_language.specs.declared.shown.Told.{Told}
use Rattle.c_language.specs.Scopes.{Scope}
use Rattle.c_language.specs.Typing as says
use Rattle.c_language.specs.Typing.{Typed, type_in, type_of, no_arguments, told_of, typed_in}
use Rattle.c_means.specs.Expressions as form
use Rattle.c_means.specs.Expressions.{arguments_said, direct_call, passed, passed_texts, passed_types, parameters_from}
use Rattle.c_means.specs.Expressions.{parameters_of, site}
use Rattle.c_means.specs.Operators.{value_type}
use Rattle.c_means.specs.Parts.{Level, Part, Site}
use Rattle.c_means.specs.Values.{bytes_of, class_in}
use Rattle.core_tree.specs.declared.expr.Callee.{Callee}
use Rattle.core_tree.specs.declared.expr.Expr.{Expr}
use Rattle.core_tree.specs.declared.types.ValueType.{ValueType}
use Rattle.c_means.specs.Marks.{Calls}
use Rattle.core_tree.specs.declared.expr.Expr.TheVariants as expr
use Rattle.core_marks.specs.Marks.{call_marks, values_marks}
use Rattle.core_marks.proofs.ExprMarks as trees
use Rattle.elaborate.specs.Means.{Numbering, SameMarks, as_done, IsCallOf, AreArguments}
use Rattle.elaborate.proofs.Calls.{call_effect, call_value, needed_same}
use Rattle.core_forms.specs.declared.built.Node.TheVariants as node
use Rattle.core_forms.specs.declared.built.Built.{Built}
use Rattle.core_forms.specs.Nodes.{a_part, type_as, unmeant}
use Rattle.core_forms.proofs.Forms.{converted_does}
use Rattle.core_forms.proofs.Marks.{by_marks, marks_then, no_marks}
use Rattle.core_exprs.specs.declared.arguments.Passing.{Passing}
use Rattle.core_exprs.specs.declared.found.Found.{Found}
use Rattle.core_exprs.specs.declared.site.Site.{Site as CodeSite}
use Rattle.core_exprs.specs.Found.{IsCallAt, IsFoundOf, plain}
use Rattle.core_exprs.proofs.EachForm as each
use Rattle.core_exprs.specs.Passing.{AreValues, ArePassed, all_converted, texts_of, types_passed, value_types}
use Rattle.core_exprs.specs.Sites.{site_of}

-- ---- the arguments as they are converted

types_are : (ps : List Part) (ts : List CType) → types_passed (value_types ps) ts ≡ passed_types (passed ps ts)
types_are [] ts = refl
types_are (p ∷ ps) [] = ap (λ us. form.promoted_type (value_type p.typed) ∷ us) (types_are ps [])
types_are (p ∷ ps) (t ∷ ts) = ap (λ us. Some t ∷ us) (types_are ps ts)

texts_are : (ps : List Part) (ts : List CType) (l : Level) → texts_of ps l ≡ passed_texts (passed ps ts) l
texts_are [] ts l = refl
texts_are (p ∷ ps) [] l = ap (λ us. p.text l ∷ us) (texts_are ps [] l)
texts_are (p ∷ ps) (t ∷ ts) l = ap (λ us. p.text l ∷ us) (texts_are ps ts l)

module _ (n : Numbering) where
  arguments_are : (tables : Tables) (ps : List Part) (ts : List CType) (es : List Expr) → AreValues n es ps
      → AreArguments n (all_converted tables (passed_types (passed ps ts)) es) (passed ps ts)
  arguments_are tables [] ts es h = tt
  arguments_are tables (p ∷ ps) [] [] h = absurd h
  arguments_are tables (p ∷ ps) (t ∷ ts) [] h = absurd h
  arguments_are tables (p ∷ ps) [] (e ∷ es) h =
      (converted_does n tables (form.promoted_type (value_type p.typed)) e p h.0.value, arguments_are tables ps [] es h.1)
  arguments_are tables (p ∷ ps) (t ∷ ts) (e ∷ es) h =
      (converted_does n tables (Some t) e p h.0.value, arguments_are tables ps ts es h.1)

  arguments_marks : (tables : Tables) (ps : List Part) (ts : List CType) (es : List Expr) → AreValues n es ps
      → SameMarks n (values_marks (all_converted tables (passed_types (passed ps ts)) es)) (form.all_marks (passed ps ts))
  arguments_marks tables [] ts es h = no_marks n
  arguments_marks tables (p ∷ ps) [] [] h = absurd h
  arguments_marks tables (p ∷ ps) (t ∷ ts) [] h = absurd h
  arguments_marks tables (p ∷ ps) [] (e ∷ es) h =
      let to = type_as tables (form.promoted_type (value_type p.typed)) in
      marks_then n (by_marks n (trees.marks-Convert (expr.Convert to e) to e refl) h.0.marks)
      (arguments_marks tables ps [] es h.1)
  arguments_marks tables (p ∷ ps) (t ∷ ts) (e ∷ es) h =
      let to = type_as tables (Some t) in
      marks_then n (by_marks n (trees.marks-Convert (expr.Convert to e) to e refl) h.0.marks)
      (arguments_marks tables ps ts es h.1)

  -- what is called, at the sites that a level has
  called_at : (c : Callee) (at : ℕ) (t : ValueType) (g : Site) (h : Level → Site)
      → ((l : Level) → l.identity ≡ n.identity → g ≡ h l) → IsCallOf n c at t (λ l. g) → IsCallOf n c at t h
  called_at c at t g h same i = record {
    size = λ l k like. i.size l k like ∙ ap l.size (same l like.identity);
    room = λ l k like. i.room l k like ∙ ap l.room (same l like.identity);
    marks = record {
      are = λ name l k like named. i.marks.are name l k like (λ x f is. named x f is)
          ∙ ap l.marks (same l like.identity);
    };
    runs = λ l k like env vs base s o. i.runs l k like env vs base s o
        ∙ ap (λ x. Some (as_done (l.call x env vs base s o.count))) (same l like.identity);
  }

  -- ---- a call by a name

  module _ (at : ℕ) (f : Part) (ps : List Part) (s : Scope) (fs : Shown) (e : Entry) (is : f.typed.shown ≡ Some fs)
      (named : fs.designates ≡ Some e) (xs : Passing) (h : ArePassed n f.typed.faults ps xs) where
    abbrev said_ : Typed
    said_ = says.call at f.typed.at f.typed.shown (arguments_said (no_arguments f.typed.faults) ps) s

    abbrev passed_ : List form.Passed
    passed_ = passed ps (parameters_of s.tables (type_of f.typed))

    abbrev values_ : List Expr
    values_ = all_converted s.tables (passed_types passed_) xs.values

    is_direct : form.call at f ps s ≡ direct_call f.typed.at said_ (site f.typed.at e said_ passed_) passed_
    is_direct =
        ap (λ x. form.call_of (form.designated x) f.typed said_ passed_) is
        ∙ ap (λ x. form.call_of x f.typed said_ passed_) named

    -- what the code holds of the site
    abbrev site_ : CodeSite
    site_ = record {
      at = f.typed.at;
      callee = e;
      ctype = type_of said_;
      types = passed_types passed_;
      texts = xs.texts;
    }

    site_same : (l : Level) → l.identity ≡ n.identity → site_of site_ s ≡ site f.typed.at e said_ passed_ l
    site_same l k = ap (λ ts. the_site ts)
        (h.texts l k ∙ texts_are ps (parameters_of s.tables (type_of f.typed)) l)
      where
        the_site : List (Option (List ℕ)) → Site
        the_site ts = record {
          at = f.typed.at;
          callee = e;
          ctype = type_of said_;
          types = passed_types passed_;
          texts = ts;
          scope = s;
        }

    direct_found : (x : Found) → IsCallAt n s (told_of said_) site_ values_ x
        → IsFoundOf n x (direct_call f.typed.at said_ (site f.typed.at e said_ passed_) passed_) s
    direct_found x c =
        let g = site f.typed.at e said_ passed_ in
        let t = type_as s.tables (type_of said_) in
        let args = arguments_are s.tables ps (parameters_of s.tables (type_of f.typed)) xs.values h.values in
        let calls = called_at c.callee f.typed.at t (site_of site_ s) g site_same c.calls in
        let standing : SameMarks n (call_marks f.typed.at c.callee) (λ l. form.call_marks (g l) l) =
        record {
          are = λ name l k like named.
              ap (λ ms. Calls f.typed.at ∷ ms) (calls.marks.are name l k like named);
        } in
        subst (λ x. IsFoundOf n x (direct_call f.typed.at said_ g passed_) s) (sym c.is) (record {
          built = record {
            told = refl;
            rooted = refl;
            node = record {
              is_value = refl;
              nowhere = record { reaches = λ l env base d. refl };
              value = call_value n f.typed.at values_ passed_ c.callee t said_ g args calls (λ l. refl)
                  (needed_same f.typed.at (class_in (type_of said_)) (bytes_of s.tables (type_of said_)));
              effect = call_effect n f.typed.at values_ passed_ c.callee t said_ g args calls (λ l. refl);
              marks = λ used. by_marks n
                  (trees.marks-Call (expr.Call f.typed.at values_ c.callee t used) f.typed.at values_ c.callee t used
                  refl) (marks_then n standing
                  (arguments_marks s.tables ps (parameters_of s.tables (type_of f.typed)) xs.values h.values));
              place_marks = λ l. refl;
            };
          };
          text = λ l k. ap₂ (λ i ts. form.text_at (i e.name) ts) (sym k)
              (h.texts l k ∙ texts_are ps (parameters_of s.tables (type_of f.typed)) l);
          after = refl;
        })

    abbrev the_code : ℕ → Option CType → List (Option CType) → CodeSite
    the_code m t ts = record { at = m; callee = e; ctype = t; types = ts; texts = xs.texts }

    moved : (name : ℕ) (told : Told) (ctype : Option CType) (types : List (Option CType)) (values : List Expr)
        (x : Found) → name ≡ f.typed.at → told ≡ told_of said_ → ctype ≡ type_of said_
        → types ≡ passed_types passed_ → values ≡ values_
        → IsCallAt n s told (the_code name ctype types) values x → IsCallAt n s (told_of said_) site_ values_ x
    moved name told ctype types values x a b d k v m =
        let g : the_code name ctype types ≡ site_ = ap (λ m. the_code m ctype types) a
        ∙ ap₂ (λ t ts. the_code f.typed.at t ts) d k in
        subst (λ y. IsCallAt n s y site_ values_ x) b (subst (λ es. IsCallAt n s told site_ es x) v
        (subst (λ y. IsCallAt n s told y values x) g m))

    pub call_found : (name : ℕ) (told : Told) (ctype : Option CType) (types : List (Option CType)) (values : List Expr)
        (x : Found) → f.typed.at ≡ name
        → types ≡ types_passed xs.types (parameters_from s.tables fs.ctype.derivations)
        → values ≡ all_converted s.tables types xs.values
        → typed_in told s ≡ says.call at name (Some fs) xs.arguments s → ctype ≡ type_in told.shown
        → IsCallAt n s told (record { at = name; callee = e; ctype = ctype; types = types; texts = xs.texts }) values x
        → IsFoundOf n x (form.call at f ps s) s
    call_found name told ctype types values x same of vs tells has c =
        let types_is : types ≡ passed_types passed_ = of
        ∙ ap₂ (λ (us : List (Option CType)) (y : Option Shown). types_passed us (parameters_of s.tables (type_in y))) h.types (sym is)
        ∙ types_are ps (parameters_of s.tables (type_of f.typed)) in
        let told_is : told ≡ told_of said_ = ap told_of tells
        ∙ ap₂ (λ (y : Option Shown) (zs : says.Arguments). told_of (says.call at name y zs s)) (sym is) h.said
        ∙ ap (λ a. told_of (says.call at a f.typed.shown (arguments_said (no_arguments f.typed.faults) ps) s)) (sym same)
        in
        let ctype_is : ctype ≡ type_of said_ = has ∙ ap (λ (v : Told). type_in v.shown) told_is in
        let values_is : values ≡ values_ = vs ∙ ap (λ ts. all_converted s.tables ts xs.values) types_is in
        subst (λ p. IsFoundOf n x p s) (sym is_direct) (direct_found x (moved name told ctype types values x
        (sym same) told_is ctype_is types_is values_is c))

-- a call of what is no name
pub uncalled_found : (n : Numbering) (at name : ℕ) (f : Part) (ps : List Part) (s : Scope) (shown : Option Shown)
    (xs : Passing) (told : Told) (z : Built) (x : Found) → f.typed.at ≡ name → f.typed.shown ≡ shown
    → form.designated shown ≡ None → ArePassed n f.typed.faults ps xs
    → typed_in told s ≡ says.call at name shown xs.arguments s → z ≡ a_part told false unmeant → x ≡ plain z
    → IsFoundOf n x (form.call at f ps s) s
uncalled_found n at name f ps s shown xs told z x same is none h tells made found =
    let said = says.call at f.typed.at f.typed.shown (arguments_said (no_arguments f.typed.faults) ps) s in
    let told_is : told ≡ told_of said = ap told_of tells
    ∙ ap₂ (λ (y : Option Shown) (zs : says.Arguments). told_of (says.call at name y zs s)) (sym is) h.said
    ∙ ap (λ a. told_of (says.call at a f.typed.shown (arguments_said (no_arguments f.typed.faults) ps) s)) (sym same)
    in
    subst (λ p. IsFoundOf n x p s)
    (sym (ap (λ y. form.call_of y f.typed said (passed ps (parameters_of s.tables (type_of f.typed))))
    (ap form.designated is ∙ none))) (each.on_unmeant n said told s z x made told_is refl found)

-- what is made of what is called
pub made_at : (n : Numbering) (s : Scope) (tables : Tables) (told : Told) (g : CodeSite) (es : List Expr) (c : Callee)
    (answer : ValueType) (text : Option (List ℕ)) → tables ≡ s.tables → answer ≡ type_as tables g.ctype
    → text ≡ form.text_at (n.identity g.callee.name) g.texts
    → IsCallOf n c g.at (type_as s.tables g.ctype) (λ l. site_of g s)
    → IsCallAt n s told g es (record {
      built = record {
        told = told;
        rooted = false;
        node = node.Call (record { at = g.at; arguments = es; callee = c; answer = answer });
      };
      text = text;
    })
made_at n s tables told g es c answer text t a b h = record {
  callee = c;
  is = ap₂ (the_found c) (a ∙ ap (λ u. type_as u g.ctype) t) b;
  calls = h;
}
  where
    the_found : Callee → ValueType → Option (List ℕ) → Found
    the_found c answer text = record {
      built = record {
        told = told;
        rooted = false;
        node = node.Call (record { at = g.at; arguments = es; callee = c; answer = answer });
      };
      text = text;
    }
