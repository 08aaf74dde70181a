-- The core of a declared name is what the name's declaration does, by what it means.
use Rattle.std.proofs.Common.{◌≡◌, ℕ, ◌+◌, Bool, true, false, cond, List, [], ◌∷◌, map, Option, Some, None}
use Rattle.std.proofs.Common.{refl, sym, ap, ◌∙◌, subst}
use Rattle.std.proofs.lemmas.List.{append-nil}
use Rattle.c_store.specs.Store.{start}
use Rattle.c_means.specs.Parts.{State}
use Rattle.c_language.specs.declared.scope.Duration.TheVariants as duration
use Rattle.c_language.specs.declared.scope.Entry.{Entry}
use Rattle.c_language.specs.declared.scope.Linkage.{Linkage}
use Rattle.c_language.specs.declared.scope.Means.{Means}
use Rattle.c_language.specs.declared.scope.Means.TheVariants as means
use Rattle.c_language.specs.Scopes.{Scope, Name}
use Rattle.c_means.specs.declared.breach.Breach.{Breach}
use Rattle.c_means.specs.Initials as initials
use Rattle.c_means.specs.Items as runs
use Rattle.c_means.specs.Statements as statements
use Rattle.core_tree.specs.declared.code.Code.{Code}
use Rattle.core_tree.specs.declared.code.Code.TheVariants as tree
use Rattle.core_tree.specs.declared.code.Setting.{Setting}
use Rattle.core_tree.specs.declared.expr.Expr.{Expr}
use Rattle.core_tree.specs.declared.program.LastingSetting.{LastingSetting}
use Rattle.core_tree.specs.Codes as core
use Rattle.core_tree.proofs.Equations as eq
use Rattle.core_marks.specs.Marks.{code_marks}
use Rattle.elaborate.specs.Means.{Numbering, SameMarks, as_done, IsCodeOf}
use Rattle.elaborate.proofs.Codes.{by_item, running_same}
use Rattle.core_forms.proofs.Marks.{no_marks}
use Rattle.code_forms.proofs.Turns.{alone_codes}
use Rattle.code_forms.proofs.Marks.{alone_marks, lasting_marks, object_marks}
use Rattle.core_objects.specs.declared.begun.Begun.{Begun}
use Rattle.core_objects.specs.declared.given.Initial.{Initial}
use Rattle.core_objects.specs.Begun.{AreAllSet, IsBegun, bare, nothing_begun, one_begun}
use Rattle.core_objects.specs.Given.{IsCounted, IsGiven, IsGivenTo, IsInitial, IsLasting, counted_if, lasting_setting}
use Rattle.core_objects.proofs.Settling.{settled}

-- no initializer
pub none_is_given : (m : Means) (numbering : Numbering) (y : Initial)
    → y ≡ record { is_zeroed = false; settings = []; counted = [] } → IsInitial m numbering y initials.uninitialised
none_is_given m numbering y is = subst (λ y. IsInitial m numbering y initials.uninitialised) (sym is) (record {
  zeroed = refl;
  given = by m;
})
  where
    nothing_given : (n : Numbering) → IsGiven n [] initials.uninitialised
    nothing_given n = record {
      size = λ l k like. refl;
      room = λ l k like. refl;
      runs = λ l k like a env base d. refl;
      marks = no_marks n;
    }

    by : (m : Means)
        → IsGivenTo m numbering (record { is_zeroed = false; settings = []; counted = [] }) initials.uninitialised
    by (means.Object t duration.Automatic l) = nothing_given numbering
    by (means.Object t duration.Static l) = record {
      given = nothing_given (bare numbering);
      counted = record { size = λ l k like. refl; marks = no_marks numbering };
      quiet = record { room = λ l k last. refl; prints = λ l k last a env base d. refl };
    }
    by (means.Function t l) = tt
    by (means.Typedef t) = tt
    by (means.Constant z) = tt
    by means.Faulty = tt

-- ---- one object

zeroed_same : (b : Bool) (a n : ℕ) (d : State) → core.zeroed_if b a n (as_done d) ≡ as_done (statements.zeroed_if b a n d)
zeroed_same true a n d = refl
zeroed_same false a n d = refl

module _ (numbering : Numbering) where
  automatic_code : (en : Entry) (n : ℕ) (z : Bool) (xs : List Setting) (x : initials.Initial) (s : Scope)
      → z ≡ x.is_zeroed → IsGiven numbering xs x
      → IsCodeOf numbering (tree.Declare en.at n z xs) (statements.automatic en n x s)
  automatic_code en n z xs x s zeroed h = by_item numbering _ _ _ (eq.does-Declare en.at n z xs) (record {
    size = λ l k like. ap (λ m. 1 + m) (h.size l k like);
    room = λ l k like. ap (λ m. 1 + m) (h.room l k like);
    objects = λ l k like base. refl;
    runs = λ l k like env base d. running_same
        (λ d. core.sets_all xs (start (env en.at)) k env (base + 1) (core.zeroed_if z (start (env en.at)) n d))
        (λ d. x.run (start (env en.at)) l env (base + 1) (statements.zeroed_if x.is_zeroed (start (env en.at)) n d)) d
        (ap (core.sets_all xs (start (env en.at)) k env (base + 1)) (zeroed_same z (start (env en.at)) n d)
        ∙ h.runs l k like (start (env en.at)) env (base + 1) (statements.zeroed_if z (start (env en.at)) n d)
        ∙ ap (λ b. Some (as_done (x.run (start (env en.at)) l env (base + 1)
        (statements.zeroed_if b (start (env en.at)) n d)))) zeroed);
  })

  lasting_code : (at : ℕ) (en : Entry) (n : ℕ) (k : Linkage) (defined : Bool) (es : List Expr) (x : initials.Initial)
      (s : Scope) → IsCounted numbering es x
      → IsCodeOf numbering (tree.Static defined (counted_if defined es)) (statements.lasting at en n k defined x s)
  lasting_code at en n k true es x s h = by_item numbering _ _ _ (eq.does-Static true es) (record {
    size = λ l k like. ap (λ m. 1 + m) (h.size l k like);
    room = λ l k like. refl;
    objects = λ l k like base. refl;
    runs = λ l k like env base d. refl;
  })
  lasting_code at en n k false es x s h = by_item numbering _ _ _ (eq.does-Static false []) (record {
    size = λ l k like. refl;
    room = λ l k like. refl;
    objects = λ l k like base. refl;
    runs = λ l k like env base d. refl;
  })

  -- what is declared elsewhere has no initializer
  lasting_same : (defined : Bool) (es : List Expr) (x : initials.Initial) → IsCounted numbering es x
      → SameMarks numbering (code_marks (tree.Static defined (counted_if defined es)))
      (λ l. cond defined (x.marks l) [])
  lasting_same true es x h = lasting_marks numbering true es h.marks
  lasting_same false es x h = lasting_marks numbering false [] (no_marks numbering)

  none_set : AreAllSet numbering [] []
  none_set = record { each = []; all = refl; set = tt }

  -- an object of a block
  pub automatic_begun : (en : Entry) (n : ℕ) (z : Bool) (xs : List Setting) (x : initials.Initial) (s : Scope)
      (c : Code) (y : Begun) → c ≡ tree.Declare en.at n z xs → y ≡ one_begun c [] → z ≡ x.is_zeroed
      → IsGiven numbering xs x → IsBegun numbering y (statements.automatic en n x s) s
  automatic_begun en n z xs x s c y code is zeroed h =
      subst (λ y. IsBegun numbering y (statements.automatic en n x s) s)
      (sym (is ∙ ap (λ c. one_begun c []) code)) (record {
        codes = alone_codes numbering (tree.Declare en.at n z xs) (statements.automatic en n x s)
            (automatic_code en n z xs x s zeroed h);
        lasting = none_set;
        after = refl;
        marks = alone_marks numbering (tree.Declare en.at n z xs) (object_marks numbering en.at n z xs h.marks);
      })

  -- an object that lives throughout the run
  pub lasting_begun : (at : ℕ) (en : Entry) (n : ℕ) (k : Linkage) (defined : Bool) (i : Initial) (x : initials.Initial)
      (s : Scope) (place : ℕ) (c : Code) (xs : List LastingSetting) (y : Begun) → place ≡ numbering.place en.at
      → xs ≡ map (lasting_setting place) i.settings → c ≡ tree.Static defined (counted_if defined i.counted)
      → y ≡ one_begun c xs → IsLasting numbering i x → IsBegun numbering y (statements.lasting at en n k defined x s) s
  lasting_begun at en n k defined i x s place c xs y placed settings code is h =
      let all = map (lasting_setting (numbering.place en.at)) i.settings in
      let same = settings ∙ ap (λ p. map (lasting_setting p) i.settings) placed in
      subst (λ y. IsBegun numbering y (statements.lasting at en n k defined x s) s)
      (sym (is ∙ ap (λ c. one_begun c xs) code
      ∙ ap (λ xs. one_begun (tree.Static defined (counted_if defined i.counted)) xs) same)) (record {
        codes = alone_codes numbering (tree.Static defined (counted_if defined i.counted))
            (statements.lasting at en n k defined x s)
            (lasting_code at en n k defined i.counted x s h.counted);
        lasting = record {
          each = all ∷ [];
          all = sym (append-nil all);
          set = (settled numbering en i.settings x h.given h.quiet at n defined, tt);
        };
        after = refl;
        marks = alone_marks numbering (tree.Static defined (counted_if defined i.counted))
            (lasting_same defined i.counted x h.counted);
      })

  -- ---- what does nothing

  pub nothing_is : (names : List Name) (s : Scope) (y : Begun) → y ≡ nothing_begun
      → IsBegun numbering y (record (runs.nothing s) { links = names }) s
  nothing_is names s y is = subst (λ y. IsBegun numbering y (record (runs.nothing s) { links = names }) s) (sym is) (record {
    codes = record {
      size = λ l k like. refl;
      room = λ l k like. refl;
      objects = λ l k like base. refl;
      runs = λ l k like env base d. refl;
    };
    lasting = none_set;
    after = refl;
    marks = no_marks numbering;
  })

  -- broken rules are no part of the core
  pub with_rules : (bs : List Breach) (y : Begun) (i : runs.Item) (t : Scope) → IsBegun numbering y i t
      → IsBegun numbering y (runs.with_breaches bs i) t
  with_rules bs y i t h = record {
    codes = record {
      size = h.codes.size;
      room = h.codes.room;
      objects = h.codes.objects;
      runs = h.codes.runs;
    };
    lasting = h.lasting;
    after = h.after;
    marks = h.marks;
  }

  -- by what the name means
  pub means_begun : (at : ℕ) (en : Entry) (m : Means) (defined : Bool) (x : initials.Initial) (s : Scope) (y : Begun)
      → en.means ≡ m → IsBegun numbering y (statements.declared_means at en m defined x s) s
      → IsBegun numbering y (statements.declared_means at en en.means defined x s) s
  means_begun at en m defined x s y is h =
      subst (λ m. IsBegun numbering y (statements.declared_means at en m defined x s) s) (sym is) h

  -- by the entry that is in force
  pub entry_begun : (at : ℕ) (bs : List Breach) (o : Option Entry) (en : Entry) (defined : Bool) (x : initials.Initial)
      (s : Scope) (y : Begun) → o ≡ Some en → IsBegun numbering y (statements.declared_means at en en.means defined x s) s
      → IsBegun numbering y (runs.with_breaches bs (statements.declared_entry at o defined x s)) s
  entry_begun at bs o en defined x s y is h =
      with_rules bs y (statements.declared_entry at o defined x s) s
      (subst (λ o. IsBegun numbering y (statements.declared_entry at o defined x s) s) (sym is) h)

  pub none_begun : (at : ℕ) (bs : List Breach) (o : Option Entry) (defined : Bool) (x : initials.Initial) (s : Scope)
      (y : Begun) → o ≡ None → y ≡ nothing_begun
      → IsBegun numbering y (runs.with_breaches bs (statements.declared_entry at o defined x s)) s
  none_begun at bs o defined x s y is none =
      with_rules bs y (statements.declared_entry at o defined x s) s
      (subst (λ o. IsBegun numbering y (statements.declared_entry at o defined x s) s) (sym is) (nothing_is [] s y none))
