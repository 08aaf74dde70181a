-- The core of `switch` and of initialised objects does what the form does.
use Rattle.std.proofs.Common.{◌≡◌, ℕ, ◌+◌, ℤ, Bool, true, false, cond, List, [], ◌∷◌, map, Option, Some}
use Rattle.std.proofs.Common.{None, refl, sym, ap, ap₂, ◌∙◌}
use Rattle.std.specs.Prelude.{◌||◌, unwrap_or}
use Rattle.plain_data.specs.declared.run.Happening.TheVariants as happening
use Rattle.plain_data.specs.declared.run.Side.TheVariants as side
use Rattle.c_language.specs.Types.{class_of}
use Rattle.c_language.specs.Integers.{converted, is_bool}
use Rattle.c_store.specs.Store.{start, write}
use Rattle.c_language.specs.declared.scope.Entry.{Entry}
use Rattle.c_language.specs.Initials.{is_text_of}
use Rattle.c_language.specs.Initials as says
use Rattle.c_language.specs.Scopes.{Scope}
use Rattle.c_means.specs.declared.kind.Kind.TheVariants as k
use Rattle.c_means.specs.Parts.{State, Env, Part, note}
use Rattle.c_means.specs.Parts as c
use Rattle.c_means.specs.Values.{bytes_of, bytes_of_value}
use Rattle.c_means.specs.Notes.{Noted}
use Rattle.c_means.specs.Initials as initials
use Rattle.c_means.specs.Items.{Case, past_switch}
use Rattle.c_means.specs.Items as runs
use Rattle.c_means.specs.Statements as statements
use Rattle.core_tree.specs.declared.code.Code.{Code}
use Rattle.core_tree.specs.declared.code.Code.TheVariants as tree
use Rattle.core_tree.specs.declared.code.Setting.{Setting}
use Rattle.core_tree.specs.declared.code.Setting.TheVariants as setting
use Rattle.core_tree.specs.declared.expr.Expr.{Expr}
use Rattle.core_tree.specs.declared.types.ValueType.{ValueType}
use Rattle.core_tree.specs.Numbers as numbers
use Rattle.core_tree.specs.Memory as memory
use Rattle.core_tree.specs.States.{Output, plain, Taking, Level, with_value, onward, running, arrive}
use Rattle.core_tree.specs.Values.{value}
use Rattle.core_tree.specs.Codes.{Item, code, in_turn, lived}
use Rattle.core_tree.specs.Codes as core
use Rattle.core_tree.proofs.Equations as eq
use Rattle.elaborate.specs.Means.{Numbering}
use Rattle.elaborate.specs.Means.{as_done, Like, IsValueOf, Acts, IsCodeOf, StoresAs}
use Rattle.elaborate.specs.Types.{word_type}
use Rattle.elaborate.proofs.Numbers.{wrapped_same}
use Rattle.elaborate.proofs.Codes.{by_item, acting_acts, lived_same, with_same, running_same}

-- ---- the cases of a `switch`

value_if : Option ℤ → List ℤ → List ℤ
value_if None zs = zs
value_if (Some z) zs = z ∷ zs

-- those of values, in order
pub case_values : List Case → List ℤ
case_values [] = []
case_values (x ∷ xs) = value_if x.value (case_values xs)

-- a value is among the cases where it is among their values
pub among_same : (z : ℤ) (xs : List Case) → core.is_among z (case_values xs) ≡ statements.is_among (Some z) xs
unfolding value_if case_values
among_same z [] = refl
among_same z (x ∷ xs) = by_value x.value (among_same z xs) where
  by_value : (v : Option ℤ) → core.is_among z (case_values xs) ≡ statements.is_among (Some z) xs
      → core.is_among z (value_if v (case_values xs)) ≡ (statements.same_case (Some z) v || statements.is_among
      (Some z) xs)
  by_value None h = h
  by_value (Some w) h = ap (λ b. runs.same z w || b) h

-- the branch that is noted, and where the run goes
chosen_same : (t : Taking Output) (at : ℕ) (xs : List Case) (z : ℤ) (d : State) → t ≡ plain
    → core.chosen_at t at (case_values xs) z (as_done d) ≡ as_done (statements.choose at (statements.chosen xs z) z d)
chosen_same t at xs z d e =
    ap (λ t. core.chosen_at t at (case_values xs) z (as_done d)) e
    ∙ ap (λ b. as_done (chosen_by b at z d)) (among_same z xs)
    ∙ ap as_done (by_choice (statements.is_among (Some z) xs) at z d)
  where
    chosen_by : Bool → ℕ → ℤ → State → State
    chosen_by b at z d = runs.become (cond b (k.Choosing z) k.Defaulting)
        (note (happening.Branch at (cond b (side.Case z) side.Otherwise)) d)

    by_choice : (b : Bool) (at : ℕ) (z : ℤ) (d : State) → chosen_by b at z d ≡ statements.choose at
        (cond b (k.Choosing z) k.Defaulting) z d
    by_choice true at z d = refl
    by_choice false at z d = refl

module _ (numbering : Numbering) where
  pub switch_code : (at : ℕ) (e : Expr) (n : Noted) (is_node : Bool) (xs : List Code) (i : runs.Item) → IsValueOf
      numbering e n.part
      → is_bool (statements.switch_kind n) ≡ false → Acts numbering (in_turn (map code xs)) i
      → IsCodeOf numbering (tree.Switch at (word_type (statements.switch_kind n)) (case_values i.cases) e is_node xs)
      (record (statements.switch_item at n (runs.closed i)) {
        size = λ l. 1 +
            (n.part.size l + (core.counted is_node + i.size l));
      })
  switch_code at e n is_node xs i g whole h = by_item numbering _ _ _
      (eq.does-Switch at (word_type (statements.switch_kind n)) (case_values i.cases) e is_node xs)
      (acting_acts numbering _ _ _ (statements.switch_runs at n (runs.closed i))
      (λ l k like. ap₂ (λ a b. 1 + (a + (core.counted is_node + b))) (g.size l k like) (h.size l k like))
      (λ l k like. ap₂ (λ a b. a + b) (g.room l k like) (h.room l k like))
      (λ l base. refl) (λ l env base d. refl)
      (λ l k like env base d. ap (λ o. with_value o (λ v d. onward
      (lived (in_turn (map code xs)) k env (base + (value {O = Output} e).needs.room k.measures)
      (core.chosen_at k.taking at (case_values i.cases) (numbers.wrapped (word_type (statements.switch_kind n)) v)
      d)) (λ r. Some (arrive past_switch r)))) (g.runs l k like env base d)
      ∙ with_same (n.part.run l env base d) _ (λ v d. let z = converted (statements.switch_kind n) v in
      runs.arrive past_switch (runs.lived i l env (base + n.part.room l)
      (statements.choose at (statements.chosen i.cases z) z d)))
      (λ v d. ap₂ (λ a z. onward (lived (in_turn (map code xs)) k env (base + a)
      (core.chosen_at k.taking at (case_values i.cases) z (as_done d))) (λ r. Some (arrive past_switch r)))
      (g.room l k like) (wrapped_same (statements.switch_kind n) whole v)
      ∙ ap (λ s. onward (lived (in_turn (map code xs)) k env (base + n.part.room l) s)
      (λ r. Some (arrive past_switch r)))
      (chosen_same k.taking at i.cases (converted (statements.switch_kind n) v) d like.taking)
      ∙ ap (λ o. onward o (λ r. Some (arrive past_switch r)))
      (lived_same numbering (in_turn (map code xs)) i h l k like env (base + n.part.room l)
      (statements.choose at (statements.chosen i.cases (converted (statements.switch_kind n) v))
      (converted (statements.switch_kind n) v) d)))))

  -- ---- initialised objects

  -- the core of what one expression of an initializer sets
  pub record Sets (x : Setting) (p : says.Part) (n : Noted) : Type 0 where
    pub size : (l : c.Level) (k : Level Output) → Like numbering l k → (core.setting_needs Output x).size k.measures ≡
        initials.set_size p n l
    pub room : (l : c.Level) (k : Level Output) → Like numbering l k → (core.setting_needs Output x).room k.measures ≡
        initials.set_room p n l
    pub runs : (l : c.Level) (k : Level Output) → Like numbering l k → (a : ℕ) (env : Env) (base : ℕ) (d : State)
        → core.sets x a k env base (as_done d) ≡ Some (as_done (initials.sets p n a l env base d))

  pub value_sets : (e : Expr) (t : ValueType) (p : says.Part) (n : Noted) → is_text_of p.type n.part.typed ≡ false
      → StoresAs (class_of p.type) (bytes_of n.part.typed.after.tables (Some p.type)) t → IsValueOf numbering e n.part →
      Sets (setting.Value p.offset t e) p n
  value_sets e t p n no_text same h = record {
    size = λ l k like. h.size l k like ∙ ap (λ b. cond b 1 (n.part.size l)) (sym no_text);
    room = λ l k like. h.room l k like ∙ ap (λ b. cond b 0 (n.part.room l)) (sym no_text);
    runs = λ l k like a env base d.
        ap (λ o. with_value o (λ v d. Some (memory.stored t (a + p.offset) v d))) (h.runs l k like env base d)
        ∙ with_same (n.part.run l env base d) (λ v d. Some (memory.stored t (a + p.offset) v d))
        (initials.stores n.part.typed.after.tables p.type (a + p.offset))
        (λ z d. ap (λ m. Some (as_done (record d {
          store = write m (a + p.offset)
              (numbers.bytes_of_value t (numbers.converted_to t z)) d.store;
        }))) same.size
        ∙ ap (λ b. Some (as_done (record d {
          store = write (bytes_of n.part.typed.after.tables (Some p.type))
              (a + p.offset) b d.store;
        })))
        (same.bytes (numbers.converted_to t z) ∙ ap (bytes_of_value (class_of p.type)) (same.converted z)))
        ∙ ap (λ b. Some (as_done (cond b (initials.sets_text n.part.typed.after.tables p a
        (unwrap_or (n.part.text l) []) d)
        (runs.with_value (n.part.run l env base d) (initials.stores n.part.typed.after.tables p.type
        (a + p.offset)))))) (sym no_text);
  }

  -- a literal in an array of characters
  pub text_sets : (size : ℕ) (bytes : List ℕ) (p : says.Part) (n : Noted) → is_text_of p.type n.part.typed ≡ true
      → ((l : c.Level) → unwrap_or (n.part.text l) [] ≡ bytes)
      → initials.text_room n.part.typed.after.tables p.type bytes ≡ size → Sets (setting.Text p.offset size bytes) p n
  text_sets size bytes p n a_text text room = record {
    size = λ l k like. ap (λ b. cond b 1 (n.part.size l)) (sym a_text);
    room = λ l k like. ap (λ b. cond b 0 (n.part.room l)) (sym a_text);
    runs = λ l k like a env base d.
        ap (λ m. Some (as_done (initials.lays_text (a + p.offset) m bytes d))) (sym room)
        ∙ ap (λ t. Some (as_done (initials.sets_text n.part.typed.after.tables p a t d))) (sym (text l))
        ∙ ap (λ b. Some (as_done (cond b (initials.sets_text n.part.typed.after.tables p a
        (unwrap_or (n.part.text l) []) d)
        (runs.with_value (n.part.run l env base d) (initials.stores n.part.typed.after.tables p.type
        (a + p.offset)))))) (sym a_text);
  }

  -- all of them, in order, of each part with its expression
  abbrev pub AllSet : List Setting → List says.Part → List Noted → Type 0
  AllSet [] [] ns = Unit {0}
  AllSet [] (p ∷ ps) [] = Unit {0}
  AllSet (x ∷ xs) (p ∷ ps) (n ∷ ns) = Sets x p n × AllSet xs ps ns
  AllSet _ _ _ = ⊥

  pub sizes_same : (xs : List Setting) (ps : List says.Part) (ns : List Noted) → AllSet xs ps ns → (l : c.Level)
      (k : Level Output) → Like numbering l k
      → (core.all_needs Output xs).size k.measures ≡ initials.all_sizes ps ns l
  sizes_same [] [] ns h l k like = refl
  sizes_same [] (p ∷ ps) [] h l k like = refl
  sizes_same [] (p ∷ ps) (n ∷ ns) h l k like = absurd h
  sizes_same (x ∷ xs) [] ns h l k like = absurd h
  sizes_same (x ∷ xs) (p ∷ ps) [] h l k like = absurd h
  sizes_same (x ∷ xs) (p ∷ ps) (n ∷ ns) h l k like = ap₂ (λ a b. a + b) (h.0.size l k like)
      (sizes_same xs ps ns h.1 l k like)

  pub rooms_same : (xs : List Setting) (ps : List says.Part) (ns : List Noted) → AllSet xs ps ns → (l : c.Level)
      (k : Level Output) → Like numbering l k
      → (core.all_needs Output xs).room k.measures ≡ initials.all_rooms ps ns l
  rooms_same [] [] ns h l k like = refl
  rooms_same [] (p ∷ ps) [] h l k like = refl
  rooms_same [] (p ∷ ps) (n ∷ ns) h l k like = absurd h
  rooms_same (x ∷ xs) [] ns h l k like = absurd h
  rooms_same (x ∷ xs) (p ∷ ps) [] h l k like = absurd h
  rooms_same (x ∷ xs) (p ∷ ps) (n ∷ ns) h l k like = ap₂ (λ a b. a + b) (h.0.room l k like)
      (rooms_same xs ps ns h.1 l k like)

  pub sets_all_same : (xs : List Setting) (ps : List says.Part) (ns : List Noted) → AllSet xs ps ns → (l : c.Level)
      (k : Level Output) → Like numbering l k
      → (a : ℕ) (env : Env) (base : ℕ) (d : State) → core.sets_all xs a k env base (as_done d) ≡ Some
      (as_done (initials.sets_all ps ns a l env base d))
  sets_all_same [] [] ns h l k like a env base d = refl
  sets_all_same [] (p ∷ ps) [] h l k like a env base d = refl
  sets_all_same [] (p ∷ ps) (n ∷ ns) h l k like a env base d = absurd h
  sets_all_same (x ∷ xs) [] ns h l k like a env base d = absurd h
  sets_all_same (x ∷ xs) (p ∷ ps) [] h l k like a env base d = absurd h
  sets_all_same (x ∷ xs) (p ∷ ps) (n ∷ ns) h l k like a env base d =
      ap (λ o. onward o (running (core.sets_all xs a k env (base + (core.setting_needs Output x).room k.measures))))
      (h.0.runs l k like a env base d)
      ∙ ap (λ m. running (core.sets_all xs a k env (base + m)) (as_done (initials.sets p n a l env base d)))
      (h.0.room l k like)
      ∙ running_same (core.sets_all xs a k env (base + initials.set_room p n l))
      (initials.sets_all ps ns a l env (base + initials.set_room p n l)) (initials.sets p n a l env base d)
      (sets_all_same xs ps ns h.1 l k like a env (base + initials.set_room p n l) (initials.sets p n a l env base d))

  zeroed_same : (b : Bool) (a n : ℕ) (d : State) → core.zeroed_if b a n (as_done d) ≡ as_done
      (statements.zeroed_if b a n d)
  zeroed_same true a n d = refl
  zeroed_same false a n d = refl

  -- an automatic object that is initialised where its declaration is reached
  pub initialised_code : (en : Entry) (n : ℕ) (s : Scope) (braced : Bool) (xs : List Setting) (y : says.Filling)
      (ns : List Noted) → AllSet xs y.parts ns
      → IsCodeOf numbering (tree.Declare en.at n braced xs) (statements.automatic en n
      (initials.initial_of braced y ns) s)
  initialised_code en n s braced xs y ns h = by_item numbering _ _ _ (eq.does-Declare en.at n braced xs) (record {
    size = λ l k like. ap (λ m. 1 + m) (sizes_same xs y.parts ns h l k like);
    room = λ l k like. ap (λ m. 1 + m) (rooms_same xs y.parts ns h l k like);
    objects = λ l k like base. refl;
    runs = λ l k like env base d. running_same
        (λ d. core.sets_all xs (start (env en.at)) k env (base + 1) (core.zeroed_if braced (start (env en.at)) n d))
        (λ d. initials.sets_all y.parts ns (start (env en.at)) l env (base + 1)
        (statements.zeroed_if braced (start (env en.at)) n d)) d
        (ap (core.sets_all xs (start (env en.at)) k env (base + 1)) (zeroed_same braced (start (env en.at)) n d)
        ∙ sets_all_same xs y.parts ns h l k like (start (env en.at)) env (base + 1)
        (statements.zeroed_if braced (start (env en.at)) n d));
  })
