-- What is chosen for a call does what the rule of the call says.
use Rattle.std.proofs.Common.{◌≡◌, ℕ, ◌*◌, ℤ, Bool, true, false, cond, List, [], ◌∷◌, map, Option, Some, None}
use Rattle.std.proofs.Common.{refl, ap, ap₂, sym, ◌∙◌, subst}
use Rattle.std.specs.Prelude.{option_map, ◌||◌}
use Rattle.plain_data.specs.declared.run.Undefined.TheVariants.{Dereference}
use Rattle.printf_text.specs.declared.piece.Form.{Form}
use Rattle.printf_text.specs.declared.piece.Form.TheVariants as form
use Rattle.printf_text.specs.declared.piece.Piece.{Piece}
use Rattle.printf_text.specs.declared.piece.Piece.TheVariants as piece
use Rattle.c_language.specs.declared.scope.Entry.{Entry}
use Rattle.c_language.specs.declared.scope.Means.{Means}
use Rattle.c_language.specs.declared.scope.Means.TheVariants as means
use Rattle.c_language.specs.Scopes.{Name}
use Rattle.c_language.specs.declared.class.Class.{Class}
use Rattle.c_language.specs.declared.class.Class.TheVariants as class
use Rattle.c_store.specs.Store.{Store}
use Rattle.c_means.specs.Parts.{State, Env}
use Rattle.c_means.specs.Parts as c
use Rattle.c_means.specs.Values as values
use Rattle.c_means.specs.declared.profile.LogFunction.{LogFunction}
use Rattle.c_means.specs.declared.profile.LogText.{LogText}
use Rattle.c_means.specs.declared.profile.LogText.TheVariants as text_
use Rattle.c_means.specs.Calls as calls
use Rattle.c_means.specs.Rules.{Rules, LogCall, IdentityCall, BodyCall, LibraryCall, PreludeCall, OutsideCall, Library, Exit, Abort, Malloc, Calloc, Free}
use Rattle.c_means.specs.Rules as rules
use Rattle.core_tree.specs.declared.expr.Callee.{Callee}
use Rattle.core_tree.specs.declared.expr.Callee.TheVariants as callee
use Rattle.core_tree.specs.declared.expr.Watched.{Watched}
use Rattle.core_tree.specs.declared.types.ValueType.{ValueType}
use Rattle.core_tree.specs.Callees as core
use Rattle.core_tree.specs.Numbers as numbers
use Rattle.core_tree.specs.States.{Output, Level}
use Rattle.c_means.specs.Marks.{Mark, Prints, Stops}
use Rattle.c_means.specs.declared.profile.FillFunction.{FillFunction}
use Rattle.core_tree.specs.declared.types.WordType.{WordType}
use Rattle.core_marks.specs.Marks as core_marks
use Rattle.core_marks.specs.Marks.{callee_marks}
use Rattle.elaborate.specs.Tokens.{all_told, offset_in}
use Rattle.elaborate.specs.Callees.{answer_in, answer_of, fill_of, word_types}
use Rattle.elaborate.specs.Means.{Numbering, Like, IsCallOf, as_done}
use Rattle.elaborate.proofs.Calls.{body_call_of, rule_call_of}
use Rattle.elaborate.proofs.Rules.{told_by, is_told, answers_same, heap_same, freed_same, outside_same, log_same}
use Rattle.core_calls.specs.Calling.{answer_by, callee_of, library_in, log_pieces_of}
use Rattle.core_callees.specs.Known.{Known, rule_in, number_in, ruling_in, bare_in, numbering_in, is_never_null}
use Rattle.core_callees.specs.Watching.{all_watched, watched_as}
use Rattle.core_callees.specs.Choices as spec
use Rattle.core_callees.proofs.WatchingLaws.{all_seen}

-- ---- the same in other words

pieces_same : (text : LogText) (g : c.Site) → log_pieces_of text g.texts ≡ calls.log_pieces text g
pieces_same (text_.Format i newline) g = refl
pieces_same (text_.Text format) g = refl

answer_same : (cl : Class) (never_null : Bool) (g : c.Site) → answer_by cl g.scope.tables g.ctype never_null
    ≡ answer_in cl never_null g
answer_same class.Pointer never_null g = refl
answer_same class.Array never_null g = refl
answer_same class.Function never_null g = refl
answer_same class.Void never_null g = refl
answer_same (class.Integer kind) never_null g = refl
answer_same class.Floating never_null g = refl
answer_same (class.Aggregate n) never_null g = refl
answer_same class.Opaque never_null g = refl

-- ---- what stands at the callee's name

text_forms : (f : Form) → core_marks.is_text f ≡ calls.is_text f
text_forms form.Text = refl
text_forms form.Pointer = refl
text_forms form.Char = refl
text_forms (form.Signed w) = refl
text_forms (form.Unsigned r w) = refl

text_pieces : (p : Piece) → core_marks.is_text_piece p ≡ calls.is_text_piece p
text_pieces (piece.Literal bytes) = refl
text_pieces (piece.Converted c) = text_forms c.form

reads_same : (ps : List Piece) → core_marks.reads_text ps ≡ calls.reads_text ps
reads_same [] = refl
reads_same (p ∷ ps) = ap₂ (λ a b. a || b) (text_pieces p) (reads_same ps)

offset_as : (place : ℕ → ℕ) (at : ℕ) (m : Means) → (watched_as place at m).at ≡ at
offset_as place at (means.Object t d linkage) = refl
offset_as place at (means.Function t linkage) = refl
offset_as place at (means.Typedef t) = refl
offset_as place at (means.Constant z) = refl
offset_as place at means.Faulty = refl

offsets_same : (place : ℕ → ℕ) (es : List Entry) → map offset_in (all_watched place es) ≡ calls.offsets_in es
offsets_same place [] = refl
offsets_same place (e ∷ es) = ap₂ (λ n ns. n ∷ ns) (offset_as place e.at e.means) (offsets_same place es)

log_told : (name : ℕ → Name) (at : ℕ) (ps : List Piece) (before : ℕ) (ts : List WordType) (place : ℕ → ℕ)
    (es : List Entry)
    → all_told name (callee_marks at (callee.Log ps before ts (all_watched place es)))
    ≡ Prints at ps (calls.offsets_in es) ∷ cond (calls.reads_text ps) (Stops at Dereference ∷ []) []
log_told name at ps before ts place es =
    ap₂ (λ ns ms. Prints at ps ns ∷ ms) (offsets_same place es)
    (text_told (core_marks.reads_text ps) ∙ ap (λ b. cond b (Stops at Dereference ∷ []) []) (reads_same ps))
  where
    text_told : (b : Bool) → all_told name (cond b (core_marks.one_stop at Dereference) [])
        ≡ cond b (Stops at Dereference ∷ []) []
    text_told true = refl
    text_told false = refl

fills_told : (name : ℕ → Name) (g : c.Site) (f : Option FillFunction)
    → all_told name (core_marks.fill_marks g.at (option_map fill_of f)) ≡ calls.fill_marks f g
fills_told name g None = refl
fills_told name g (Some f) = refl

module _ (x : Known) (g : c.Site) (t : ValueType)
    (same : (z : ℤ) → numbers.converted_to t z ≡ values.converted_to (values.class_in g.ctype) z) where
  abbrev numbering : Numbering
  numbering = numbering_in x

  abbrev Calls_ : Callee → Type 0
  Calls_ y = IsCallOf numbering y g.at t (λ l. g)

  abbrev bare : c.Level → c.Level
  bare l = bare_in x l.world l.limits

  -- ---- each rule

  -- what is done where the level tells what that of C tells
  told : (y : Callee) (l : c.Level) (k : Level Output) → Like numbering l k → (env : Env) (vs : List ℤ) (base : ℕ)
      (s : Store) (o : Output)
      → core.called k y g.at t env vs base s o ≡ core.called (told_by l k) y g.at t env vs base s o
  told y l k like env vs base s o = ap (λ k. core.called k y g.at t env vs base s o) (is_told numbering l k like)

  body_is : (n : ℕ) (rule : Rules ℕ) → rule_in x g ≡ rule → number_in rule ≡ Some n → Calls_ (callee.Body n)
  body_is n rule is e = body_call_of numbering g.at t (λ l. g) n (λ l. ap number_in is ∙ e) (λ l. refl)

  abbrev watched : List Watched
  watched = all_watched x.place (calls.watched x.watched g)

  log_is : (text : LogText) → rule_in x g ≡ LogCall text
      → Calls_ (callee.Log (calls.log_pieces text g) (calls.before_format text) (word_types g.types) watched)
  log_is text is =
      let y = callee.Log (calls.log_pieces text g) (calls.before_format text) (word_types g.types) watched in
      rule_call_of numbering y g.at t (λ l. g) _ (λ l. ap (ruling_in x g) is) (λ k. refl) (λ k. refl)
      (λ name. log_told name g.at (calls.log_pieces text g) (calls.before_format text) (word_types g.types) x.place
      (calls.watched x.watched g))
      (λ l k like env vs base s o. told y l k like env vs base s o
      ∙ log_same (bare l) k t g same x.watched text watched env vs base (c.entered s o.count)
      (λ s. all_seen x.place (bare l) refl env s (calls.watched x.watched g)))

  -- the other rules: what a callee does, from a state in which a function begins
  by_rule : (y : Callee) (rule : Rules ℕ) (marks : List Mark)
      (acts : c.World → c.Limits → Env → List ℤ → ℕ → State → State)
      → ((k : Level Output) → core.callee_size y k.measures ≡ 0) → ((k : Level Output) → core.callee_room y k.measures ≡ 4)
      → ((name : ℕ → Name) → all_told name (callee_marks g.at y) ≡ marks)
      → rule_in x g ≡ rule → ruling_in x g rule ≡ Some (record { room = 4; marks = marks; acts = acts })
      → ((l : c.Level) (k : Level Output) (env : Env) (vs : List ℤ) (base : ℕ) (s : Store) (o : Output)
      → core.called (told_by l k) y g.at t env vs base s o
      ≡ Some (as_done (acts l.world l.limits env vs base (c.entered s o.count))))
      → Calls_ y
  by_rule y rule marks acts size room same_marks is ruling runs =
      rule_call_of numbering y g.at t (λ l. g) (record { room = 4; marks = marks; acts = acts })
      (λ l. ap (ruling_in x g) is ∙ ruling) size room same_marks
      (λ l k like env vs base s o. told y l k like env vs base s o ∙ runs l k env vs base s o)

  identity_is : (i : ℕ) → rule_in x g ≡ IdentityCall i → Calls_ (callee.Identity i)
  identity_is i is =
      by_rule (callee.Identity i) (IdentityCall i) [] (λ world limits env vs base d. calls.identity_call i g vs d)
      (λ k. refl) (λ k. refl) (λ name. refl) is refl
      (λ l k env vs base s o. ap (λ d. Some d) (answers_same (bare l) k t g same (calls.value_or_zero vs i)
      (c.entered s o.count)))

  library_acts : Library → c.World → c.Limits → Env → List ℤ → ℕ → State → State
  library_acts f world limits env vs base d = calls.library_call (bare_in x world limits) f g vs base d

  library_is : (f : Library) → rule_in x g ≡ LibraryCall f → Calls_ (callee_of f)
  unfolding library_acts
  library_is Exit is =
      by_rule callee.Exit (LibraryCall Exit) (calls.library_marks Exit g) (library_acts Exit) (λ k. refl) (λ k. refl)
      (λ name. refl) is refl
      (λ l k env vs base s o. refl)
  library_is Abort is =
      by_rule callee.Abort (LibraryCall Abort) (calls.library_marks Abort g) (library_acts Abort) (λ k. refl) (λ k. refl)
      (λ name. refl) is refl
      (λ l k env vs base s o. refl)
  library_is Malloc is =
      by_rule callee.Malloc (LibraryCall Malloc) (calls.library_marks Malloc g) (library_acts Malloc) (λ k. refl) (λ k. refl)
      (λ name. refl) is refl
      (λ l k env vs base s o. ap (λ d. Some d) (heap_same (bare l) k t g same
      (calls.as_number (calls.value_or_zero vs 0)) base false (c.entered s o.count)))
  library_is Calloc is =
      by_rule callee.Calloc (LibraryCall Calloc) (calls.library_marks Calloc g) (library_acts Calloc) (λ k. refl) (λ k. refl)
      (λ name. refl) is refl
      (λ l k env vs base s o. ap (λ d. Some d) (heap_same (bare l) k t g same
      (calls.as_number (calls.value_or_zero vs 0) * calls.as_number (calls.value_or_zero vs 1)) base true
      (c.entered s o.count)))
  library_is Free is =
      by_rule callee.Free (LibraryCall Free) (calls.library_marks Free g) (library_acts Free) (λ k. refl) (λ k. refl)
      (λ name. refl) is refl
      (λ l k env vs base s o. ap (λ d. Some d) (freed_same (bare l) k t g same
      (calls.as_number (calls.value_or_zero vs 0)) (c.entered s o.count)))

  outside_is : rule_in x g ≡ OutsideCall → Calls_ (callee.Outside (answer_of (is_never_null x g) g)
      (option_map fill_of (rules.fill_of x.profile g.callee.name)))
  outside_is is =
      by_rule (callee.Outside (answer_of (is_never_null x g) g)
      (option_map fill_of (rules.fill_of x.profile g.callee.name))) OutsideCall
      (calls.fill_marks (rules.fill_of x.profile g.callee.name) g)
      (λ world limits env vs base d. calls.outside_call (bare_in x world limits)
      (rules.fill_of x.profile g.callee.name) (is_never_null x g) g vs base d)
      (λ k. refl) (λ k. refl) (λ name. fills_told name g (rules.fill_of x.profile g.callee.name)) is refl
      (λ l k env vs base s o. ap (λ d. Some d) (outside_same (bare l) k t g same
      (rules.fill_of x.profile g.callee.name) (is_never_null x g) vs base (c.entered s o.count)))

  -- ---- the callee of a rule

  abbrev callee_by : Rules ℕ → Callee
  callee_by (LogCall text) = spec.log_callee x text g
  callee_by (IdentityCall i) = callee.Identity i
  callee_by (BodyCall n) = callee.Body n
  callee_by (LibraryCall f) = callee_of f
  callee_by (PreludeCall n) = callee.Body n
  callee_by OutsideCall = spec.outside_callee x g

  abbrev the_prelude : Option ℕ
  the_prelude = x.prelude (rules.callee_taking g) g.callee.name

  prelude_case : (p : Option ℕ) → spec.by_prelude x g p ≡ callee_by (rules.prelude_or_outside p)
  prelude_case None = refl
  prelude_case (Some n) = refl

  library_case : (l : Option Library) (p : Option ℕ)
      → spec.by_library x g (library_in l) p ≡ callee_by (rules.library_or l p)
  library_case None p = prelude_case p
  library_case (Some f) p = refl

  source_case : (b : Option ℕ) → spec.by_source x g b
      ≡ callee_by (rules.body_or b (rules.library_of g) the_prelude)
  source_case None = library_case (rules.library_of g) the_prelude
  source_case (Some n) = refl

  identity_case : (i : Option ℕ) → spec.by_identity x g i
      ≡ callee_by (rules.identity_or i (x.source g.callee.name) (rules.library_of g) the_prelude)
  identity_case None = source_case (x.source g.callee.name)
  identity_case (Some i) = refl

  log_case : (f : Option LogFunction) → spec.by_log x g f
      ≡ callee_by (rules.rule_by f (rules.identity_index x.profile g.callee.name) (x.source g.callee.name)
      (rules.library_of g) the_prelude)
  log_case None = identity_case (rules.identity_index x.profile g.callee.name)
  log_case (Some f) = refl

  by_rule_is : (rule : Rules ℕ) → rule_in x g ≡ rule → Calls_ (callee_by rule)
  by_rule_is (LogCall text) is =
      subst Calls_ (ap (λ ps. callee.Log ps (calls.before_format text) (word_types g.types) watched)
      (sym (pieces_same text g))) (log_is text is)
  by_rule_is (IdentityCall i) is = identity_is i is
  by_rule_is (BodyCall n) is = body_is n (BodyCall n) is refl
  by_rule_is (LibraryCall f) is = library_is f is
  by_rule_is (PreludeCall n) is = body_is n (PreludeCall n) is refl
  by_rule_is OutsideCall is =
      subst Calls_ (ap (λ a. callee.Outside a (option_map fill_of (rules.fill_of x.profile g.callee.name)))
      (sym (answer_same (values.class_in g.ctype) (is_never_null x g) g))) (outside_is is)

  pub chosen : (y : Callee) → y ≡ spec.callee_in x g → Calls_ y
  chosen y is =
      subst Calls_ (sym (is ∙ log_case (rules.log_of x.profile g.callee.name))) (by_rule_is (rule_in x g) refl)
