-- Where each function has its core at its number, the core's machine is that of the program.
use Rattle.std.proofs.Common.{◌≡◌, ℕ, ◌+◌, ℤ, pos, negsuc, Bool, true, false, cond, List, [], ◌∷◌, ◌++◌, length, drop}
use Rattle.std.proofs.Common.{Option, Some, None, refl, sym, ap, ap₂, ◌∙◌, subst}
use Rattle.plain_data.specs.declared.run.Happening.TheVariants as happening
use Rattle.printf_text.specs.declared.piece.Form.{Form}
use Rattle.printf_text.specs.declared.piece.Form.TheVariants as form
use Rattle.printf_text.specs.declared.piece.Piece.{Piece}
use Rattle.printf_text.specs.declared.piece.Piece.TheVariants as piece
use Rattle.printf_text.specs.Texts.{size_of as size_in}
use Rattle.c_language.specs.declared.scope.Duration.TheVariants as duration
use Rattle.c_language.specs.declared.scope.Entry.{Entry}
use Rattle.c_language.specs.declared.scope.Means.{Means}
use Rattle.c_language.specs.declared.scope.Means.TheVariants as means
use Rattle.c_means.specs.declared.profile.LogText.{LogText}
use Rattle.c_means.specs.Calls as calls
use Rattle.c_means.specs.declared.profile.FillAnswer.{FillAnswer}
use Rattle.c_means.specs.declared.profile.FillAnswer.TheVariants as answer
use Rattle.c_means.specs.declared.profile.FillFunction.{FillFunction}
use Rattle.plain_data.specs.declared.run.Undefined.TheVariants as undefined
use Rattle.c_language.specs.declared.class.Class.{Class}
use Rattle.c_language.specs.declared.class.Class.TheVariants as class
use Rattle.c_store.specs.Access.{can_access, can_write}
use Rattle.c_means.specs.Values.{class_in, address}
use Rattle.c_store.specs.Store.{Store}
use Rattle.c_means.specs.Parts.{State, Env}
use Rattle.c_means.specs.Parts as c
use Rattle.c_means.specs.declared.profile.LogFunction.{LogFunction}
use Rattle.c_means.specs.Programs.{Function, functions_of, function_named, watched_lasting}
use Rattle.c_means.specs.Rules.{Rules, LogCall, IdentityCall, BodyCall, LibraryCall, PreludeCall, OutsideCall, Library}
use Rattle.c_means.specs.Rules.{Taking, rule_by, log_of, identity_index, library_of, callee_taking, same_taking, fill_of}
use Rattle.c_means.specs.Rules.{declared_taking}
use Rattle.c_means.specs.Runs as whole
use Rattle.core_tree.specs.declared.program.Core.{Core}
use Rattle.core_tree.specs.Programs.{maybe_body, body_of}
use Rattle.elaborate.specs.Means.{Ruling, BodyRule, Numbered, IsMachineOf}
use Rattle.core_programs.specs.Programs.{machine_for}
use Rattle.core_programs.specs.Numberings.{Numbers, placed, ruling_by, number_by, numbering_of, IsFunctionOf}
use Rattle.core_programs.specs.Numberings.{AreFunctions}

pub none_some : {A : Type 0} {x : A} → None ≡ Some x → ⊥
none_some e = cc

pub some_same : {A : Type 0} (x y : A) → Some x ≡ Some y → x ≡ y
some_same x y e = cc

-- ---- a log call does the same whatever the turns of loops are

module _ (l : c.Level) (n : ℕ) where
  abbrev turning : c.Level
  turning = record l { turns = n }

  formed_turned : (f : Form) (precision : ℤ) (x : calls.Spoken) (p : ℕ) (s : Store)
      → calls.formed_arg turning f precision x p s ≡ calls.formed_arg l f precision x p s
  formed_turned form.Text precision x p s = refl
  formed_turned form.Pointer precision x p s = refl
  formed_turned form.Char precision x p s = refl
  formed_turned (form.Signed w) precision x p s = refl
  formed_turned (form.Unsigned radix w) precision x p s = refl

  arguments_turned : (ps : List Piece) (xs : List calls.Spoken) (p : ℕ) (s : Store)
      → calls.arguments_of turning ps xs p s ≡ calls.arguments_of l ps xs p s
  arguments_turned [] xs p s = refl
  arguments_turned (piece.Literal bytes ∷ ps) xs p s = arguments_turned ps xs p s
  arguments_turned (piece.Converted cv ∷ ps) xs p s =
      let ys = calls.behind_star cv.width xs in
      let zs = calls.behind_star cv.precision ys in
      ap₂ (calls.before_args (calls.star_args cv.width xs ++ calls.star_args cv.precision ys))
      (formed_turned cv.form (size_in (negsuc 0) cv.precision (calls.star_args cv.precision ys)) (calls.first_value zs)
      p s)
      (arguments_turned ps (drop 1 zs) (p + calls.pointer_places cv.form) s)

  seen_turned : (env : Env) (s : Store) (at : ℕ) (x : Means) → calls.seen_as turning env s at x ≡ calls.seen_as l env s at x
  seen_turned env s at (means.Object t duration.Automatic linkage) = refl
  seen_turned env s at (means.Object t duration.Static linkage) = refl
  seen_turned env s at (means.Function t linkage) = refl
  seen_turned env s at (means.Typedef t) = refl
  seen_turned env s at (means.Constant z) = refl
  seen_turned env s at means.Faulty = refl

  all_turned : (env : Env) (s : Store) (es : List Entry) → calls.seen_all turning env s es ≡ calls.seen_all l env s es
  all_turned env s [] = refl
  all_turned env s (e ∷ es) = ap₂ (λ z zs. z ∷ zs) (seen_turned env s e.at e.means) (all_turned env s es)

  prints_turned : (named : List Entry) (g : c.Site) (env : Env) (text : Option (List ℕ)) (d : State)
      → calls.prints_if turning named g env text d ≡ calls.prints_if l named g env text d
  prints_turned named g env None d = refl
  prints_turned named g env (Some []) d = refl
  prints_turned named g env (Some (b ∷ bs)) d =
      ap (λ shown. calls.answers_int g (pos (length (b ∷ bs))) (c.print (b ∷ bs)
      (c.note (happening.Print g.at (length (b ∷ bs)) shown) d))) (all_turned env d.store (calls.watched named g))

  log_turned : (named : List Entry) (f : LogText) (g : c.Site) (env : Env) (vs : List ℤ) (base : ℕ) (d : State)
      → calls.log_call turning named f g env vs base d ≡ calls.log_call l named f g env vs base d
  log_turned named f g env vs base d =
      let ps = calls.log_pieces f g in
      ap (λ us. calls.prints_if turning named g env (calls.text_with ps us)
      (calls.meets (base + 4) (calls.pointers_in ps) d))
      (arguments_turned ps (drop (calls.before_format f) (calls.spoken g.types vs)) (base + 4) d.store)
      ∙ prints_turned named g env (calls.text_with ps
      (calls.arguments_of l ps (drop (calls.before_format f) (calls.spoken g.types vs)) (base + 4) d.store))
      (calls.meets (base + 4) (calls.pointers_in ps) d)

-- ---- and so does a call of a function outside

module _ (l : c.Level) (n : ℕ) where
  abbrev other : c.Level
  other = record l { turns = n }

  answer_turned : (cl : Class) (never_null : Bool) (g : c.Site) (q : ℕ) (d : State)
      → calls.outside_answer cl other never_null g q d ≡ calls.outside_answer cl l never_null g q d
  answer_turned class.Pointer never_null g q d = refl
  answer_turned class.Void never_null g q d = refl
  answer_turned (class.Integer kind) never_null g q d = refl
  answer_turned class.Floating never_null g q d = refl
  answer_turned class.Array never_null g q d = refl
  answer_turned class.Function never_null g q d = refl
  answer_turned (class.Aggregate m) never_null g q d = refl
  answer_turned class.Opaque never_null g q d = refl

  filled_turned : (at : c.Site) (q a m : ℕ) (f h : State → State) (d : State) → ((d : State) → f d ≡ h d)
      → calls.filled other at q a m f d ≡ calls.filled l at q a m h d
  filled_turned at q a m f h d same =
      ap (λ r. cond (can_access d.store a m) (cond (can_write d.store a m) r
      (calls.stopped at.at undefined.LiteralWrite d)) (calls.stopped at.at undefined.Dereference d))
      (same (c.with_store (calls.fills_at l q a m d.store) d))

  fill_turned : (x : FillAnswer) (never_null : Bool) (g : c.Site) (q a m : ℕ) (d : State)
      → calls.fill_by x other never_null g q a m d ≡ calls.fill_by x l never_null g q a m d
  fill_turned answer.Free never_null g q a m d =
      filled_turned g q a m (calls.outside_answer (class_in g.ctype) other never_null g q)
      (calls.outside_answer (class_in g.ctype) l never_null g q) (calls.meets (q + 1) 2 d)
      (answer_turned (class_in g.ctype) never_null g q)
  fill_turned answer.Count never_null g q a m d = refl

  outside_turned : (f : Option FillFunction) (never_null : Bool) (g : c.Site) (vs : List ℤ) (q : ℕ) (d : State)
      → calls.outside_call other f never_null g vs q d ≡ calls.outside_call l f never_null g vs q d
  outside_turned None never_null g vs q d = answer_turned (class_in g.ctype) never_null g q d
  outside_turned (Some f) never_null g vs q d =
      fill_turned f.answer never_null g q (address (calls.value_or_zero vs f.buffer))
      (calls.fill_count l q (calls.as_number (calls.value_or_zero vs f.length))) d

-- ---- calls by rule

-- what a rule says, with the rule in hand
record Ruled (m : whole.Machine) (f : Function) (g : c.Site) (rule : Rules Function) (r : Ruling) : Type 0 where
  pub size : (below : whole.Below) → 0 ≡ whole.size_by m below rule
  pub room : (below : whole.Below) → r.room ≡ whole.room_by m below g rule
  pub marks : r.marks ≡ whole.marks_by m f g rule
  pub runs : (turns : ℕ) (below : whole.Below) (env : Env) (vs : List ℤ) (base : ℕ) (s : Store) (n : ℕ)
      → r.acts m.world m.limits env vs base (c.entered s n) ≡ whole.call_by m f turns below rule g env vs base s n

module _ (m : whole.Machine) (world : c.World) (limits : c.Limits) (depth : ℕ) where
  ruled : (f : Function) (g : c.Site) (rule : Rules Function) (r : Ruling) → ruling_by m f g rule ≡ Some r
      → Ruled (placed m world limits depth) f g rule r
  ruled f g (LogCall text) r e = subst (Ruled (placed m world limits depth) f g (LogCall text)) (some_same _ r e) (record {
    size = λ below. refl;
    room = λ below. refl;
    marks = refl;
    runs = λ turns below env vs base s n. log_turned (whole.bare (placed m world limits depth) turns) 0
        (watched_lasting m.program.scope f) text g env vs base (c.entered s n);
  })
  ruled f g (IdentityCall i) r e = subst (Ruled (placed m world limits depth) f g (IdentityCall i)) (some_same _ r e) (record {
    size = λ below. refl;
    room = λ below. refl;
    marks = refl;
    runs = λ turns below env vs base s n. refl;
  })
  ruled f g (BodyCall h) r e = absurd (none_some e)
  ruled f g (LibraryCall x) r e = subst (Ruled (placed m world limits depth) f g (LibraryCall x)) (some_same _ r e) (record {
    size = λ below. refl;
    room = λ below. refl;
    marks = refl;
    runs = λ turns below env vs base s n. refl;
  })
  ruled f g (PreludeCall h) r e = absurd (none_some e)
  ruled f g OutsideCall r e = subst (Ruled (placed m world limits depth) f g OutsideCall) (some_same _ r e) (record {
    size = λ below. refl;
    room = λ below. refl;
    marks = refl;
    runs = λ turns below env vs base s n. outside_turned (whole.bare (placed m world limits depth) turns) 0
        (fill_of m.profile g.callee.name) (whole.is_never_null m g) g vs base (c.entered s n);
  })

-- ---- calls by body

-- the function that a rule runs is the one of this name
pub body_found : (log : Option LogFunction) (identity : Option ℕ) (body : Option Function) (library : Option Library)
    (prelude : Option Function) (f : Function) → rule_by log identity body library prelude ≡ BodyCall f → body ≡ Some f
body_found (Some x) identity body library prelude f e = cc
body_found None (Some i) body library prelude f e = cc
body_found None None (Some h) library prelude f e = cc
body_found None None None (Some x) prelude f e = cc
body_found None None None None (Some h) f e = cc
body_found None None None None None f e = cc

pub prelude_found : (log : Option LogFunction) (identity : Option ℕ) (body : Option Function) (library : Option Library)
    (prelude : Option Function) (f : Function) → rule_by log identity body library prelude ≡ PreludeCall f
    → prelude ≡ Some f
prelude_found (Some x) identity body library prelude f e = cc
prelude_found None (Some i) body library prelude f e = cc
prelude_found None None (Some h) library prelude f e = cc
prelude_found None None None (Some x) prelude f e = cc
prelude_found None None None None (Some h) f e = cc
prelude_found None None None None None f e = cc

-- a function of the prelude that is taken is that of the name
taken : (b : Bool) (h f : Function) → cond b (Some h) None ≡ Some f → Some h ≡ Some f
taken true h f e = e
taken false h f e = absurd (none_some e)

pub prelude_named : (t : Option Taking) (x : Option Function) (f : Function) → whole.prelude_if t x ≡ Some f → x ≡ Some f
prelude_named t None f e = absurd (none_some e)
prelude_named t (Some h) f e = taken (same_taking t (declared_taking h.inside.tables h.means)) h f e

module _ (m : whole.Machine) (ns : Numbers) (p : Core) (h : AreFunctions m ns p) (world : c.World)
    (limits : c.Limits) (depth : ℕ) where
  abbrev here : whole.Machine
  here = placed m world limits depth

  numbered : (g : c.Site) (rule : Rules Function) → whole.rule_of m g ≡ rule → (n : ℕ)
      → number_by ns g.callee.name rule ≡ Some n → Numbered (numbering_of m ns) here (machine_for here p) g n
  numbered g (LogCall text) is n e = absurd (none_some e)
  numbered g (IdentityCall i) is n e = absurd (none_some e)
  numbered g (BodyCall f) is n e =
      let named = body_found (log_of m.profile g.callee.name) (identity_index m.profile g.callee.name)
      (function_named (functions_of m.program) g.callee.name) (library_of g)
      (whole.prelude_of m (callee_taking g) g.callee.name) f is in
      let there = subst (λ n. IsFunctionOf m ns p f n false) (some_same (ns.source g.callee.name) n e)
      (h.source g.callee.name f named) in
      record {
        function = f;
        turns = limits.turns;
        rule = subst (λ rule. BodyRule limits rule f limits.turns) (sym is) (refl, refl);
        body = body_of there.function;
        found = ap maybe_body there.found;
        item = there.item;
        is_body = there.is_body;
        has_turns = ap (λ b. cond b limits.texts limits.turns) there.kind;
      }
  numbered g (LibraryCall x) is n e = absurd (none_some e)
  numbered g (PreludeCall f) is n e =
      let named = prelude_named (callee_taking g) (function_named m.prelude g.callee.name) f
      (prelude_found (log_of m.profile g.callee.name) (identity_index m.profile g.callee.name)
      (function_named (functions_of m.program) g.callee.name) (library_of g)
      (whole.prelude_of m (callee_taking g) g.callee.name) f is) in
      let there = subst (λ n. IsFunctionOf m ns p f n true) (some_same (ns.prelude g.callee.name) n e)
      (h.prelude g.callee.name f named) in
      record {
        function = f;
        turns = limits.texts;
        rule = subst (λ rule. BodyRule limits rule f limits.texts) (sym is) (refl, refl);
        body = body_of there.function;
        found = ap maybe_body there.found;
        item = there.item;
        is_body = there.is_body;
        has_turns = ap (λ b. cond b limits.texts limits.turns) there.kind;
      }
  numbered g OutsideCall is n e = absurd (none_some e)

  -- the core's machine is that of the program
  pub is_machine : IsMachineOf (numbering_of m ns) here (machine_for here p)
  is_machine = record {
    taking = refl;
    world = refl;
    limits = refl;
    places = λ f. refl;
    identity = λ f. refl;
    bodies = λ f g n e. numbered g (whole.rule_of m g) refl n e;
    rules = λ f g r e.
        let q = ruled m world limits depth f g (whole.rule_of m g) r e in
        record { size = q.size; room = q.room; marks = q.marks; runs = q.runs };
  }
