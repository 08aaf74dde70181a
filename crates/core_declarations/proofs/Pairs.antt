-- What an expression sets in its part, and which expressions have their parts.
use Rattle.std.proofs.Common.{◌≡◌, ℕ, suc, ◌+◌, pos, Bool, true, false, cond, List, [], ◌∷◌, ◌++◌, length, Option}
use Rattle.std.proofs.Common.{Some, None, Ok, Err, refl, sym, ap, ap₂, ◌∙◌, subst}
use Rattle.std.specs.Prelude.{◌&&◌, slice_get, remove, unwrap_or}
use Rattle.std.proofs.lemmas.List.{append_assoc}
use Rattle.c_language.specs.declared.tables.Tables.{Tables}
use Rattle.c_language.specs.Types.{class_of, element_of}
use Rattle.c_language.specs.Scopes.{Scope}
use Rattle.c_language.specs.Typing.{Typed, typed_in}
use Rattle.c_language.specs.declared.shown.Told.{Told}
use Rattle.c_language.specs.Initials.{Part, Filling, Frame, Found, is_byte_type, is_literal_in, is_text_of, fills_value}
use Rattle.c_language.specs.Initials.{braced_text, fills_found, is_braced_text, descends, most_levels, with_part_left}
use Rattle.c_means.specs.Values.{bytes_of}
use Rattle.c_means.specs.Notes.{Noted}
use Rattle.c_means.specs.Initials as initials
use Rattle.c_means.specs.Items as runs
use Rattle.core_tree.specs.declared.code.Setting.{Setting}
use Rattle.core_tree.specs.declared.expr.Expr.{Expr}
use Rattle.core_tree.specs.declared.expr.Expr.TheVariants as expr
use Rattle.core_tree.specs.States.{Output, Measures}
use Rattle.core_tree.specs.Values.{value}
use Rattle.core_tree.proofs.Equations as eq
use Rattle.core_marks.proofs.ExprMarks as trees
use Rattle.elaborate.specs.Means.{Numbering, SameMarks, as_done}
use Rattle.elaborate.specs.Types.{value_type}
use Rattle.elaborate.proofs.Choices.{value_sets}
use Rattle.elaborate.proofs.Objects.{stored_in}
use Rattle.core_forms.proofs.Marks.{as_told, by_marks, no_marks}
use Rattle.core_declarations.specs.declared.hearing.Heard.{Heard}
use Rattle.core_declarations.specs.declared.pairing.Paired.{Paired}
use Rattle.core_declarations.specs.declared.pairing.Source.{Source}
use Rattle.core_declarations.specs.declared.pairing.Waiting.{Waiting}
use Rattle.core_declarations.specs.Hearing.{IsHeard}
use Rattle.core_declarations.specs.Pairing.{AllWait, AreGrown, HasPair, Holds, IsPair, IsSource, IsWaiting, Step}
use Rattle.core_declarations.specs.Pairing.{counted_of, none_paired, noted_of, parts_of, settings_of, text_pair}
use Rattle.core_declarations.specs.Pairing.{value_pair, waits}

-- ---- what was heard

pub says_it : (numbering : Numbering) (x : Heard) (n : Noted) (s : Scope) → IsHeard numbering x n s
    → typed_in x.told s ≡ n.part.typed
says_it numbering x n s h = ap₂ typed_in h.told h.after

pub source_of : (numbering : Numbering) (x : Heard) (n : Noted) (s : Scope) (literal : Bool) → IsHeard numbering x n s
    → literal ≡ is_literal_in x.told.shown
    → IsSource numbering (record { is_literal = literal; value = x.value; text = x.text }) n
source_of numbering x n s literal h is = record {
  literal = is ∙ ap (λ (told : Told). is_literal_in told.shown) h.told;
  worth = h.value;
  text = h.text;
  marks = h.marks;
}

-- ---- an expression with its part

constant_size : (m : Measures) → (value {O = Output} (expr.Constant (pos 0))).needs.size m ≡ 1
constant_size m = ap (λ v. v.needs.size m) (eq.worth-Constant {O = Output} (pos 0))

module _ (numbering : Numbering) (tables : Tables) (p : Part) (n : Noted) (x : Source) (h : IsSource numbering x n)
    (t : tables ≡ n.part.typed.after.tables) where
  by_literal : (b : Bool) → (x.is_literal && is_byte_type (element_of p.type)) ≡ b → is_text_of p.type n.part.typed ≡ b
  by_literal b is = ap (λ b. b && is_byte_type (element_of p.type)) (sym h.literal) ∙ is

  -- a literal in a whole array has nothing at its token
  text_marks : is_text_of p.type n.part.typed ≡ true → SameMarks numbering [] (initials.set_marks p n)
  text_marks a_text = as_told numbering (no_marks numbering) (λ l. ap (λ b. cond b [] (n.part.marks l)) (sym a_text))

  pub text_is_set : (x.is_literal && is_byte_type (element_of p.type)) ≡ true
      → IsPair numbering (text_pair tables p x.text) p n
  text_is_set whole =
      let a_text = by_literal true whole in
      subst (λ u. IsPair numbering (text_pair u p x.text) p n) (sym t) (record {
        set = record {
          size = λ l k like. ap (λ b. cond b 1 (n.part.size l)) (sym a_text);
          room = λ l k like. ap (λ b. cond b 0 (n.part.room l)) (sym a_text);
          runs = λ l k like a env base d.
              ap (λ (t : Option (List ℕ)). Some (as_done (initials.sets_text n.part.typed.after.tables p a
              (unwrap_or t []) d))) (h.text l like.identity)
              ∙ ap (λ b. Some (as_done (cond b
              (initials.sets_text n.part.typed.after.tables p a (unwrap_or (n.part.text l) []) d)
              (runs.with_value (n.part.run l env base d)
              (initials.stores n.part.typed.after.tables p.type (a + p.offset)))))) (sym a_text);
          marks = text_marks a_text;
        };
        size = λ l k like. constant_size k.measures ∙ ap (λ b. cond b 1 (n.part.size l)) (sym a_text);
        marks = by_marks numbering (trees.marks-Constant (expr.Constant (pos 0)) (pos 0) refl) (text_marks a_text);
      })

  pub value_is_set : (x.is_literal && is_byte_type (element_of p.type)) ≡ false
      → IsPair numbering (value_pair tables p x.value) p n
  value_is_set other =
      let no_text = by_literal false other in
      let here = n.part.typed.after.tables in
      let r = value_sets numbering x.value (value_type (class_of p.type) (bytes_of here (Some p.type))) p n no_text
      (stored_in here (Some p.type)) h.worth
      in
      let marks = as_told numbering h.marks (λ l. ap (λ b. cond b [] (n.part.marks l)) (sym no_text)) in
      subst (λ u. IsPair numbering (value_pair u p x.value) p n) (sym t) (record {
        set = record { size = r.size; room = r.room; runs = r.runs; marks = marks };
        size = λ l k like. h.worth.size l k like ∙ ap (λ b. cond b 1 (n.part.size l)) (sym no_text);
        marks = marks;
      })

-- ---- expressions that have their parts, and one more

module _ (numbering : Numbering) where
  settings_more : (xs : List (Step numbering)) (x : Step numbering)
      → settings_of numbering (xs ++ x ∷ []) ≡ settings_of numbering xs ++ x.pair.setting ∷ []
  settings_more [] x = refl
  settings_more (y ∷ xs) x = ap (λ zs. y.pair.setting ∷ zs) (settings_more xs x)

  counted_more : (xs : List (Step numbering)) (x : Step numbering)
      → counted_of numbering (xs ++ x ∷ []) ≡ counted_of numbering xs ++ x.pair.counted ∷ []
  counted_more [] x = refl
  counted_more (y ∷ xs) x = ap (λ zs. y.pair.counted ∷ zs) (counted_more xs x)

  parts_more : (xs : List (Step numbering)) (x : Step numbering)
      → parts_of numbering (xs ++ x ∷ []) ≡ parts_of numbering xs ++ x.part ∷ []
  parts_more [] x = refl
  parts_more (y ∷ xs) x = ap (λ zs. y.part ∷ zs) (parts_more xs x)

  noted_more : (xs : List (Step numbering)) (x : Step numbering) (ns : List Noted)
      → noted_of numbering xs ++ x.noted ∷ ns ≡ noted_of numbering (xs ++ x ∷ []) ++ ns
  noted_more [] x ns = refl
  noted_more (y ∷ xs) x ns = ap (λ zs. y.noted ∷ zs) (noted_more xs x ns)

  same_count : (xs : List (Step numbering)) → length (settings_of numbering xs) ≡ length (parts_of numbering xs)
  same_count [] = refl
  same_count (x ∷ xs) = ap (λ n. suc n) (same_count xs)

  pub held_count : (ns : List Noted) (ps : List Part) (x : Paired) → Holds numbering ns ps x
      → length x.settings ≡ length ps
  held_count ns ps x h =
      ap (λ (xs : List Setting). length xs) h.settings ∙ same_count h.steps
      ∙ ap (λ (ps : List Part). length ps) (sym h.parts)

  pub none_held : Holds numbering [] [] none_paired
  none_held = record {
    steps = [];
    left = [];
    noted = refl;
    parts = refl;
    settings = refl;
    counted = refl;
    waiting = tt;
  }

  wait_more : (ws : List Waiting) (ns : List Noted) (w : Waiting) (n : Noted) → AllWait numbering ws ns
      → IsWaiting numbering w n → AllWait numbering (ws ++ w ∷ []) (ns ++ n ∷ [])
  wait_more [] [] w n h i = (i, tt)
  wait_more [] (m ∷ ns) w n h i = absurd h
  wait_more (v ∷ ws) [] w n h i = absurd h
  wait_more (v ∷ ws) (m ∷ ns) w n h i = (h.0, wait_more ws ns w n h.1 i)

  -- one more that waits
  pub waits_held : (ns : List Noted) (ps : List Part) (x : Paired) (s : Scope) (y : Source) (n : Noted)
      → Holds numbering ns ps x → IsSource numbering y n → s ≡ n.part.typed.after
      → Holds numbering (ns ++ n ∷ []) ps (waits s y x)
  waits_held ns ps x s y n h i after = record {
    steps = h.steps;
    left = h.left ++ n ∷ [];
    noted = ap (λ (zs : List Noted). zs ++ n ∷ []) h.noted ∙ append_assoc (noted_of numbering h.steps) h.left (n ∷ []);
    parts = h.parts;
    settings = h.settings;
    counted = h.counted;
    waiting = wait_more x.waiting h.left (record { scope = s; source = y }) n h.waiting
        (record { after = after; source = i });
  }

  -- the first that waits gets its part
  pub first_held : (ns : List Noted) (ps : List Part) (x : Paired) (w : Waiting) (ws : List Waiting) (p : Part)
      (y : Paired) → Holds numbering ns ps x → x.waiting ≡ w ∷ ws
      → ((m : Noted) → IsWaiting numbering w m → HasPair numbering (record x { waiting = ws }) p m y)
      → Holds numbering ns (ps ++ p ∷ []) y
  first_held ns ps x w ws p y h is has =
      by h.left h.noted (subst (λ vs. AllWait numbering vs h.left) is h.waiting)
    where
      with_step : (m : Noted) (left : List Noted) → ns ≡ noted_of numbering h.steps ++ m ∷ left
          → HasPair numbering (record x { waiting = ws }) p m y → AllWait numbering ws left
          → Holds numbering ns (ps ++ p ∷ []) y
      with_step m left noted one others =
          let step : Step numbering = record { pair = one.pair; part = p; noted = m; is_pair = one.is_pair } in
          record {
            steps = h.steps ++ step ∷ [];
            left = left;
            noted = noted ∙ noted_more h.steps step left;
            parts = ap (λ (qs : List Part). qs ++ p ∷ []) h.parts ∙ sym (parts_more h.steps step);
            settings = ap (λ (z : Paired). z.settings) one.is
                ∙ ap (λ (zs : List Setting). zs ++ one.pair.setting ∷ []) h.settings
                ∙ sym (settings_more h.steps step);
            counted = ap (λ (z : Paired). z.counted) one.is
                ∙ ap (λ (zs : List Expr). zs ++ one.pair.counted ∷ []) h.counted ∙ sym (counted_more h.steps step);
            waiting = subst (λ vs. AllWait numbering vs left) (sym (ap (λ (z : Paired). z.waiting) one.is)) others;
          }

      by : (left : List Noted) → ns ≡ noted_of numbering h.steps ++ left → AllWait numbering (w ∷ ws) left
          → Holds numbering ns (ps ++ p ∷ []) y
      by [] noted all = absurd all
      by (m ∷ left) noted all = with_step m left noted (has m all.0) all.1

  -- where none waits, it is the last one
  pub last_held : (ns : List Noted) (ps : List Part) (x : Paired) (s : Scope) (z : Source) (n : Noted) (p : Part)
      (y : Paired) → Holds numbering ns ps x → IsSource numbering z n → s ≡ n.part.typed.after → x.waiting ≡ []
      → ((m : Noted) → IsSource numbering z m → s ≡ m.part.typed.after → HasPair numbering x p m y)
      → Holds numbering (ns ++ n ∷ []) (ps ++ p ∷ []) y
  last_held ns ps x s z n p y h i after none has =
      first_held (ns ++ n ∷ []) ps (waits s z x) (record { scope = s; source = z }) [] p y
      (waits_held ns ps x s z n h i after)
      (ap (λ (ws : List Waiting). ws ++ record { scope = s; source = z } ∷ []) none)
      (λ m w. subst (λ (v : Paired). HasPair numbering v p m y)
      (ap (λ (ws : List Waiting). record x { waiting = ws }) none) (has m w.source w.after))

  first_of : (ws : List Waiting) (w : Waiting) → slice_get ws 0 ≡ Some w → ws ≡ w ∷ remove ws 0
  first_of [] w is = absurd (none_some is)
    where
      none_some : {A : Type 0} {a : A} → None ≡ Some a → ⊥
      none_some e = cc
  first_of (v ∷ ws) w is = ap (λ v. v ∷ ws) (some_same v w is)
    where
      some_same : {A : Type 0} (a b : A) → Some a ≡ Some b → a ≡ b
      some_same a b e = ap (λ (o : Option _). unwrap_or o a) e

  -- behind others the first of those gets it
  pub removed_held : (ns : List Noted) (ps : List Part) (x x1 x2 : Paired) (s : Scope) (z : Source) (w : Waiting)
      (n : Noted) (p : Part) (y : Paired) → Holds numbering ns ps x → IsSource numbering z n → s ≡ n.part.typed.after
      → x1 ≡ waits s z x → slice_get x1.waiting 0 ≡ Some w → x2 ≡ record x1 { waiting = remove x1.waiting 0 }
      → ((m : Noted) → IsSource numbering w.source m → w.scope ≡ m.part.typed.after → HasPair numbering x2 p m y)
      → Holds numbering (ns ++ n ∷ []) (ps ++ p ∷ []) y
  removed_held ns ps x x1 x2 s z w n p y h i after made first others has =
      first_held (ns ++ n ∷ []) ps x1 w (remove x1.waiting 0) p y
      (subst (λ v. Holds numbering (ns ++ n ∷ []) ps v) (sym made) (waits_held ns ps x s z n h i after))
      (first_of x1.waiting w first)
      (λ m w. subst (λ (v : Paired). HasPair numbering v p m y) others (has m w.source w.after))

-- ---- which part

braced : (fs : List Frame) (x : Typed) (y : Filling) → AreGrown y.parts (braced_text fs x y).parts
braced [] x y = Ok refl
braced (f ∷ fs) x y = Err (record { part = f.whole; is = refl })

found : (o : Found) (x : Typed) (y : Filling) → AreGrown y.parts (fills_found x o y).parts
found None x y = Ok refl
found (Some (p, frames)) x y = Err (record { part = p; is = refl })

-- an expression fills one part more, or none
pub added : (x : Typed) (y : Filling) → AreGrown y.parts (fills_value x y).parts
added x y = by (is_braced_text y.frames x)
  where
    next : Found
    next = descends most_levels x.after.tables x (with_part_left x.after.tables y.frames)

    by : (b : Bool) → AreGrown y.parts (cond b (braced_text y.frames x y) (fills_found x next y)).parts
    by true = braced y.frames x y
    by false = found next x y

at_end : (ps : List Part) → slice_get ps (length ps) ≡ None
at_end [] = refl
at_end (p ∷ ps) = at_end ps

at_seam : (ps : List Part) (p : Part) → slice_get (ps ++ p ∷ []) (length ps) ≡ Some p
at_seam [] p = refl
at_seam (q ∷ ps) p = at_seam ps p

none_some : {A : Type 0} {a : A} → None ≡ Some a → ⊥
none_some e = cc

pub no_more : (ps qs : List Part) → AreGrown ps qs → slice_get qs (length ps) ≡ None → qs ≡ ps
no_more ps qs (Ok same) none = same
no_more ps qs (Err one) none =
    absurd (none_some (sym none ∙ ap (λ (l : List Part). slice_get l (length ps)) one.is ∙ at_seam ps one.part))

pub one_more : (ps qs : List Part) (p : Part) → AreGrown ps qs → slice_get qs (length ps) ≡ Some p → qs ≡ ps ++ p ∷ []
one_more ps qs p (Ok same) is =
    absurd (none_some (sym (ap (λ (l : List Part). slice_get l (length ps)) same ∙ at_end ps) ∙ is))
one_more ps qs p (Err one) is =
    one.is ∙ ap (λ (q : Part). ps ++ q ∷ []) (same_part one.part p
    (sym (at_seam ps one.part) ∙ ap (λ (l : List Part). slice_get l (length ps)) (sym one.is) ∙ is))
  where
    same_part : (a b : Part) → Some a ≡ Some b → a ≡ b
    same_part a b e = ap (λ (o : Option Part). unwrap_or o a) e
