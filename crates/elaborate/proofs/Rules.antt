-- The callees of the core that aren't run by a body do what the rules of calls say.
use Rattle.std.proofs.Common.{
  ◌≡◌,
  ℕ,
  zero,
  suc,
  ◌+◌,
  ℤ,
  pos,
  negsuc,
  Bool,
  true,
  false,
  cond,
  List,
  [],
  ◌∷◌,
  ◌++◌,
  Option,
}
use Rattle.std.proofs.Common.{Some, None, refl, sym, ap, ap₂, ◌∙◌, arith, length, drop, length-append, ◌-◌}
use Rattle.std.proofs.lemmas.List.{append_assoc, append-nil}
use Rattle.std.specs.Prelude.{not, ◌&&◌, nat_eq, nat_lt, ◌%◌, ◌^◌}
use Rattle.plain_data.specs.declared.run.Finish.TheVariants as finish
use Rattle.plain_data.specs.declared.run.Happening.TheVariants as happening
use Rattle.printf_text.specs.declared.piece.Arg.{Arg}
use Rattle.printf_text.specs.declared.piece.Form.{Form}
use Rattle.printf_text.specs.declared.piece.Form.TheVariants as form
use Rattle.printf_text.specs.declared.piece.Piece.{Piece}
use Rattle.printf_text.specs.declared.piece.Piece.TheVariants as piece
use Rattle.printf_text.specs.declared.piece.Size.{Size}
use Rattle.printf_text.specs.declared.piece.Size.TheVariants as size
use Rattle.printf_text.specs.Texts.{piece_text, piece_kinds, text_of}
use Rattle.printf_text.specs.Texts.{size_of as size_in}
use Rattle.c_language.specs.declared.scope.Entry.{Entry}
use Rattle.c_means.specs.declared.profile.LogText.{LogText}
use Rattle.core_tree.specs.declared.expr.Watched.{Watched}
use Rattle.elaborate.specs.Types.{word_type}
use Rattle.plain_data.specs.declared.run.Undefined.TheVariants as undefined
use Rattle.c_language.specs.declared.class.Class.{Class}
use Rattle.c_language.specs.declared.class.Class.TheVariants as class
use Rattle.c_language.specs.declared.ctype.CType.{CType}
use Rattle.c_language.specs.declared.ctype.IntegerKind.TheVariants as int_
use Rattle.std.specs.Prelude.{option_map}
use Rattle.c_store.specs.declared.object.ObjectKind.TheVariants as object
use Rattle.c_store.specs.Store.{Store, start, object_of, make, end, zero_range}
use Rattle.c_store.specs.Access.{can_access, can_write, can_free}
use Rattle.c_means.specs.Parts.{State, Env}
use Rattle.c_means.specs.Parts as c
use Rattle.c_means.specs.Values.{address, class_in, bytes_of}
use Rattle.c_means.specs.Values as values
use Rattle.c_means.specs.Calls as calls
use Rattle.core_tree.specs.declared.types.ValueType.{ValueType}
use Rattle.core_tree.specs.Numbers as numbers
use Rattle.core_tree.specs.States.{Output, printing, plain, Done, Level, meets}
use Rattle.core_tree.specs.Callees as core
use Rattle.elaborate.specs.Means.{Numbering}
use Rattle.elaborate.specs.Means.{as_done, Like}
use Rattle.c_means.specs.declared.profile.FillAnswer.{FillAnswer}
use Rattle.c_means.specs.declared.profile.FillAnswer.TheVariants as answer
use Rattle.c_means.specs.declared.profile.FillFunction.{FillFunction}
use Rattle.core_tree.specs.declared.expr.Pointee.TheVariants as pointee
use Rattle.elaborate.specs.Callees.{pointee_of, answer_in, answer_of, counts, fill_of, word_types}
use Rattle.elaborate.proofs.Numbers.{wrapped_same}

-- the last byte of a text is 0
abbrev ended_if : Bool → ℕ → Store → Store
ended_if true a s = zero_range a 1 s
ended_if false a s = s

abbrev the_output : ℕ → List ℕ → List ℕ → Output
the_output count printed met = record { count = count; printed = printed; met = met }

-- a test of states
test_done : (b : Bool) (x y : Done Output) (x' y' : State) → x ≡ as_done x' → y ≡ as_done y' → cond b x y ≡ as_done
    (cond b x' y')
test_done true x y x' y' h i = h
test_done false x y x' y' h i = i

-- the level that tells what the level of C tells
abbrev pub told_by : c.Level → Level Output → Level Output
told_by l k = record { measures = k.measures; taking = plain; world = l.world; limits = l.limits; call = k.call }

pub is_told : (numbering : Numbering) (l : c.Level) (k : Level Output) → Like numbering l k → k ≡ told_by l k
is_told numbering l k like =
    ap (λ t. record k { taking = t }) like.taking ∙ ap (λ w. record k { taking = plain; world = w }) like.world
    ∙ ap (λ b. record k { taking = plain; world = l.world; limits = b }) like.limits

module _ (l : c.Level) (k : Level Output) (t : ValueType) (g : c.Site)
    (same : (z : ℤ) → numbers.converted_to t z ≡ values.converted_to (class_in g.ctype) z) where
  -- ---- answers

  pub answers_same : (z : ℤ) (d : State) → core.answers t z (as_done d) ≡ as_done (calls.answers g z d)
  answers_same z d = ap (λ v. as_done (record d { value = Some v })) (same z)

  pub answers_int_same : (z : ℤ) (d : State) → core.answers_int t z (as_done d) ≡ as_done (calls.answers_int g z d)
  answers_int_same z d = ap (λ n. core.answers t n (as_done d)) (wrapped_same int_.Int refl z) ∙ answers_same _ d

  -- ---- functions of the C library

  pub heap_same : (n q : ℕ) (zeroes : Bool) (d : State) → core.heap_object (told_by l k) g.at t n q zeroes
      (as_done d) ≡ as_done (calls.heap_object l g n q zeroes d)
  heap_same n q true d =
      test_done (nat_lt l.limits.heap n) _ _ (calls.finished (finish.Left g.at) d) _ refl
      (test_done (nat_eq (l.world.word q % 2 ^ 64) 0) _ _ _ _ (answers_same (pos 0) (c.meet q d))
      (answers_same (pos (start q)) (c.meet q (c.with_store (zero_range (start q) n
      (make q (record { kind = object.Heap; size = n }) d.store)) d))))
  heap_same n q false d =
      test_done (nat_lt l.limits.heap n) _ _ (calls.finished (finish.Left g.at) d) _ refl
      (test_done (nat_eq (l.world.word q % 2 ^ 64) 0) _ _ _ _ (answers_same (pos 0) (c.meet q d))
      (answers_same (pos (start q)) (c.meet q (c.with_store (make q (record { kind = object.Heap; size = n })
      d.store) d))))

  pub freed_same : (a : ℕ) (d : State) → core.freed g.at a (as_done d) ≡ as_done (calls.freed g a d)
  freed_same a d =
      test_done (can_free d.store a) _ _ (cond (nat_eq a 0) d (c.with_store (end (object_of a) d.store) d))
      (calls.stopped g.at undefined.Free d)
      (test_done (nat_eq a 0) _ _ d (c.with_store (end (object_of a) d.store) d) refl refl) refl

  -- ---- functions outside

  -- what a pointer from outside points to
  object_same : (u : Option CType) (q : ℕ) (s : Store) → core.outside_object (told_by l k)
      (pointee_of g.scope.tables u) q s ≡ calls.outside_object l g u q s
  object_same None q s = refl
  object_same (Some u) q s =
      elim (calls.is_character_class (class_in (Some u))) as (λ b. core.outside_object (told_by l k)
      (cond b pointee.Text (pointee.Bytes (bytes_of g.scope.tables (Some u)))) q s
      ≡ ended_if b (start q + l.limits.outside) (make q (record {
        kind = object.Outside;
        size = cond b
            (suc l.limits.outside) (bytes_of g.scope.tables (Some u));
      }) s)) [
        | true ↦ refl
        | false ↦ refl
      ]

  outside_in : (cl : Class) (never_null : Bool) (q : ℕ) (d : State)
      → core.outside_answer (told_by l k) t (answer_in cl never_null g) q (as_done d) ≡ as_done
      (calls.outside_answer cl l never_null g q d)
  outside_in class.Pointer never_null q d =
      test_done (nat_eq (l.world.word q % 2 ^ 64) 0 && not never_null) _ _ (calls.answers g (pos 0) (c.meet q d)) _
      (answers_same (pos 0) (c.meet q d))
      (ap (λ s. core.answers t (pos (start q)) (as_done (c.meet q (record d { store = s }))))
      (object_same (calls.pointed g.ctype) q d.store)
      ∙ answers_same (pos (start q)) (c.meet q (record d {
        store = calls.outside_object l g (calls.pointed g.ctype) q
            d.store;
      })))
  outside_in class.Void never_null q d = answers_same (pos 0) d
  outside_in (class.Integer kind) never_null q d = answers_same _ (c.meet q d)
  outside_in class.Floating never_null q d = answers_same _ (c.meet q d)
  outside_in class.Array never_null q d = answers_same _ (c.meet q d)
  outside_in class.Function never_null q d = answers_same _ (c.meet q d)
  outside_in (class.Aggregate n) never_null q d = answers_same _ (c.meet q d)
  outside_in class.Opaque never_null q d = answers_same _ (c.meet q d)

  filled_same : (q a n : ℕ) (f : Done Output → Done Output) (h : State → State) (d : State) →
      ((d : State) → f (as_done d) ≡ as_done (h d))
      → core.filled (told_by l k) g.at q a n f (as_done d) ≡ as_done (calls.filled l g q a n h d)
  filled_same q a n f h d same =
      test_done (can_access d.store a n) _ _
      (cond (can_write d.store a n) (h (c.with_store (calls.fills_at l q a n d.store) d))
      (calls.stopped g.at undefined.LiteralWrite d)) (calls.stopped g.at undefined.Dereference d)
      (test_done (can_write d.store a n) _ _ (h (c.with_store (calls.fills_at l q a n d.store) d))
      (calls.stopped g.at undefined.LiteralWrite d)
      (same (c.with_store (calls.fills_at l q a n d.store) d)) refl) refl

  meets_same : (place n : ℕ) (d : State) → meets plain place n (as_done d) ≡ as_done (calls.meets place n d)
  meets_same place zero d = refl
  meets_same place (suc n) d = meets_same (suc place) n (c.meet place d)

  fill_same : (x : FillAnswer) (never_null : Bool) (q a n : ℕ) (d : State)
      → core.filled_by (counts x) (told_by l k) g.at t (answer_of never_null g) q a n (as_done d) ≡ as_done
      (calls.fill_by x l never_null g q a n d)
  fill_same answer.Free never_null q a n d =
      ap (core.filled (told_by l k) g.at q a n (core.outside_answer (told_by l k) t (answer_of never_null g) q))
      (meets_same (q + 1) 2 d)
      ∙ filled_same q a n (core.outside_answer (told_by l k) t (answer_of never_null g) q)
      (calls.outside_answer (class_in g.ctype) l never_null g q) (calls.meets (q + 1) 2 d)
      (outside_in (class_in g.ctype) never_null q)
  fill_same answer.Count never_null q a n d =
      test_done (core.is_odd (l.world.word (q + 3) % 2 ^ 64)) _ _ (calls.answers g (negsuc 0) (c.meet (q + 3) d)) _
      (answers_same (negsuc 0) (c.meet (q + 3) d))
      (ap (core.filled (told_by l k) g.at q a n (core.answers t (pos n))) (meets_same (q + 1) 3 d)
      ∙ filled_same q a n (core.answers t (pos n)) (calls.answers g (pos n)) (calls.meets (q + 1) 3 d)
      (answers_same (pos n)))

  pub outside_same : (f : Option FillFunction) (never_null : Bool) (vs : List ℤ) (q : ℕ) (d : State)
      → core.outside_call (told_by l k) g.at t (answer_of never_null g) (option_map fill_of f) vs q (as_done d) ≡
      as_done (calls.outside_call l f never_null g vs q d)
  outside_same None never_null vs q d = outside_in (class_in g.ctype) never_null q d
  outside_same (Some f) never_null vs q d =
      fill_same f.answer never_null q (address (calls.value_or_zero vs f.buffer))
      (calls.fill_count l q (calls.as_number (calls.value_or_zero vs f.length))) d

  -- ---- log calls

  -- arguments, with their types in the core
  abbrev spoken_as : List calls.Spoken → List core.Spoken
  spoken_as [] = []
  spoken_as (x ∷ xs) = record { word = word_type (calls.kind_or_int (class_in x.ctype)); value = x.value } ∷
      spoken_as xs

  spoken_same : (ts : List (Option CType)) (vs : List ℤ) → core.spoken (word_types ts) vs ≡ spoken_as
      (calls.spoken ts vs)
  spoken_same [] vs = refl
  spoken_same (u ∷ ts) [] = refl
  spoken_same (u ∷ ts) (v ∷ vs) = ap (λ xs. record { word = word_type (calls.kind_or_int (class_in u)); value = v } ∷
      xs) (spoken_same ts vs)

  dropped_same : (n : ℕ) (xs : List calls.Spoken) → drop n (spoken_as xs) ≡ spoken_as (drop n xs)
  dropped_same zero xs = refl
  dropped_same (suc n) [] = refl
  dropped_same (suc n) (x ∷ xs) = dropped_same n xs

  star_same : (n : Size) (xs : List calls.Spoken) → core.star_args n (spoken_as xs) ≡ calls.star_args n xs
  star_same size.Star [] = refl
  star_same size.Star (x ∷ xs) = refl
  star_same (size.Written n) xs = refl
  star_same size.Omitted xs = refl

  behind_same : (n : Size) (xs : List calls.Spoken) → core.behind_star n (spoken_as xs) ≡ spoken_as
      (calls.behind_star n xs)
  behind_same size.Star [] = refl
  behind_same size.Star (x ∷ xs) = refl
  behind_same (size.Written n) xs = refl
  behind_same size.Omitted xs = refl

  formed_same : (f : Form) (precision : ℤ) (xs : List calls.Spoken) (p : ℕ) (s : Store)
      → core.formed_arg (told_by l k) f precision (core.first_value (spoken_as xs)) p s ≡ calls.formed_arg l f
      precision (calls.first_value xs) p s
  formed_same form.Text precision [] p s = refl
  formed_same form.Text precision (x ∷ xs) p s = refl
  formed_same form.Pointer precision [] p s = refl
  formed_same form.Pointer precision (x ∷ xs) p s = refl
  formed_same form.Char precision [] p s = refl
  formed_same form.Char precision (x ∷ xs) p s = refl
  formed_same (form.Signed w) precision [] p s = refl
  formed_same (form.Signed w) precision (x ∷ xs) p s = refl
  formed_same (form.Unsigned radix w) precision [] p s = refl
  formed_same (form.Unsigned radix w) precision (x ∷ xs) p s = refl

  arguments_same : (ps : List Piece) (xs : List calls.Spoken) (p : ℕ) (s : Store) → core.arguments_of (told_by l k)
      ps (spoken_as xs) p s ≡ calls.arguments_of l ps xs p s
  arguments_same [] xs p s = refl
  arguments_same (piece.Literal bytes ∷ ps) xs p s = arguments_same ps xs p s
  arguments_same (piece.Converted cv ∷ ps) xs p s =
      let ys = calls.behind_star cv.width xs in
      let zs = calls.behind_star cv.precision ys in
      ap₂ (λ us cs. calls.before_args (us ++ core.star_args cv.precision cs)
      (core.formed_arg (told_by l k) cv.form (size_in (negsuc 0) cv.precision (core.star_args cv.precision cs))
      (core.first_value (core.behind_star cv.precision cs)) p s)
      (core.arguments_of (told_by l k) ps (drop 1 (core.behind_star cv.precision cs))
      (p + calls.pointer_places cv.form) s)) (star_same cv.width xs) (behind_same cv.width xs)
      ∙ ap₂ (λ us cs. calls.before_args (calls.star_args cv.width xs ++ us)
      (core.formed_arg (told_by l k) cv.form (size_in (negsuc 0) cv.precision us) (core.first_value cs) p s)
      (core.arguments_of (told_by l k) ps (drop 1 cs) (p + calls.pointer_places cv.form) s))
      (star_same cv.precision ys) (behind_same cv.precision ys)
      ∙ ap₂ (λ x us. calls.before_args (calls.star_args cv.width xs ++ calls.star_args cv.precision ys) x us)
      (formed_same cv.form (size_in (negsuc 0) cv.precision (calls.star_args cv.precision ys)) zs p s)
      (ap (λ cs. core.arguments_of (told_by l k) ps cs (p + calls.pointer_places cv.form) s) (dropped_same 1 zs) ∙
      arguments_same ps (drop 1 zs) (p + calls.pointer_places cv.form) s)

  -- pieces one by one print the whole text
  printing_more : (a b : List ℕ) (o : Output) → printing b (printing a o) ≡ printing (a ++ b) o
  printing_more a b o = ap₂ (λ n p. the_output n p o.met) (omega (arith, length-append a b))
      (append_assoc o.printed a b)

  says_same : (ps : List Piece) (xs : List Arg) (o : Output) → core.says_all plain ps xs o ≡ Some
      (printing (text_of ps xs) o)
  says_same [] xs o = ap₂ (λ n p. Some (the_output n p o.met)) (grind arith) (sym (append-nil o.printed))
  says_same (p ∷ ps) xs o = says_same ps (drop (length (piece_kinds p)) xs) (printing (piece_text p xs) o)
      ∙ ap (λ o. Some o) (printing_more (piece_text p xs) (text_of ps (drop (length (piece_kinds p)) xs)) o)

  -- the event and the answer, by the text and its length
  module _ (named : List Entry) (env : Env) (d : State) (shown : List ℤ)
      (sees : shown ≡ calls.seen_all l env d.store (calls.watched named g)) where
    by_length : (text : List ℕ) (n : ℕ) → n ≡ length text
        → core.answers_int t (pos n) (record (core.print_noted plain g.at n shown (as_done d))
        { out = printing text (the_output d.count d.printed d.met) })
        ≡ as_done (calls.prints l named g env text d)
    by_length [] n e =
        ap (λ n. core.answers_int t (pos n) (record (core.print_noted plain g.at n shown (as_done d))
        { out = printing [] (the_output d.count d.printed d.met) })) e
        ∙ ap₂ (λ m p. core.answers_int t (pos 0) (record (as_done d) { out = the_output m p d.met })) (grind arith)
        (append-nil d.printed)
        ∙ answers_int_same (pos 0) d
    by_length (b ∷ bs) n e =
        ap (λ n. core.answers_int t (pos n) (record (core.print_noted plain g.at n shown (as_done d))
        { out = printing (b ∷ bs) (the_output d.count d.printed d.met) })) e
        ∙ ap (λ z. core.answers_int t (pos (length (b ∷ bs))) (as_done
        (c.print (b ∷ bs) (c.note (happening.Print g.at (length (b ∷ bs)) z) d)))) sees
        ∙ answers_int_same (pos (length (b ∷ bs))) (c.print (b ∷ bs)
        (c.note (happening.Print g.at (length (b ∷ bs)) (calls.seen_all l env d.store (calls.watched named g))) d))

    prints_same : (ps : List Piece) (us : Option (List Arg)) → core.prints plain g.at t ps shown us (as_done d) ≡
        Some (as_done (calls.prints_if l named g env (calls.text_with ps us) d))
    prints_same ps None = refl
    prints_same ps (Some xs) =
        ap (core.printed plain g.at t shown (as_done d)) (says_same ps xs (the_output d.count d.printed d.met))
        ∙ ap (λ s. Some s) (by_length (text_of ps xs) (d.count + length (text_of ps xs) - d.count) (grind arith))

  met_store : (place n : ℕ) (d : State) → (calls.meets place n d).store ≡ d.store
  met_store place zero d = refl
  met_store place (suc n) d = met_store (suc place) n (c.meet place d)

  pub log_same : (named : List Entry) (f : LogText) (watched : List Watched) (env : Env) (vs : List ℤ) (base : ℕ)
      (d : State)
      → ((s : Store) → core.seen_all env s watched ≡ calls.seen_all l env s (calls.watched named g))
      → core.log_call (told_by l k) g.at t (calls.log_pieces f g) (calls.before_format f) (word_types g.types)
      watched env vs base (as_done d)
      ≡ Some (as_done (calls.log_call l named f g env vs base d))
  log_same named f watched env vs base d sees =
      let ps = calls.log_pieces f g in
      let met = calls.meets (base + 4) (calls.pointers_in ps) d in
      let us = calls.arguments_of l ps (drop (calls.before_format f) (calls.spoken g.types vs)) (base + 4) d.store in
      ap (λ xs. core.prints plain g.at t ps (core.seen_all env d.store watched)
      (core.arguments_of (told_by l k) ps (drop (calls.before_format f) xs) (base + 4) d.store)
      (meets plain (base + 4) (calls.pointers_in ps) (as_done d))) (spoken_same g.types vs)
      ∙ ap (λ xs. core.prints plain g.at t ps (core.seen_all env d.store watched)
      (core.arguments_of (told_by l k) ps xs (base + 4) d.store)
      (meets plain (base + 4) (calls.pointers_in ps) (as_done d)))
      (dropped_same (calls.before_format f) (calls.spoken g.types vs))
      ∙ ap₂ (λ xs s. core.prints plain g.at t ps (core.seen_all env d.store watched) xs s)
      (arguments_same ps (drop (calls.before_format f) (calls.spoken g.types vs)) (base + 4) d.store)
      (meets_same (base + 4) (calls.pointers_in ps) d)
      ∙ prints_same named env met (core.seen_all env d.store watched)
      (sees d.store ∙ ap (λ s. calls.seen_all l env s (calls.watched named g))
      (sym (met_store (base + 4) (calls.pointers_in ps) d))) ps us
