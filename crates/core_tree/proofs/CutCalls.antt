-- Cutting at a log and running: what calls do.
use Rattle.std.proofs.Common.{
  ◌≡◌,
  ℕ,
  zero,
  suc,
  ◌+◌,
  ◌-◌,
  ◌*◌,
  ℤ,
  pos,
  negsuc,
  List,
  [],
  ◌∷◌,
  ◌++◌,
  length,
  drop,
  Bool,
  true,
}
use Rattle.std.proofs.Common.{false, cond, Option, Some, None, refl, sym, ap, ap₂, ◌∙◌, subst, arith, length-append}
use Rattle.printf_text.specs.declared.piece.Arg.{Arg}
use Rattle.printf_text.specs.declared.piece.Form.{Form}
use Rattle.printf_text.specs.declared.piece.Form.TheVariants as form
use Rattle.printf_text.specs.declared.piece.Piece.{Piece}
use Rattle.printf_text.specs.declared.piece.Piece.TheVariants as piece
use Rattle.printf_text.specs.Texts.{piece_text, piece_kinds}
use Rattle.std.specs.Prelude.{nat_lt, nat_eq, not, ◌&&◌, ◌%◌, ◌^◌}
use Rattle.c_store.specs.Store.{Store, start}
use Rattle.c_store.specs.Access.{can_access, can_write, can_free}
use Rattle.c_means.specs.declared.kind.Kind.{Kind}
use Rattle.c_means.specs.declared.kind.Kind.TheVariants as k
use Rattle.c_means.specs.Parts.{Env, World, Limits}
use Rattle.c_means.specs.Values.{address}
use Rattle.c_means.specs.Calls.{before_args, pointers_in, pointer_places}
use Rattle.core_tree.specs.declared.expr.Callee.{Callee}
use Rattle.core_tree.specs.declared.expr.Callee.TheVariants as callee
use Rattle.core_tree.specs.declared.expr.Fill.{Fill}
use Rattle.core_tree.specs.declared.expr.OutsideAnswer.{OutsideAnswer}
use Rattle.core_tree.specs.declared.expr.OutsideAnswer.TheVariants as answer
use Rattle.core_tree.specs.declared.expr.Pointee.{Pointee}
use Rattle.core_tree.specs.declared.expr.Pointee.TheVariants as pointee
use Rattle.core_tree.specs.declared.expr.Watched.{Watched}
use Rattle.core_tree.specs.declared.types.ValueType.{ValueType}
use Rattle.core_tree.specs.declared.types.WordType.{WordType}
use Rattle.core_tree.specs.States.{Output, printing, plain, along, follows, Done, Arrow, Calls, Level}
use Rattle.core_tree.specs.States.{Measures, entered, meet, meets, returned_in, returned, with_store}
use Rattle.core_tree.specs.Callees.{
  Spoken,
  arguments_of,
  formed_arg,
  taken_then,
  says_all,
  print_noted,
  printed,
  prints,
}
use Rattle.core_tree.specs.Callees.{
  seen_all,
  spoken,
  log_call,
  answers,
  answers_int,
  heap_object,
  freed,
  outside_answer,
}
use Rattle.core_tree.specs.Callees.{filled, filled_by, outside_call, value_or_zero, fill_count, body_call}
use Rattle.core_tree.specs.Callees.{called, outside_object, fills_at, is_odd, behind_star, star_args, first_value}
use Rattle.printf_text.specs.Texts.{size_of as size_in}
use Rattle.core_tree.proofs.CutStates.{follows_joined, seen_as, Counted, where_on, CutsValue, CutsState, Goes}

module _ (log : List ℕ) where
  -- ---- levels that run on both ways

  -- a call is cut where it was begun
  abbrev pub CallsCut : Calls Output → Calls ℕ → Type 0
  CallsCut c c' = (f : ℕ) (vs : List ℤ) (base : ℕ) (s : Store) (o : Output) → CutsState log o.count (c f vs base s o)
      (c' f vs base s o.count)

  abbrev pub BothCut : Option (Calls Output) → Option (Calls ℕ) → Type 0
  BothCut None None = Unit {0}
  BothCut None (Some c') = ⊥
  BothCut (Some c) None = ⊥
  BothCut (Some c) (Some c') = CallsCut c c'

  -- what a function runs in, as it prints and along the log
  pub record Frames : Type 0 where
    pub measures : Measures
    pub world : World
    pub limits : Limits
    pub call : Option (Calls Output)
    pub call_along : Option (Calls ℕ)
    pub both : BothCut call call_along

  abbrev pub plain_in : Frames → Level Output
  plain_in p = record { measures = p.measures; taking = plain; world = p.world; limits = p.limits; call = p.call }

  abbrev pub along_in : Frames → Level ℕ
  along_in p = record {
    measures = p.measures;
    taking = along log;
    world = p.world;
    limits = p.limits;
    call =
        p.call_along;
  }

  -- ---- steps that print nothing

  pub record Quiet (d x : Done Output) (y : Done ℕ) : Type 0 where
    pub count : x.out.count ≡ d.out.count
    pub printed : x.out.printed ≡ d.out.printed
    pub seen : y ≡ seen_as log x

  pub goes_quiet : (f : Done Output → Done Output) (g : Done ℕ → Done ℕ) →
      ((d : Done Output) → Quiet d (f d) (g (seen_as log d))) → Goes log (λ d. Some (f d)) (λ d. Some (g d))
  goes_quiet f g h = record {
    cuts = λ j d c. (
      (h d).count ∙ c ∙ ap (λ t. j + length t) (sym (h d).printed),
      ap (λ a. where_on log j d.out (Some a)) (h d).seen
          ∙ ap (λ t. cond (follows log j t) (Some (seen_as log (f d))) None) (sym (h d).printed),
    );
  }

  pub quiet_test : (d x x' : Done Output) (y y' : Done ℕ) (b : Bool) → Quiet d x y → Quiet d x' y' → Quiet d
      (cond b x x') (cond b y y')
  quiet_test d x x' y y' true h i = h
  quiet_test d x x' y y' false h i = i

  pub quiet_meets : (place n : ℕ) (d : Done Output) → Quiet d (meets plain place n d)
      (meets (along log) place n (seen_as log d))
  quiet_meets place zero d = record { count = refl; printed = refl; seen = refl }
  quiet_meets place (suc n) d =
      let q = quiet_meets (suc place) n (meet plain place d) in record
      { count = q.count; printed = q.printed; seen = q.seen }

  -- behind another one
  pub quiet_behind : (d e x : Done Output) (f : Done ℕ) (g : Done ℕ → Done ℕ) → Quiet d e f → Quiet e x
      (g (seen_as log e)) → Quiet d x (g f)
  quiet_behind d e x f g h i = record {
    count = i.count ∙ h.count;
    printed = i.printed ∙ h.printed;
    seen = ap g
        h.seen ∙ i.seen;
  }

  -- ---- calls by rule

  heap_cut : (p : Frames) (at : ℕ) (type : ValueType) (n q : ℕ) (zeroes : Bool) (d : Done Output)
      → Quiet d (heap_object (plain_in p) at type n q zeroes d) (heap_object (along_in p) at type n q zeroes
      (seen_as log d))
  heap_cut p at type n q zeroes d =
      quiet_test d _ _ _ _ (nat_lt p.limits.heap n) (record { count = refl; printed = refl; seen = refl })
      (quiet_test d _ _ _ _ (nat_eq (p.world.word q % 2 ^ 64) 0) (record { count = refl; printed = refl; seen = refl })
      (record { count = refl; printed = refl; seen = refl }))

  freed_cut : (at a : ℕ) (d : Done Output) → Quiet d (freed at a d) (freed at a (seen_as log d))
  freed_cut at a d =
      quiet_test d _ _ _ _ (can_free d.store a)
      (quiet_test d _ _ _ _ (nat_eq a 0) (record { count = refl; printed = refl; seen = refl })
      (record { count = refl; printed = refl; seen = refl }))
      (record { count = refl; printed = refl; seen = refl })

  outside_answer_cut : (p : Frames) (type : ValueType) (x : OutsideAnswer) (q : ℕ) (d : Done Output)
      → Quiet d (outside_answer (plain_in p) type x q d) (outside_answer (along_in p) type x q (seen_as log d))
  outside_answer_cut p type answer.Nothing q d = record { count = refl; printed = refl; seen = refl }
  outside_answer_cut p type answer.Number q d = record { count = refl; printed = refl; seen = refl }
  outside_answer_cut p type (answer.Pointer never_null x) q d =
      quiet_test d _ _ _ _ (nat_eq (p.world.word q % 2 ^ 64) 0 && not never_null)
      (record { count = refl; printed = refl; seen = refl })
      (by_pointee x)
    where
      by_pointee : (x : Pointee) → Quiet d
          (answers type (pos (start q)) (with_store (outside_object (plain_in p) x q d.store) (meet plain q d)))
          (answers type (pos (start q)) (with_store (outside_object (along_in p) x q d.store) (seen_as log d)))
      by_pointee pointee.Text = record { count = refl; printed = refl; seen = refl }
      by_pointee (pointee.Bytes n) = record { count = refl; printed = refl; seen = refl }

  filled_cut : (p : Frames) (at q a n : ℕ) (f : Done Output → Done Output) (g : Done ℕ → Done ℕ) (d : Done Output)
      → ((e : Done Output) → Quiet e (f e) (g (seen_as log e)))
      → Quiet d (filled (plain_in p) at q a n f d) (filled (along_in p) at q a n g (seen_as log d))
  filled_cut p at q a n f g d h =
      let r = h (with_store (fills_at p.world q a n d.store) d) in
      quiet_test d _ _ _ _ (can_access d.store a n)
      (quiet_test d _ _ _ _ (can_write d.store a n) (record { count = r.count; printed = r.printed; seen = r.seen })
      (record { count = refl; printed = refl; seen = refl }))
      (record { count = refl; printed = refl; seen = refl })

  filled_by_cut : (counts : Bool) (p : Frames) (at : ℕ) (type : ValueType) (x : OutsideAnswer) (q a n : ℕ)
      (d : Done Output)
      → Quiet d (filled_by counts (plain_in p) at type x q a n d)
      (filled_by counts (along_in p) at type x q a n (seen_as log d))
  filled_by_cut false p at type x q a n d =
      quiet_behind d (meets plain (q + 1) 2 d) _ (meets (along log) (q + 1) 2 (seen_as log d))
      (filled (along_in p) at q a n (outside_answer (along_in p) type x q)) (quiet_meets (q + 1) 2 d)
      (filled_cut p at q a n (outside_answer (plain_in p) type x q) (outside_answer (along_in p) type x q)
      (meets plain (q + 1) 2 d) (outside_answer_cut p type x q))
  filled_by_cut true p at type x q a n d =
      quiet_test d _ _ _ _ (is_odd (p.world.word (q + 3) % 2 ^ 64))
      (record { count = refl; printed = refl; seen = refl })
      (quiet_behind d (meets plain (q + 1) 3 d) _ (meets (along log) (q + 1) 3 (seen_as log d))
      (filled (along_in p) at q a n (answers type (pos n))) (quiet_meets (q + 1) 3 d)
      (filled_cut p at q a n (answers type (pos n)) (answers type (pos n)) (meets plain (q + 1) 3 d)
      (λ e. record { count = refl; printed = refl; seen = refl })))

  outside_cut : (p : Frames) (at : ℕ) (type : ValueType) (x : OutsideAnswer) (f : Option Fill) (vs : List ℤ) (q : ℕ)
      (d : Done Output)
      → Quiet d (outside_call (plain_in p) at type x f vs q d) (outside_call (along_in p) at type x f vs q
      (seen_as log d))
  outside_cut p at type x None vs q d = outside_answer_cut p type x q d
  outside_cut p at type x (Some f) vs q d =
      filled_by_cut f.counts p at type x q (address (value_or_zero vs f.buffer))
      (fill_count (plain_in p) q (address (value_or_zero vs f.length))) d

  -- ---- log calls

  -- pieces taken one by one
  SaysCut : ℕ → Option Output → Option ℕ → Type 0
  SaysCut j None r = r ≡ None
  SaysCut j (Some o) r = Counted log j o × (r ≡ where_on log j o (Some o.count))

  taken_where : (b e : Bool) (n : ℕ) (f : ℕ → Option ℕ) → cond b (taken_then (cond e (Some n) None) f) None ≡ cond
      (cond b e false) (f n) None
  taken_where true true n f = refl
  taken_where true false n f = refl
  taken_where false e n f = refl

  says_cut : (ps : List Piece) (xs : List Arg) (j : ℕ) (o : Output) → Counted log j o → SaysCut j
      (says_all plain ps xs o) (where_on log j o (says_all (along log) ps xs o.count))
  unfolding SaysCut
  says_cut [] xs j o c = (c, refl)
  says_cut (p ∷ ps) xs j o c =
      let text = piece_text p xs in
      let rest = drop (length (piece_kinds p)) xs in
      subst (λ r. SaysCut j (says_all plain ps rest (printing text o)) r)
      (sym (taken_where (follows log j o.printed) (follows log o.count text) (o.count + length text)
      (says_all (along log) ps rest)
      ∙ ap (λ n. cond (cond (follows log j o.printed) (follows log n text) false)
      (says_all (along log) ps rest (o.count + length text)) None) c
      ∙ ap (λ b. cond b (says_all (along log) ps rest (o.count + length text)) None)
      (sym (follows_joined log j o.printed text))))
      (says_cut ps rest j (printing text o) (counted text))
    where
      counted : (text : List ℕ) → o.count + length text ≡ j + length (o.printed ++ text)
      counted text = omega (arith, c, length-append o.printed text)

  where_printed : (b : Bool) (at : ℕ) (type : ValueType) (shown : List ℤ) (d : Done ℕ) (r : Option ℕ)
      → cond b (printed (along log) at type shown d r) None ≡ printed (along log) at type shown d (cond b r None)
  where_printed true at type shown d r = refl
  where_printed false at type shown d r = refl

  printed_where : (b : Bool) (at : ℕ) (type : ValueType) (shown : List ℤ) (d : Done ℕ) (n : ℕ)
      → printed (along log) at type shown d (cond b (Some n) None) ≡ cond b
      (printed (along log) at type shown d (Some n)) None
  printed_where true at type shown d n = refl
  printed_where false at type shown d n = refl

  -- the event and the answer are told by how many bytes were printed
  print_seen : (at n count : ℕ) (type : ValueType) (shown : List ℤ) (d : Done Output) (o : Output)
      → seen_as log (answers_int type (pos count) (record (print_noted plain at n shown d) { out = o }))
      ≡ answers_int type (pos count) (record (print_noted (along log) at n shown (seen_as log d)) { out = o.count })
  print_seen at zero count type shown d o = refl
  print_seen at (suc n) count type shown d o = refl

  printed_cut : (at : ℕ) (type : ValueType) (shown : List ℤ) (j : ℕ) (d : Done Output) (o : Option Output)
      (r : Option ℕ)
      → SaysCut j o (where_on log j d.out r)
      → CutsState log j (printed plain at type shown d o) (where_on log j d.out
      (printed (along log) at type shown (seen_as log d) r))
  unfolding SaysCut
  printed_cut at type shown j d None r e =
      where_printed (follows log j d.out.printed) at type shown (seen_as log d) r ∙ ap
      (printed (along log) at type shown (seen_as log d)) e
  printed_cut at type shown j d (Some o) r p = (
    p.0,
    where_printed (follows log j d.out.printed) at type shown (seen_as log d) r ∙ ap
        (printed (along log) at type shown (seen_as log d)) p.1
        ∙ printed_where (follows log j o.printed) at type shown (seen_as log d) o.count
        ∙ ap (λ s. where_on log j o (Some s)) (sym (print_seen at (o.count - d.out.count) (o.count - d.out.count)
        type shown d o)),
  )

  prints_cut : (at : ℕ) (type : ValueType) (ps : List Piece) (shown : List ℤ) (xs : Option (List Arg)) → Goes log
      (prints plain at type ps shown xs) (prints (along log) at type ps shown xs)
  prints_cut at type ps shown None = record { cuts = λ j d c. (c, refl) }
  prints_cut at type ps shown (Some xs) = record {
    cuts = λ j d c. printed_cut at type shown j d (says_all plain ps xs d.out)
        (says_all (along log) ps xs d.out.count) (says_cut ps xs j d.out c);
  }

  formed_same : (p : Frames) (f : Form) (precision : ℤ) (x : Spoken) (place : ℕ) (s : Store)
      → formed_arg (plain_in p) f precision x place s ≡ formed_arg (along_in p) f precision x place s
  formed_same p form.Text precision x place s = refl
  formed_same p form.Pointer precision x place s = refl
  formed_same p form.Char precision x place s = refl
  formed_same p (form.Signed w) precision x place s = refl
  formed_same p (form.Unsigned radix w) precision x place s = refl

  arguments_same : (p : Frames) (ps : List Piece) (xs : List Spoken) (place : ℕ) (s : Store)
      → arguments_of (plain_in p) ps xs place s ≡ arguments_of (along_in p) ps xs place s
  arguments_same p [] xs place s = refl
  arguments_same p (piece.Literal bytes ∷ ps) xs place s = arguments_same p ps xs place s
  arguments_same p (piece.Converted c ∷ ps) xs place s =
      let ys = behind_star c.width xs in
      let zs = behind_star c.precision ys in
      ap₂ (before_args (star_args c.width xs ++ star_args c.precision ys))
      (formed_same p c.form (size_in (negsuc 0) c.precision (star_args c.precision ys)) (first_value zs) place s)
      (arguments_same p ps (drop 1 zs) (place + pointer_places c.form) s)

  -- a step that prints nothing, in front of others
  pub quiet_then : (j : ℕ) (d e : Done Output) (e' : Done ℕ) (o : Option (Done Output)) (g : Arrow ℕ) → Quiet d e e'
      → CutsState log j o (where_on log j e.out (g (seen_as log e))) → CutsState log j o (where_on log j d.out (g e'))
  quiet_then j d e e' o g q h =
      subst (λ r. CutsState log j o r)
      (ap (λ t. cond (follows log j t) (g (seen_as log e)) None) q.printed ∙ ap (λ s. where_on log j d.out (g s))
      (sym q.seen)) h

  log_cut : (p : Frames) (at : ℕ) (type : ValueType) (ps : List Piece) (before : ℕ) (ts : List WordType)
      (watched : List Watched)
      (env : Env) (vs : List ℤ) (base : ℕ)
      → Goes log (log_call (plain_in p) at type ps before ts watched env vs base)
      (log_call (along_in p) at type ps before ts watched env vs base)
  log_cut p at type ps before ts watched env vs base = record {
    cuts = λ j d c.
        let n = pointers_in ps in
        let e = meets plain (base + 4) n d in
        let q = quiet_meets (base + 4) n d in
        let shown = seen_all env d.store watched in
        let xs = arguments_of (plain_in p) ps (drop before (spoken ts vs)) (base + 4) d.store in
        subst (λ a. CutsState log j (prints plain at type ps shown xs e)
        (where_on log j d.out (prints (along log) at type ps shown a (meets (along log) (base + 4) n (seen_as log d)))))
        (arguments_same p ps (drop before (spoken ts vs)) (base + 4) d.store)
        (quiet_then j d e (meets (along log) (base + 4) n (seen_as log d)) (prints plain at type ps shown xs e)
        (prints (along log) at type ps shown xs) q
        ((prints_cut at type ps shown xs).cuts j e (q.count ∙ c ∙ ap (λ t. j + length t) (sym q.printed))));
  }

  -- ---- all calls, from where they begin

  pub begins : (o : Output) → o.count ≡ o.count + 0
  begins o = grind arith

  -- a call by rule
  pub entered_cut : (f : Arrow Output) (g : Arrow ℕ) (s : Store) (o : Output) → Goes log f g → CutsState log o.count
      (f (entered plain s o)) (g (entered (along log) s o.count))
  entered_cut f g s o h = h.cuts o.count (entered plain s o) (begins o)

  pub called_cut : (p : Frames) (c : Callee) (at : ℕ) (type : ValueType) (env : Env) (vs : List ℤ) (base : ℕ)
      (s : Store) (o : Output)
      → CutsState log o.count (called (plain_in p) c at type env vs base s o)
      (called (along_in p) c at type env vs base s o.count)
  called_cut p (callee.Body f) at type env vs base s o = by_level p.call p.call_along p.both
    where
      by_level : (c : Option (Calls Output)) (c' : Option (Calls ℕ)) → BothCut c c'
          → CutsState log o.count (body_call c plain at f vs base s o) (body_call c' (along log) at f vs base s o.count)
      by_level None None h = (begins o, refl)
      by_level None (Some c') h = absurd h
      by_level (Some c) None h = absurd h
      by_level (Some c) (Some c') h = h f vs base s o
  called_cut p (callee.Log ps before ts watched) at type env vs base s o =
      entered_cut _ _ s o (log_cut p at type ps before ts watched env vs base)
  called_cut p (callee.Identity i) at type env vs base s o = (begins o, refl)
  called_cut p callee.Exit at type env vs base s o = (begins o, refl)
  called_cut p callee.Abort at type env vs base s o = (begins o, refl)
  called_cut p callee.Malloc at type env vs base s o =
      entered_cut _ _ s o (goes_quiet _ (heap_object (along_in p) at type (address (value_or_zero vs 0)) base false)
      (heap_cut p at type (address (value_or_zero vs 0)) base false))
  called_cut p callee.Calloc at type env vs base s o =
      entered_cut _ _ s o (goes_quiet _ (heap_object (along_in p) at type
      (address (value_or_zero vs 0) * address (value_or_zero vs 1)) base true)
      (heap_cut p at type (address (value_or_zero vs 0) * address (value_or_zero vs 1)) base true))
  called_cut p callee.Free at type env vs base s o =
      entered_cut _ _ s o (goes_quiet _ (freed at (address (value_or_zero vs 0)))
      (freed_cut at (address (value_or_zero vs 0))))
  called_cut p (callee.Outside x fill) at type env vs base s o =
      entered_cut _ _ s o (goes_quiet _ (outside_call (along_in p) at type x fill vs base)
      (outside_cut p at type x fill vs base))

  -- ---- the caller goes on

  resumed_cut : (j : ℕ) (d r : Done Output) → Counted log j d.out → Counted log d.out.count r.out → (kind : Kind)
      → CutsValue log j (returned_in plain d r kind)
      (cond (cond (follows log j d.out.printed) (follows log d.out.count r.out.printed) false)
      (returned_in (along log) (seen_as log d) (seen_as log r) kind) None)
  resumed_cut j d r c e kind = by_kind kind where
    counted : r.out.count ≡ j + length (d.out.printed ++ r.out.printed)
    counted = omega (arith, c, e, length-append d.out.printed r.out.printed)

    stands : {A : Type 0} (x : Option A)
        → cond (cond (follows log j d.out.printed) (follows log d.out.count r.out.printed) false) x None ≡ cond
        (follows log j (d.out.printed ++ r.out.printed)) x None
    stands x =
        ap (λ n. cond (cond (follows log j d.out.printed) (follows log n r.out.printed) false) x None) c
        ∙ ap (λ b. cond b x None) (sym (follows_joined log j d.out.printed r.out.printed))

    by_kind : (kind : Kind) → CutsValue log j (returned_in plain d r kind)
        (cond (cond (follows log j d.out.printed) (follows log d.out.count r.out.printed) false)
        (returned_in (along log) (seen_as log d) (seen_as log r) kind) None)
    by_kind k.Running = (counted, stands _)
    by_kind k.Breaking = (counted, stands _)
    by_kind k.Continuing = (counted, stands _)
    by_kind k.Returning = (counted, stands _)
    by_kind (k.Going label) = (counted, stands _)
    by_kind (k.Choosing z) = (counted, stands _)
    by_kind k.Defaulting = (counted, stands _)
    by_kind (k.Ended f) = (counted, stands _)

  returned_where : (b e : Bool) (d r : Done ℕ) → cond b (returned (along log) d (cond e (Some r) None)) None ≡ cond
      (cond b e false) (returned_in (along log) d r r.kind) None
  returned_where true true d r = refl
  returned_where true false d r = refl
  returned_where false e d r = refl

  where_none : {A : Type 0} (b : Bool) (x : Option A) → x ≡ None → cond b x None ≡ None
  where_none true x e = e
  where_none false x e = refl

  pub returned_cut : (j : ℕ) (d : Done Output) (o : Option (Done Output)) (r : Option (Done ℕ)) → Counted log j d.out
      → CutsState log d.out.count o r → CutsValue log j (returned plain d o)
      (where_on log j d.out (returned (along log) (seen_as log d) r))
  returned_cut j d None r c e = where_none (follows log j d.out.printed) (returned (along log) (seen_as log d) r)
      (ap (returned (along log) (seen_as log d)) e)
  returned_cut j d (Some x) r c p =
      subst (λ q. CutsValue log j (returned_in plain d x x.kind) q)
      (sym (ap (λ q. where_on log j d.out (returned (along log) (seen_as log d) q)) p.1
      ∙ returned_where (follows log j d.out.printed) (follows log d.out.count x.out.printed) (seen_as log d)
      (seen_as log x)))
      (resumed_cut j d x c p.0 x.kind)
