-- Calls along a log: what is called comes back, or ends the run, at one of the positions that hold its ends.
use Rattle.std.proofs.Common.{◌≡◌, ℕ, zero, suc, ◌+◌, ◌*◌, ◌-◌, ◌≤◌, ℤ, pos, Bool, true, false, cond, not, ◌&&◌, ◌⊎◌, inl, inr, List, [], ◌∷◌, length, drop, Option, Some, None, refl, sym, ap, subst, ◌∙◌, arith}
use Rattle.std.specs.Prelude.{Ok, Err, nat_lt, nat_eq}
use Rattle.std.proofs.lemmas.List.{length-drop}
use Rattle.plain_data.specs.declared.run.Finish.TheVariants as finish
use Rattle.plain_data.specs.declared.run.Happening.TheVariants as happening
use Rattle.printf_text.specs.declared.piece.Arg.{Arg}
use Rattle.printf_text.specs.declared.piece.Piece.{Piece}
use Rattle.printf_text.specs.Texts.{HaveKinds, kinds}
use Rattle.c_means.specs.declared.kind.Kind.{Kind}
use Rattle.c_means.specs.declared.kind.Kind.TheVariants as k
use Rattle.c_means.specs.Parts.{Env, World}
use Rattle.c_means.specs.Values.{address}
use Rattle.c_means.specs.Calls.{pointers_in}
use Rattle.c_store.specs.Store.{Store}
use Rattle.c_store.specs.Access.{can_access, can_write, can_free}
use Rattle.core_tree.specs.declared.expr.Callee.{Callee}
use Rattle.core_tree.specs.declared.expr.Callee.TheVariants as callee
use Rattle.core_tree.specs.declared.expr.Fill.{Fill}
use Rattle.core_tree.specs.declared.expr.OutsideAnswer.{OutsideAnswer}
use Rattle.core_tree.specs.declared.expr.OutsideAnswer.TheVariants as answer
use Rattle.core_tree.specs.declared.expr.Pointee.{Pointee}
use Rattle.core_tree.specs.declared.expr.Pointee.TheVariants as pointee
use Rattle.plain_data.specs.declared.run.Undefined.TheVariants as undefined
use Rattle.core_tree.specs.declared.expr.Watched.{Watched}
use Rattle.core_tree.specs.declared.types.ValueType.{ValueType}
use Rattle.core_tree.specs.declared.types.ValueType.TheVariants as v
use Rattle.core_tree.specs.declared.types.WordType.{WordType}
use Rattle.core_tree.specs.States.{along, Done, Calls, Level, Outcome, ◌>>=◌, entered, meet, meets, with_store, finished, found, returned, returned_in, note}
use Rattle.core_tree.specs.Callees.{spoken, arguments_of, says_all, print_noted, printed, prints, log_call, seen_all, heap_object, freed, outside_pointer, outside_answer, fills_at, filled, filled_by, outside_call, fill_count, body_call, value_or_zero, answers, asked, is_odd}
use Rattle.core_tree.specs.Values.{Value, arguments, needed, acting, call, all_rooms}
use Rattle.positions.specs.Sets.{has}
use Rattle.log_expr.specs.declared.table.Ends.{Ends}
use Rattle.log_expr.specs.Covers.{Whole, Lands, IsAmong, CallAlike, AgreeAt, Agree, Pair, one, two, level_by, InValue, ValueAlike, CoversValue, CoversValues}
use Rattle.log_expr.specs.Flows.{Wider, is_ended}
use Rattle.log_expr.specs.Logs.{AllTextsEnd, CallsEnd, CoversCallee}
use Rattle.log_expr.specs.Tables.{Known}
use Rattle.log_expr.proofs.LogTexts.{arguments_kinds}
use Rattle.log_expr.proofs.Outcomes.{bind, wider_value, Keeps, kept_alike, keeps_found, keeps_stop}

-- ---- states that are left

pub wider_call : (back back' ended ended' : List ℕ) (a b : Option (Done ℕ)) → Wider back back' → Wider ended ended' → CallAlike back ended a b → CallAlike back' ended' a b
wider_call back back' ended ended' a b x e h = record { same = h.same; is = by a h.is }
  where
    at : (d : Done ℕ) (z : Bool) → cond z (has ended d.out) (has back d.out) ≡ true → cond z (has ended' d.out) (has back' d.out) ≡ true
    at d true i = e d.out i
    at d false i = x d.out i

    by : (a : Option (Done ℕ)) → IsAmong back ended a → IsAmong back' ended' a
    by None i = tt
    by (Some d) i = at d (is_ended d.kind) i

-- where the caller stood
stands : (to ended : List ℕ) (o : ℕ) (d : Done ℕ) → d.out ≡ o → has to o ≡ true → has ended o ≡ true → Lands to ended d
stands to ended o d e m n = by (is_ended d.kind)
  where
    by : (z : Bool) → cond z (has ended d.out) (has to d.out) ≡ true
    by true = subst (λ x. has ended x ≡ true) (sym e) n
    by false = subst (λ x. has to x ≡ true) (sym e) m

-- ---- callees that print nothing

out_cond : (b : Bool) (x y : Done ℕ) (o : ℕ) → x.out ≡ o → y.out ≡ o → (cond b x y).out ≡ o
out_cond true x y o p q = p
out_cond false x y o p q = q

module _ (log : List ℕ) where
  meets_out : (place n : ℕ) (d : Done ℕ) → (meets (along log) place n d).out ≡ d.out
  meets_out place zero d = refl
  meets_out place (suc n) d = meets_out (suc place) n (meet (along log) place d)

  meets_kind : (place n : ℕ) (d : Done ℕ) → (meets (along log) place n d).kind ≡ d.kind
  meets_kind place zero d = refl
  meets_kind place (suc n) d = meets_kind (suc place) n (meet (along log) place d)

module _ (w : Whole) (turns : ℕ) (size room : ℕ → ℕ) (world : World) (calls : Option (Calls ℕ)) where
  abbrev l : Level ℕ
  l = level_by w turns size room world calls

  heap_out : (at : ℕ) (type : ValueType) (n q : ℕ) (zeroes : Bool) (d : Done ℕ) → (heap_object l at type n q zeroes d).out ≡ d.out
  heap_out at type n q zeroes d = out_cond (nat_lt w.limits.heap n) _ _ d.out refl (out_cond (nat_eq (asked l q) 0) _ _ d.out refl refl)

  pointer_out : (type : ValueType) (never : Bool) (x : Pointee) (q : ℕ) (d : Done ℕ) → (outside_pointer l type never x q d).out ≡ d.out
  pointer_out type never x q d = out_cond (nat_eq (asked l q) 0 && not never) _ _ d.out refl refl

  answer_out : (type : ValueType) (x : OutsideAnswer) (q : ℕ) (d : Done ℕ) → (outside_answer l type x q d).out ≡ d.out
  answer_out type answer.Nothing q d = refl
  answer_out type answer.Number q d = refl
  answer_out type (answer.Pointer never x) q d = pointer_out type never x q (meet (along w.log) q d)

  filled_out : (at q a n : ℕ) (f : Done ℕ → Done ℕ) (d : Done ℕ) (o : ℕ) → d.out ≡ o → ((e : Done ℕ) → e.out ≡ o → (f e).out ≡ o) → (filled l at q a n f d).out ≡ o
  filled_out at q a n f d o e h = out_cond (can_access d.store a n) _ _ o (out_cond (can_write d.store a n) _ _ o (h _ e) e) e

  outside_out : (at : ℕ) (type : ValueType) (x : OutsideAnswer) (fill : Option Fill) (vs : List ℤ) (q : ℕ) (d : Done ℕ) → (outside_call l at type x fill vs q d).out ≡ d.out
  outside_out at type x None vs q d = answer_out type x q d
  outside_out at type x (Some f) vs q d = by f.counts
    where
      a : ℕ
      a = address (value_or_zero vs f.buffer)

      n : ℕ
      n = fill_count l q (address (value_or_zero vs f.length))

      by : (b : Bool) → (filled_by b l at type x q a n d).out ≡ d.out
      by false = filled_out at q a n (outside_answer l type x q) (meets (along w.log) (q + 1) 2 d) d.out (meets_out w.log (q + 1) 2 d) (λ e h. answer_out type x q e ∙ h)
      by true = out_cond (is_odd (asked l (q + 3))) _ _ d.out refl (filled_out at q a n (answers type (pos n)) (meets (along w.log) (q + 1) 3 d) d.out (meets_out w.log (q + 1) 3 d) (λ e h. h))

freed_out : (at a : ℕ) (d : Done ℕ) → (freed at a d).out ≡ d.out
freed_out at a d = out_cond (can_free d.store a) _ _ d.out (out_cond (nat_eq a 0) _ _ d.out refl refl) refl

-- functions outside know of no calls
module _ (w : Whole) (turns : ℕ) (size room : ℕ → ℕ) (world : World) (first second : Option (Calls ℕ)) where
  abbrev a : Level ℕ
  a = level_by w turns size room world first

  abbrev b : Level ℕ
  b = level_by w turns size room world second

  answer_same : (type : ValueType) (x : OutsideAnswer) (q : ℕ) (d : Done ℕ) → outside_answer a type x q d ≡ outside_answer b type x q d
  answer_same type answer.Nothing q d = refl
  answer_same type answer.Number q d = refl
  answer_same type (answer.Pointer never pointee.Text) q d = refl
  answer_same type (answer.Pointer never (pointee.Bytes n)) q d = refl

  outside_same : (at : ℕ) (type : ValueType) (x : OutsideAnswer) (fill : Option Fill) (vs : List ℤ) (q : ℕ) (d : Done ℕ) → outside_call a at type x fill vs q d ≡ outside_call b at type x fill vs q d
  outside_same at type x None vs q d = answer_same type x q d
  outside_same at type x (Some f) vs q d = by f.counts
    where
      buffer : ℕ
      buffer = address (value_or_zero vs f.buffer)

      n : ℕ
      n = fill_count a q (address (value_or_zero vs f.length))

      e : Done ℕ
      e = meets (along w.log) (q + 1) 2 d

      by : (z : Bool) → filled_by z a at type x q buffer n d ≡ filled_by z b at type x q buffer n d
      by false =
          ap (λ r. cond (can_access e.store buffer n) (cond (can_write e.store buffer n) r (finished (finish.Stopped undefined.LiteralWrite at) e)) (finished (finish.Stopped undefined.Dereference at) e))
          (answer_same type x q (with_store (fills_at world q buffer n e.store) e))
      by true = refl

module _ (w : Whole) (turns : ℕ) (t : Known) where
  quiet : (a : Option (Done ℕ)) (d : Done ℕ) (to ended : List ℕ) (o : ℕ) → a ≡ Some d → d.out ≡ o → has to o ≡ true → has ended o ≡ true → CallAlike to ended a a
  quiet a d to ended o e h m n = record { same = refl; is = subst (λ x. IsAmong to ended x) (sym e) (stands to ended o d h m n) }

  pub covers_identity : (i count : ℕ) (from to ended : List ℕ) → Wider from to → Wider from ended → CoversCallee w turns t (callee.Identity i) count from to ended
  covers_identity i count from to ended x e = record { alike = λ p at type env vs base s o c m. quiet _ _ to ended o refl refl (x o m) (e o m) }

  pub covers_malloc : (count : ℕ) (from to ended : List ℕ) → Wider from to → Wider from ended → CoversCallee w turns t callee.Malloc count from to ended
  covers_malloc count from to ended x e = record { alike = λ p at type env vs base s o c m. quiet _ (heap_object (one w turns p) at type (address (value_or_zero vs 0)) base false (entered (along w.log) s o)) to ended o refl (heap_out w turns p.size p.room p.world p.first at type _ base false (entered (along w.log) s o)) (x o m) (e o m) }

  pub covers_calloc : (count : ℕ) (from to ended : List ℕ) → Wider from to → Wider from ended → CoversCallee w turns t callee.Calloc count from to ended
  covers_calloc count from to ended x e = record { alike = λ p at type env vs base s o c m. quiet _ (heap_object (one w turns p) at type (address (value_or_zero vs 0) * address (value_or_zero vs 1)) base true (entered (along w.log) s o)) to ended o refl (heap_out w turns p.size p.room p.world p.first at type _ base true (entered (along w.log) s o)) (x o m) (e o m) }

  pub covers_free : (count : ℕ) (from to ended : List ℕ) → Wider from to → Wider from ended → CoversCallee w turns t callee.Free count from to ended
  covers_free count from to ended x e = record { alike = λ p at type env vs base s o c m. quiet _ (freed at (address (value_or_zero vs 0)) (entered (along w.log) s o)) to ended o refl (freed_out at (address (value_or_zero vs 0)) (entered (along w.log) s o)) (x o m) (e o m) }

  pub covers_outside : (r : OutsideAnswer) (fill : Option Fill) (count : ℕ) (from to ended : List ℕ) → Wider from to → Wider from ended → CoversCallee w turns t (callee.Outside r fill) count from to ended
  covers_outside r fill count from to ended x e = record {
    alike = λ p at type env vs base s o c m. record {
      same = ap Some (outside_same w turns p.size p.room p.world p.first p.second at type r fill vs base (entered (along w.log) s o));
      is = stands to ended o (outside_call (one w turns p) at type r fill vs base (entered (along w.log) s o)) (outside_out w turns p.size p.room p.world p.first at type r fill vs base (entered (along w.log) s o)) (x o m) (e o m);
    };
  }

  pub covers_exit : (count : ℕ) (from to ended : List ℕ) → Wider from ended → CoversCallee w turns t callee.Exit count from to ended
  covers_exit count from to ended e = record { alike = λ p at type env vs base s o c m. record { same = refl; is = e o m } }

  pub covers_abort : (count : ℕ) (from to ended : List ℕ) → Wider from ended → CoversCallee w turns t callee.Abort count from to ended
  covers_abort count from to ended e = record { alike = λ p at type env vs base s o c m. record { same = refl; is = e o m } }

  -- ---- calls by body

  pub covers_body : (f count : ℕ) (from to ended : List ℕ) → CallsEnd t f from to ended → CoversCallee w turns t (callee.Body f) count from to ended
  covers_body f count from to ended h = record { alike = λ p at type env vs base s o c m. by t p.first p.second p.agree h at vs base s o m }
    where
      known : (e : Ends) (x : Option Ends) (a b : Option (Done ℕ)) → x ≡ Some e → AgreeAt x a b → CallAlike e.back e.ended a b
      known e x a b q g = subst (λ x. AgreeAt x a b) q g

      by : (t : Known) (a b : Option (Calls ℕ)) → Agree t a b → CallsEnd t f from to ended → (at : ℕ) (vs : List ℤ) (base : ℕ) (s : Store) (o : ℕ) → has from o ≡ true
          → CallAlike to ended (body_call a (along w.log) at f vs base s o) (body_call b (along w.log) at f vs base s o)
      by None None None g h at vs base s o m = record { same = refl; is = h o m }
      by None None (Some b) g h at vs base s o m = absurd g
      by None (Some a) b g h at vs base s o m = absurd g
      by (Some u) None b g h at vs base s o m = absurd g
      by (Some u) (Some a) None g h at vs base s o m = absurd g
      by (Some u) (Some a) (Some b) g h at vs base s o m =
          let r = h o m in
          wider_call r.0.back to r.0.ended ended (a f vs base s o) (b f vs base s o) r.2 r.3 (known r.0 (u f o) (a f vs base s o) (b f vs base s o) r.1 (g f vs base s o))

  -- ---- log calls

  spoken_length : (ts : List WordType) (vs : List ℤ) → (length ts ≤ length (spoken ts vs)) ⊎ (length vs ≤ length (spoken ts vs))
  spoken_length [] vs = inl (omega arith)
  spoken_length (x ∷ ts) [] = inr (omega arith)
  spoken_length (x ∷ ts) (y ∷ vs) = elim (spoken_length ts vs) [ inl h ↦ inl (omega arith) | inr h ↦ inr (omega arith) ]

  pub covers_log : (ps : List Piece) (before : ℕ) (ts : List WordType) (watched : List Watched) (enough : Bool) (count : ℕ) (from to ended : List ℕ)
      → (enough ≡ true → (length (kinds ps) + before ≤ length ts) × (length (kinds ps) + before ≤ count))
      → AllTextsEnd ps w.log enough from to → Wider from ended → CoversCallee w turns t (callee.Log ps before ts watched) count from to ended
  covers_log ps before ts watched enough count from to ended fits h e = record { alike = λ p at type env vs base s o c m. record { same = refl; is = spoke p at type env vs base s o c m } }
    where
      few : (vs : List ℤ) → length vs ≡ count → enough ≡ true → length (kinds ps) ≤ length (drop before (spoken ts vs))
      few vs c y = elim (spoken_length ts vs) [
        | inl a ↦ omega (arith, (fits y).0, length-drop before (spoken ts vs))
        | inr b ↦ omega (arith, (fits y).1, length-drop before (spoken ts vs))
      ]

      noted : (n at : ℕ) (shown : List ℤ) (d : Done ℕ) → (print_noted (along w.log) at n shown d).kind ≡ d.kind
      noted zero at shown d = refl
      noted (suc n) at shown d = refl

      lands : (z : Bool) (end : ℕ) → z ≡ false → has to end ≡ true → cond z (has ended end) (has to end) ≡ true
      lands true end q y = absurd cc
      lands false end q y = y

      taken : (at : ℕ) (type : ValueType) (shown : List ℤ) (d : Done ℕ) (o : ℕ) (xs : List Arg) → d.kind ≡ k.Running → d.out ≡ o → (enough ≡ true → HaveKinds (kinds ps) xs) → has from o ≡ true
          → (q : Option ℕ) → says_all (along w.log) ps xs d.out ≡ q → IsAmong to ended (printed (along w.log) at type shown d q)
      taken at type shown d o xs r u y m None q = tt
      taken at type shown d o xs r u y m (Some end) q =
          lands _ end (ap is_ended (noted (end - d.out) at shown d ∙ r)) ((h o m).holds xs end y (subst (λ n. says_all (along w.log) ps xs n ≡ Some end) u q))

      spoke : (p : Pair t) (at : ℕ) (type : ValueType) (env : Env) (vs : List ℤ) (base : ℕ) (s : Store) (o : ℕ) → length vs ≡ count → has from o ≡ true
          → IsAmong to ended (log_call (one w turns p) at type ps before ts watched env vs base (entered (along w.log) s o))
      spoke p at type env vs base s o c m = by (arguments_of (one w turns p) ps (drop before (spoken ts vs)) (base + 4) s) refl
        where
          d : Done ℕ
          d = meets (along w.log) (base + 4) (pointers_in ps) (entered (along w.log) s o)

          by : (x : Option (List Arg)) → arguments_of (one w turns p) ps (drop before (spoken ts vs)) (base + 4) s ≡ x
              → IsAmong to ended (prints (along w.log) at type ps (seen_all env s watched) x d)
          by None q = subst (λ n. has ended n ≡ true) (sym (meets_out w.log (base + 4) (pointers_in ps) (entered (along w.log) s o))) (e o m)
          by (Some xs) q =
              taken at type (seen_all env s watched) d o xs (meets_kind w.log (base + 4) (pointers_in ps) (entered (along w.log) s o)) (meets_out w.log (base + 4) (pointers_in ps) (entered (along w.log) s o))
              (λ y. arguments_kinds (one w turns p) ps (drop before (spoken ts vs)) (base + 4) s xs (few vs c y) q) m (says_all (along w.log) ps xs d.out) refl

  -- ---- arguments, and the call

  pub covers_none : (from ended : List ℕ) → CoversValues w turns t [] from from ended
  covers_none from ended = record { alike = λ p env base d r m. record { same = refl; is = (r, m) } }

  pub covers_more : (x : Value ℕ) (xs : List (Value ℕ)) (from mid to ended : List ℕ) → CoversValue w turns t x from mid ended → CoversValues w turns t xs mid to ended → CoversValues w turns t (x ∷ xs) from to ended
  covers_more x xs from mid to ended c e = record {
    alike = λ p env base d r m.
        bind mid to ended _ _ (λ v. arguments xs (one w turns p) env (base + x.needs.room (one w turns p).measures) v.1 >>= λ vs. found (v.0 ∷ vs.0) vs.1)
        (λ v. arguments xs (two w turns p) env (base + x.needs.room (two w turns p).measures) v.1 >>= λ vs. found (v.0 ∷ vs.0) vs.1) (c.alike p env base d r m)
        (λ v q n. bind to to ended _ _ (λ vs. found (v.0 ∷ vs.0) vs.1) (λ vs. found (v.0 ∷ vs.0) vs.1) (e.alike p env (base + x.needs.room (one w turns p).measures) v.1 q n)
        (λ vs a b. record { same = refl; is = (a, b) }));
  }

  -- as many values as arguments
  values_length : (xs : List (Value ℕ)) (l : Level ℕ) (env : Env) (base : ℕ) (d : Done ℕ) (u : List ℤ × Done ℕ) → arguments xs l env base d ≡ Some (Ok u) → length u.0 ≡ length xs
  values_length [] l env base d u h = ap (λ z. length (listed z)) (sym h)
    where
      listed : Outcome ℕ (List ℤ) → List ℤ
      listed None = []
      listed (Some (Ok v)) = v.0
      listed (Some (Err e)) = []
  values_length (x ∷ xs) l env base d u h = by (x.run l env base d) h (λ b e y i. values_length xs l env b e y i)
    where
      listed : Outcome ℕ (List ℤ) → List ℤ
      listed None = []
      listed (Some (Ok v)) = v.0
      listed (Some (Err e)) = []

      more : (v : ℤ) (o : Outcome ℕ (List ℤ)) → (o >>= λ vs. found (v ∷ vs.0) vs.1) ≡ Some (Ok u) → ((y : List ℤ × Done ℕ) → o ≡ Some (Ok y) → length y.0 ≡ length xs) → length u.0 ≡ suc (length xs)
      more v None h r = absurd cc
      more v (Some (Err e)) h r = absurd cc
      more v (Some (Ok y)) h r = ap (λ z. length (listed z)) (sym h) ∙ ap suc (r y refl)

      by : (o : Outcome ℕ ℤ) → (o >>= λ v. arguments xs l env (base + x.needs.room l.measures) v.1 >>= λ vs. found (v.0 ∷ vs.0) vs.1) ≡ Some (Ok u)
          → ((b : ℕ) (e : Done ℕ) (y : List ℤ × Done ℕ) → arguments xs l env b e ≡ Some (Ok y) → length y.0 ≡ length xs) → length u.0 ≡ suc (length xs)
      by None h r = absurd cc
      by (Some (Err e)) h r = absurd cc
      by (Some (Ok v)) h r = more v.0 (arguments xs l env (base + x.needs.room l.measures) v.1) h (r (base + x.needs.room l.measures) v.1)

  bind_from : {A B : Type 0} (mid to ended : List ℕ) (a b : Outcome ℕ A) (f g : A × Done ℕ → Outcome ℕ B) → ValueAlike mid ended a b
      → ((v : A × Done ℕ) → a ≡ Some (Ok v) → v.1.kind ≡ k.Running → has mid v.1.out ≡ true → ValueAlike to ended (f v) (g v)) → ValueAlike to ended (a >>= f) (b >>= g)
  bind_from {A} {B} mid to ended a b f g h n = subst (λ z. ValueAlike to ended (a >>= f) (z >>= g)) h.same (by a h.is n)
    where
      by : (a : Outcome ℕ A) → InValue mid ended a → ((v : A × Done ℕ) → a ≡ Some (Ok v) → v.1.kind ≡ k.Running → has mid v.1.out ≡ true → ValueAlike to ended (f v) (g v)) → ValueAlike to ended (a >>= f) (a >>= g)
      by None i n = record { same = refl; is = tt }
      by (Some (Ok v)) i n = n v refl i.0 i.1
      by (Some (Err d)) i n = record { same = refl; is = i }

  returned_alike : (to ended : List ℕ) (d : Done ℕ) (a b : Option (Done ℕ)) → d.kind ≡ k.Running → CallAlike to ended a b → ValueAlike to ended (returned (along w.log) d a) (returned (along w.log) d b)
  returned_alike to ended d a b r h = record { same = ap (returned (along w.log) d) h.same; is = by a h.is }
    where
      in_kind : (x : Done ℕ) (kind : Kind) → cond (is_ended kind) (has ended x.out) (has to x.out) ≡ true → InValue to ended (returned_in (along w.log) d x kind)
      in_kind x k.Running h = (r, h)
      in_kind x k.Breaking h = (r, h)
      in_kind x k.Continuing h = (r, h)
      in_kind x k.Returning h = (r, h)
      in_kind x (k.Going name) h = (r, h)
      in_kind x (k.Choosing z) h = (r, h)
      in_kind x k.Defaulting h = (r, h)
      in_kind x (k.Ended f) h = (refl, h)

      by : (a : Option (Done ℕ)) → IsAmong to ended a → InValue to ended (returned (along w.log) d a)
      by None i = tt
      by (Some x) i = in_kind x x.kind i

  keeps_needed : (used : Bool) (at : ℕ) (type : ValueType) (z : Option ℤ) (d : Done ℕ) → Keeps d (needed used at type z d)
  keeps_needed used at type (Some z) d = keeps_found z d
  keeps_needed false at type None d = keeps_found (pos 0) d
  keeps_needed true at v.Void None d = keeps_found (pos 0) d
  keeps_needed true at v.Truth None d = keeps_stop at undefined.MissingValue d
  keeps_needed true at (v.Word t) None d = keeps_stop at undefined.MissingValue d
  keeps_needed true at v.Pointer None d = keeps_stop at undefined.MissingValue d
  keeps_needed true at (v.Block n) None d = keeps_stop at undefined.MissingValue d

  pub covers_call : (at : ℕ) (xs : List (Value ℕ)) (c : Callee) (type : ValueType) (used : Bool) (from mid to ended : List ℕ) → Wider to ended → CoversValues w turns t xs from mid ended → CoversCallee w turns t c (length xs) mid to ended
      → CoversValue w turns t (call at xs c type used) from to ended
  covers_call at xs c type used from mid to ended wide a e = record {
    alike = λ p env base d r m.
        let l = one w turns p in
        let l' = two w turns p in
        let b : ℕ = base + all_rooms xs l.measures in
        bind_from mid to ended _ _
        (λ u. acting c at type l env u.0 b (note (along w.log) (happening.Call at) u.1) >>= λ z. needed used at type z.0 z.1)
        (λ u. acting c at type l' env u.0 b (note (along w.log) (happening.Call at) u.1) >>= λ z. needed used at type z.0 z.1)
        (a.alike p env base d r m)
        (λ u i q n. bind to to ended _ _ (λ z. needed used at type z.0 z.1) (λ z. needed used at type z.0 z.1)
        (returned_alike to ended (note (along w.log) (happening.Call at) u.1) _ _ q (e.alike p at type env u.0 b u.1.store u.1.out (values_length xs l env base d u i) n))
        (λ z g h. kept_alike to ended z.1 (needed used at type z.0 z.1) (keeps_needed used at type z.0 z.1) g h (wide z.1.out h)));
  }

  pub values_wider : (xs : List (Value ℕ)) (from to ended ended' : List ℕ) → Wider ended ended' → CoversValues w turns t xs from to ended → CoversValues w turns t xs from to ended'
  values_wider xs from to ended ended' e c = record { alike = λ p env base d r m. wider_value to to ended ended' _ _ (λ y m. m) e (c.alike p env base d r m) }

  pub wider_callee : (c : Callee) (count : ℕ) (from to ended ended' : List ℕ) → Wider ended ended' → CoversCallee w turns t c count from to ended → CoversCallee w turns t c count from to ended'
  wider_callee c count from to ended ended' e h = record { alike = λ p at type env vs base s o n m. wider_call to to ended ended' _ _ (λ y m. m) e (h.alike p at type env vs base s o n m) }
