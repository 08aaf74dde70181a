-- The core of a call does what the call does.
use Rattle.std.proofs.Common.{◌≡◌, ℕ, suc, ◌+◌, ℤ, pos, Bool, true, false, List, [], ◌∷◌, map, Option}
use Rattle.std.proofs.Common.{Some, None, Ok, Err, refl, sym, ap, ap₂, ◌∙◌}
use Rattle.std.specs.Prelude.{unwrap_or}
use Rattle.plain_data.specs.declared.run.Happening.TheVariants as happening
use Rattle.c_language.specs.declared.class.Class.{Class}
use Rattle.c_language.specs.declared.class.Class.TheVariants as class
use Rattle.c_language.specs.declared.ctype.IntegerKind.TheVariants as int_
use Rattle.elaborate.specs.Types.{value_type}
use Rattle.c_language.specs.Typing.{Typed, type_of}
use Rattle.c_means.specs.declared.kind.Kind.{Kind}
use Rattle.c_means.specs.declared.kind.Kind.TheVariants as k
use Rattle.c_means.specs.Parts.{State, Env, Part}
use Rattle.c_means.specs.Parts as c
use Rattle.c_means.specs.Values as values
use Rattle.c_means.specs.Expressions.{Passed}
use Rattle.c_means.specs.Expressions as forms
use Rattle.core_tree.specs.declared.expr.Callee.{Callee}
use Rattle.core_tree.specs.declared.expr.Callee.TheVariants as callee
use Rattle.core_tree.specs.declared.expr.Expr.{Expr}
use Rattle.core_tree.specs.declared.expr.Expr.TheVariants as expr
use Rattle.core_tree.specs.declared.types.ValueType.{ValueType}
use Rattle.core_tree.specs.States.{
  Output,
  plain,
  Taking,
  Done,
  Outcome,
  Level,
  ◌>>=◌,
  found,
  note,
  returned,
  returned_in,
}
use Rattle.core_tree.specs.Values.{Value, value, arguments, acting, needed, all_rooms, all_sizes}
use Rattle.core_tree.specs.Callees as core
use Rattle.core_tree.proofs.Equations as eq
use Rattle.c_store.specs.Store.{Store}
use Rattle.c_language.specs.Scopes.{Name}
use Rattle.c_means.specs.Marks.{Enters}
use Rattle.core_marks.specs.Marks.{callee_marks}
use Rattle.elaborate.specs.Tokens.{all_told}
use Rattle.elaborate.specs.Means.{Numbering, Ruling}
use Rattle.elaborate.specs.Means.{as_done, as_found, Like, Does, IsValueOf, IsEffectOf, IsCallOf, AreArguments}
use Rattle.elaborate.proofs.States.{then_same}

-- ---- where a call comes back

returned_same : (d r : State) → returned plain (as_done d) (Some (as_done r)) ≡ as_found (c.returned d r)
returned_same d r = by_kind r.kind where
  by_kind : (kind : Kind) → returned_in plain (as_done d) (as_done r) kind ≡ as_found (c.returned_in d r kind)
  by_kind k.Running = refl
  by_kind k.Breaking = refl
  by_kind k.Continuing = refl
  by_kind k.Returning = refl
  by_kind (k.Going label) = refl
  by_kind (k.Choosing z) = refl
  by_kind k.Defaulting = refl
  by_kind (k.Ended f) = refl

grouped : {A B C : Type 0} (o : Outcome Output A) (f : A × Done Output → Outcome Output B)
    (g : B × Done Output → Outcome Output C)
    → ((o >>= f) >>= g) ≡ (o >>= (λ x. f x >>= g))
grouped None f g = refl
grouped (Some (Ok x)) f g = refl
grouped (Some (Err d)) f g = refl

module _ (numbering : Numbering) where
  -- ---- arguments, from left to right

  rooms_same : (es : List Expr) (qs : List Passed) → AreArguments numbering es qs → (l : c.Level) (k : Level Output) →
      Like numbering l k
      → all_rooms (map (value {O = Output}) es) k.measures ≡ forms.all_rooms qs l
  rooms_same [] [] h l k like = refl
  rooms_same [] (q ∷ qs) h l k like = absurd h
  rooms_same (e ∷ es) [] h l k like = absurd h
  rooms_same (e ∷ es) (q ∷ qs) h l k like = ap₂ (λ a b. a + b) (h.0.room l k like) (rooms_same es qs h.1 l k like)

  sizes_same : (es : List Expr) (qs : List Passed) → AreArguments numbering es qs → (l : c.Level) (k : Level Output) →
      Like numbering l k
      → all_sizes (map (value {O = Output}) es) k.measures ≡ forms.all_sizes qs l
  sizes_same [] [] h l k like = refl
  sizes_same [] (q ∷ qs) h l k like = absurd h
  sizes_same (e ∷ es) [] h l k like = absurd h
  sizes_same (e ∷ es) (q ∷ qs) h l k like = ap₂ (λ a b. a + b) (h.0.size l k like) (sizes_same es qs h.1 l k like)

  -- a value that is converted before the next argument
  converted_then : {A B : Type 0} (o : c.Outcome A) (g : A → A) (f : A × State → c.Outcome B) → c.◌>>=◌
      (c.◌>>=◌ o (λ v. Ok (g v.0, v.1))) f ≡ c.◌>>=◌ o (λ v. f (g v.0, v.1))
  converted_then (Ok x) g f = refl
  converted_then (Err d) g f = refl

  arguments_same : (es : List Expr) (qs : List Passed) → AreArguments numbering es qs → (l : c.Level) (k : Level Output)
      → Like numbering l k → (env : Env) (base : ℕ) (d : State)
      → arguments (map value es) k env base (as_done d) ≡ as_found (forms.arguments qs l env base d)
  arguments_same [] [] h l k like env base d = refl
  arguments_same [] (q ∷ qs) h l k like env base d = absurd h
  arguments_same (e ∷ es) [] h l k like env base d = absurd h
  arguments_same (e ∷ es) (q ∷ qs) h l k like env base d =
      let convert = values.converted_to (values.class_in q.ctype) in
      ap (λ o. o >>= (λ v. arguments (map value es) k env (base + (value {O = Output} e).needs.room k.measures) v.1
      >>= (λ vs. found (v.0 ∷ vs.0) vs.1))) (h.0.runs l k like env base d)
      ∙ then_same (c.◌>>=◌ (q.part.run l env base d) (λ v. Ok (convert v.0, v.1)))
      (λ v. c.◌>>=◌ (forms.arguments qs l env (base + q.part.room l) v.1) (λ vs. Ok (v.0 ∷ vs.0, vs.1)))
      (λ v. arguments (map value es) k env (base + (value {O = Output} e).needs.room k.measures) v.1 >>=
      (λ vs. found (v.0 ∷ vs.0) vs.1))
      (λ v d. ap (λ m. arguments (map value es) k env (base + m) (as_done d) >>= (λ vs. found (v ∷ vs.0) vs.1))
      (h.0.room l k like)
      ∙ ap (λ o. o >>= (λ vs. found (v ∷ vs.0) vs.1)) (arguments_same es qs h.1 l k like env (base + q.part.room l) d)
      ∙ then_same (forms.arguments qs l env (base + q.part.room l) d) (λ vs. Ok (v ∷ vs.0, vs.1))
      (λ vs. found (v ∷ vs.0) vs.1) (λ vs d. refl))
      ∙ ap as_found (converted_then (q.part.run l env base d) convert
      (λ v. c.◌>>=◌ (forms.arguments qs l env (base + q.part.room l) v.1) (λ vs. Ok (v.0 ∷ vs.0, vs.1))))

  -- ---- a call

  module _ (at : ℕ) (es : List Expr) (qs : List Passed) (callee : Callee) (t : ValueType) (x : Typed)
      (g : c.Level → c.Site)
      (h : AreArguments numbering es qs) (i : IsCallOf numbering callee at t g)
      (same_at : (l : c.Level) → (g l).at ≡ at)
    where
      -- what is called, behind the event
      acting_same : (l : c.Level) (k : Level Output) → Like numbering l k → (env : Env) (vs : List ℤ) (base : ℕ)
          (d : State)
          → acting callee at t k env vs base (note k.taking (happening.Call at) (as_done d))
          ≡ as_found (c.returned (c.note (happening.Call (g l).at) d) (l.call (g l) env vs base d.store d.count))
      acting_same l k like env vs base d =
          ap (λ y. acting_by y k env vs base d) like.taking
          ∙ ap (λ o. returned plain (as_done (c.note (happening.Call at) d)) o)
          (i.runs l k like env vs base d.store (record { count = d.count; printed = d.printed; met = d.met }))
          ∙ returned_same (c.note (happening.Call at) d) (l.call (g l) env vs base d.store d.count)
          ∙ ap (λ a. as_found (c.returned (c.note (happening.Call a) d) (l.call (g l) env vs base d.store d.count)))
          (sym (same_at l))
        where
          acting_by : Taking Output → Level Output → Env → List ℤ → ℕ → State → Outcome Output (Option ℤ)
          acting_by y k env vs base d = returned y (note y (happening.Call at) (as_done d))
              (core.called k callee at t env vs base d.store (record
              { count = d.count; printed = d.printed; met = d.met }))

      calling_same : (l : c.Level) (k : Level Output) → Like numbering l k → (env : Env) (base : ℕ) (d : State)
          → (arguments (map value es) k env base (as_done d) >>= (λ vs. acting callee at t k env vs.0
          (base + all_rooms (map (value {O = Output}) es) k.measures) (note k.taking (happening.Call at) vs.1)))
          ≡ as_found (forms.calling g qs l env base d)
      calling_same l k like env base d =
          ap₂ (λ o m. o >>= (λ vs. acting callee at t k env vs.0 (base + m) (note k.taking (happening.Call at) vs.1)))
          (arguments_same es qs h l k like env base d) (rooms_same es qs h l k like)
          ∙ then_same (forms.arguments qs l env base d) _ (λ vs. acting callee at t k env vs.0
          (base + forms.all_rooms qs l) (note k.taking (happening.Call at) vs.1))
          (λ vs d. acting_same l k like env vs (base + forms.all_rooms qs l) d)

      call_needs : (used : Bool) (run : c.Level → c.Run ℤ)
          → ((l : c.Level) (k : Level Output) → Like numbering l k → (env : Env) (base : ℕ) (d : State) →
          (value (expr.Call at es callee t used)).run k env base (as_done d) ≡ as_found (run l env base d))
          → Does numbering (value (expr.Call at es callee t used)) (λ l. suc (forms.all_sizes qs l + l.size (g l)))
          (λ l. forms.all_rooms qs l + l.room (g l)) run
      call_needs used run same = record {
        size = λ l k like. ap (λ (w : Value Output). w.needs.size k.measures) (eq.worth-Call at es callee t used)
            ∙ ap₂ (λ a b. suc (a + b)) (sizes_same es qs h l k like) (i.size l k like);
        room = λ l k like. ap (λ (w : Value Output). w.needs.room k.measures) (eq.worth-Call at es callee t used)
            ∙ ap₂ (λ a b. a + b) (rooms_same es qs h l k like) (i.room l k like);
        runs = same;
      }

      -- the call, and what is done with its value
      with_value_same : (used : Bool) (f : Option ℤ → State → c.Outcome ℤ) →
          ((z : Option ℤ) (d : State) → needed used at t z (as_done d) ≡ as_found (f z d))
          → (l : c.Level) (k : Level Output) → Like numbering l k → (env : Env) (base : ℕ) (d : State)
          → (value (expr.Call at es callee t used)).run k env base (as_done d) ≡ as_found
          (c.◌>>=◌ (forms.calling g qs l env base d) (λ v. f v.0 v.1))
      with_value_same used f same l k like env base d =
          ap (λ (w : Value Output). w.run k env base (as_done d)) (eq.worth-Call at es callee t used)
          ∙ sym (grouped (arguments (map value es) k env base (as_done d))
          (λ vs. acting callee at t k env vs.0 (base + all_rooms (map (value {O = Output}) es) k.measures)
          (note k.taking (happening.Call at) vs.1)) (λ v. needed used at t v.0 v.1))
          ∙ ap (λ o. o >>= (λ v. needed used at t v.0 v.1)) (calling_same l k like env base d)
          ∙ then_same (forms.calling g qs l env base d) (λ v. f v.0 v.1) (λ v. needed used at t v.0 v.1) same

      -- where its value isn't used
      pub call_effect : IsEffectOf numbering (expr.Call at es callee t false) (forms.direct_call at x g qs)
      call_effect = call_needs false (forms.direct_call at x g qs).effect
          (with_value_same false (λ z d. Ok (unwrap_or z (pos 0), d)) unused)
        where
          unused : (z : Option ℤ) (d : State) → needed false at t z (as_done d) ≡ as_found (Ok (unwrap_or z (pos 0), d))
          unused None d = refl
          unused (Some z) d = refl

      -- where it is used
      pub call_value : ((z : Option ℤ) (d : State) → needed true at t z (as_done d) ≡ as_found
          (forms.needed at (values.class_in (type_of x)) z d))
          → IsValueOf numbering (expr.Call at es callee t true) (forms.direct_call at x g qs)
      call_value same = call_needs true (forms.direct_call at x g qs).run
          (with_value_same true (forms.needed at (values.class_in (type_of x))) same)

-- ---- a value that must be there

pub needed_same : (at : ℕ) (cl : Class) (n : ℕ) (z : Option ℤ) (d : State) → needed true at (value_type cl n) z
    (as_done d) ≡ as_found (forms.needed at cl z d)
needed_same at class.Void n None d = refl
needed_same at class.Void n (Some z) d = refl
needed_same at (class.Integer int_.Bool) n None d = refl
needed_same at (class.Integer int_.Bool) n (Some z) d = refl
needed_same at (class.Integer int_.Char) n None d = refl
needed_same at (class.Integer int_.Char) n (Some z) d = refl
needed_same at (class.Integer int_.SignedChar) n None d = refl
needed_same at (class.Integer int_.SignedChar) n (Some z) d = refl
needed_same at (class.Integer int_.UnsignedChar) n None d = refl
needed_same at (class.Integer int_.UnsignedChar) n (Some z) d = refl
needed_same at (class.Integer int_.Short) n None d = refl
needed_same at (class.Integer int_.Short) n (Some z) d = refl
needed_same at (class.Integer int_.UnsignedShort) n None d = refl
needed_same at (class.Integer int_.UnsignedShort) n (Some z) d = refl
needed_same at (class.Integer int_.Int) n None d = refl
needed_same at (class.Integer int_.Int) n (Some z) d = refl
needed_same at (class.Integer int_.UnsignedInt) n None d = refl
needed_same at (class.Integer int_.UnsignedInt) n (Some z) d = refl
needed_same at (class.Integer int_.Long) n None d = refl
needed_same at (class.Integer int_.Long) n (Some z) d = refl
needed_same at (class.Integer int_.UnsignedLong) n None d = refl
needed_same at (class.Integer int_.UnsignedLong) n (Some z) d = refl
needed_same at (class.Integer int_.LongLong) n None d = refl
needed_same at (class.Integer int_.LongLong) n (Some z) d = refl
needed_same at (class.Integer int_.UnsignedLongLong) n None d = refl
needed_same at (class.Integer int_.UnsignedLongLong) n (Some z) d = refl
needed_same at class.Floating n None d = refl
needed_same at class.Floating n (Some z) d = refl
needed_same at class.Pointer n None d = refl
needed_same at class.Pointer n (Some z) d = refl
needed_same at class.Array n None d = refl
needed_same at class.Array n (Some z) d = refl
needed_same at class.Function n None d = refl
needed_same at class.Function n (Some z) d = refl
needed_same at (class.Aggregate m) n None d = refl
needed_same at (class.Aggregate m) n (Some z) d = refl
needed_same at class.Opaque n None d = refl
needed_same at class.Opaque n (Some z) d = refl

-- a call by body, of the function of this number
pub body_call_of :
    (numbering : Numbering) (at : ℕ) (t : ValueType) (g : c.Level → c.Site) (f : ℕ)
    → ((l : c.Level) → numbering.body (g l) ≡ Some f) → ((l : c.Level) → (g l).at ≡ at)
    → IsCallOf numbering (callee.Body f) at t g
body_call_of numbering at t g f is same_at = record {
  size = λ l k like. (like.bodies (g l) f (is l)).size;
  room = λ l k like. (like.bodies (g l) f (is l)).room;
  marks = record {
    are = λ name l k like named. ap (λ a. Enters a (name f) ∷ []) (sym (same_at l))
        ∙ named (g l) f (is l);
  };
  runs = λ l k like env vs base s o. ap (λ a. core.body_call k.call k.taking a f vs base s o) (sym (same_at l))
      ∙ (like.bodies (g l) f (is l)).runs env vs base s o;
}

-- a call by rule, by a callee of the core that does what the rule says
pub rule_call_of :
    (numbering : Numbering) (x : Callee) (at : ℕ) (t : ValueType) (g : c.Level → c.Site) (r : Ruling)
    → ((l : c.Level) → numbering.rule (g l) ≡ Some r) → ((k : Level Output) → core.callee_size x k.measures ≡ 0)
    → ((k : Level Output) → core.callee_room x k.measures ≡ r.room)
    → ((name : ℕ → Name) → all_told name (callee_marks at x) ≡ r.marks)
    → ((l : c.Level) (k : Level Output) → Like numbering l k → (env : Env) (vs : List ℤ) (base : ℕ) (s : Store)
    (o : Output)
    → core.called k x at t env vs base s o
    ≡ Some (as_done (r.acts l.world l.limits env vs base (c.entered s o.count))))
    → IsCallOf numbering x at t g
rule_call_of numbering x at t g r is size room marks runs = record {
  size = λ l k like. size k ∙ (like.rules (g l) r (is l)).size;
  room = λ l k like. room k ∙ (like.rules (g l) r (is l)).room;
  marks = record { are = λ name l k like named. marks name ∙ (like.rules (g l) r (is l)).marks };
  runs = λ l k like env vs base s o. runs l k like env vs base s o
      ∙ ap (λ d. Some (as_done d)) ((like.rules (g l) r (is l)).runs env vs base s o.count);
}
