-- What calls print.
use Rattle.std.proofs.Common.{◌≡◌, ◌+◌, ◌*◌, ℕ, zero, suc, ℤ, pos, Bool, true, false, cond, not, ◌&&◌, List, [], ◌∷◌, ◌++◌, length, drop, Option, Some, None, refl, sym, ap, subst, ◌∙◌, append_assoc}
use Rattle.std.specs.Prelude.{Ok, Err, nat_lt, nat_eq}
use Rattle.std.proofs.lemmas.List.{append-nil}
use Rattle.plain_data.specs.declared.run.Finish.TheVariants as finish
use Rattle.printf_text.specs.declared.piece.Arg.{Arg}
use Rattle.printf_text.specs.declared.piece.Piece.{Piece}
use Rattle.printf_text.specs.Texts.{piece_text, piece_kinds, text_of}
use Rattle.c_means.specs.declared.kind.Kind.{Kind}
use Rattle.c_means.specs.declared.kind.Kind.TheVariants as k
use Rattle.c_means.specs.Parts.{Env}
use Rattle.c_means.specs.Values.{address}
use Rattle.c_means.specs.Calls.{pointers_in}
use Rattle.c_store.specs.Store.{Store}
use Rattle.c_store.specs.Access.{can_access, can_write, can_free}
use Rattle.core_tree.specs.declared.expr.Callee.{Callee}
use Rattle.core_tree.specs.declared.expr.Callee.TheVariants as callee
use Rattle.core_tree.specs.declared.expr.Fill.{Fill}
use Rattle.core_tree.specs.declared.expr.OutsideAnswer.{OutsideAnswer}
use Rattle.core_tree.specs.declared.expr.OutsideAnswer.TheVariants as answer
use Rattle.core_tree.specs.declared.expr.Pointee.{Pointee}
use Rattle.core_tree.specs.declared.expr.Watched.{Watched}
use Rattle.core_tree.specs.declared.types.ValueType.{ValueType}
use Rattle.core_tree.specs.declared.types.WordType.{WordType}
use Rattle.core_tree.specs.Callees.{spoken, arguments_of, says_all, taken_then, printed, prints, log_call, seen_all, heap_object, freed, outside_pointer, outside_answer, filled, filled_by, outside_call, fill_count, body_call, value_or_zero, answers, asked, is_odd, called}
use Rattle.core_tree.specs.States.{Output, plain, printing, Done, Calls, Level, Outcome, entered, meet, meets, resumed, returned, returned_in}
use Rattle.log_language.specs.declared.told.Told.{Told}
use Rattle.log_language.specs.declared.tree.LogExpr.{LogExpr}
use Rattle.log_language.specs.declared.tree.LogExpr.TheVariants as tree
use Rattle.log_language.specs.Language.{Language, texts_at}
use Rattle.log_language.specs.Language as says
use Rattle.log_language.specs.Steps.{MayPrint}
use Rattle.log_language.specs.Tells.{Site, Talk, level_by, texts, EndsIn, CallsSay, Prints, Wider, TellsCall, GoesCall, SaysOutcome}

-- ---- what prints nothing

printed_cond : (b : Bool) (u v : Done Output) (o : List ℕ) → u.out.printed ≡ o → v.out.printed ≡ o → (cond b u v).out.printed ≡ o
printed_cond true u v o p q = p
printed_cond false u v o p q = q

pub meets_printed : (place n : ℕ) (d : Done Output) → (meets plain place n d).out.printed ≡ d.out.printed
meets_printed place zero d = refl
meets_printed place (suc n) d = meets_printed (suc place) n (meet plain place d)

module _ (x : Site) (p : Talk x) where
  abbrev l : Level Output
  l = level_by x p

  heap_printed : (at : ℕ) (type : ValueType) (n q : ℕ) (zeroes : Bool) (d : Done Output) → (heap_object l at type n q zeroes d).out.printed ≡ d.out.printed
  heap_printed at type n q zeroes d = printed_cond (nat_lt x.family.limits.heap n) _ _ d.out.printed refl (printed_cond (nat_eq (asked l q) 0) _ _ d.out.printed refl refl)

  pointer_printed : (type : ValueType) (never : Bool) (y : Pointee) (q : ℕ) (d : Done Output) → (outside_pointer l type never y q d).out.printed ≡ d.out.printed
  pointer_printed type never y q d = printed_cond (nat_eq (asked l q) 0 && not never) _ _ d.out.printed refl refl

  answer_printed : (type : ValueType) (y : OutsideAnswer) (q : ℕ) (d : Done Output) → (outside_answer l type y q d).out.printed ≡ d.out.printed
  answer_printed type answer.Nothing q d = refl
  answer_printed type answer.Number q d = refl
  answer_printed type (answer.Pointer never y) q d = pointer_printed type never y q (meet plain q d)

  filled_printed : (at q a n : ℕ) (f : Done Output → Done Output) (d : Done Output) (o : List ℕ) → d.out.printed ≡ o → ((e : Done Output) → e.out.printed ≡ o → (f e).out.printed ≡ o) → (filled l at q a n f d).out.printed ≡ o
  filled_printed at q a n f d o e h = printed_cond (can_access d.store a n) _ _ o (printed_cond (can_write d.store a n) _ _ o (h _ e) e) e

  outside_printed : (at : ℕ) (type : ValueType) (y : OutsideAnswer) (fill : Option Fill) (vs : List ℤ) (q : ℕ) (d : Done Output) → (outside_call l at type y fill vs q d).out.printed ≡ d.out.printed
  outside_printed at type y None vs q d = answer_printed type y q d
  outside_printed at type y (Some f) vs q d = by f.counts
    where
      a : ℕ
      a = address (value_or_zero vs f.buffer)

      n : ℕ
      n = fill_count l q (address (value_or_zero vs f.length))

      by : (b : Bool) → (filled_by b l at type y q a n d).out.printed ≡ d.out.printed
      by false = filled_printed at q a n (outside_answer l type y q) (meets plain (q + 1) 2 d) d.out.printed (meets_printed (q + 1) 2 d) (λ e h. answer_printed type y q e ∙ h)
      by true = printed_cond (is_odd (asked l (q + 3))) _ _ d.out.printed refl (filled_printed at q a n (answers type (pos n)) (meets plain (q + 1) 3 d) d.out.printed (meets_printed (q + 1) 3 d) (λ e h. h))

freed_printed : (at a : ℕ) (d : Done Output) → (freed at a d).out.printed ≡ d.out.printed
freed_printed at a d = printed_cond (can_free d.store a) _ _ d.out.printed (printed_cond (nat_eq a 0) _ _ d.out.printed refl refl) refl

-- nothing behind a text
nothing_more : (x : Site) (a : LogExpr) (u : List ℕ) → u ≡ [] → (t : List ℕ) → texts x a t → texts x a (t ++ u)
nothing_more x a u q t m = subst (λ z. texts x a (t ++ z)) (sym q) (subst (texts x a) (sym (append-nil t)) m)

quiet : (c : Callee) (a : LogExpr)
    → ((x : Site) (p : Talk x) (at : ℕ) (type : ValueType) (env : Env) (vs : List ℤ) (base : ℕ) (s : Store) (o : Output) → (d : Done Output) × (called (level_by x p) c at type env vs base s o ≡ Some d) × (d.out.printed ≡ []))
    → TellsCall c a a
quiet c a h = record {
  wider = λ x t m. m;
  says = λ x p at type env vs base s o.
      let r = h x p at type env vs base s o in
      subst (λ z. EndsIn (λ u. (t : List ℕ) → texts x a t → texts x a (t ++ u)) z) (sym r.1) (nothing_more x a r.0.out.printed r.2);
}

pub says_identity : (i : ℕ) (a : LogExpr) → TellsCall (callee.Identity i) a a
says_identity i a = quiet (callee.Identity i) a (λ x p at type env vs base s o. (_, refl, refl))

pub says_exit : (a : LogExpr) → TellsCall callee.Exit a a
says_exit a = quiet callee.Exit a (λ x p at type env vs base s o. (_, refl, refl))

pub says_abort : (a : LogExpr) → TellsCall callee.Abort a a
says_abort a = quiet callee.Abort a (λ x p at type env vs base s o. (_, refl, refl))

pub says_malloc : (a : LogExpr) → TellsCall callee.Malloc a a
says_malloc a = quiet callee.Malloc a (λ x p at type env vs base s o.
    (heap_object (level_by x p) at type (address (value_or_zero vs 0)) base false (entered plain s o), refl, heap_printed x p at type _ base false (entered plain s o)))

pub says_calloc : (a : LogExpr) → TellsCall callee.Calloc a a
says_calloc a = quiet callee.Calloc a (λ x p at type env vs base s o.
    (heap_object (level_by x p) at type (address (value_or_zero vs 0) * address (value_or_zero vs 1)) base true (entered plain s o), refl, heap_printed x p at type _ base true (entered plain s o)))

pub says_free : (a : LogExpr) → TellsCall callee.Free a a
says_free a = quiet callee.Free a (λ x p at type env vs base s o. (freed at (address (value_or_zero vs 0)) (entered plain s o), refl, freed_printed at (address (value_or_zero vs 0)) (entered plain s o)))

pub says_outside : (r : OutsideAnswer) (fill : Option Fill) (a : LogExpr) → TellsCall (callee.Outside r fill) a a
says_outside r fill a = quiet (callee.Outside r fill) a (λ x p at type env vs base s o.
    (outside_call (level_by x p) at type r fill vs base (entered plain s o), refl, outside_printed x p at type r fill vs base (entered plain s o)))

-- ---- what may print

abbrev pub or_none : LogExpr → LogExpr → LogExpr
or_none a e = tree.Sequence a (tree.Choice tree.Silent e)

pub or_wider : (a e : LogExpr) → Wider a (or_none a e)
or_wider a e x t m =
    subst (texts x (or_none a e)) (append-nil t)
    (says.sequence a (tree.Choice tree.Silent e) t [] m (says.first tree.Silent e [] says.silent))

or_more : (x : Site) (a e : LogExpr) (u : List ℕ) → texts x e u → (t : List ℕ) → texts x a t → texts x (or_none a e) (t ++ u)
or_more x a e u n t m = says.sequence a (tree.Choice tree.Silent e) t u m (says.second tree.Silent e u n)

or_nothing : (x : Site) (a e : LogExpr) (u : List ℕ) → u ≡ [] → (t : List ℕ) → texts x a t → texts x (or_none a e) (t ++ u)
or_nothing x a e u q t m = nothing_more x (or_none a e) u q t (or_wider a e x t m)

pub says_body : (f : ℕ) (a : LogExpr) → TellsCall (callee.Body f) a (or_none a (tree.Called f))
says_body f a = record {
  wider = or_wider a (tree.Called f);
  says = λ x p at type env vs base s o. by x p.call p.says at vs base s o;
}
  where
    ends : (x : Site) (o : Option (Done Output)) → EndsIn (texts_at x.family x.left f) o → EndsIn (λ u. (t : List ℕ) → texts x a t → texts x (or_none a (tree.Called f)) (t ++ u)) o
    ends x None h = tt
    ends x (Some d) h = or_more x a (tree.Called f) d.out.printed (says.calls f d.out.printed h)

    by : (x : Site) (c : Option (Calls Output)) → CallsSay (texts_at x.family x.left) c → (at : ℕ) (vs : List ℤ) (base : ℕ) (s : Store) (o : Output)
        → EndsIn (λ u. (t : List ℕ) → texts x a t → texts x (or_none a (tree.Called f)) (t ++ u)) (body_call c plain at f vs base s o)
    by x None h at vs base s o = or_nothing x a (tree.Called f) [] refl
    by x (Some calls) h at vs base s o = ends x (calls f vs base s o) (h f vs base s o)

-- what pieces print
abbrev Printed : List ℕ → List ℕ → Option Output → Type 0
Printed before text None = Unit {0}
Printed before text (Some o) = o.printed ≡ before ++ text

all_printed : (ps : List Piece) (xs : List Arg) (o : Output) → Printed o.printed (text_of ps xs) (says_all plain ps xs o)
all_printed [] xs o = sym (append-nil o.printed)
all_printed (p ∷ ps) xs o =
    by (says_all plain ps (drop (length (piece_kinds p)) xs) (printing (piece_text p xs) o)) (all_printed ps (drop (length (piece_kinds p)) xs) (printing (piece_text p xs) o))
  where
    by : (q : Option Output) → Printed (o.printed ++ piece_text p xs) (text_of ps (drop (length (piece_kinds p)) xs)) q → Printed o.printed (piece_text p xs ++ text_of ps (drop (length (piece_kinds p)) xs)) q
    by None h = tt
    by (Some q) h = h ∙ append_assoc o.printed (piece_text p xs) (text_of ps (drop (length (piece_kinds p)) xs))

pub says_log : (ps : List Piece) (before : ℕ) (ts : List WordType) (watched : List Watched) (a : LogExpr) → TellsCall (callee.Log ps before ts watched) a (or_none a (tree.Texts ps))
says_log ps before ts watched a = record {
  wider = or_wider a (tree.Texts ps);
  says = λ x p at type env vs base s o. spoke x (arguments_of (level_by x p) ps (drop before (spoken ts vs)) (base + 4) s) at type (seen_all env s watched) (meets plain (base + 4) (pointers_in ps) (entered plain s o)) (meets_printed (base + 4) (pointers_in ps) (entered plain s o));
}
  where
    taken : (x : Site) (at : ℕ) (type : ValueType) (shown : List ℤ) (d : Done Output) (xs : List Arg) (q : Option Output) → d.out.printed ≡ [] → Printed d.out.printed (text_of ps xs) q
        → EndsIn (λ u. (t : List ℕ) → texts x a t → texts x (or_none a (tree.Texts ps)) (t ++ u)) (printed plain at type shown d q)
    taken x at type shown d xs None n h = tt
    taken x at type shown d xs (Some o) n h =
        let is : o.printed ≡ text_of ps xs = subst (λ z. o.printed ≡ z ++ text_of ps xs) n h in
        or_more x a (tree.Texts ps) o.printed (subst (texts x (tree.Texts ps)) (sym is) (says.texts ps xs))

    spoke : (x : Site) (args : Option (List Arg)) (at : ℕ) (type : ValueType) (shown : List ℤ) (d : Done Output) → d.out.printed ≡ []
        → EndsIn (λ u. (t : List ℕ) → texts x a t → texts x (or_none a (tree.Texts ps)) (t ++ u)) (prints plain at type ps shown args d)
    spoke x None at type shown d n = or_nothing x a (tree.Texts ps) d.out.printed n
    spoke x (Some xs) at type shown d n = taken x at type shown d xs (says_all plain ps xs d.out) n (all_printed ps xs d.out)

-- ---- back at the caller

pub call_returns : (x : Site) (a b : LogExpr) (before : List ℕ) (d : Done Output) (o : Option (Done Output)) → EndsIn (λ u. (t : List ℕ) → texts x a t → texts x b (t ++ u)) o → Prints x a before d
    → SaysOutcome x b before (returned plain d o)
call_returns x a b before d None h m = record { is = tt }
call_returns x a b before d (Some r) h m = by r.kind
  where
    here : (e : Done Output) → e.out.printed ≡ d.out.printed ++ r.out.printed → Prints x b before e
    here e q = record {
      text = m.text ++ r.out.printed;
      is = q ∙ ap (λ z. z ++ r.out.printed) m.is ∙ append_assoc before m.text r.out.printed;
      said = h m.text m.said;
    }

    by : (z : Kind) → SaysOutcome x b before (returned_in plain d r z)
    by k.Running = record { is = here (resumed plain d r) refl }
    by k.Breaking = record { is = here (resumed plain d r) refl }
    by k.Continuing = record { is = here (resumed plain d r) refl }
    by k.Returning = record { is = here (resumed plain d r) refl }
    by (k.Going l) = record { is = here (resumed plain d r) refl }
    by (k.Choosing v) = record { is = here (resumed plain d r) refl }
    by k.Defaulting = record { is = here (resumed plain d r) refl }
    by (k.Ended f) = record { is = here _ refl }

-- ---- of what was gone through

pub goes_same : {c : Callee} {a : Told} → TellsCall c a.so_far a.so_far → GoesCall c a a
goes_same {c} {a} h = record { aside = refl; tells = h }

pub goes_may : {c y : Callee} {e e' : LogExpr} {a b : Told} → c ≡ y → e' ≡ e → TellsCall y a.so_far (or_none a.so_far e) → MayPrint e' a b → GoesCall c a b
goes_may {c} {y} {e} {e'} {a} {b} q g h m = record {
  aside = m.aside;
  tells = subst (λ z. TellsCall z a.so_far b.so_far) (sym q) (subst (λ z. TellsCall y a.so_far z) (sym (m.so_far ∙ ap (or_none a.so_far) g)) h);
}

pub goes_quiet : {c y : Callee} {a : Told} → c ≡ y → TellsCall y a.so_far a.so_far → GoesCall c a a
goes_quiet {c} {y} {a} q h = record { aside = refl; tells = subst (λ z. TellsCall z a.so_far a.so_far) (sym q) h }
