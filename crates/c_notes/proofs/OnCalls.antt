-- What is noted of a call, from what the code has found of the callee and the arguments.
use Rattle.std.proofs.Common.{◌≡◌, ℕ, ◌+◌, ◌<◌, ◌≤◌, List, [], ◌++◌, length, get_or, drop, Option, Some, None, false}
use Rattle.std.proofs.Common.{Result, IfOk, IsOkAnd, map, refl, sym, ap, subst, ◌∙◌}
use Rattle.std.proofs.lemmas.Result.{IfOk-weaker}
use Rattle.std.specs.declared.alloc.AllocError.{AllocError}
use Rattle.c_language.specs.declared.expr.Expr.{Expr}
use Rattle.c_language.specs.declared.expr.Expr.TheVariants as expr
use Rattle.c_language.specs.declared.scope.Entry.{Entry}
use Rattle.c_language.specs.declared.scope.Fault.{Fault}
use Rattle.c_language.specs.declared.shown.Shown.{Shown}
use Rattle.c_language.specs.Scopes.{Scope}
use Rattle.c_language.specs.Typing as t
use Rattle.c_language.specs.Typing.{Typed, typed_in, type_of, type_in, told_of, used, used_told}
use Rattle.c_typing.proofs.Declares as parts
use Rattle.c_typing.proofs.Says as says
use Rattle.c_means.specs.Parts.{Part, Level, entered}
use Rattle.c_means.specs.Expressions as m
use Rattle.c_means.specs.Expressions.{designated, parameters_of, passed, passed_types, passed_texts}
use Rattle.c_means.specs.declared.profile.Profile.{Profile}
use Rattle.c_means.specs.Notes as n
use Rattle.c_means.specs.Notes.{Noted, noted, through, call_noted, site_of, name_of}
use Rattle.c_means.specs.Rules.{identity_index}
use Rattle.c_means.proofs.NoteEquations as eq
use Rattle.c_notes.specs.declared.arguments.ArgumentNotes.{ArgumentNotes}
use Rattle.c_notes.specs.declared.arguments.NotedCall.{NotedCall}
use Rattle.c_notes.specs.declared.notes.ExprNotes.{ExprNotes}
use Rattle.c_notes.specs.declared.notes.NotedExpr.{NotedExpr}
use Rattle.c_notes.specs.CallsTold.{told_calls}
use Rattle.c_notes.specs.Tellings as spec
use Rattle.c_notes.specs.Tellings.{notes_of, passed_as}
use Rattle.c_notes.specs.Relations.{Knows, IsNoted, IsForm, IsCallOf, ArePassed, Passed, behind}
use Rattle.c_notes.specs.Relations.{with_argument, with_arguments}
use Rattle.c_notes.proofs.EachForm.{of-child}
use Rattle.c_notes.proofs.Found.{WasValued, valued}
use Rattle.plain_data.proofs.Tried.{of_one, of_two, of_part}
use Rattle.c_notes.proofs.Parts.{noted_typed, told_both, of_none}
use Rattle.c_notes.proofs.Passing as passing
use Rattle.c_notes.proofs.Passing.{value_types, texts_of}

-- a level that knows what identity functions hand on
abbrev some_level : Profile → Level
some_level p = record {
  world = record { word = λ place. 0; byte = λ address. 0 };
  limits = record { turns = 0; heap = 0; outside = 0; texts = 0; arguments = 0 };
  turns = 0;
  static = λ at. 0;
  identity = identity_index p;
  size = λ g. 0;
  room = λ g. 0;
  marks = λ g. [];
  call = λ g env vs base s count. entered s count;
}

-- ---- what an argument list has

pub record AreFound (p : Profile) (l : Level) (xs : ArgumentNotes) (ts : n.Through) : Type 0 where
  pub types : xs.types ≡ value_types ts.parts
  pub texts : xs.texts ≡ texts_of l ts.parts
  pub calls : xs.calls ≡ told_calls p l ts.calls
  pub called : xs.called ≡ ts.called

found_of : (p : Profile) (l : Level) (es : List Expr) (faults : List Fault) (s s2 : Scope) (xs : ArgumentNotes) →
    behind xs s2 ≡ with_arguments p l es (behind (spec.no_arguments_noted faults) s) →
    AreFound p l xs (through (map noted es) s)
found_of p l es faults s s2 xs is =
    let z = behind (spec.no_arguments_noted faults) s in
    record {
      types = ap (λ (y : Passed). y.found.types) is ∙ passing.types_are p l es z;
      texts = ap (λ (y : Passed). y.found.texts) is ∙ passing.texts_are p l es z;
      calls = ap (λ (y : Passed). y.found.calls) is ∙ passing.calls_are p l es z;
      called = ap (λ (y : Passed). y.found.called) is ∙ passing.called_are p l es z;
    }

-- ---- the call

abbrev part_of : ℕ → Noted → n.Through → Part
part_of at f ts = m.call at f.part ts.parts ts.after

called_core : (p : Profile) (l : Level) → Knows p l → (f : Noted) (ts : n.Through) (xs : ArgumentNotes)
    → AreFound p l xs ts → (x : Typed) → x.after ≡ ts.after → (d : Option Entry) →
    spec.with_itself
    (spec.itself p f.part.typed.at ts.after.tables d x.shown
    (passed_as xs.types (parameters_of ts.after.tables (type_of f.part.typed))) xs.texts) x.shown (notes_of p l f) xs
    ≡ record {
      text = (m.call_of d f.part.typed x (passed ts.parts (parameters_of ts.after.tables (type_of f.part.typed)))).text l;
      calls = told_calls p l (f.notes.calls ++ ts.calls ++ site_of d (type_of x) f.part ts.parts x ts.after);
      called = f.notes.called ++ ts.called ++ name_of d;
      is_place = false;
      is_address = false;
      is_constant = (spec.leaf x.shown).is_constant;
    }
called_core p l knows f ts xs h x after None =
    rw (told_both p l (f.notes.calls ++ ts.calls) [], told_both p l f.notes.calls ts.calls, h.calls, h.called) refl
called_core p l knows f ts xs h x after (Some e) = with_shown x.shown refl
  where
    qs : List m.Passed
    qs = passed ts.parts (parameters_of ts.after.tables (type_of f.part.typed))

    with_shown : (k : Option Shown) → x.shown ≡ k →
        spec.with_itself
        (spec.itself p f.part.typed.at ts.after.tables (Some e) x.shown
        (passed_as xs.types (parameters_of ts.after.tables (type_of f.part.typed))) xs.texts) x.shown (notes_of p l f) xs
        ≡ record {
          text = (m.call_of (Some e) f.part.typed x qs).text l;
          calls = told_calls p l (f.notes.calls ++ ts.calls ++ site_of (Some e) (type_of x) f.part ts.parts x ts.after);
          called = f.notes.called ++ ts.called ++ name_of (Some e);
          is_place = false;
          is_address = false;
          is_constant = (spec.leaf x.shown).is_constant;
        }
    with_shown None is =
        rw (
          is,
          told_both p l (f.notes.calls ++ ts.calls) [],
          told_both p l f.notes.calls ts.calls,
          h.calls,
          h.called,
          h.texts,
          passing.passed_texts_are l ts.parts (parameters_of ts.after.tables (type_of f.part.typed)),
          knows.identity,
        ) refl
    with_shown (Some k) is =
        rw (
          told_both p l (f.notes.calls ++ ts.calls) (site_of (Some e) (type_of x) f.part ts.parts x ts.after),
          told_both p l f.notes.calls ts.calls,
          h.calls,
          h.called,
          is,
          h.texts,
          h.types,
          after,
          passing.passed_texts_are l ts.parts (parameters_of ts.after.tables (type_of f.part.typed)),
          passing.passed_types_are ts.parts (parameters_of ts.after.tables (type_of f.part.typed)),
          knows.identity,
        ) refl

-- what the call says, by the declaration of the name that is called
abbrev said_of : Noted → n.Through → ℕ → Typed
said_of f ts at =
    t.call at f.part.typed.at f.part.typed.shown (m.arguments_said (t.no_arguments f.part.typed.faults) ts.parts) ts.after

by_designated : (p : Profile) (l : Level) → Knows p l → (f : Noted) (ts : n.Through) (xs : ArgumentNotes)
    → AreFound p l xs ts → (x : Typed) → x.after ≡ ts.after → (d : Option Entry) →
    spec.with_itself
    (spec.itself p f.part.typed.at ts.after.tables d
    (m.call_of d f.part.typed x (passed ts.parts (parameters_of ts.after.tables (type_of f.part.typed)))).typed.shown
    (passed_as xs.types (parameters_of ts.after.tables (type_of f.part.typed))) xs.texts)
    (m.call_of d f.part.typed x (passed ts.parts (parameters_of ts.after.tables (type_of f.part.typed)))).typed.shown
    (notes_of p l f) xs
    ≡ notes_of p l (record {
      part = m.call_of d f.part.typed x (passed ts.parts (parameters_of ts.after.tables (type_of f.part.typed)));
      notes = record {
        calls = f.notes.calls ++ ts.calls
            ++ site_of d (type_of (m.call_of d f.part.typed x
            (passed ts.parts (parameters_of ts.after.tables (type_of f.part.typed)))).typed) f.part ts.parts
            (m.call_of d f.part.typed x (passed ts.parts (parameters_of ts.after.tables (type_of f.part.typed)))).typed
            ts.after;
        called = f.notes.called ++ ts.called ++ name_of d;
        is_place = false;
        is_address = false;
      };
    })
by_designated p l knows f ts xs h x after None = called_core p l knows f ts xs h x after None
by_designated p l knows f ts xs h x after (Some e) = called_core p l knows f ts xs h x after (Some e)

call_core : (p : Profile) (l : Level) → Knows p l → (f : Noted) (ts : n.Through) (xs : ArgumentNotes) (at : ℕ)
    → AreFound p l xs ts →
    spec.call p f.part.typed.at ts.after.tables f.part.typed.shown (part_of at f ts).typed.shown (notes_of p l f) xs
    ≡ notes_of p l (call_noted (part_of at f ts) f ts)
call_core p l knows f ts xs at h =
    by_designated p l knows f ts xs h (said_of f ts at) refl (designated f.part.typed.shown)

pub on-Call : {p : Profile} {e : Expr} (at : ℕ) (callee : Expr) (arguments : List Expr) (s s1 s2 : Scope)
    (f z : NotedExpr) (xs : ArgumentNotes) → e ≡ expr.Call at callee arguments → IsNoted p callee s f s1 →
    ArePassed p arguments (behind (spec.no_arguments_noted f.told.faults) s1) (behind xs s2) →
    IsForm (t.call at f.told.at f.told.shown xs.arguments s2)
    (λ w. spec.call p f.told.at s2.tables f.told.shown w f.notes xs) z s2 → IsNoted p e s z s2
on-Call {p} {e} at callee arguments s s1 s2 f z xs is hf hx found =
    let start = behind (spec.no_arguments_noted f.told.faults) s1 in
    let l' = some_level p in
    let through' = ap passing.said_by (hx l' (record { identity = refl }))
    ∙ passing.said_are p l' arguments start in
    let told = says.on-Call at callee arguments s s1 s2 f.told z.told xs.arguments is hf.typed through' found.typed in
    record {
      typed = told;
      notes = λ l knows.
          let F = noted callee s in
          let XS = through (map noted arguments) s1 in
          let here : F.part.typed ≡ typed_in f.told s1 = noted_typed callee s ∙ sym hf.typed in
          let ends : s2 ≡ XS.after = ap (λ (y : Passed). y.after) (hx l knows) ∙ passing.after_is p l arguments start in
          let whole : noted e s ≡ call_noted (part_of at F XS) F XS =
          ap (λ g. g s) (ap noted is ∙ eq.notes-Call at callee arguments)
          ∙ ap (λ (k : Scope). let ts = through (map noted arguments) k in call_noted (part_of at F ts) F ts)
          (ap (λ (y : Typed). y.after) here) in
          of_none p l e s z s2 (call_noted (part_of at F XS) F XS)
          (λ w. spec.call p f.told.at s2.tables f.told.shown w f.notes xs)
          (ap (λ (k : Scope). spec.call p f.told.at k.tables f.told.shown (part_of at F XS).typed.shown f.notes xs) ends
          ∙ ap (λ (k : ExprNotes). spec.call p f.told.at XS.after.tables f.told.shown (part_of at F XS).typed.shown k xs)
          (hf.notes l knows)
          ∙ ap (λ (k : Typed). spec.call p k.at XS.after.tables k.shown (part_of at F XS).typed.shown (notes_of p l F) xs)
          (sym here)
          ∙ call_core p l knows F XS xs at (found_of p l arguments f.told.faults s1 s2 xs (hx l knows)))
          whole told found.notes;
    }

pub of-arguments : {p : Profile} {es es' : List Expr} (z : Passed) {y : Passed} → ArePassed p es z y → es ≡ es' →
    ArePassed p es' z y
of-arguments {p} z {y} h is = subst (λ (ks : List Expr). ArePassed p ks z y) is h

-- ---- arguments one after the other

-- what was found of a call, of whose arguments these are left
pub record Leads (p : Profile) (f : NotedExpr) (es rest : List Expr) (s : Scope) (c : NotedCall) (s1 : Scope) : Type 0
  where
    pub at : c.at ≡ f.told.at
    pub shown : c.shown ≡ f.told.shown
    pub notes : c.notes ≡ f.notes
    pub passed : (l : Level) → Knows p l →
        with_arguments p l rest (behind c.arguments s1)
        ≡ with_arguments p l es (behind (spec.no_arguments_noted f.told.faults) s)

-- the same, where what is called may have failed
abbrev pub HasLed : Profile → Result NotedExpr AllocError → List Expr → List Expr → Scope → NotedCall → Scope → Type 0
HasLed p r es rest s c s1 = IsOkAnd r (λ f. Leads p f es rest s c s1)

pub begins : (p : Profile) (es : List Expr) (s : Scope) (r : Result NotedExpr AllocError)
    (b : Result NotedCall AllocError) → IfOk b (λ c. IsOkAnd r (λ f. c ≡ spec.call_begun f)) →
    IfOk b (λ c. HasLed p r es es s c s)
begins p es s r b =
    IfOk-weaker b (λ c. IsOkAnd r (λ f. c ≡ spec.call_begun f)) (λ c. HasLed p r es es s c s)
    (λ c. of_part r (λ f. c ≡ spec.call_begun f) (λ f. Leads p f es es s c s) (λ f is. record {
      at = ap (λ (k : NotedCall). k.at) is;
      shown = ap (λ (k : NotedCall). k.shown) is;
      notes = ap (λ (k : NotedCall). k.notes) is;
      passed = λ l knows. ap (λ (k : NotedCall). with_arguments p l es (behind k.arguments s)) is;
    }))

led_on : (p : Profile) (es : List Expr) (i : ℕ) (e e' : Expr) (s s1 s2 : Scope) (f u : NotedExpr) (a c : NotedCall) →
    i < length es → e ≡ get_or es i e → e' ≡ e → Leads p f es (drop i es) s a s1 → WasValued p e' s1 u s2 →
    c ≡ record a { arguments = spec.and_noted a.arguments u } → Leads p f es (drop (i + 1) es) s c s2
led_on p es i e e' s s1 s2 f u a c within item same h hu is = record {
  at = ap (λ (k : NotedCall). k.at) is ∙ h.at;
  shown = ap (λ (k : NotedCall). k.shown) is ∙ h.shown;
  notes = ap (λ (k : NotedCall). k.notes) is ∙ h.notes;
  passed = λ l knows.
      parts.goes-on (λ (ks : List Expr) (z : Passed). with_arguments p l ks z)
      {step = (λ (k : Expr) (z : Passed). with_argument p l (noted k z.after) z)} (λ _ _ _. refl) es i e e'
      (behind a.arguments s1) (behind c.arguments s2) within item same
      (passing.one_argument p l s1 s2 hu.part u e' a.arguments c.arguments knows hu.noted hu.is
      (ap (λ (k : NotedCall). k.arguments) is)) (h.passed l knows);
}

pub one_more : (p : Profile) (es : List Expr) (i : ℕ) (e e' : Expr) (s s1 s2 : Scope)
    (r x u : Result NotedExpr AllocError) (b b' : Result NotedCall AllocError) → i < length es → e ≡ get_or es i e →
    e' ≡ e → IfOk x (λ v. IsNoted p e' s1 v s2) →
    IfOk u (λ w. IsOkAnd x (λ v. w ≡ record v { told = used_told s2.tables v.told })) →
    IfOk b' (λ c. IsOkAnd b (λ a. IsOkAnd u (λ w. c ≡ record a { arguments = spec.and_noted a.arguments w }))) →
    IfOk b (λ c. HasLed p r es (drop i es) s c s1) → IfOk b' (λ c. HasLed p r es (drop (i + 1) es) s c s2)
one_more p es i e e' s s1 s2 r x u b b' within item same hx hu found led =
    of_two b u b' (λ c. HasLed p r es (drop i es) s c s1) (λ w. WasValued p e' s1 w s2)
    (λ c a w. c ≡ record a { arguments = spec.and_noted a.arguments w })
    (λ c. HasLed p r es (drop (i + 1) es) s c s2) led (valued p e' e' s1 s2 x u hx refl hu) found
    (λ a w c h v is. of_part r (λ f. Leads p f es (drop i es) s a s1) (λ f. Leads p f es (drop (i + 1) es) s c s2)
    (λ f k. led_on p es i e e' s s1 s2 f w a c within item same k v is) h)

pub all_passed : (p : Profile) (es : List Expr) (i : ℕ) (s s1 : Scope) (r : Result NotedExpr AllocError)
    (b : Result NotedCall AllocError) → length es ≤ i → IfOk b (λ c. HasLed p r es (drop i es) s c s1) →
    IfOk b (λ c. IsOkAnd r (λ f. IsCallOf p f es s c s1))
all_passed p es i s s1 r b over =
    IfOk-weaker b (λ c. HasLed p r es (drop i es) s c s1) (λ c. IsOkAnd r (λ f. IsCallOf p f es s c s1))
    (λ c. of_part r (λ f. Leads p f es (drop i es) s c s1) (λ f. IsCallOf p f es s c s1) (λ f h. record {
      at = h.at;
      shown = h.shown;
      notes = h.notes;
      passed = λ l knows. parts.ends (λ (ks : List Expr) (z : Passed). with_arguments p l ks z) es i
          (behind c.arguments s1) refl over (h.passed l knows);
    }))

-- ---- a call whose parts may have failed

formed : (p : Profile) (at : ℕ) (f : NotedExpr) (es : List Expr) (s1 s2 : Scope) (c : NotedCall) (z : NotedExpr) →
    IsCallOf p f es s1 c s2 →
    IsForm (t.call at c.at c.shown c.arguments.arguments s2)
    (λ w. spec.call p c.at s2.tables c.shown w c.notes c.arguments) z s2 →
    IsForm (t.call at f.told.at f.told.shown c.arguments.arguments s2)
    (λ w. spec.call p f.told.at s2.tables f.told.shown w f.notes c.arguments) z s2
formed p at f es s1 s2 c z h found = record {
  typed = found.typed ∙ ap (λ k. t.call at k c.shown c.arguments.arguments s2) h.at
      ∙ ap (λ (k : Option Shown). t.call at f.told.at k c.arguments.arguments s2) h.shown;
  notes = found.notes ∙ ap (λ k. spec.call p k s2.tables c.shown z.told.shown c.notes c.arguments) h.at
      ∙ ap (λ (k : Option Shown). spec.call p f.told.at s2.tables k z.told.shown c.notes c.arguments) h.shown
      ∙ ap (λ (k : ExprNotes). spec.call p f.told.at s2.tables f.told.shown z.told.shown k c.arguments) h.notes;
}

-- what was found of a call, with what was found before of what it calls
record Called (p : Profile) (e : Expr) (s : Scope) (es : List Expr) (s1 : Scope) (c : NotedCall) (s2 : Scope) : Type 0
  where
    pub part : NotedExpr
    pub noted : IsNoted p e s part s1
    pub is : IsCallOf p part es s1 c s2

pub of_call : (p : Profile) (e : Expr) (at : ℕ) (callee callee' : Expr) (arguments arguments' : List Expr)
    (s s1 s2 : Scope) (r : Result NotedExpr AllocError) (b : Result NotedCall AllocError)
    (w : Result NotedExpr AllocError) → e ≡ expr.Call at callee arguments → callee' ≡ callee →
    arguments' ≡ arguments → IfOk r (λ f. IsNoted p callee' s f s1) →
    IfOk b (λ c. IsOkAnd r (λ f. IsCallOf p f arguments' s1 c s2)) →
    IfOk w (λ z. IsOkAnd b (λ c. IsForm (t.call at c.at c.shown c.arguments.arguments s2)
    (λ x. spec.call p c.at s2.tables c.shown x c.notes c.arguments) z s2)) →
    IfOk w (λ z. IsNoted p e s z s2)
of_call p e at callee callee' arguments arguments' s s1 s2 r b w is same same' hr hb hw =
    of_one b w (λ c. Called p callee s arguments' s1 c s2)
    (λ z c. IsForm (t.call at c.at c.shown c.arguments.arguments s2)
    (λ x. spec.call p c.at s2.tables c.shown x c.notes c.arguments) z s2) (λ z. IsNoted p e s z s2)
    (of_one r b (λ f. IsNoted p callee' s f s1) (λ c f. IsCallOf p f arguments' s1 c s2)
    (λ c. Called p callee s arguments' s1 c s2) hr hb
    (λ f c h k. record { part = f; noted = of-child s h same; is = k }))
    hw (λ c z k found. on-Call at callee arguments s s1 s2 k.part z c.arguments is k.noted
    (of-arguments (behind (spec.no_arguments_noted k.part.told.faults) s1) k.is.passed same')
    (formed p at k.part arguments' s1 s2 c z k.is found))
