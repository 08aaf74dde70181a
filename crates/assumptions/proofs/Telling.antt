-- A call breaks a rule as it is asked exactly where it follows the rule of functions outside.
use Rattle.std.proofs.Common.{◌≡◌, ℕ, Bool, true, false, cond, List, [], ◌∷◌, ◌++◌, length}
use Rattle.std.proofs.Common.{Option, Some, None, map, reverse, refl, sym, ap, ◌∙◌}
use Rattle.std.specs.Prelude.{not, ◌&&◌, ◌||◌, option_map, is_some}
use Rattle.std.specs.Str.{bytes_eq}
use Rattle.std.specs.Cmp.Lexicographic.{bytes_decides}
use Rattle.c_language.specs.declared.class.Class.{Class}
use Rattle.c_language.specs.declared.class.Class.TheVariants as l
use Rattle.c_language.specs.declared.ctype.CType.{CType}
use Rattle.c_language.specs.Types.{class_of, is_integer, is_pointer}
use Rattle.c_language.specs.Scopes.{Name, last_where}
use Rattle.c_means.specs.Parts.{Level, Site}
use Rattle.c_means.specs.declared.breach.Breach.{Breach}
use Rattle.c_means.specs.declared.profile.FillFunction.{FillFunction}
use Rattle.c_means.specs.declared.profile.LogFunction.{LogFunction}
use Rattle.c_means.specs.Checks.{meets, mismatch, rule_breaches, type_at}
use Rattle.c_means.specs.Items.{breach_if}
use Rattle.c_means.specs.Programs.{Function, function_named, functions_in}
use Rattle.c_means.specs.Rules.{Library, Taking, abort', body_or, callee_taking, calloc', exit', fill_of, free'}
use Rattle.c_means.specs.Rules.{identity_index, is_among, library_if, library_named, library_of, library_or, log_of, malloc'}
use Rattle.c_means.specs.Rules.{rule_by}
use Rattle.c_means.specs.Runs.{Machine, prelude_of, rule_of}
use Rattle.c_checks.specs.Refusals.{least_of}
use Rattle.c_notes.specs.CallsTold.{bodiless_least, library_least, outside_least, prelude_count, told_site}
use Rattle.c_notes.specs.CallsTold.{strlen', strcmp', strncmp', strchr', strcpy', strcat', memset', memcpy', atoi'}
use Rattle.c_notes.specs.CallsTold as told
use Rattle.c_item_notes.specs.Levels.{Judged}
use Rattle.c_reach.specs.declared.summaries.FunctionNotes.{FunctionNotes}
use Rattle.c_reach.specs.Reaching.{named_in}
use Rattle.c_reach.specs.Summaries.{function_notes}
use Rattle.c_reach.proofs.SameAsDefined.{named_is}
use Rattle.c_program_notes.proofs.PreludeCounts.{prelude_counts}
use Rattle.assumptions.specs.Asked.{asked, asked_of, fills, impossible, library_names, prelude_names}
use Rattle.assumptions.specs.Assumed.{name_if_outside, program_in}
use Rattle.assumptions.specs.Noted as noted

-- ---- no argument is a pointer and an integer

never_both : (t : CType) → (is_pointer t && is_integer t) ≡ false
never_both t = by (class_of t) refl
  where
    by : (c : Class) → class_of t ≡ c → (is_pointer t && is_integer t) ≡ false
    by l.Void e = rw e refl
    by (l.Integer kind) e = rw e refl
    by l.Floating e = rw e refl
    by l.Pointer e = rw e refl
    by l.Array e = rw e refl
    by l.Function e = rw e refl
    by (l.Aggregate n) e = rw e refl
    by l.Opaque e = rw e refl

never_met : (x : Option CType) → (meets is_pointer x && meets is_integer x) ≡ false
never_met None = refl
never_met (Some t) = never_both t

breaks : (at : ℕ) (types : List (Option CType)) (name : Name) →
    is_some (outside_least at types (Some (impossible name))) ≡ true
breaks at types name = ap (λ b. is_some (least_of (breach_if (not b) at mismatch))) (never_met (type_at types 0))

-- ---- what is asked of a name

abbrev named : Name → FillFunction → Bool
named name f = bytes_eq f.name name

asked_breaks : (at : ℕ) (types : List (Option CType)) (name : Name) (best : Option FillFunction) (names : List Name) →
    is_some (outside_least at types best) ≡ is_some best →
    is_some (outside_least at types (last_where (named name) best (map impossible names)))
    ≡ is_some (last_where (named name) best (map impossible names))
asked_breaks at types name best [] h = h
asked_breaks at types name best (n ∷ ns) h =
    asked_breaks at types name (cond (bytes_eq n name) (Some (impossible n)) best) ns (by (bytes_eq n name))
  where
    by : (b : Bool) → is_some (outside_least at types (cond b (Some (impossible n)) best))
        ≡ is_some (cond b (Some (impossible n)) best)
    by true = breaks at types n
    by false = h

true_false : true ≡ false → ⊥
true_false e = cc

not_asked : (name : Name) (best : Option FillFunction) (names : List Name) →
    is_some (last_where (named name) best (map impossible names)) ≡ false →
    (is_some best ≡ false) × (is_among name names ≡ false)
not_asked name best [] h = (h, refl)
not_asked name best (n ∷ ns) h =
    let r = not_asked name (cond (bytes_eq n name) (Some (impossible n)) best) ns h in by (bytes_eq n name) r.0 r.1
  where
    by : (b : Bool) → is_some (cond b (Some (impossible n)) best) ≡ false → is_among name ns ≡ false →
        (is_some best ≡ false) × (cond b true (is_among name ns) ≡ false)
    by true e k = absurd (true_false e)
    by false e k = (e, k)

abbrev own_names : List Name
own_names = library_names ++ prelude_names

-- ---- a name that isn't asked has no meaning of its own

both_ways : (b c : Bool) → (b ≡ true → c ≡ true) → (c ≡ true → b ≡ true) → b ≡ c
both_ways true c h k = sym (h refl)
both_ways false true h k = k refl
both_ways false false h k = refl

flip : (x y : Name) → bytes_eq x y ≡ bytes_eq y x
flip x y =
    both_ways (bytes_eq x y) (bytes_eq y x) (λ e. (bytes_decides y x).1 (sym ((bytes_decides x y).0 e)))
    (λ e. (bytes_decides x y).1 (sym ((bytes_decides y x).0 e)))

other : (name x : Name) (rest : Bool) → cond (bytes_eq x name) true rest ≡ false →
    (bytes_eq name x ≡ false) × (rest ≡ false)
other name x rest h = let r = by (bytes_eq x name) h in (flip name x ∙ r.0, r.1)
  where
    by : (b : Bool) → cond b true rest ≡ false → (b ≡ false) × (rest ≡ false)
    by true e = absurd (true_false e)
    by false e = (refl, e)

past : {A : Type 0} (b : Bool) (x y z : A) → b ≡ false → y ≡ z → cond b x y ≡ z
past b x y z e k = ap (λ c. cond c x y) e ∙ k

record Others (name : Name) : Type 0 where
  library : library_named name ≡ None
  prelude : (t : Option Taking) → prelude_count t name ≡ None

others : (name : Name) → is_among name own_names ≡ false → Others name
others name h =
    let a = other name exit' _ h in
    let b = other name abort' _ a.1 in
    let c = other name malloc' _ b.1 in
    let d = other name calloc' _ c.1 in
    let e = other name free' _ d.1 in
    let f = other name strlen' _ e.1 in
    let g = other name strcmp' _ f.1 in
    let i = other name strncmp' _ g.1 in
    let j = other name strchr' _ i.1 in
    let k = other name strcpy' _ j.1 in
    let m = other name strcat' _ k.1 in
    let n = other name memset' _ m.1 in
    let o = other name memcpy' _ n.1 in
    let p = other name atoi' _ o.1 in
    record {
      library = past _ _ _ _ a.0 (past _ _ _ _ b.0 (past _ _ _ _ c.0 (past _ _ _ _ d.0 (past _ _ _ _ e.0 refl))));
      prelude = λ t. past _ _ _ _ f.0 (past _ _ _ _ g.0 (past _ _ _ _ i.0 (past _ _ _ _ j.0 (past _ _ _ _ k.0
          (past _ _ _ _ m.0 (past _ _ _ _ n.0 (past _ _ _ _ o.0 (past _ _ _ _ p.0 refl))))))));
    }

-- ---- calls without a body in the source

abbrev count : Function → ℕ
count f = length f.parameters

abbrev foreign : Option FillFunction → Option Breach → Bool
foreign o b = not (is_some o) || is_some b

some_none : {A : Type 0} (x : A) → Some x ≡ None → ⊥
some_none x e = cc

at_least : (b : Bool) → (b ≡ false → ⊥) → b ≡ true
at_least true h = refl
at_least false h = absurd (h refl)

or_not : (b : Bool) → (not b || b) ≡ true
or_not true = refl
or_not false = refl

own_call : (o : Option FillFunction) (b : Option Breach) (name : Name) → (is_some o ≡ false → ⊥) → is_some b ≡ false →
    cond (foreign o b) (name ∷ []) [] ≡ []
own_call o b name h k =
    ap (λ c. cond (not c || is_some b) (name ∷ []) []) (at_least (is_some o) h)
    ∙ ap (λ c. cond c (name ∷ []) []) k

by_library : (m : Machine) (g : Site) (o : Option FillFunction) (f : Option Library) (p : Option Function) →
    is_some (outside_least g.at g.types o) ≡ is_some o → (is_some o ≡ false → f ≡ None) →
    (is_some o ≡ false → option_map count p ≡ None) → rule_breaches m g (library_or f p) ≡ [] →
    cond (foreign o (library_least g.at g.types o (option_map count p) (is_some f))) (g.callee.name ∷ []) []
    ≡ name_if_outside g.callee.name (library_or f p)
by_library m g o (Some f) p h k i kept = own_call o None g.callee.name (λ e. some_none f (k e)) refl
by_library m g o None (Some p) h k i kept =
    own_call o (least_of (rule_breaches m g (library_or None (Some p)))) g.callee.name (λ e. some_none (count p) (i e))
    (ap (λ bs. is_some (least_of bs)) kept)
by_library m g o None None h k i kept =
    ap (λ b. cond (not (is_some o) || b) (g.callee.name ∷ []) []) h
    ∙ ap (λ b. cond b (g.callee.name ∷ []) []) (or_not (is_some o))

abbrev machine : Judged → Machine
machine j = program_in j.externals j.profile

bodiless : (j : Judged) (g : Site) →
    let rule = library_or (library_of g) (prelude_of (machine j) (callee_taking g) g.callee.name) in
    rule_breaches (machine j) g rule ≡ [] →
    cond (foreign (fill_of (asked j.profile) g.callee.name)
    (bodiless_least (asked j.profile) g.at g.scope.tables g.callee g.types)) (g.callee.name ∷ []) []
    ≡ name_if_outside g.callee.name rule
bodiless j g kept =
    let o = fill_of (asked j.profile) g.callee.name in
    let p = prelude_of (machine j) (callee_taking g) g.callee.name in
    let counts = prelude_counts (callee_taking g) g.callee.name in
    ap (λ (n : Option ℕ). cond (foreign o (library_least g.at g.types o n (is_some (library_of g)))) (g.callee.name ∷ []) [])
    (sym counts)
    ∙ by_library (machine j) g o (library_of g) p (asked_breaks g.at g.types g.callee.name None own_names refl)
    (λ e. ap (library_if (callee_taking g)) (others g.callee.name (not_asked g.callee.name None own_names e).1).library)
    (λ e. counts ∙ (others g.callee.name (not_asked g.callee.name None own_names e).1).prelude (callee_taking g)) kept

-- ---- all calls

abbrev functions_of : Judged → List Function
functions_of j = functions_in (machine j).program.outers

abbrev pub summaries : Judged → List FunctionNotes
summaries j = reverse (map (function_notes (asked_of j)) (functions_of j))

by_body : (j : Judged) (g : Site) (f : Option Function) (b : Option Breach) →
    let rule = library_or (library_of g) (prelude_of (machine j) (callee_taking g) g.callee.name) in
    (rule_breaches (machine j) g rule ≡ [] →
    cond (foreign (fill_of (asked j.profile) g.callee.name) b) (g.callee.name ∷ []) []
    ≡ name_if_outside g.callee.name rule) →
    rule_breaches (machine j) g (body_or f (library_of g) (prelude_of (machine j) (callee_taking g) g.callee.name)) ≡ [] →
    cond (not (is_some (option_map (function_notes (asked_of j)) f))
    && foreign (fill_of (asked j.profile) g.callee.name) b) (g.callee.name ∷ []) []
    ≡ name_if_outside g.callee.name
    (body_or f (library_of g) (prelude_of (machine j) (callee_taking g) g.callee.name))
by_body j g None b h kept = h kept
by_body j g (Some f) b h kept = refl

by_rule : (j : Judged) (g : Site) (f : Option LogFunction) (i : Option ℕ) →
    let rule = rule_by f i (function_named (functions_of j) g.callee.name) (library_of g)
    (prelude_of (machine j) (callee_taking g) g.callee.name) in
    rule_breaches (machine j) g rule ≡ [] →
    noted.name_if_outside (asked j.profile) (summaries j)
    (told.call_by (asked j.profile) g.at g.scope.tables g.callee g.types g.texts f i)
    ≡ name_if_outside g.callee.name rule
by_rule j g (Some f) i kept = refl
by_rule j g None (Some i) kept = refl
by_rule j g None None kept =
    let b = bodiless_least (asked j.profile) g.at g.scope.tables g.callee g.types in
    ap (λ (f : Option FunctionNotes). cond (not (is_some f)
    && foreign (fill_of (asked j.profile) g.callee.name) b) (g.callee.name ∷ []) [])
    (named_is j.profile (asked_of j) (functions_of j) g.callee.name)
    ∙ by_body j g (function_named (functions_of j) g.callee.name) b (bodiless j g) kept

-- a call that breaks no rule
pub call_is : (j : Judged) (g : Site) → rule_breaches (machine j) g (rule_of (machine j) g) ≡ [] →
    noted.name_if_outside (asked j.profile) (summaries j) (told_site (asked j.profile) g)
    ≡ name_if_outside g.callee.name (rule_of (machine j) g)
call_is j g kept = by_rule j g (log_of j.profile g.callee.name) (identity_index j.profile g.callee.name) kept
