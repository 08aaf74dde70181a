-- By what is known of a program, the calls of a function are what they are by the numbers of its functions.
use Rattle.std.proofs.Common.{◌≡◌, ℕ, ◌+◌, Bool, true, false, cond, List, [], ◌∷◌, ◌++◌, map, Option, Some, None, refl, sym, ap, ap₂, ◌∙◌}
use Rattle.std.proofs.Math.Path.{fun_ext}
use Rattle.std.proofs.lemmas.List.{reverse-append}
use Rattle.std.specs.Prelude.{option_map}
use Rattle.std.specs.Cmp.Lexicographic.{bytes_decides}
use Rattle.std.specs.Str.{bytes_eq}
use Rattle.c_language.specs.declared.scope.Entry.{Entry}
use Rattle.c_language.specs.Scopes.{Name, last_where}
use Rattle.c_means.specs.Parts.{Site}
use Rattle.c_means.specs.declared.profile.LogFunction.{LogFunction}
use Rattle.c_means.specs.declared.profile.Profile.{Profile}
use Rattle.c_means.specs.Prelude.{prelude_functions}
use Rattle.c_means.specs.Programs.{Function, functions_of, function_named, watched_lasting}
use Rattle.c_means.specs.Rules.{Library, Taking, rule_by, log_of, identity_index, library_of, callee_taking}
use Rattle.c_means.specs.Rules.{declared_taking, same_taking}
use Rattle.c_means.specs.Runs as whole
use Rattle.c_prelude.specs.Heads.{Head, head_of, head_named}
use Rattle.c_prelude.specs.Heads as heads
use Rattle.c_prelude.proofs.Heads.{prelude_head}
use Rattle.elaborate.specs.Means.{Numbering, Ruling}
use Rattle.core_forms.proofs.KindLaws.{some_same, none_some}
use Rattle.core_programs.specs.Numberings.{Numbers, numbering_of, number_by, ruling_by}
use Rattle.core_callees.specs.declared.bodies.PreludeFunction.{PreludeFunction}
use Rattle.core_callees.specs.declared.bodies.PreludeFunction.TheVariants as f_
use Rattle.core_callees.specs.declared.numbered.FunctionNumber.{FunctionNumber}
use Rattle.core_callees.specs.Bodies.{head_for, named, if_typed, number_from, position, prelude_in}
use Rattle.core_callees.specs.Known.{Known, number_in, ruling_in, numbering_in}
use Rattle.core_callees.specs.Knows.{Knows, known, numbered, table_of}
use Rattle.core_callees.specs.Numbered.{number_of, numbers_in}

-- ---- what the program tells

abbrev known_of : whole.Machine → Numbers → Function → Known
known_of m ns f = record {
  profile = m.profile;
  place = whole.places_of m.program;
  source = λ name. option_map (λ h. ns.source name) (function_named (functions_of m.program) name);
  prelude = λ t name. option_map (λ h. ns.prelude name) (whole.prelude_of m t name);
  watched = watched_lasting m.program.scope f;
}

numbers_are : (ns : Numbers) (name : Name) (a : Option LogFunction) (i : Option ℕ) (b : Option Function)
    (l : Option Library) (p : Option Function)
    → number_in (rule_by a i (option_map (λ h. ns.source name) b) l (option_map (λ h. ns.prelude name) p))
    ≡ number_by ns name (rule_by a i b l p)
numbers_are ns name (Some a) i b l p = refl
numbers_are ns name None (Some i) b l p = refl
numbers_are ns name None None (Some b) l p = refl
numbers_are ns name None None None (Some l) p = refl
numbers_are ns name None None None None (Some p) = refl
numbers_are ns name None None None None None = refl

rulings_are : (m : whole.Machine) (ns : Numbers) (f : Function) (g : Site) (n q : ℕ) (a : Option LogFunction)
    (i : Option ℕ) (b : Option Function) (l : Option Library) (p : Option Function)
    → ruling_in (known_of m ns f) g (rule_by a i (option_map (λ h. n) b) l (option_map (λ h. q) p))
    ≡ ruling_by m f g (rule_by a i b l p)
rulings_are m ns f g n q (Some a) i b l p = refl
rulings_are m ns f g n q None (Some i) b l p = refl
rulings_are m ns f g n q None None (Some b) l p = refl
rulings_are m ns f g n q None None None (Some l) p = refl
rulings_are m ns f g n q None None None None (Some p) = refl
rulings_are m ns f g n q None None None None None = refl

abbrev numbering_with : whole.Machine → (Site → Option ℕ) → (Site → Option Ruling) → Numbering
numbering_with m body rule = record {
  place = whole.places_of m.program;
  identity = identity_index m.profile;
  body = body;
  rule = rule;
}

by_program : (m : whole.Machine) (ns : Numbers) (f : Function) → numbering_in (known_of m ns f) ≡ numbering_of m ns f
by_program m ns f =
    ap₂ (numbering_with m)
    (fun_ext (λ g. numbers_are ns g.callee.name (log_of m.profile g.callee.name)
    (identity_index m.profile g.callee.name) (function_named (functions_of m.program) g.callee.name) (library_of g)
    (whole.prelude_of m (callee_taking g) g.callee.name)))
    (fun_ext (λ g. rulings_are m ns f g (ns.source g.callee.name) (ns.prelude g.callee.name)
    (log_of m.profile g.callee.name) (identity_index m.profile g.callee.name)
    (function_named (functions_of m.program) g.callee.name) (library_of g)
    (whole.prelude_of m (callee_taking g) g.callee.name)))

-- ---- the functions of the prelude

head_next : (b : Bool) (p : PreludeFunction) (h : Option Head) (n : Option PreludeFunction)
    → h ≡ option_map head_for n → cond b (Some (head_for p)) h ≡ option_map head_for (cond b (Some p) n)
head_next true p h n is = refl
head_next false p h n is = is

by_name : (hs : List Head) (p : PreludeFunction) (name : Name) (n : Option PreludeFunction)
    → head_named hs name ≡ option_map head_for n → head_named (head_for p ∷ hs) name
    ≡ option_map head_for (cond (bytes_eq (head_for p).name name) (Some p) n)
by_name hs p name n is = head_next (bytes_eq (head_for p).name name) p (head_named hs name) n is

names_are : (name : Name) → head_named heads.heads name ≡ option_map head_for (named name)
names_are name =
    by_name (heads.strcmp ∷ heads.strncmp ∷ heads.strchr ∷ heads.strcpy ∷ heads.strcat ∷ heads.memset ∷
    heads.memcpy ∷ heads.atoi ∷ []) f_.Strlen name _ (by_name (heads.strncmp ∷ heads.strchr ∷ heads.strcpy ∷
    heads.strcat ∷ heads.memset ∷ heads.memcpy ∷ heads.atoi ∷ []) f_.Strcmp name _ (by_name (heads.strchr ∷
    heads.strcpy ∷ heads.strcat ∷ heads.memset ∷ heads.memcpy ∷ heads.atoi ∷ []) f_.Strncmp name _ (by_name
    (heads.strcpy ∷ heads.strcat ∷ heads.memset ∷ heads.memcpy ∷ heads.atoi ∷ []) f_.Strchr name _ (by_name
    (heads.strcat ∷ heads.memset ∷ heads.memcpy ∷ heads.atoi ∷ []) f_.Strcpy name _ (by_name (heads.memset ∷
    heads.memcpy ∷ heads.atoi ∷ []) f_.Strcat name _ (by_name (heads.memcpy ∷ heads.atoi ∷ []) f_.Memset name _
    (by_name (heads.atoi ∷ []) f_.Memcpy name _ (by_name [] f_.Atoi name None refl))))))))

if_same : (b c : Bool) (p : PreludeFunction) (first : ℕ) (h : Function) (q : ℕ) → b ≡ c → first + position p ≡ q
    → number_from first (cond b (Some p) None) ≡ option_map (λ h. q) (cond c (Some h) None)
if_same true true p first h q same is = ap (λ q. Some q) is
if_same false false p first h q same is = refl
if_same true false p first h q same is = cc
if_same false true p first h q same is = cc

by_head : (t : Option Taking) (o : Option Function) (n : Option PreludeFunction) (first q : ℕ)
    → option_map head_of o ≡ option_map head_for n → ((p : PreludeFunction) → n ≡ Some p → first + position p ≡ q)
    → number_from first (if_typed t n) ≡ option_map (λ h. q) (whole.prelude_if t o)
by_head t None None first q same is = refl
by_head t None (Some p) first q same is = absurd (none_some same)
by_head t (Some h) None first q same is = absurd (none_some (sym same))
by_head t (Some h) (Some p) first q same is =
    if_same (same_taking t (head_for p).taking) (same_taking t (declared_taking h.inside.tables h.means)) p first h q
    (ap (λ (x : Head). same_taking t x.taking) (sym (some_same (head_of h) (head_for p) same))) (is p refl)

prelude_is : (fs : List Function) (t : Option Taking) (name : Name) (first q : ℕ) → prelude_functions ≡ fs
    → ((p : PreludeFunction) → named name ≡ Some p → first + position p ≡ q)
    → number_from first (prelude_in t name) ≡ option_map (λ h. q) (whole.prelude_if t (function_named fs name))
prelude_is fs t name first q are is =
    by_head t (function_named fs name) (named name) first q
    (ap (λ fs. option_map head_of (function_named fs name)) (sym are) ∙ prelude_head name ∙ names_are name) is

-- ---- what is known

abbrev known_with : Profile → (ℕ → ℕ) → (Name → Option ℕ) → (Option Taking → Name → Option ℕ) → List Entry → Known
known_with profile place source prelude watched = record {
  profile = profile;
  place = place;
  source = source;
  prelude = prelude;
  watched = watched;
}

module _ (m : whole.Machine) (ns : Numbers) (f : Function) (profile : Profile) (offsets : List ℕ)
    (functions : List FunctionNumber) (first : ℕ) (watched : List Entry)
    (h : Knows m ns f profile offsets functions first watched) where
  abbrev found : Option Taking → Name → Option ℕ
  found t name = number_from first (prelude_in t name)

  prelude_found : found ≡ (known_of m ns f).prelude
  prelude_found = fun_ext (λ t. fun_ext (λ name. prelude_is m.prelude t name first (ns.prelude name) (sym h.prelude_is)
      (h.prelude_numbers name)))

  source_found : numbers_in functions ≡ (known_of m ns f).source
  source_found = fun_ext h.functions_are

  is_known : known profile offsets functions first watched ≡ known_of m ns f
  is_known =
      ap₂ (λ p place. known_with p place (numbers_in functions) found watched) (sym h.profile_is) (sym h.places_are)
      ∙ ap₂ (λ source prelude. known_with m.profile (whole.places_of m.program) source prelude watched) source_found
      prelude_found
      ∙ ap (known_with m.profile (whole.places_of m.program) (known_of m ns f).source (known_of m ns f).prelude)
      (sym h.watched_are)

  pub numberings_are : numbering_in (known profile offsets functions first watched) ≡ numbering_of m ns f
  numberings_are = ap numbering_in is_known ∙ by_program m ns f

-- ---- the table of a program's functions

last_is : {A : Type 0} (f : A → Bool) (best : Option A) (xs : List A) (x : A) →
    last_where f best (xs ++ x ∷ []) ≡ cond (f x) (Some x) (last_where f best xs)
last_is f best [] x = refl
last_is f best (y ∷ ys) x = last_is f (cond (f y) (Some y) best) ys x

chosen : (ns : Numbers) (name : Name) (b : Bool) (f : Function) (x : Option FunctionNumber) (o : Option Function)
    → bytes_eq f.name name ≡ b → number_of x ≡ option_map (λ h. ns.source name) o
    → number_of (cond b (Some (numbered ns f)) x) ≡ option_map (λ h. ns.source name) (cond b (Some f) o)
chosen ns name true f x o is h = ap (λ n. Some (ns.source n)) ((bytes_decides f.name name).0 is)
chosen ns name false f x o is h = h

pub table_tells : (ns : Numbers) (fs : List Function) (name : Name)
    → numbers_in (table_of ns fs) name ≡ option_map (λ h. ns.source name) (function_named fs name)
table_tells ns [] name = refl
table_tells ns (f ∷ fs) name =
    ap (λ xs. numbers_in xs name) (reverse-append (numbered ns f ∷ []) (map (numbered ns) fs))
    ∙ ap number_of (last_is (λ (x : FunctionNumber). bytes_eq x.name name) None (table_of ns fs) (numbered ns f))
    ∙ chosen ns name (bytes_eq f.name name) f
    (last_where (λ (x : FunctionNumber). bytes_eq x.name name) None (table_of ns fs))
    (function_named fs name) refl (table_tells ns fs name)
