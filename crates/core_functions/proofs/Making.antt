-- What is made of a definition is the core of its function.
use Rattle.std.proofs.Common.{◌≡◌, ℕ, ◌+◌, Bool, true, false, List, [], ◌∷◌, map, Option, Some, None, refl, sym, ap}
use Rattle.std.proofs.Common.{◌∙◌, subst, zero-add, Result, Ok, Err, IfOk}
use Rattle.std.proofs.Math.Path.{fun_ext}
use Rattle.std.specs.Prelude.{◌↔◌, IsTrue, not}
use Rattle.c_language.specs.declared.expr.Declarator.{Declarator}
use Rattle.c_language.specs.declared.expr.Specifier.{Specifier}
use Rattle.c_language.specs.declared.unit.Body.{Body as SourceBody}
use Rattle.c_language.specs.declared.unit.Body.TheVariants as body_
use Rattle.c_language.specs.declared.unit.External.TheVariants as external
use Rattle.c_language.specs.declared.unit.Stmt.{Stmt}
use Rattle.c_language.specs.declared.tables.Tables.{Tables}
use Rattle.c_language.specs.declared.scope.Entry.{Entry}
use Rattle.c_language.specs.Scopes.{Name, Scope, leave}
use Rattle.c_language.specs.Declares.{Saying, DeclaratorSays}
use Rattle.c_language.specs.Declarations.{FunctionSaid, function_by}
use Rattle.c_language.specs.Trees.{declarator_says, specifier_says}
use Rattle.c_language.specs.Units.{function_says}
use Rattle.c_declarations.specs.declared.functions.FunctionSaid.{FunctionSaid as Said}
use Rattle.c_declarations.specs.Views.{function_in}
use Rattle.c_means.specs.Parts.{Level}
use Rattle.c_means.specs.Values as values
use Rattle.c_means.proofs.Fusion as means_fusion
use Rattle.c_means.specs.Items.{node, nothing}
use Rattle.c_means.specs.Items as runs
use Rattle.c_means.specs.Names.{Names}
use Rattle.c_means.specs.Notes.{declarator_noted, specifier_noted}
use Rattle.c_means.specs.Programs.{Function, Outer, body_item, braced, braces, code_in, function_from, outer}
use Rattle.c_means.specs.Programs.{unread_in, with_function}
use Rattle.c_means.specs.Statements.{stmt, returns_void}
use Rattle.c_means.proofs.RunFusion as notes_fusion
use Rattle.core_tree.specs.declared.code.Code.{Code}
use Rattle.core_tree.specs.declared.program.Parameter.{Parameter}
use Rattle.core_tree.specs.declared.types.ValueType.{ValueType}
use Rattle.core_tree.specs.Codes.{code, in_turn}
use Rattle.core_tree.specs.Numbers as numbers
use Rattle.core_tree.specs.States.{Output}
use Rattle.core_marks.specs.Marks.{items_marks}
use Rattle.elaborate.specs.Means.{Numbering, SameMarks, Acts, AreParameters}
use Rattle.core_forms.specs.Nodes.{type_as}
use Rattle.core_forms.proofs.KindLaws.{converts_same, none_some, some_same}
use Rattle.core_forms.proofs.Marks.{no_marks}
use Rattle.code_forms.specs.Contents.{AreCodesOf, noded}
use Rattle.core_codes.specs.declared.context.Context.{Context}
use Rattle.core_codes.specs.declared.made.Body.{Body}
use Rattle.core_codes.specs.Made.{Around, Returns, IsContent, context_in}
use Rattle.core_codes.specs.Settings.{AreAllSet}
use Rattle.core_functions.specs.declared.definitions.Definition.{Definition}
use Rattle.core_functions.specs.declared.heads.Head.{Head}
use Rattle.core_functions.specs.declared.heads.Named.{Named}
use Rattle.core_functions.specs.Definitions.{name_of, IsHeadOf, IsInside, MayMiss, IsMadeOf, MaybeMadeOf}
use Rattle.core_functions.specs.Definitions.{IsDefinitionOf, MaybeDefinitionOf}
use Rattle.core_functions.proofs.Objects.{inside}

-- ---- specifiers and declarators say what they say to the types

specifiers_are : (xs : List Specifier) → map specifier_noted xs ≡ map specifier_says xs
specifiers_are [] = refl
specifiers_are (x ∷ xs) =
    ap (λ (f : Saying). f ∷ map specifier_noted xs) (notes_fusion.specifier_same x ∙ means_fusion.specifier_same x)
    ∙ ap (λ (fs : List Saying). specifier_says x ∷ fs) (specifiers_are xs)

declarator_is : (d : Declarator) → declarator_noted d ≡ declarator_says d
declarator_is d = notes_fusion.declarator_same d ∙ means_fusion.declarator_same d

head_is : (ss : List Specifier) (d : Declarator) (s : Scope)
    → function_says ss d s ≡ function_by (map specifier_noted ss) (declarator_noted d) s
head_is ss d s =
    ap (λ (fs : List Saying). function_by fs (declarator_says d) s) (sym (specifiers_are ss))
    ∙ ap (λ (f : DeclaratorSays). function_by (map specifier_noted ss) f s) (sym (declarator_is d))

-- what is kept of a head
pub headed : (x : Said) (s : Scope) (ts : Tables) (es : List Entry) (ps : List Parameter) (named : Option Named)
    (v : Bool) (t : ValueType) (h : Head) → ts ≡ s.tables → es ≡ x.parameters → AreParameters s ps es
    → named ≡ name_of x.entry → v ≡ not (returns_void x.returned) → t ≡ type_as ts x.returned
    → h ≡ record { named = named; has_value = v; returned = t; parameters = ps } → IsHeadOf h (function_in x s)
headed x s ts es ps named v t h tabled listed ks declared valued typed made =
    subst (λ h. IsHeadOf h (function_in x s)) (sym made) (record {
      named = declared;
      has_value = valued;
      returned = typed ∙ ap (λ ts. type_as ts x.returned) tabled;
      parameters = inside s (function_in x s).inside ps x.parameters refl
          (subst (λ es. AreParameters s ps es) listed ks);
    })

-- ---- the body

-- what its statements stand in, besides
abbrev around : FunctionSaid → Stmt → Around
around f b = record {
  labels = (stmt b).own;
  every = (stmt b).every;
  breaks = false;
  continues = false;
  result = f.returned;
}

abbrev inside_of : Head → Context
inside_of h = record { compared = None; returned = h.returned }

returns : (h : Head) (f : FunctionSaid) (b : Stmt) → IsHeadOf h f → Returns (inside_of h) (around f b)
returns h f b k z =
    ap (λ t. numbers.converted_to t z) k.returned
    ∙ converts_same (values.class_in f.returned) (values.bytes_of f.inside.tables f.returned) z

-- it is a node, as a compound statement is
braced_is : (b : Bool) (i item : runs.Item) → i ≡ noded b item
    → record i { size = λ l. braces b + i.size l } ≡ node item
braced_is true i item is =
    ap (λ (i : runs.Item). record i { size = λ l. braces true + i.size l }) is
    ∙ ap (λ (f : Level → ℕ). record (node item) { size = f }) (fun_ext (λ l. zero-add (1 + item.size l)))
braced_is false i item is = ap (λ (i : runs.Item). record i { size = λ l. braces false + i.size l }) is

was_read : (numbering : Numbering) (f : FunctionSaid) (b : Stmt) (h : Head) (y : Body) (u : Scope) → IsHeadOf h f
    → IsContent numbering (inside_of h) f.inside (stmt b).content y u → y.content.is_compound ≡ (stmt b).is_block
    → IsInside numbering f (Some (braced (stmt b))) y u
was_read numbering f b h y u k inside block =
    let r = returns h f b k in
    let content = inside.content (around f b) r in
    record {
      item = content.inside;
      is = braced_is (stmt b).is_block ((stmt b).content (context_in (inside_of h) f.inside (around f b)))
          content.inside (content.is ∙ ap (λ v. noded v content.inside) block);
      items = content.items;
      lasting = inside.lasting (around f b) r;
      after = inside.after (around f b) r;
      marks = content.marks;
    }

abbrev no_body : Body
no_body = record { content = record { is_compound = true; items = []; cases = [] }; settings = [] }

-- nothing stands in one that couldn't be read
not_read : (numbering : Numbering) (f : FunctionSaid) → IsInside numbering f None no_body f.inside
not_read numbering f = record {
  item = nothing f.inside;
  is = refl;
  items = none;
  lasting = record { each = []; all = refl; set = tt };
  after = refl;
  marks = no_marks numbering;
} where
  none : AreCodesOf numbering [] (nothing f.inside)
  none = record {
    size = λ l k like. refl;
    room = λ l k like. refl;
    objects = λ l k like base. refl;
    runs = λ l k like env base d. refl;
  }

-- two facts of what a call answers
pub if_both : {T E : Type 0} (r : Result T E) (P Q R : T → Type 0) → ((x : T) → P x → Q x → R x) → IfOk r P
    → IfOk r Q → IfOk r R
if_both (Ok x) P Q R f p q = f x p q
if_both (Err y) P Q R f p q = tt

-- the same by what the code has found
pub read_inside : (numbering : Numbering) (b : SourceBody) (k k' : Stmt) (h : Head) (x : Context) (s : Scope)
    (y : Body) (u : Scope) → b ≡ body_.Read k → k' ≡ k → x ≡ inside_of h
    → IsContent numbering x s (stmt k').content y u → y.content.is_compound ≡ (stmt k').is_block
    → (f : FunctionSaid) → IsHeadOf h f → f.inside ≡ s → IsInside numbering f (code_in b) y u
read_inside numbering b k k' h x s y u read same is inside block f head stands =
    subst (λ b. IsInside numbering f (code_in b) y u) (sym (read ∙ ap body_.Read (sym same)))
    (was_read numbering f k' h y u head
    (subst (λ x. IsContent numbering x f.inside (stmt k').content y u) is
    (subst (λ s. IsContent numbering x s (stmt k').content y u) (sym stands) inside)) block)

pub unread_inside : (numbering : Numbering) (b : SourceBody) (at : ℕ) (s : Scope) (y : Body) → b ≡ body_.Unread at
    → y ≡ no_body → (f : FunctionSaid) → f.inside ≡ s → IsInside numbering f (code_in b) y s
unread_inside numbering b at s y unread made f stands =
    subst (λ y. IsInside numbering f (code_in b) y s) (sym made)
    (subst (λ b. IsInside numbering f (code_in b) no_body s) (sym unread)
    (subst (λ s. IsInside numbering f None no_body s) stands (not_read numbering f)))

-- ---- the function

abbrev function_of : FunctionSaid → Entry → Option ℕ → runs.Item → Names → Function
function_of f e unread i whole = record {
  at = e.at;
  name = e.name;
  means = e.means;
  result = f.returned;
  parameters = f.parameters;
  inside = f.inside;
  body = i;
  unread = unread;
  names = whole;
}

module _ (numbering : Numbering) (f : FunctionSaid) (unread : Option ℕ) (c : Option runs.Code) (h : Head) (y : Body)
    (u : Scope) (head : IsHeadOf h f) (inside : IsInside numbering f c y u)
  where
    abbrev defined : Names → Names → Scope → Outer
    defined ns whole s = with_function f unread c ns whole s

    made_of : (is_prelude : Bool) (x : Definition) (ns whole : Names) (s : Scope) (e : Entry) → f.entry ≡ Some e
        → x.function.at ≡ e.at → x.function.name ≡ e.name → IsMadeOf h is_prelude y x
        → IsDefinitionOf numbering x is_prelude (defined ns whole s)
    made_of is_prelude x ns whole s e is at name m = record {
      function = function_of f e unread (body_item f c) whole;
      is = ap (λ e. function_from f e unread (body_item f c) whole) is;
      at = at;
      name = name;
      kind = m.kind;
      misses = subst (λ xs. IsTrue x.function.may_miss ↔ MayMiss (not (returns_void f.returned)) xs) (sym m.items)
          (subst (λ v. IsTrue x.function.may_miss ↔ MayMiss v y.content.items) head.has_value m.misses);
      item = inside.item;
      is_body = record {
        parameters = subst (λ ps. AreParameters f.inside ps f.parameters) (sym m.parameters) head.parameters;
        items = subst (λ (xs : List Code). Acts numbering (in_turn {O = Output} (map code xs)) inside.item)
            (sym m.items) inside.items;
        body = inside.is;
      };
      lasting = subst (λ xs. AreAllSet numbering xs (body_item f c).lasting) (sym m.settings) inside.lasting;
      marks = subst (λ (xs : List Code). SameMarks numbering (items_marks xs) (body_item f c).marks) (sym m.items)
          inside.marks;
    }

    made_by : (is_prelude : Bool) (x : Definition) (ns whole : Names) (s : Scope) (o : Option Entry) → f.entry ≡ o
        → IsMadeOf h is_prelude y x → IsDefinitionOf numbering x is_prelude (defined ns whole s)
    made_by is_prelude x ns whole s None is m =
        absurd (none_some (ap name_of (sym is) ∙ sym head.named ∙ m.named))
    made_by is_prelude x ns whole s (Some e) is m =
        let same = some_same _ _ (sym m.named ∙ head.named ∙ ap name_of is) in
        made_of is_prelude x ns whole s e is (ap (λ (n : Named). n.at) same) (ap (λ (n : Named). n.name) same) m

    unnamed : (o : Option Entry) → f.entry ≡ o → h.named ≡ None → f.entry ≡ None
    unnamed None is none = is
    unnamed (Some e) is none = absurd (none_some (sym none ∙ head.named ∙ ap name_of is))

    maybe_made : (is_prelude : Bool) (z : Option Definition) (ns whole : Names) (s : Scope)
        → MaybeMadeOf h is_prelude y z → MaybeDefinitionOf numbering z is_prelude (defined ns whole s)
    maybe_made is_prelude None ns whole s m =
        ap (λ e. function_from f e unread (body_item f c) whole) (unnamed f.entry refl m)
    maybe_made is_prelude (Some x) ns whole s m = made_by is_prelude x ns whole s f.entry refl m

-- ---- the whole definition

-- where a body stands, by what the code has found of its head
pub record Stands (numbering : Numbering) (ss : List Specifier) (d : Declarator) (b : SourceBody) (s : Scope) (h : Head)
    (y : Body) (u : Scope) : Type 0 where
  pub said : Said
  pub behind_head : Scope
  pub start : Scope
  pub says : function_in said behind_head ≡ function_says ss d s
  pub head : IsHeadOf h (function_in said behind_head)
  pub enters : start ≡ (function_in said behind_head).inside
  pub inside : (f : FunctionSaid) → IsHeadOf h f → f.inside ≡ start → IsInside numbering f (code_in b) y u

-- the same by the definition
abbrev said_by : List Specifier → Declarator → Scope → FunctionSaid
said_by ss d s = function_by (map specifier_noted ss) (declarator_noted d) s

module _ (numbering : Numbering) (ss : List Specifier) (d : Declarator) (b : SourceBody) (s : Scope) (h : Head)
    (y : Body) (u : Scope) (x : Stands numbering ss d b s h y u)
  where
    says : function_in x.said x.behind_head ≡ said_by ss d s
    says = x.says ∙ head_is ss d s

    kept : IsHeadOf h (said_by ss d s)
    kept = subst (λ f. IsHeadOf h f) says x.head

    stands : IsInside numbering (said_by ss d s) (code_in b) y u
    stands = x.inside (said_by ss d s) kept (ap (λ (f : FunctionSaid). f.inside) (sym says) ∙ sym x.enters)

    pub defines : (is_prelude : Bool) (z : Option Definition) → MaybeMadeOf h is_prelude y z
        → MaybeDefinitionOf numbering z is_prelude (outer (external.Function ss d b) s)
    defines is_prelude z m =
        maybe_made numbering (said_by ss d s) (unread_in b) (code_in b) h y u kept stands is_prelude z _ _ s m

    pub leaves : (t w : Scope) (name : Option Name) → t ≡ leave u → w ≡ record t { function = name }
        → name ≡ s.function → w ≡ (outer (external.Function ss d b) s).after
    leaves t w name left set named =
        set ∙ ap (λ (n : Option Name). record t { function = n }) named
        ∙ ap (λ (t : Scope). record t { function = s.function }) left
        ∙ ap (λ (u : Scope). record (leave u) { function = s.function }) stands.after
