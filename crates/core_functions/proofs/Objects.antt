-- Parameters are objects in which arguments are stored (C99 6.9.1p9).
use Rattle.std.proofs.Common.{◌≡◌, ℕ, ◌+◌, ◌<◌, ◌≤◌, ℤ, List, [], ◌∷◌, ◌++◌, length, drop, get_or, Option, refl, sym}
use Rattle.std.proofs.Common.{ap, ◌∙◌, subst}
use Rattle.std.proofs.lemmas.List.{drop_all}
use Rattle.c_store.specs.Store.{write}
use Rattle.c_language.specs.declared.ctype.CType.{CType}
use Rattle.c_language.specs.declared.tables.Tables.{Tables}
use Rattle.c_language.specs.declared.scope.Entry.{Entry}
use Rattle.c_language.specs.Declarations.{object_type}
use Rattle.c_language.specs.Scopes.{Scope}
use Rattle.c_means.specs.Parts.{State}
use Rattle.c_means.specs.Initials.{stores_as}
use Rattle.c_means.specs.Values.{class_in, bytes_of}
use Rattle.c_means.specs.Values as values
use Rattle.c_means.specs.Runs.{passes_as}
use Rattle.core_tree.specs.declared.program.Parameter.{Parameter}
use Rattle.core_tree.specs.declared.types.ValueType.{ValueType}
use Rattle.core_tree.specs.Memory.{stored}
use Rattle.core_tree.specs.Numbers as numbers
use Rattle.core_tree.specs.States.{with_store}
use Rattle.elaborate.specs.Means.{as_done, IsParameter, AreParameters, StoresAs}
use Rattle.elaborate.proofs.Objects.{stored_in}
use Rattle.core_forms.specs.Nodes.{type_as}
use Rattle.core_functions.proofs.InOrder.{grouped, ended, cut}

-- ---- one parameter

stores_same : (tables : Tables) (t : Option CType) (x : ValueType) → StoresAs (class_in t) (bytes_of tables t) x
    → (a : ℕ) (z : ℤ) (d : State) → stored x a z (as_done d) ≡ as_done (stores_as tables t a z d)
stores_same tables t x h a z d =
    ap (λ n. with_store (write n a (numbers.bytes_of_value x (numbers.converted_to x z)) d.store) (as_done d)) h.size
    ∙ ap (λ b. with_store (write (bytes_of tables t) a b d.store) (as_done d))
    (h.bytes (numbers.converted_to x z) ∙ ap (values.bytes_of_value (class_in t)) (h.converted z))

-- whatever it means
pub object : (s : Scope) (e : Entry) (tables : Tables) (x : ValueType) (p : Parameter) → tables ≡ s.tables
    → x ≡ type_as tables (object_type e.means) → p ≡ record { at = e.at; stored = x } → IsParameter s p e
object s e tables x p tabled is made =
    let t = object_type e.means in
    let same = subst (λ x. StoresAs (class_in t) (bytes_of s.tables t) x)
    (sym (is ∙ ap (λ ts. type_as ts t) tabled)) (stored_in s.tables t) in
    subst (λ p. IsParameter s p e) (sym made) (record {
      at = refl;
      size = same.size;
      stores = stores_same s.tables t x same;
    })

-- ---- parameters in order

-- those that were made lead to all, once those that are left stand behind them
abbrev pub Leads : Scope → List Entry → List Entry → List Parameter → Type 0
Leads s es rest ps = (more : List Parameter) → AreParameters s more rest → AreParameters s (ps ++ more) es

pub begins : (s : Scope) (es : List Entry) (ps : List Parameter) → ps ≡ [] → Leads s es es ps
begins s es ps is = subst (λ ps. Leads s es es ps) (sym is) (λ more h. h)

pub goes_on : (s : Scope) (es : List Entry) (i : ℕ) (e e' : Entry) (ps qs : List Parameter) (p : Parameter)
    → i < length es → e ≡ get_or es i e → e' ≡ e → Leads s es (drop i es) ps → IsParameter s p e'
    → qs ≡ ps ++ p ∷ [] → Leads s es (drop (i + 1) es) qs
goes_on s es i e e' ps qs p within is c leads h made =
    subst (λ qs. Leads s es (drop (i + 1) es) qs) (sym made)
    (λ more k. subst (λ xs. AreParameters s xs es) (grouped ps (p ∷ []) more)
    (leads (p ∷ more) (subst (λ rest. AreParameters s (p ∷ more) rest) (sym (cut es i e within is))
    (subst (λ e. IsParameter s p e) c h, k))))

pub ends : (s : Scope) (es : List Entry) (i : ℕ) (ps : List Parameter) → length es ≤ i → Leads s es (drop i es) ps
    → AreParameters s ps es
ends s es i ps over leads =
    subst (λ xs. AreParameters s xs es) (ended ps)
    (leads [] (subst (λ rest. AreParameters s [] rest) (sym (drop_all i es over)) unit))
  where
    unit : AreParameters s [] []
    unit = tt

-- ---- in the body

-- their types are those in front of it
pub inside : (s t : Scope) (ps : List Parameter) (es : List Entry) → t.tables ≡ s.tables → AreParameters s ps es
    → AreParameters t ps es
inside s t [] [] e h = tt
inside s t [] (x ∷ es) e h = absurd h
inside s t (p ∷ ps) [] e h = absurd h
inside s t (p ∷ ps) (x ∷ es) e h = (
  record {
    at = h.0.at;
    size = h.0.size ∙ ap (λ ts. bytes_of ts (object_type x.means)) (sym e);
    stores = λ a z d. h.0.stores a z d ∙ ap (λ ts. as_done (passes_as ts x.means a z d)) (sym e);
  },
  inside s t ps es e h.1,
)
