-- The core of a function's body does what the body does, where the calls in it do.
use Rattle.std.proofs.Common.{◌≡◌, ℕ, suc, ◌+◌, ℤ, List, [], ◌∷◌, length, Some, refl, sym, ap, ap₂, ◌∙◌}
use Rattle.c_store.specs.Store.{Store, start}
use Rattle.c_language.specs.declared.scope.Entry.{Entry}
use Rattle.c_language.specs.Scopes.{Scope}
use Rattle.c_means.specs.Parts.{State}
use Rattle.c_means.specs.Parts as c
use Rattle.c_means.specs.Items.{Made, known}
use Rattle.c_means.specs.Items as runs
use Rattle.c_means.specs.Programs.{Function}
use Rattle.c_means.specs.Runs as whole
use Rattle.c_means.specs.Statements.{no_env}
use Rattle.core_tree.specs.declared.program.Parameter.{Parameter}
use Rattle.core_tree.specs.States.{Output, plain, Level, onward, born, dead, entered}
use Rattle.core_tree.specs.Codes.{lived}
use Rattle.core_tree.specs.Programs.{Body, frame, passed, back, by_body, body_size, body_room}
use Rattle.elaborate.specs.Means.{Numbering}
use Rattle.elaborate.specs.Means.{as_done, Like, AreParameters, IsBodyOf}
use Rattle.elaborate.proofs.Codes.{born_same, dead_same, lived_same}

abbrev the_made : ℕ → ℕ → ℕ → Made
the_made at place size = record { at = at; place = place; size = size }

-- ---- parameters

frame_same : (s : Scope) (base : ℕ) (ps : List Parameter) (es : List Entry) → AreParameters s ps es → frame base ps ≡
    whole.frame s base es
frame_same s base [] [] h = refl
frame_same s base [] (e ∷ es) h = absurd h
frame_same s base (p ∷ ps) [] h = absurd h
frame_same s base (p ∷ ps) (e ∷ es) h =
    ap₂ (λ a n. the_made a base n ∷ frame (suc base) ps) h.0.at h.0.size
    ∙ ap (λ ms. the_made e.at base (whole.parameter_size s e) ∷ ms) (frame_same s (suc base) ps es h.1)

passed_same : (s : Scope) (base : ℕ) (ps : List Parameter) (es : List Entry) → AreParameters s ps es → (vs : List ℤ)
    (d : State)
    → passed base ps vs (as_done d) ≡ as_done (whole.passes s.tables base es vs d)
passed_same s base [] [] h vs d = refl
passed_same s base [] (e ∷ es) h vs d = absurd h
passed_same s base (p ∷ ps) [] h vs d = absurd h
passed_same s base (p ∷ ps) (e ∷ es) h [] d = refl
passed_same s base (p ∷ ps) (e ∷ es) h (v ∷ vs) d =
    ap (passed (suc base) ps vs) (h.0.stores (start base) v d)
    ∙ passed_same s (suc base) ps es h.1 vs (whole.passes_as s.tables e.means (start base) v d)

length_same : (s : Scope) (ps : List Parameter) (es : List Entry) → AreParameters s ps es → length ps ≡ length es
length_same s [] [] h = refl
length_same s [] (e ∷ es) h = absurd h
length_same s (p ∷ ps) [] h = absurd h
length_same s (p ∷ ps) (e ∷ es) h = ap suc (length_same s ps es h.1)

module _ (numbering : Numbering) (x : Body Output) (f : Function) (i : runs.Item) (h : IsBodyOf numbering x f i) where
  -- how many places and nodes it takes
  pub room_same : (l : c.Level) (k : Level Output) → Like numbering l k → body_room x k.measures ≡ whole.body_room f l
  room_same l k like =
      ap₂ (λ a b. a + b) (length_same f.inside x.function.parameters f.parameters h.parameters) (h.items.room l k like)
      ∙ ap (λ (b : runs.Item). length f.parameters + b.room l) (sym h.body)

  pub size_same : (l : c.Level) (k : Level Output) → Like numbering l k → body_size x k.measures ≡ f.body.size l
  size_same l k like = ap (λ n. 1 + n) (h.items.size l k like) ∙ ap (λ (b : runs.Item). b.size l) (sym h.body)

  -- a call by body
  pub body_same : (l : c.Level) (k : Level Output) → Like numbering l k → (vs : List ℤ) (base : ℕ) (s : Store)
      (o : Output)
      → by_body k x vs base s o ≡ Some (as_done (whole.by_body l f vs base s o.count))
  body_same l k like vs base s o =
      let ps = x.function.parameters in
      let ms = whole.frame f.inside base f.parameters in
      let d = c.entered s o.count in
      let started = whole.passes f.inside.tables base f.parameters vs (runs.born ms d) in
      let ended = runs.lived i l (known ms no_env) (base + length f.parameters) started in
      ap₂ (λ m n. onward (lived x.item k (known m no_env) (base + n)
      (passed base ps vs (born k.taking m (entered k.taking s o)))) (λ r. Some (back (dead m r))))
      (frame_same f.inside base ps f.parameters h.parameters) (length_same f.inside ps f.parameters h.parameters)
      ∙ ap (λ t. onward (lived x.item k (known ms no_env) (base + length f.parameters)
      (passed base ps vs (born t ms (entered t s o)))) (λ r. Some (back (dead ms r)))) like.taking
      ∙ ap (λ r. onward (lived x.item k (known ms no_env) (base + length f.parameters) (passed base ps vs r))
      (λ r. Some (back (dead ms r)))) (born_same plain ms d refl)
      ∙ ap (λ r. onward (lived x.item k (known ms no_env) (base + length f.parameters) r)
      (λ r. Some (back (dead ms r))))
      (passed_same f.inside base ps f.parameters h.parameters vs (runs.born ms d))
      ∙ ap (λ r. onward r (λ r. Some (back (dead ms r)))) (lived_same numbering x.item i h.items l k like
      (known ms no_env) (base + length f.parameters) started)
      ∙ ap (λ r. Some (back r)) (dead_same ms ended)
      ∙ ap (λ (b : runs.Item). Some (as_done (whole.back (runs.dead ms
      (runs.lived b l (known ms no_env) (base + length f.parameters) started))))) (sym h.body)
