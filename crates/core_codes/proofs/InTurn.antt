-- The items of a block, one after the other: what is left leads to the whole.
use Rattle.std.proofs.Common.{◌≡◌, ℕ, suc, add-one, ◌+◌, ◌<◌, ◌≤◌, ℤ, List, [], ◌∷◌, map, length, drop, get_or}
use Rattle.std.proofs.Common.{drop-cons, refl, sym, ap, ap₂, ◌∙◌, subst}
use Rattle.std.proofs.lemmas.List.{drop_all}
use Rattle.c_language.specs.declared.unit.Stmt.{Stmt}
use Rattle.c_means.specs.Statements.{stmt}
use Rattle.c_language.specs.Scopes.{Scope}
use Rattle.c_means.specs.Items as runs
use Rattle.core_tree.specs.declared.code.Code.{Code}
use Rattle.core_tree.specs.declared.program.LastingSetting.{LastingSetting}
use Rattle.elaborate.specs.Means.{Numbering}
use Rattle.core_codes.specs.declared.context.Context.{Context}
use Rattle.core_codes.specs.declared.made.Made.{Made}
use Rattle.core_codes.specs.Made.{IsMade, joined}
use Rattle.core_codes.proofs.Forms.{on_items, on_nothing}
use Rattle.core_codes.proofs.Settings.{grouped, none_behind}

abbrev nothing : Made
nothing = record { codes = []; cases = []; settings = [] }

abbrev made_of : List Code → List ℤ → List LastingSetting → Made
made_of cs zs xs = record { codes = cs; cases = zs; settings = xs }

same : (cs cs' : List Code) (zs zs' : List ℤ) (xs xs' : List LastingSetting) → cs ≡ cs' → zs ≡ zs' → xs ≡ xs'
    → made_of cs zs xs ≡ made_of cs' zs' xs'
same cs cs' zs zs' xs xs' e f g =
    ap₂ (λ (cs : List Code) (zs : List ℤ). made_of cs zs xs) e f
    ∙ ap (λ (xs : List LastingSetting). made_of cs' zs' xs) g

-- those behind both, put behind the second first
regrouped : (x y z : Made) → joined x (joined y z) ≡ joined (joined x y) z
regrouped x y z =
    same _ _ _ _ _ _ (grouped x.codes y.codes z.codes) (grouped x.cases y.cases z.cases)
    (grouped x.settings y.settings z.settings)

nothing_more : (x : Made) → joined x nothing ≡ x
nothing_more x = same _ _ _ _ _ _ (none_behind x.codes) (none_behind x.cases) (none_behind x.settings)

-- what was made leads to the whole block, once what is made of the items that are left is put behind it
abbrev pub Leads : Numbering → Context → Scope → List runs.Code → List runs.Code → Made → Scope → Type 0
Leads numbering x s bs cs made t =
    (more : Made) (u : Scope) → IsMade numbering x t (runs.in_turn cs) more u
    → IsMade numbering x s (runs.in_turn bs) (joined made more) u

module _ (numbering : Numbering) (x : Context) (s : Scope) (bs : List runs.Code) where
  pub begins : (y : Made) → y ≡ nothing → Leads numbering x s bs bs y s
  begins y is = subst (λ y. Leads numbering x s bs bs y s) (sym is) (λ more u h. h)

  pub goes_on : (b : runs.Code) (cs : List runs.Code) (made item y : Made) (t u : Scope)
      → Leads numbering x s bs (b ∷ cs) made t → IsMade numbering x t b.here item u → y ≡ joined made item
      → Leads numbering x s bs cs y u
  goes_on b cs made item y t u leads h is =
      subst (λ y. Leads numbering x s bs cs y u) (sym is) (λ more w g. subst
      (λ m. IsMade numbering x s (runs.in_turn bs) m w) (regrouped made item more)
      (leads (joined item more) w (on_items numbering x t b cs item more u w h g)))

  pub ends : (cs : List runs.Code) (made : Made) (t : Scope) → cs ≡ [] → Leads numbering x s bs cs made t
      → IsMade numbering x s (runs.in_turn bs) made t
  ends cs made t e leads =
      subst (λ m. IsMade numbering x s (runs.in_turn bs) m t) (nothing_more made)
      (leads nothing t (subst (λ cs. IsMade numbering x t (runs.in_turn cs) nothing t) (sym e)
      (on_nothing numbering x t nothing refl)))

-- ---- a loop over statements

cut : (xs : List Stmt) (i : ℕ) (x : Stmt) → i < length xs → x ≡ get_or xs i x → drop i xs ≡ x ∷ drop (i + 1) xs
cut xs i x within is =
    drop-cons xs i x within
    ∙ ap (λ (z : Stmt). z ∷ drop (suc i) xs) (sym is)
    ∙ ap (λ (k : ℕ). x ∷ drop k xs) (sym (add-one i))

module _ (numbering : Numbering) (x : Context) (s : Scope) (xs : List Stmt) where
  pub an_item : (i : ℕ) (n n' : Stmt) (made item y : Made) (t u : Scope) → i < length xs → n ≡ get_or xs i n → n' ≡ n
      → Leads numbering x s (map stmt xs) (map stmt (drop i xs)) made t → IsMade numbering x t (stmt n').here item u
      → y ≡ joined made item → Leads numbering x s (map stmt xs) (map stmt (drop (i + 1) xs)) y u
  an_item i n n' made item y t u within is c leads h made_of =
      goes_on numbering x s (map stmt xs) (stmt n) (map stmt (drop (i + 1) xs)) made item y t u
      (subst (λ ys. Leads numbering x s (map stmt xs) (map stmt ys) made t) (cut xs i n within is) leads)
      (subst (λ n. IsMade numbering x t (stmt n).here item u) c h) made_of

  pub all_items : (i : ℕ) (made : Made) (t : Scope) → length xs ≤ i
      → Leads numbering x s (map stmt xs) (map stmt (drop i xs)) made t
      → IsMade numbering x s (runs.in_turn (map stmt xs)) made t
  all_items i made t over leads =
      ends numbering x s (map stmt xs) (map stmt (drop i xs)) made t (ap (map stmt) (drop_all i xs over)) leads
