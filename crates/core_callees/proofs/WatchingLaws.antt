-- The variables that a print shows, in the core and in C.
use Rattle.std.proofs.Common.{◌≡◌, ℕ, List, [], ◌∷◌, ◌++◌, Option, Some, None, refl, sym, ap, ap₂, ◌∙◌}
use Rattle.std.proofs.lemmas.List.{map-append}
use Rattle.c_language.specs.declared.ctype.IntegerKind.{IntegerKind}
use Rattle.c_language.specs.Types.{kind_of}
use Rattle.c_store.specs.Store.{Store, read, start}
use Rattle.c_language.specs.declared.scope.Duration.{Duration}
use Rattle.c_language.specs.declared.scope.Duration.TheVariants as duration
use Rattle.c_language.specs.declared.scope.Entry.{Entry}
use Rattle.c_language.specs.declared.scope.Means.{Means}
use Rattle.c_language.specs.declared.scope.Means.TheVariants as means
use Rattle.c_means.specs.Expressions.{object_number}
use Rattle.c_means.specs.Parts.{Env, Level}
use Rattle.c_means.specs.Calls as calls
use Rattle.core_tree.specs.declared.expr.Watched.{Watched}
use Rattle.core_tree.specs.Callees as core
use Rattle.core_tree.specs.Numbers.{size_of, value_of_bytes}
use Rattle.elaborate.specs.Types.{integer_type}
use Rattle.elaborate.proofs.Objects.{same_integer}
use Rattle.core_callees.specs.Watching.{holder_in, stored_in, watched_as, watched_of, all_watched}

-- ---- two lists, one behind the other

pub both_shown : (place : ℕ → ℕ) (es fs gs : List Entry) (us vs ws : List Watched) → us ≡ [] → fs ≡ gs
    → vs ≡ us ++ all_watched place es → ws ≡ vs ++ all_watched place fs → ws ≡ all_watched place (es ++ gs)
both_shown place es fs gs us vs ws none same first more =
    more
    ∙ ap₂ (λ xs ys. xs ++ all_watched place ys) (first ∙ ap (λ xs. xs ++ all_watched place es) none) same
    ∙ sym (map-append (watched_of place) es gs)

-- ---- what is seen

held : (place : ℕ → ℕ) (l : Level) → l.static ≡ place → (env : Env) (at : ℕ) (d : Duration)
    → core.number_held env at (holder_in place at d) ≡ object_number d at l env
held place l is env at duration.Automatic = refl
held place l is env at duration.Static = ap (λ p. p at) (sym is)

seen_in_is : (k : Option IntegerKind) (s : Store) (a : ℕ)
    → value_of_bytes (stored_in k) (read (size_of (stored_in k)) s a) ≡ calls.seen_in k s a
seen_in_is None s a = refl
seen_in_is (Some kind) s a =
    ap (λ n. value_of_bytes (integer_type kind) (read n s a)) (same_integer kind).size ∙ (same_integer kind).value s a

module _ (place : ℕ → ℕ) (l : Level) (static_is : l.static ≡ place) (env : Env) (s : Store) where
  seen_as_is : (at : ℕ) (x : Means) → core.seen env s (watched_as place at x) ≡ calls.seen_as l env s at x
  seen_as_is at (means.Object t d linkage) =
      seen_in_is (kind_of t) s (start (core.number_held env at (holder_in place at d)))
      ∙ ap (λ n. calls.seen_in (kind_of t) s (start n)) (held place l static_is env at d)
  seen_as_is at (means.Function t linkage) = refl
  seen_as_is at (means.Typedef t) = refl
  seen_as_is at (means.Constant z) = refl
  seen_as_is at means.Faulty = refl

  pub all_seen : (es : List Entry) → core.seen_all env s (all_watched place es) ≡ calls.seen_all l env s es
  all_seen [] = refl
  all_seen (e ∷ es) = ap₂ (λ z zs. z ∷ zs) (seen_as_is e.at e.means) (all_seen es)
