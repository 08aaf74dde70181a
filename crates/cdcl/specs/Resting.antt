-- What a search keeps from question to question.
use Rattle.std.specs.Prelude.{◌≡◌, ◌≤◌, ◌*◌, ℕ, List, Some, map, length, slice_get, take, vec_len}
use Rattle.cnf_core.specs.Literal.{Literal}
use Rattle.proof_check.specs.Steps.{clause_of}
use Rattle.proof_check.specs.Refutations.{AreValid}
use Rattle.cdcl.specs.declared.clauses.Clauses.{Clauses}
use Rattle.cdcl.specs.declared.watching.Pair.{Pair}
use Rattle.cdcl.specs.declared.search.Search.{Search}
use Rattle.cdcl.specs.Tidy.{AreTidy}
use Rattle.cdcl.specs.Fits.{AllFit, AreNumbered}
use Rattle.cdcl.specs.Trails.{IsTrailOf}
use Rattle.cdcl.specs.Watches.{waiting}
use Rattle.cdcl.specs.Guards.{AreWatches, AreAhead, AreGuarded, AtRest}

-- the clauses given that were entered
abbrev pub entered : Search → List (List Literal)
entered s = take (vec_len s.watches.given) s.clauses.given

-- Between two questions no literal stands above level 0, and the clauses entered and learnt are watched. The steps learnt are
-- numbered over the first n clauses given.
pub record IsResting (n : ℕ) (s : Search) : Type 0 where
  pub numbered : n ≤ length s.clauses.given
  pub valid : AreValid (take n s.clauses.given) s.clauses.learnt
  pub tidy : AreTidy (take n s.clauses.given) s.clauses.learnt
  pub trail : IsTrailOf s.clauses s.trail
  pub root : s.trail.level ≡ 0
  pub fits : AreNumbered (vec_len s.trail.levels) (entered s)
  pub learnt_fit : AllFit (vec_len s.trail.levels) (map clause_of s.clauses.learnt)
  pub lists : vec_len s.watches.lists ≡ 2 * vec_len s.trail.levels
  pub given : vec_len s.watches.given ≤ length s.clauses.given
  pub learnt : vec_len s.watches.learnt ≡ length s.clauses.learnt
  pub watches : (k : ℕ) → AreWatches s.clauses (waiting s.watches k)
  pub ahead : AreAhead s.followed s
  pub guarded : AreGuarded (AtRest s.followed s.trail.entries.items s.watches) (vec_len s.watches.given) s

-- there is room for more variables, and a place for each clause given
pub record IsWidened (size : ℕ) (old new : Search) : Type 0 where
  pub trail : (clauses : Clauses) → IsTrailOf clauses old.trail → IsTrailOf clauses new.trail
  pub entries : new.trail.entries ≡ old.trail.entries
  pub level : new.trail.level ≡ old.trail.level
  pub room : vec_len new.trail.levels ≡ size
  pub lists : vec_len new.watches.lists ≡ 2 * size
  pub given : vec_len new.watches.given ≡ length old.clauses.given
  pub learnt : new.watches.learnt ≡ old.watches.learnt
  pub waits : (k : ℕ) → waiting new.watches k ≡ waiting old.watches k
  pub pairs : (i : ℕ) (p : Pair) → slice_get old.watches.given.items i ≡ Some p → slice_get new.watches.given.items i ≡ Some p
  pub clauses : new.clauses ≡ old.clauses
  pub followed : new.followed ≡ old.followed
