-- The variables that a print shows.
use Rattle.std.specs.Prelude.{ℕ, suc, cond, nat_eq, nat_lt, List, [], ◌∷◌, Option, Some, None, map}
use Rattle.c_language.specs.declared.ctype.IntegerKind.{IntegerKind}
use Rattle.c_language.specs.Types.{kind_of}
use Rattle.c_language.specs.declared.scope.Duration.{Duration}
use Rattle.c_language.specs.declared.scope.Duration.TheVariants as duration
use Rattle.c_language.specs.declared.scope.Entry.{Entry}
use Rattle.c_language.specs.declared.scope.Means.{Means}
use Rattle.c_language.specs.declared.scope.Means.TheVariants as means
use Rattle.c_language.specs.Scopes.{Block}
use Rattle.c_means.specs.Calls.{automatic_of}
use Rattle.core_tree.specs.declared.expr.Holder.{Holder}
use Rattle.core_tree.specs.declared.expr.Holder.TheVariants as holder
use Rattle.core_tree.specs.declared.expr.Watched.{Watched}
use Rattle.core_tree.specs.declared.types.ValueType.{ValueType}
use Rattle.core_tree.specs.declared.types.ValueType.TheVariants as value
use Rattle.elaborate.specs.Types.{integer_type}

-- ---- a variable in the core

abbrev pub holder_in : (ℕ → ℕ) → ℕ → Duration → Holder
holder_in place at duration.Automatic = holder.Local
holder_in place at duration.Static = holder.Fixed (place at)

-- of what is no integer nothing is seen
abbrev pub stored_in : Option IntegerKind → ValueType
stored_in None = value.Void
stored_in (Some kind) = integer_type kind

abbrev pub unseen : ℕ → Watched
unseen at = record { at = at; holder = holder.Local; stored = value.Void }

-- a name that is no object shows nothing either
abbrev pub watched_as : (ℕ → ℕ) → ℕ → Means → Watched
watched_as place at (means.Object t d linkage) = record {
  at = at;
  holder = holder_in place at d;
  stored = stored_in (kind_of t);
}
watched_as place at (means.Function t linkage) = unseen at
watched_as place at (means.Typedef t) = unseen at
watched_as place at (means.Constant z) = unseen at
watched_as place at means.Faulty = unseen at

abbrev pub watched_of : (ℕ → ℕ) → Entry → Watched
watched_of place e = watched_as place e.at e.means

abbrev pub all_watched : (ℕ → ℕ) → List Entry → List Watched
all_watched place es = map (watched_of place) es

-- ---- parameters and locals of all open blocks, the outermost first

abbrev pub automatic_over : List Block → List Entry → List Entry
automatic_over [] found = found
automatic_over (b ∷ bs) found = automatic_over bs (automatic_of b.entries found)

-- where an entry of an offset belongs, counted from a number; none where one of that offset is there
abbrev pub gap_from : ℕ → ℕ → List Entry → Option ℕ
gap_from n at [] = Some n
gap_from n at (x ∷ xs) = cond (nat_lt at x.at) (Some n) (cond (nat_eq at x.at) None (gap_from (suc n) at xs))
