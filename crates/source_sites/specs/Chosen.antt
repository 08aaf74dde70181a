-- The log calls of a program that may print, with their formats.
use Rattle.std.specs.Prelude.{◌≡◌, ℕ, Bool, cond, nat_eq, List, [], ◌∷◌, ◌++◌}
use Rattle.std.specs.List.{list_any}
use Rattle.accepted.specs.declared.program.Accepted.{Accepted}
use Rattle.core_marks.specs.declared.mark.Site.{Site as Own}
use Rattle.log_sites.specs.Sites.{AreSitesOf as AreSitesOfCore}
use Rattle.source_sites.specs.declared.listing.Site.{Site}
use Rattle.source_sites.specs.Sites.{AreSitesOf}

-- one of these log calls of a core stands at this offset
abbrev pub stands_at : List Own → ℕ → Bool
stands_at own at = list_any (λ (x : Own). nat_eq x.at at) own

abbrev pub one_if : List Own → Site → List Site
one_if own x = cond (stands_at own x.at) (x ∷ []) []

-- those at whose offset one of these stands, in order
abbrev pub chosen : List Own → List Site → List Site
chosen own [] = []
chosen own (x ∷ xs) = one_if own x ++ chosen own xs

-- those of the core
abbrev pub AreOwn : Accepted → List Own → Type 0
AreOwn p own = AreSitesOfCore p.core own

-- those of the source, which are in operands of `sizeof` too
abbrev pub AreAll : Accepted → List Site → Type 0
AreAll p all = AreSitesOf p.externals p.profile all

-- of the log calls of the source those that the core has
pub record AreChosen (p : Accepted) (sites : List Site) : Type 0 where
  pub own : List Own
  pub are_own : AreOwn p own
  pub all : List Site
  pub are_all : AreAll p all
  pub is : sites ≡ chosen own all
