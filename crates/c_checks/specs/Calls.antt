-- The rules of calls, over the types and texts of their arguments: the lists that the sites of `c_means` have.
use Rattle.std.specs.Prelude.{ℕ, suc, nat_eq, not, ◌&&◌, List, length, drop, Option, None, slice_get, unwrap_or}
use Rattle.printf_text.specs.Pieces.{pieces_of}
use Rattle.c_language.specs.declared.ctype.CType.{CType}
use Rattle.c_language.specs.Types.{is_integer, is_pointer, is_scalar}
use Rattle.c_means.specs.declared.breach.Breach.{Breach}
use Rattle.c_means.specs.declared.profile.LogText.{LogText}
use Rattle.c_means.specs.declared.profile.LogText.TheVariants as log_
use Rattle.c_means.specs.Items.{breach_if}
use Rattle.c_means.specs.Checks.{mismatch, meets, type_at, literal_breaches, pieces_breaches}

-- what is handed on is a scalar
abbrev pub identity_breaches : ℕ → List (Option CType) → ℕ → List Breach
identity_breaches at types i = breach_if (not (meets is_scalar (type_at types i))) at mismatch

-- as many arguments as there are parameters (C99 6.5.2.2p6)
abbrev pub body_breaches : ℕ → List (Option CType) → ℕ → List Breach
body_breaches at types parameters = breach_if (not (nat_eq parameters (length types))) at mismatch

abbrev pub fill_breaches : ℕ → List (Option CType) → ℕ → ℕ → List Breach
fill_breaches at types buffer n =
    breach_if (not (meets is_pointer (type_at types buffer) && meets is_integer (type_at types n))) at mismatch

abbrev pub log_breaches : ℕ → List (Option (List ℕ)) → List (Option CType) → LogText → List Breach
log_breaches at texts types (log_.Format i newline) =
    literal_breaches at (unwrap_or (slice_get texts i) None) (drop (suc i) types)
log_breaches at texts types (log_.Text format) = pieces_breaches at (pieces_of format) types
