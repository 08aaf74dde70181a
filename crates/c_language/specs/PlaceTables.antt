-- The places of a source's tokens.
use Rattle.std.specs.Prelude.{◌≡◌, ℕ, List, [], unwrap_or, slice_get, fold}
use Rattle.std.specs.List.{All}
use Rattle.std.specs.Map.{lookup}
use Rattle.std.specs.Ordering.{nat_cmp}
use Rattle.std.specs.BTreeMap.{is_at, insert_entry}
use Rattle.c_language.specs.declared.token.Place.{Place}
use Rattle.c_language.specs.declared.token.Token.{Token}

-- places by byte offset, and the names of the files that they speak of
pub record PlaceTable : Type 0 where
  pub places : List (ℕ × Place)
  pub files : List (List ℕ)

-- each token's place at its start
abbrev pub places_of : List Token → List (ℕ × Place)
places_of tokens = fold (λ table token. insert_entry nat_cmp table token.start token.place) [] tokens

abbrev pub nowhere : Place
nowhere = record { file = 0; line = 0; column = 0 }

-- the place at a byte offset
abbrev pub place_at : List (ℕ × Place) → ℕ → Place
place_at places at = unwrap_or (lookup (is_at (nat_cmp at)) places) nowhere

-- the name of the file with a number
abbrev pub file_at : List (List ℕ) → ℕ → List ℕ
file_at files file = unwrap_or (slice_get files file) []

-- each of these tokens is found at its start, with its place
abbrev pub AreFound : List (ℕ × Place) → List Token → Type 0
AreFound places tokens = All (λ token. place_at places token.start ≡ token.place) tokens
