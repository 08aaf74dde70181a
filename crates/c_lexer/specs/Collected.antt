-- What tokens that are collected in turn become, once the rest is known.
use Rattle.std.specs.Prelude.{◌≡◌, ℕ, ◌-◌, ◌≤◌, Bool, true, false, List, [], ◌∷◌, ◌++◌, length, take, reverse, Option}
use Rattle.std.specs.Prelude.{Some}
use Rattle.std.specs.Prelude.{None, if◌then◌else◌, ⊤}
use Rattle.c_lexer.specs.Attributes.{Kept, keep}
use Rattle.c_lexer.specs.declared.attribute.Collected.{Collected}
use Rattle.c_language.specs.declared.token.Token.{Token}

-- The tokens so far with what is kept of the rest, whose closing parentheses end the open groups, the innermost first.
-- A group that an attribute's word begins goes, with the word.
abbrev pub joined : List Token → List (Option ℕ) → List Token → List (List Token) → List Token
joined tokens [] here closers = tokens ++ here
joined tokens (word ∷ words) here [] = tokens ++ here
joined tokens (None ∷ words) here (c ∷ cs) = joined tokens words here cs
joined tokens (Some word ∷ words) here (c ∷ cs) = joined (take word tokens) words c cs

abbrev pub after_last : Bool → List Token → List (Option ℕ) → Option (List Token) → Kept → List Token
after_last true tokens words (Some group) rest = joined (take (length tokens - 1) tokens) words group rest.closers
after_last true tokens words None rest = joined tokens words rest.here rest.closers
after_last false tokens words group rest = joined tokens words rest.here rest.closers

-- the tokens so far and the rest
abbrev pub collected : Collected → Kept → List Token
collected c rest = after_last c.after_word c.tokens.items (reverse c.open_groups.items) rest.group rest

-- some tokens are collected: whatever follows, the whole becomes what it was to become
abbrev pub Collects : Collected → List Token → Collected → Type 0
Collects old ts new = (rest : List Token) → collected new (keep rest) ≡ collected old (keep (ts ++ rest))

-- each word stands within the tokens, and within those before the word of the next group
abbrev pub AreNested : ℕ → List (Option ℕ) → Type 0
AreNested count [] = ⊤
AreNested count (None ∷ words) = AreNested count words
AreNested count (Some word ∷ words) = (word ≤ count) × AreNested word words

-- an attribute's word that comes last begins no group yet
abbrev pub IsNested : Collected → Type 0
IsNested c =
    AreNested (if c.after_word then length c.tokens.items - 1 else length c.tokens.items) (reverse c.open_groups.items)
