-- Collecting one token more.
use Rattle.std.proofs.Common.{◌≡◌, ℕ, ◌+◌, ◌-◌, ◌≤◌, Bool, true, false, cond, List, [], ◌∷◌, ◌++◌, length, reverse}
use Rattle.std.proofs.Common.{Option, Some, None, refl, ap, sym, ◌∙◌, arith, append_assoc}
use Rattle.std.proofs.lemmas.List.{take-append-le, length_push, take_at, reverse-append}
use Rattle.c_language.specs.declared.token.Token.{Token}
use Rattle.c_lexer.specs.declared.attribute.Role.{Role}
use Rattle.c_lexer.specs.declared.attribute.Role.TheVariants as role
use Rattle.c_lexer.specs.declared.attribute.Collected.{Collected}
use Rattle.c_lexer.specs.Attributes.{Kept, first_of_all, kept_before}
use Rattle.c_lexer.specs.Collected.{joined, after_last, collected, AreNested, IsNested}

-- ---- tokens and groups as lists

-- a token that stays stands with those so far or with the rest
joined-push : (tokens : List Token) (t : Token) (words : List (Option ℕ)) (here : List Token)
    (closers : List (List Token)) → AreNested (length tokens) words →
    joined (tokens ++ t ∷ []) words here closers ≡ joined tokens words (t ∷ here) closers
joined-push tokens t [] here closers nested = append_assoc tokens (t ∷ []) here
joined-push tokens t (None ∷ words) here [] nested = append_assoc tokens (t ∷ []) here
joined-push tokens t (Some word ∷ words) here [] nested = append_assoc tokens (t ∷ []) here
joined-push tokens t (None ∷ words) here (c ∷ cs) nested = joined-push tokens t words here cs nested
joined-push tokens t (Some word ∷ words) here (c ∷ cs) nested =
    ap (λ ts. joined ts words c cs) (take-append-le word tokens (t ∷ []) nested.0)

-- no group is closed
pub joined-open : (tokens : List Token) (words : List (Option ℕ)) (here : List Token) →
    joined tokens words here [] ≡ tokens ++ here
joined-open tokens [] here = refl
joined-open tokens (word ∷ words) here = refl

nested-more : (few many : ℕ) (words : List (Option ℕ)) → few ≤ many → AreNested few words → AreNested many words
nested-more few many [] h nested = tt
nested-more few many (None ∷ words) h nested = nested-more few many words h nested
nested-more few many (Some word ∷ words) h nested = (omega (arith, nested.0), nested.1)

nested-all : (flag : Bool) (count : ℕ) (words : List (Option ℕ)) → AreNested (cond flag (count - 1) count) words →
    AreNested count words
nested-all true count words nested = nested-more (count - 1) count words (omega arith) nested
nested-all false count words nested = nested

pub no_group : (flag : Bool) (tokens : List Token) (words : List (Option ℕ)) (rest : Kept) →
    after_last flag tokens words None rest ≡ joined tokens words rest.here rest.closers
no_group true tokens words rest = refl
no_group false tokens words rest = refl

stays : (flag : Bool) (tokens : List Token) (t : Token) (words : List (Option ℕ)) (here : List Token)
    (closers : List (List Token)) → AreNested (length tokens) words →
    joined (tokens ++ t ∷ []) words here closers
    ≡ after_last flag tokens words None (record { here = t ∷ here; group = None; closers = closers })
stays flag tokens t words here closers nested =
    joined-push tokens t words here closers nested
    ∙ sym (no_group flag tokens words (record { here = t ∷ here; group = None; closers = closers }))

word_stays : (flag : Bool) (tokens : List Token) (t : Token) (words : List (Option ℕ)) (here : List Token)
    (group : Option (List Token)) (closers : List (List Token)) →
    AreNested (length tokens) words →
    after_last true (tokens ++ t ∷ []) words group (record { here = here; group = group; closers = closers })
    ≡ after_last flag tokens words None
    (kept_before role.Attribute t (record { here = here; group = group; closers = closers }))
word_stays flag tokens t words here None closers nested = stays flag tokens t words here closers nested
word_stays flag tokens t words here (Some group) closers nested =
    let n : length tokens ≡ length (tokens ++ t ∷ []) - 1 = omega (arith, length_push tokens t) in
    ap (λ ts. joined ts words group closers) (take_at tokens (t ∷ []) (length (tokens ++ t ∷ []) - 1) n)
    ∙ sym (no_group flag tokens words (record { here = group; group = None; closers = closers }))

opens : (flag : Bool) (tokens : List Token) (t : Token) (words : List (Option ℕ)) (here : List Token)
    (closers : List (List Token)) → AreNested (length tokens) words →
    joined (tokens ++ t ∷ []) (cond flag (Some (length tokens - 1)) None ∷ words) here closers
    ≡ after_last flag tokens words (first_of_all closers)
    (kept_before role.Open t (record { here = here; group = None; closers = closers }))
opens true tokens t words here [] nested = append_assoc tokens (t ∷ []) here ∙ sym (joined-open tokens words (t ∷ here))
opens false tokens t words here [] nested = append_assoc tokens (t ∷ []) here
    ∙ sym (joined-open tokens words (t ∷ here))
opens true tokens t words here (c ∷ cs) nested =
    ap (λ ts. joined ts words c cs) (take-append-le (length tokens - 1) tokens (t ∷ []) (omega arith))
opens false tokens t words here (c ∷ cs) nested = joined-push tokens t words here cs nested

-- ---- the same of what is collected

module _ (old : Collected) (t : Token) (nested : IsNested old) (items : List Token)
    (pushed : items ≡ old.tokens.items ++ t ∷ []) where
  whole : AreNested (length old.tokens.items) (reverse old.open_groups.items)
  whole = nested-all old.after_word (length old.tokens.items) (reverse old.open_groups.items) nested

  one_more : length items ≡ length old.tokens.items + 1
  one_more = ap length pushed ∙ length_push old.tokens.items t

  pub other_kept : (r : Role) → r ≡ role.Other → (rest : Kept) →
      joined items (reverse old.open_groups.items) rest.here rest.closers ≡ collected old (kept_before r t rest)
  other_kept r is rest =
      ap (λ ts. joined ts (reverse old.open_groups.items) rest.here rest.closers) pushed
      ∙ stays old.after_word old.tokens.items t (reverse old.open_groups.items) rest.here rest.closers whole
      ∙ ap (λ q. collected old (kept_before q t rest)) (sym is)

  pub word_kept : (r : Role) → r ≡ role.Attribute → (rest : Kept) →
      after_last true items (reverse old.open_groups.items) rest.group rest ≡ collected old (kept_before r t rest)
  word_kept r is rest =
      ap (λ ts. after_last true ts (reverse old.open_groups.items) rest.group rest) pushed
      ∙ word_stays old.after_word old.tokens.items t
      (reverse old.open_groups.items) rest.here rest.group rest.closers whole
      ∙ ap (λ q. collected old (kept_before q t rest)) (sym is)

  pub still_nested : AreNested (length items) (reverse old.open_groups.items)
  still_nested = nested-more (length old.tokens.items) (length items) (reverse old.open_groups.items)
      (omega (arith, one_more)) whole

  pub word_nested : AreNested (length items - 1) (reverse old.open_groups.items)
  word_nested = nested-more (length old.tokens.items) (length items - 1) (reverse old.open_groups.items)
      (omega (arith, one_more)) whole

  -- a group is opened
  module _ (words : List (Option ℕ))
      (opened : words ≡ old.open_groups.items ++ cond old.after_word (Some (length old.tokens.items - 1)) None ∷ [])
    where
      turned : reverse words ≡ cond old.after_word (Some (length old.tokens.items - 1)) None
          ∷ reverse old.open_groups.items
      turned = ap reverse opened ∙ reverse-append old.open_groups.items
          (cond old.after_word (Some (length old.tokens.items - 1)) None ∷ [])

      pub open_kept : (r : Role) → r ≡ role.Open → (rest : Kept) →
          joined items (reverse words) rest.here rest.closers ≡ collected old (kept_before r t rest)
      open_kept r is rest =
          ap (λ ts. joined ts (reverse words) rest.here rest.closers) pushed
          ∙ ap (λ ws. joined (old.tokens.items ++ t ∷ []) ws rest.here rest.closers) turned
          ∙ opens old.after_word old.tokens.items t (reverse old.open_groups.items) rest.here rest.closers whole
          ∙ ap (λ q. collected old (kept_before q t rest)) (sym is)

opened_nested : (flag : Bool) (count many : ℕ) (words : List (Option ℕ)) → count ≤ many →
    AreNested (cond flag (count - 1) count) words →
    AreNested many (cond flag (Some (count - 1)) None ∷ words)
opened_nested true count many words h nested = (omega arith, nested)
opened_nested false count many words h nested = nested-more count many words h nested

pub open_nested : (old : Collected) (t : Token) → IsNested old → (items : List Token) →
    items ≡ old.tokens.items ++ t ∷ [] →
    (words : List (Option ℕ)) → words ≡ old.open_groups.items
    ++ cond old.after_word (Some (length old.tokens.items - 1)) None ∷ [] → AreNested (length items) (reverse words)
open_nested old t nested items pushed words opened =
    rw (turned old t nested items pushed words opened)
    (opened_nested old.after_word (length old.tokens.items) (length items) (reverse old.open_groups.items)
    (omega (arith, one_more old t nested items pushed)) nested)

-- ---- a group that no attribute's word begins is closed

module _ (old : Collected) (t : Token) (nested : IsNested old) (items : List Token)
    (pushed : items ≡ old.tokens.items ++ t ∷ [])
    (words : List (Option ℕ)) (closed : old.open_groups.items ≡ words ++ None ∷ []) where
  turned_back : reverse old.open_groups.items ≡ None ∷ reverse words
  turned_back = ap reverse closed ∙ reverse-append words (None ∷ [])

  inner : AreNested (length old.tokens.items) (reverse words)
  inner = rw turned_back at (whole old t nested items pushed)

  pub close_kept : (r : Role) → r ≡ role.Close → (rest : Kept) →
      joined items (reverse words) rest.here rest.closers ≡ collected old (kept_before r t rest)
  close_kept r is rest =
      ap (λ ts. joined ts (reverse words) rest.here rest.closers) pushed
      ∙ joined-push old.tokens.items t (reverse words) rest.here rest.closers inner
      ∙ ap (λ ws. joined old.tokens.items ws (t ∷ rest.here) (rest.here ∷ rest.closers)) (sym turned_back)
      ∙ sym (no_group old.after_word old.tokens.items (reverse old.open_groups.items) (kept_before role.Close t rest))
      ∙ ap (λ q. collected old (kept_before q t rest)) (sym is)

  pub close_nested : AreNested (length items) (reverse words)
  close_nested = nested-more (length old.tokens.items) (length items) (reverse words)
      (omega (arith, one_more old t nested items pushed)) inner
