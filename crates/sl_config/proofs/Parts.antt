-- The parts of a word.
use Rattle.std.proofs.Common.{◌≡◌, ◌≢◌, ◌<◌, ◌==◌, ◌+◌, ℕ, Bool, true, false, [], ◌∷◌, length, get_or, Option, Some, None, option_map, take, refl, sym, ap, ◌∙◌, arith}
use Rattle.std.specs.Prelude.{MatchOption}
use Rattle.std.specs.Borrow.{Bor}
use Rattle.std.specs.List.{list_any, before_first, position_or_len}
use Rattle.std.proofs.lemmas.List.{take_all}
use Rattle.std.proofs.lemmas.List.Sums.{position_or_len_is}
use Rattle.std.proofs.lemmas.Bool.Decides.{nat_tests}
use Rattle.std.proofs.lemmas.Grind.{common_steps}
use Rattle.sl_config.specs.Generated.{Text}
use Rattle.sl_config.specs.Words.{is_equals, name_and_value, behind_hyphen}

-- no byte is `=`
abbrev Lacks : Text → Type 0
Lacks word = (i : ℕ) → i < length word → get_or word i 0 ≢ 61

none_is : (word : Text) → Lacks word → list_any is_equals word ≡ false
none_is [] lacks = refl
none_is (byte ∷ word) lacks =
    let ne : byte ≢ 61 = lacks 0 (grind (arith, common_steps)) in
    let head : is_equals byte ≡ false = grind (arith, nat_tests) in
    rw head (none_is word (λ i lt. let k = lacks (i + 1) (grind (arith, common_steps)) in grind (arith, common_steps)))

whole_is : (word : Text) → Lacks word → before_first is_equals word ≡ word
whole_is word lacks =
    let end : position_or_len is_equals word ≡ length word =
    position_or_len_is is_equals word (length word) 0 (omega arith) (λ k lt. let ne = lacks k lt in grind (arith, nat_tests)) (λ lt. absurd (omega arith)) in
    ap (λ n. take n word) end ∙ take_all (length word) word (omega arith)

-- a word without `=` is a name
pub without_value : (word : Text) → Lacks word → name_and_value word ≡ (word, None)
without_value word lacks = rw (whole_is word lacks, none_is word lacks)

hyphen_test : (rest : Text) → behind_hyphen (45 ∷ rest) ≡ Some rest
hyphen_test rest = refl

-- what `strip_prefix` answers at a hyphen
pub stripped_hyphen : (word : Text) (r : Option (Bor Text))
    → MatchOption r ((rest : Text) → word ≢ 45 ∷ rest) (λ x. word ≡ 45 ∷ x.now) → option_map (λ s. s.now) r ≡ behind_hyphen word
stripped_hyphen [] None h = refl
stripped_hyphen [] (Some x) h = cc
stripped_hyphen (byte ∷ word) None h = go (byte == 45) refl
  where
    go : (t : Bool) → (byte == 45) ≡ t → None ≡ behind_hyphen (byte ∷ word)
    go true e = absurd (h word (ap (λ n. n ∷ word) (grind (arith, nat_tests))))
    go false e = rw e
stripped_hyphen (byte ∷ word) (Some x) h = sym (ap behind_hyphen h ∙ hyphen_test x.now)
