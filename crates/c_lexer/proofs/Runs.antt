-- The longest run of a class, of a number and of a literal.
use Rattle.std.proofs.Common.{◌≡◌, ℕ, suc, ◌+◌, ◌≤◌, Bool, true, false, cond, eqb, [], ◌∷◌, ◌++◌, length, take, Some}
use Rattle.std.proofs.Common.{refl, ap, ◌∙◌, arith}
use Rattle.std.specs.List.{prefix_len}
use Rattle.c_lexer.specs.Class.{Text, is_in}
use Rattle.c_lexer.specs.Number.{goes_on, number_more}
use Rattle.c_lexer.specs.Literal.{closing}
use Rattle.c_lexer.specs.Spelling.{AllIn, GoesOn, IsBody, none, plain, escaped}
use Rattle.c_lexer.specs.declared.class.Class.{Class}

-- ---- runs of a class

pub run_covers : (c : Class) (bytes rest : Text) → AllIn c bytes → length bytes ≤ prefix_len (is_in c) (bytes ++ rest)
run_covers c [] rest all = omega arith
run_covers c (b ∷ bytes) rest all = rw all.0 (omega (arith, run_covers c bytes rest all.1))

chosen_run : (c : Class) (b : ℕ) (text : Text) (is : Bool) → is_in c b ≡ is →
    AllIn c (take (prefix_len (is_in c) text) text) →
    AllIn c (take (cond is (1 + prefix_len (is_in c) text) 0) (b ∷ text))
chosen_run c b text true h all = let e : 1 + prefix_len (is_in c) text ≡ suc (prefix_len (is_in c) text) = omega arith
    in rw e (h, all)
chosen_run c b text false h all = tt

pub run_is : (c : Class) (text : Text) → AllIn c (take (prefix_len (is_in c) text) text)
run_is c [] = tt
run_is c (b ∷ text) = chosen_run c b text (is_in c b) refl (run_is c text)

pub run_within : (c : Class) (text : Text) → prefix_len (is_in c) text ≤ length text
run_within c [] = omega arith
run_within c (b ∷ text) = chosen (is_in c b) (run_within c text) where
  chosen : (is : Bool) → prefix_len (is_in c) text ≤ length text →
      cond is (1 + prefix_len (is_in c) text) 0 ≤ suc (length text)
  chosen true h = omega arith
  chosen false h = omega arith

-- ---- numbers

pub number_covers : (previous : ℕ) (bytes rest : Text) → GoesOn previous bytes →
    length bytes ≤ number_more previous (bytes ++ rest)
number_covers previous [] rest all = omega arith
number_covers previous (b ∷ bytes) rest all = rw all.0 (omega (arith, number_covers b bytes rest all.1))

chosen_number : (previous b : ℕ) (text : Text) (is : Bool) → goes_on previous b ≡ is →
    GoesOn b (take (number_more b text) text) → GoesOn previous (take (cond is (1 + number_more b text) 0) (b ∷ text))
chosen_number previous b text true h all = let e : 1 + number_more b text ≡ suc (number_more b text) = omega arith in
    rw e (h, all)
chosen_number previous b text false h all = tt

pub number_is : (previous : ℕ) (text : Text) → GoesOn previous (take (number_more previous text) text)
number_is previous [] = tt
number_is previous (b ∷ text) = chosen_number previous b text (goes_on previous b) refl (number_is b text)

pub number_within : (previous : ℕ) (text : Text) → number_more previous text ≤ length text
number_within previous [] = omega arith
number_within previous (b ∷ text) = chosen (goes_on previous b) (number_within b text) where
  chosen : (is : Bool) → number_more b text ≤ length text → cond is (1 + number_more b text) 0 ≤ suc (length text)
  chosen true h = omega arith
  chosen false h = omega arith

-- ---- literals

module _ (quote : ℕ) (no_newline : eqb quote 10 ≡ false) (itself : eqb quote quote ≡ true)
    (no_backslash : eqb 92 quote ≡ false) where
  pub body_closes : (body rest : Text) (at : ℕ) → IsBody quote body →
      closing quote false at (body ++ quote ∷ rest) ≡ Some (at + length body + 1)
  body_closes [] rest at none = rw (no_newline, itself) (ap Some (omega arith))
  body_closes (b ∷ bs) rest at (plain newline other backslash more) =
      rw (newline, other, backslash) (body_closes bs rest (at + 1) more ∙ ap Some (omega arith))
  body_closes (d ∷ b ∷ bs) rest at (escaped newline more) =
      rw (no_backslash, newline) (body_closes bs rest (at + 1 + 1) more ∙ ap Some (omega arith))
