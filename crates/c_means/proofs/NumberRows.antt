-- Worked runs that print large numbers.
use Rattle.std.proofs.Common.{◌≡◌, ℕ, pos, List, [], ◌∷◌, refl, ap, ◌∙◌}
use Rattle.plain_data.specs.declared.run.Finish.TheVariants as finish
use Rattle.c_language.specs.declared.expr.UnaryOperator.TheVariants as u
use Rattle.c_language.specs.Integers.{converted}
use Rattle.c_language.specs.Operators.{exact}
use Rattle.printf_text.specs.Pieces.{pieces_from}
use Rattle.c_means.specs.Runs.{Machine, run_of}
use Rattle.c_means.specs.Checks.{breaches_of}
use Rattle.c_means.proofs.RunScene.{int, un}
use Rattle.c_means.proofs.RunRows.{printf', silent, x}
use Rattle.c_means.proofs.MoreRows.{showing}
use Rattle.c_means.proofs.LogRows.{P, logs, a_literal}
use Rattle.c_means.proofs.QuickRuns.{quick_level_of, quick_run_of, same_run}

-- ---- printf("%u\n", -1); over the empty world

abbrev unsigned_line : List ℕ
unsigned_line = 37 ∷ 117 ∷ 10 ∷ []

abbrev printing : Machine
printing = P silent (printf' ∷ []) (a_literal 40 unsigned_line) (logs unsigned_line (un 0 u.Minus (int 1) ∷ []) ∷ [])

computed : (quick_run_of printing).printed ≡ 52 ∷ 50 ∷ 57 ∷ 52 ∷ 57 ∷ 54 ∷ 55 ∷ 50 ∷ 57 ∷ 53 ∷ 10 ∷ []
unfolding converted exact quick_level_of pieces_from
computed = refl

pub row_ten_digits : (run_of printing).printed ≡ 52 ∷ 50 ∷ 57 ∷ 52 ∷ 57 ∷ 54 ∷ 55 ∷ 50 ∷ 57 ∷ 53 ∷ 10 ∷ []
row_ten_digits = ap (λ r. r.printed) (same_run printing) ∙ computed

computed_end : (quick_run_of printing).finish ≡ finish.Return (pos 0)
unfolding converted exact quick_level_of pieces_from
computed_end = refl

pub row_ten_digits_end : (run_of printing).finish ≡ finish.Return (pos 0)
row_ten_digits_end = ap (λ r. r.finish) (same_run printing) ∙ computed_end

pub row_ten_digits_accepted : breaches_of printing ≡ []
unfolding converted exact pieces_from
row_ten_digits_accepted = refl

-- ---- int x = 1; printf("%p\n", &x); where the word of `%p` is the greatest

abbrev greatest : Machine
greatest = showing 18446744073709551615 (un 0 u.Address x)

abbrev sixteen_digits : List ℕ
sixteen_digits =
    48 ∷ 120 ∷ 102 ∷ 102 ∷ 102 ∷ 102 ∷ 102 ∷ 102 ∷ 102 ∷ 102 ∷ 102 ∷ 102 ∷ 102 ∷ 102 ∷ 102 ∷ 102 ∷ 102 ∷ 102 ∷ 10 ∷ []

shown_computed : (quick_run_of greatest).printed ≡ sixteen_digits
unfolding converted exact quick_level_of pieces_from
shown_computed = refl

pub row_sixteen_digits : (run_of greatest).printed ≡ sixteen_digits
row_sixteen_digits = ap (λ r. r.printed) (same_run greatest) ∙ shown_computed
