-- Adjacent string literals, in one list.
use Rattle.std.proofs.Common.{◌≡◌, ℕ, suc, List, [], ◌∷◌, length, Some, None, refl, ◌∙◌}
use Rattle.c_language.specs.declared.expr.Expr.{Expr}
use Rattle.c_language.specs.declared.expr.Expr.TheVariants as expr
use Rattle.c_grammar.specs.Parts.{State}
use Rattle.c_grammar.specs.Reading.{Reading, ◌>>=◌, run_at, a_literal, literal_at}
use Rattle.c_reading.specs.declared.fault.ParseFault.{ParseFault}
use Rattle.c_reading.specs.declared.fault.ParseFault.TheVariants as fault
use Rattle.c_reading.specs.Cursor.{Fails, after}

abbrev whole : ℕ → List (List ℕ) × State → Reading Expr
whole at x = Some (expr.StringLiteral at x.0, x.1)

literal_by : (at : ℕ) (first : List ℕ) (read : Reading (List (List ℕ))) →
    (read >>= (λ more. Some (expr.StringLiteral at (first ∷ more.0), more.1))) ≡
    (after (first ∷ []) read >>= whole at)
literal_by at first None = refl
literal_by at first (Some x) = refl

literal_is : (at : ℕ) (first : List ℕ) (s : State) →
    literal_at at first s ≡ (after (first ∷ []) (run_at a_literal (suc (length s.0)) s) >>= whole at)
unfolding literal_at
literal_is at first s = literal_by at first (run_at a_literal (suc (length s.0)) s)

pub literal_goes : (at : ℕ) (first : List ℕ) (pieces : List (List ℕ)) (s z : State) →
    after (first ∷ []) (run_at a_literal (suc (length s.0)) s) ≡ Some (pieces, z) →
    literal_at at first s ≡ Some (expr.StringLiteral at pieces, z)
literal_goes at first pieces s z is = literal_is at first s ∙ rw is refl

literal_none : (at : ℕ) (first : List ℕ) (s : State) →
    after (first ∷ []) (run_at a_literal (suc (length s.0)) s) ≡ None → literal_at at first s ≡ None
literal_none at first s is = literal_is at first s ∙ rw is refl

pub literal_fails : (at : ℕ) (first : List ℕ) (s : State) (f : ParseFault) →
    Fails f (after (first ∷ []) (run_at a_literal (suc (length s.0)) s)) → Fails f (literal_at at first s)
literal_fails at first s fault.Memory none = tt
literal_fails at first s (fault.Syntax p) none = literal_none at first s none
literal_fails at first s (fault.TooDeep p) none = literal_none at first s none
