-- Steps as two lists of one length: their clauses and their hints.
use Rattle.std.proofs.Common.{◌≡◌, ◌++◌, ◌∷◌, [], ℕ, zero, suc, List, Some, map, length, take, refl, ap, arith}
use Rattle.std.specs.List.{slice_get}
use Rattle.cnf_core.specs.Literal.{Literal}
use Rattle.proof_check.specs.Steps.{clause_of, steps_of}

pub length-steps_of : (clauses : List (List Literal)) (hints : List (List ℕ)) → length clauses ≡ length hints → length (steps_of clauses hints) ≡ length clauses
length-steps_of [] hints e = refl
length-steps_of (c ∷ cs) [] e = absurd (omega arith)
length-steps_of (c ∷ cs) (h ∷ hs) e = ap (λ n. suc n) (length-steps_of cs hs (omega arith))

pub clauses-steps_of : (clauses : List (List Literal)) (hints : List (List ℕ)) → length clauses ≡ length hints → map clause_of (steps_of clauses hints) ≡ clauses
clauses-steps_of [] hints e = refl
clauses-steps_of (c ∷ cs) [] e = absurd (omega arith)
clauses-steps_of (c ∷ cs) (h ∷ hs) e = ap (λ t. c ∷ t) (clauses-steps_of cs hs (omega arith))

pub step-at : (clauses : List (List Literal)) (hints : List (List ℕ)) (i : ℕ) (c : List Literal) (h : List ℕ) → slice_get clauses i ≡ Some c → slice_get hints i ≡ Some h → slice_get (steps_of clauses hints) i ≡ Some (record { clause = c; hints = h })
step-at [] hints i c h at_c at_h = absurd (cc)
step-at (x ∷ xs) [] i c h at_c at_h = absurd (cc)
step-at (x ∷ xs) (y ∷ ys) zero c h at_c at_h = let e : x ≡ c = cc in let f : y ≡ h = cc in rw (e, f) refl
step-at (x ∷ xs) (y ∷ ys) (suc i) c h at_c at_h = step-at xs ys i c h at_c at_h

pub steps_of-push : (clauses : List (List Literal)) (hints : List (List ℕ)) (c : List Literal) (h : List ℕ) → length clauses ≡ length hints → steps_of (clauses ++ c ∷ []) (hints ++ h ∷ []) ≡ steps_of clauses hints ++ record { clause = c; hints = h } ∷ []
steps_of-push [] [] c h e = refl
steps_of-push [] (y ∷ ys) c h e = absurd (omega arith)
steps_of-push (x ∷ xs) [] c h e = absurd (omega arith)
steps_of-push (x ∷ xs) (y ∷ ys) c h e = ap (λ t. record { clause = x; hints = y } ∷ t) (steps_of-push xs ys c h (omega arith))

pub take-pushed : {X : Type 0} (xs : List X) (x : X) → take (length xs) (xs ++ x ∷ []) ≡ xs
take-pushed [] x = refl
take-pushed (y ∷ ys) x = ap (λ t. y ∷ t) (take-pushed ys x)
