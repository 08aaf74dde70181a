-- The arguments of a call, one after the other.
use Rattle.std.proofs.Common.{◌≡◌, ℕ, suc, List, [], ◌∷◌, ◌++◌, Some, None, true, false, refl, ap, ◌∙◌, arith}
use Rattle.std.specs.Prelude.{max, map}
use Rattle.c_language.specs.declared.token.Punctuator.TheVariants as mark
use Rattle.c_language.specs.declared.expr.Expr.{Expr}
use Rattle.c_grammar.specs.Grammar.{shape, highest_shape}
use Rattle.c_grammar.specs.Parts.{State}
use Rattle.c_grammar.specs.Reading.{Reading, Rules, ◌>>=◌, begins, expect, more_arguments_at}
use Rattle.c_reading.specs.declared.fault.ParseFault.{ParseFault}
use Rattle.c_reading.specs.declared.fault.ParseFault.TheVariants as fault
use Rattle.c_reading.specs.Cursor.{Fails, after}
use Rattle.c_reading.proofs.Lists.{turned, stopped, failed}

-- ---- heights

highest_more : (xs : List Expr) (x : Expr) → highest_shape (map shape (xs ++ x ∷ [])) ≡ max
    (highest_shape (map shape xs)) (shape x).height
highest_more [] x = omega arith
highest_more (y ∷ ys) x =
    let m = highest_more ys x in
    omega (arith, m)

pub height_arguments : (xs : List Expr) (x : Expr) (h0 h1 h : ℕ) → h0 ≡ highest_shape (map shape xs) →
    h1 ≡ (shape x).height → h ≡ max h0 h1 → h ≡ highest_shape (map shape (xs ++ x ∷ []))
height_arguments xs x h0 h1 h e0 e1 g =
    let m = highest_more xs x in
    omega (arith, m)

-- ---- the loop

argument_none : (r : Rules) (m left : ℕ) (s : State) → left ≡ suc m → begins mark.Comma s ≡ false →
    more_arguments_at r left s ≡ Some ([], s)
unfolding more_arguments_at
argument_none r m left s e none = rw (e, none) refl

argument_step : (r : Rules) (m left at : ℕ) (s z : State) (read : Reading Expr) → left ≡ suc m →
    begins mark.Comma s ≡ true → expect mark.Comma s ≡ Some (tt, at, z) → r.expr 15 z ≡ read
    → more_arguments_at r left s ≡ (read >>= (λ x. more_arguments_at r m x.1 >>=
    (λ more. Some (x.0 ∷ more.0, more.1))))
unfolding more_arguments_at
argument_step r m left at s z read e goes is reads = rw (e, goes, is, reads) refl

argument_zero : (r : Rules) (left : ℕ) (s : State) → left ≡ 0 → more_arguments_at r left s ≡ None
unfolding more_arguments_at
argument_zero r left s e = rw e refl

pub arguments_stop : (r : Rules) (m left : ℕ) (front : List Expr) (s : State) (whole : Reading (List Expr)) →
    left ≡ suc m → begins mark.Comma s ≡ false → after front (more_arguments_at r left s) ≡ whole →
    whole ≡ Some (front, s)
arguments_stop r m left front s whole e none reads = stopped front (more_arguments_at r left s) whole s
    (argument_none r m left s e none) reads

pub arguments_fail : (r : Rules) (m left at : ℕ) (front : List Expr) (s z : State) (whole : Reading (List Expr))
    (f : ParseFault) → left ≡ suc m → begins mark.Comma s ≡ true → expect mark.Comma s ≡ Some (tt, at, z) →
    Fails f (r.expr 15 z) → after front (more_arguments_at r left s) ≡ whole → Fails f whole
arguments_fail r m left at front s z whole fault.Memory e goes is none reads = tt
arguments_fail r m left at front s z whole (fault.Syntax p) e goes is none reads = failed front
    (more_arguments_at r left s) whole (argument_step r m left at s z None e goes is none) reads
arguments_fail r m left at front s z whole (fault.TooDeep p) e goes is none reads = failed front
    (more_arguments_at r left s) whole (argument_step r m left at s z None e goes is none) reads

pub arguments_next : (r : Rules) (m left at : ℕ) (front all : List Expr) (x : Expr) (s z w : State)
    (whole : Reading (List Expr)) → left ≡ suc m → begins mark.Comma s ≡ true →
    expect mark.Comma s ≡ Some (tt, at, z) → r.expr 15 z ≡ Some (x, w) → all ≡ front ++ x ∷ [] →
    after front (more_arguments_at r left s) ≡ whole → after all (more_arguments_at r m w) ≡ whole
arguments_next r m left at front all x s z w whole e goes is took appended reads =
    ap (λ l. after l (more_arguments_at r m w)) appended ∙ turned front x (more_arguments_at r left s)
    (more_arguments_at r m w) whole (argument_step r m left at s z (Some (x, w)) e goes is took) reads

pub arguments_out : (r : Rules) (left : ℕ) (front : List Expr) (s : State) (whole : Reading (List Expr)) →
    left ≡ 0 → after front (more_arguments_at r left s) ≡ whole → whole ≡ None
arguments_out r left front s whole e reads = failed front (more_arguments_at r left s) whole
    (argument_zero r left s e) reads
