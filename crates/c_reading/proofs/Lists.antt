-- Lists that a loop reads to its end.
use Rattle.std.proofs.Common.{
  ◌≡◌,
  ℕ,
  zero,
  suc,
  List,
  [],
  ◌∷◌,
  ◌++◌,
  Option,
  Some,
  None,
  false,
  refl,
  sym,
  ap,
  ◌∙◌,
  append_assoc,
}
use Rattle.c_language.specs.declared.token.TokenKind.{TokenKind}
use Rattle.c_language.specs.declared.token.Token.{Token}
use Rattle.c_grammar.specs.Parts.{State, Scope}
use Rattle.c_grammar.specs.Reading.{Reading, ◌>>=◌, run_at, begins_by}
use Rattle.c_reading.specs.Cursor.{Takes, after, taken_by}

pub after_nothing : {A : Type 0} (read : Reading (List A)) → after [] read ≡ read
after_nothing None = refl
after_nothing (Some x) = refl

pub after_twice : {A : Type 0} (front : List A) (x : A) (read : Reading (List A)) →
    after (front ++ x ∷ []) read ≡ after front (read >>= (λ y. Some (x ∷ y.0, y.1)))
after_twice front x None = refl
after_twice front x (Some y) = ap (λ l. Some (l, y.1)) (append_assoc front (x ∷ []) y.0)

-- the next turn of such a loop
pub turned : {A : Type 0} (front : List A) (x : A) (read rest whole : Reading (List A)) →
    read ≡ (rest >>= (λ y. Some (x ∷ y.0, y.1))) → after front read ≡ whole → after (front ++ x ∷ []) rest ≡ whole
turned front x read rest whole is reads = after_twice front x rest ∙ ap (after front) (sym is) ∙ reads

-- its end
pub ended : {A : Type 0} (front : List A) (read whole : Reading (List A)) (s : State) → read ≡ Some ([], s) →
    after front read ≡ whole → whole ≡ Some (front ++ [], s)
ended front read whole s is reads = sym reads ∙ ap (after front) is

pub append_nothing : {A : Type 0} (xs : List A) → xs ++ [] ≡ xs
append_nothing [] = refl
append_nothing (x ∷ xs) = ap (λ l. x ∷ l) (append_nothing xs)

pub stopped : {A : Type 0} (front : List A) (read whole : Reading (List A)) (s : State) → read ≡ Some ([], s) →
    after front read ≡ whole → whole ≡ Some (front, s)
stopped front read whole s is reads = ended front read whole s is reads ∙ ap (λ l. Some (l, s)) (append_nothing front)

pub failed : {A : Type 0} (front : List A) (read whole : Reading (List A)) → read ≡ None →
    after front read ≡ whole → whole ≡ None
failed front read whole is reads = sym reads ∙ ap (after front) is

-- ---- words of a kind

begun_by : {A : Type 0} (wanted : TokenKind → Option A) (t : Token) (rest : List Token) (scope : Scope) (a : A)
    (z : State) (o : Option A) → wanted t.kind ≡ o →
    ◌>>=◌ {B = A × State} o (λ b. Some (b, (rest, scope))) ≡ Some (a, z) → (n : ℕ) →
    run_at wanted (suc n) (t ∷ rest, scope) ≡ (run_at wanted n z >>= (λ y. Some (a ∷ y.0, y.1)))
unfolding run_at
begun_by {A = A} wanted t rest scope a z None is h n = cc
begun_by {A = A} wanted t rest scope a z (Some b) is h n =
    let pair : ◌≡◌ {A = A × State} (b, (rest, scope)) (a, z) = cc in
    rw (is, sym (ap (λ w. w.0) pair), sym (ap (λ w. w.1) pair)) refl

begun : {A : Type 0} (wanted : TokenKind → Option A) (tokens : List Token) (scope : Scope) (a : A) (z : State) →
    taken_by wanted tokens scope ≡ Some (a, z) → (n : ℕ) →
    run_at wanted (suc n) (tokens, scope) ≡ (run_at wanted n z >>= (λ y. Some (a ∷ y.0, y.1)))
begun wanted [] scope a z h n = cc
begun wanted (t ∷ rest) scope a z h n = begun_by wanted t rest scope a z (wanted t.kind) refl h n

pub run_goes : {A : Type 0} (wanted : TokenKind → Option A) (m left : ℕ) (front : List A) (a : A) (s z : State)
    (whole : Reading (List A)) → left ≡ suc m → Takes wanted (Some a) s z →
    after front (run_at wanted left s) ≡ whole → after (front ++ a ∷ []) (run_at wanted m z) ≡ whole
run_goes wanted m left front a s z whole e takes reads =
    turned front a (run_at wanted left s) (run_at wanted m z) whole
    (ap (λ k. run_at wanted k s) e ∙ begun wanted s.0 s.1 a z takes m) reads

run_none : {A : Type 0} (wanted : TokenKind → Option A) (m : ℕ) (s : State) → begins_by wanted s.0 ≡ false →
    run_at wanted (suc m) s ≡ Some ([], s)
unfolding run_at
run_none wanted m s none = rw none refl

pub run_stops : {A : Type 0} (wanted : TokenKind → Option A) (m left : ℕ) (front : List A) (s z : State)
    (whole : Reading (List A)) → left ≡ suc m → Takes wanted None s z →
    after front (run_at wanted left s) ≡ whole → whole ≡ Some (front, z)
run_stops wanted m left front s z whole e takes reads =
    stopped front (run_at wanted left s) whole s (ap (λ k. run_at wanted k s) e ∙ run_none wanted m s takes.0)
    reads ∙ ap (λ w. Some (front, w)) takes.1

run_zero : {A : Type 0} (wanted : TokenKind → Option A) (s : State) → run_at wanted zero s ≡ None
unfolding run_at
run_zero wanted s = refl

pub run_out : {A : Type 0} (wanted : TokenKind → Option A) (left : ℕ) (front : List A) (s : State)
    (whole : Reading (List A)) → left ≡ 0 → after front (run_at wanted left s) ≡ whole → whole ≡ None
run_out wanted left front s whole e reads = failed front (run_at wanted left s) whole
    (ap (λ k. run_at wanted k s) e ∙ run_zero wanted s) reads
