-- A state that is one with another one of a list.
use Rattle.std.proofs.Common.{◌≡◌, ℕ, zero, suc, List, [], ◌∷◌, ◌++◌, Bool, true, false, cond, Option, Some, None, refl, sym, ap, ◌∙◌}
use Rattle.std.proofs.Common.{append-nil}
use Rattle.std.specs.Prelude.{slice_get, slice_set}
use Rattle.term_bank.specs.declared.shape.Shape.{Shape}
use Rattle.term_bank.specs.Values.{Values}
use Rattle.term_bank.proofs.BankLemmas.{weaken, stays, grows_on}
use Rattle.path_states.specs.declared.state.State.{State}
use Rattle.path_states.specs.States.{Held, IsState, AreStates, AllSized, run_in, standing}
use Rattle.path_states.specs.Ways.{to_list, ◌>>=◌, stay, Goes}
use Rattle.path_states.specs.Merges.{Merges}
use Rattle.path_states.proofs.Growth.{states_grown, states_joined, standing_joined}

-- of two, at most one stands
one_of : {D : Type 0} (g h k : Bool) (x y z : D) (o : Option D) → k ≡ cond g true h → z ≡ cond g x y
    → cond g (x ∷ cond h (y ∷ []) []) (cond h (y ∷ []) []) ≡ to_list o → cond k (z ∷ []) [] ≡ to_list o
one_of true true k x y z None is a i = cc
one_of true true k x y z (Some w) is a i = cc
one_of true false k x y z o is a i = rw (is, a) i
one_of false true k x y z o is a i = rw (is, a) i
one_of false false k x y z o is a i = rw is i

-- a first that stands is alone
first_alone : {D : Type 0} (x : D) (xs ys : List D) (y : D) (h : Bool) (o : Option D)
    → x ∷ (xs ++ cond h (y ∷ []) []) ≡ to_list o → (xs ≡ []) × (h ≡ false) × (o ≡ Some x)
first_alone x [] ys y true None i = cc
first_alone x [] ys y true (Some w) i = cc
first_alone x [] ys y false None i = cc
first_alone x [] ys y false (Some w) i = let same : x ≡ w = cc in (refl, refl, ap (λ t. Some t) (sym same))
first_alone x (z ∷ zs) ys y h None i = cc
first_alone x (z ∷ zs) ys y h (Some w) i = cc

last_of : {D : Type 0} (g h k : Bool) (xs : List D) (x y z : D) (o : Option D) → k ≡ cond g true h → z ≡ cond g x y
    → cond g (x ∷ (xs ++ cond h (y ∷ []) [])) (xs ++ cond h (y ∷ []) []) ≡ to_list o → cond k (z ∷ xs) xs ≡ to_list o
last_of true h k xs x y z o is a i =
    let e = first_alone x xs [] y h o i in
    rw (is, a, e.0, e.2) refl
last_of false true k [] x y z None is a i = cc
last_of false true k (q ∷ qs) x y z None is a i = cc
last_of false true k [] x y z (Some w) is a i = rw (is, a) i
last_of false true k (q ∷ []) x y z (Some w) is a i = cc
last_of false true k (q ∷ q' ∷ qs) x y z (Some w) is a i = cc
last_of false false k xs x y z o is a i = rw is (sym (append-nil xs) ∙ i)

in_guard : {D : Type 0} (g : Bool) (x : D) (xs ys : List D) → cond g (x ∷ (xs ++ ys)) (xs ++ ys) ≡ cond g (x ∷ xs) xs ++ ys
in_guard true x xs ys = refl
in_guard false x xs ys = refl

one_joined : (xs ts : List Held) (g : Bool) (y : Held) (o : Option Held)
    → ((p : Option Held) → xs ≡ to_list p → AllSized p → ts ≡ to_list p) → xs ++ cond g (y ∷ []) [] ≡ to_list o
    → AllSized o → ts ++ cond g (y ∷ []) [] ≡ to_list o
one_joined [] ts true y o f j k = rw (f None refl tt) j
one_joined (x ∷ xs) ts true y None f j k = cc
one_joined (x ∷ []) ts true y (Some w) f j k = cc
one_joined (x ∷ x' ∷ xs) ts true y (Some w) f j k = cc
one_joined xs ts false y o f j k = append-nil ts ∙ f o (sym (append-nil xs) ∙ j) k

-- one more in front, which stands or not
in_front : {D : Type 0} (b h : Bool) (x y : D) (xs xs' : List D) (o : Option D)
    → ((p : Option D) → xs ++ cond h (y ∷ []) [] ≡ to_list p → xs' ≡ to_list p)
    → cond b (x ∷ xs) xs ++ cond h (y ∷ []) [] ≡ to_list o → cond b (x ∷ xs') xs' ≡ to_list o
in_front false h x y xs xs' o f k = f o k
in_front true h x y xs xs' o f k =
    let e = first_alone x xs [] y h o k in
    let none = f None (ap (λ l. l ++ cond h (y ∷ []) []) e.0 ∙ ap (λ b. cond b (y ∷ []) []) e.1) in
    ap (λ l. x ∷ l) none ∙ ap to_list (sym e.2)

module _ (v : Values) (s : State) where
  merged_in : (ss : List State) (i : ℕ) (t m : State) (o : Option Held) → slice_get ss i ≡ Some t
      → (v m.guard.index).truth ≡ cond (v t.guard.index).truth true (v s.guard.index).truth
      → run_in v m ≡ cond (v t.guard.index).truth (run_in v t) (run_in v s)
      → standing v ss ++ standing v (s ∷ []) ≡ to_list o → standing v (slice_set ss i m) ≡ to_list o
  merged_in [] i t m o at g is j = absurd (cc)
  merged_in (x ∷ xs) zero t m o at g is j =
      let same : x ≡ t = cc in
      last_of (v t.guard.index).truth (v s.guard.index).truth (v m.guard.index).truth (standing v xs) (run_in v t) (run_in v s)
      (run_in v m) o g is
      (in_guard (v t.guard.index).truth (run_in v t) (standing v xs) (standing v (s ∷ []))
      ∙ ap (λ y. cond (v y.guard.index).truth (run_in v y ∷ standing v xs) (standing v xs) ++ standing v (s ∷ [])) (sym same) ∙ j)
  merged_in (x ∷ xs) (suc i) t m o at g is j =
      in_front (v x.guard.index).truth (v s.guard.index).truth (run_in v x) (run_in v s) (standing v xs)
      (standing v (slice_set xs i m)) o (λ p k. merged_in xs i t m p at g is k) j

states_set : (b : List Shape) (ss : List State) (i : ℕ) (m : State) → AreStates b ss → IsState b m → AreStates b (slice_set ss i m)
states_set b [] i m are is = tt
states_set b (x ∷ xs) zero m are is = (is, are.1)
states_set b (x ∷ xs) (suc i) m are is = (are.0, states_set b xs i m are.1 is)

stays_to : {D : Type 0} (o : Option D) → o ≡ o >>= (λ d. Some d)
stays_to None = refl
stays_to (Some d) = refl

pub merged_at : (room : ℕ) (a b : List Shape) (ss : List State) (i : ℕ) (s t m : State) → slice_get ss i ≡ Some t
    → AreStates a ss → Merges a b t s m → Goes room a b (ss ++ s ∷ []) (slice_set ss i m) stay
merged_at room a b ss i s t m at are h = record {
  grows = h.grows;
  states = states_set b ss i m (states_grown h.grows ss are) h.state;
  stands = λ e v n r o j k.
      merged_in v s ss i t m o at (h.guard e v n) (h.is e v n) (sym (standing_joined v ss (s ∷ [])) ∙ j) ∙ ap to_list (stays_to o);
  sized = λ e v n r x k. k;
}

pub pushed : (room : ℕ) (a : List Shape) (ss : List State) → AreStates a ss → Goes room a a ss ss stay
pushed room a ss are = record {
  grows = stays;
  states = are;
  stands = λ e v n r o j k. j ∙ ap to_list (stays_to o);
  sized = λ e v n r x k. k;
}

pub more_pushed : (room : ℕ) (a : List Shape) (ss : List State) (s : State) → AreStates a ss → IsState a s
    → Goes room a a (ss ++ s ∷ []) (ss ++ s ∷ []) stay
more_pushed room a ss s are is = pushed room a (ss ++ s ∷ []) (states_joined a ss (s ∷ []) are (is, tt))

-- a state that joined the others
pub joined_more : (room : ℕ) (a b c : List Shape) (ss ts us : List State) (s : State)
    → Goes room a b ss ts stay → Goes room b c (ts ++ s ∷ []) us stay → Goes room a c (ss ++ s ∷ []) us stay
joined_more room a b c ss ts us s h i = record {
  grows = grows_on h.grows i.grows;
  states = i.states;
  stands = λ e v m r o j k.
      i.stands e v m r o
      (standing_joined v ts (s ∷ [])
      ∙ one_joined (standing v ss) (standing v ts) (v s.guard.index).truth (run_in v s) o
      (λ p l q. h.stands e v (weaken i.grows m) r p l q ∙ ap to_list (sym (stays_to p)))
      (sym (standing_joined v ss (s ∷ [])) ∙ j) k) k;
  sized = λ e v m r x k. k;
}
