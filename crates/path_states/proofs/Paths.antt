-- States one behind the other, and lists of them.
use Rattle.std.proofs.Common.{◌≡◌, ℕ, zero, suc, ◌<◌, ◌+◌, List, [], ◌∷◌, ◌++◌, length, take, Bool, true, false, cond}
use Rattle.std.proofs.Common.{Option, Some, None, get_or, refl, sym, ap, ◌∙◌, append-nil}
use Rattle.std.specs.Prelude.{slice_get, Result, Ok, Err}
use Rattle.std.proofs.lemmas.List.{take_more}
use Rattle.std.proofs.lemmas.Option.{slice_get_read}
use Rattle.core_tree.specs.States.{Done}
use Rattle.term_bank.specs.declared.shape.Shape.{Shape}
use Rattle.term_bank.specs.Values.{Environment, Values, Models, Grows}
use Rattle.term_bank.proofs.BankLemmas.{weaken, stays, grows_on}
use Rattle.path_states.specs.declared.state.State.{State}
use Rattle.path_states.specs.declared.state.Walked.{Walked}
use Rattle.path_states.specs.States.{Held, IsState, AreStates, IsRoomy, IsSized, AllSized, run_in, standing}
use Rattle.path_states.specs.Ways.{to_list, ◌>>=◌, Way, stay, Steps, Goes, Trial, going, ending, tried, Tries, Walks}
use Rattle.path_states.proofs.Growth.{states_grown, states_joined, standing_joined}

-- ---- items of lists

pub state_of : (b : List Shape) (i : ℕ) (ss : List State) (s : State) → AreStates b ss → slice_get ss i ≡ Some s → IsState b s
state_of b i [] s are is = absurd (cc)
state_of b zero (x ∷ xs) s are is = let same : x ≡ s = cc in rw (← same) are.0
state_of b (suc i) (x ∷ xs) s are is = state_of b i xs s are.1 is

pub item_of : (b : List Shape) (i : ℕ) (ss : List State) (s : State) → AreStates b ss → i < length ss → s ≡ get_or ss i s → IsState b s
item_of b i ss s are h is = state_of b i ss s are (slice_get_read ss (length ss) i s refl h is)

pub more_of : {A : Type 0} (ss : List A) (i : ℕ) (s : A) → i < length ss → s ≡ get_or ss i s → take (i + 1) ss ≡ take i ss ++ s ∷ []
more_of ss i s h is = take_more ss i s h ∙ ap (λ t. take i ss ++ t ∷ []) (sym is)

-- ---- at most one stands

ends_in : {D : Type 0} (xs : List D) (w : D) (o : Option D) → xs ++ w ∷ [] ≡ to_list o → (xs ≡ []) × (o ≡ Some w)
ends_in [] w None h = cc
ends_in [] w (Some x) h = let same : w ≡ x = cc in (refl, ap (λ t. Some t) (sym same))
ends_in (y ∷ ys) w None h = cc
ends_in (y ∷ []) w (Some x) h = cc
ends_in (y ∷ z ∷ ys) w (Some x) h = cc

-- what one more state becomes, where the others become this
one_more : (g : Bool) (xs ts us : List Held) (w : Held) (f : Held → Option Held) (o : Option Held)
    → ((p : Option Held) → xs ≡ to_list p → AllSized p → ts ≡ to_list (p >>= f))
    → ((g ≡ true → IsSized w.done.store) → us ≡ cond g (to_list (f w)) [])
    → xs ++ cond g (w ∷ []) [] ≡ to_list o → AllSized o → ts ++ us ≡ to_list (o >>= f)
one_more true xs ts us w f o h i j k =
    let e = ends_in xs w o j in
    let sized : AllSized (Some w) = rw e.1 at k in
    rw (h None e.0 tt, i (λ _. sized), e.1) refl
one_more false xs ts us w f o h i j k = rw (i (λ no. absurd (cc))) (append-nil ts ∙ h o (sym (append-nil xs) ∙ j) k)

pub goes_none : (room : ℕ) (a : List Shape) (f : Way)
    → ((e : Environment) (v : Values) → Models a e v → IsRoomy room e → (h : Held) → IsSized h.done.store → AllSized (f e v h))
    → Goes room a a [] [] f
goes_none room a f sized = record { grows = stays; states = tt; stands = λ e v m r o j k. none (f e v) o j; sized = sized } where
  none : (g : Held → Option Held) (o : Option Held) → [] ≡ to_list o → [] ≡ to_list (o >>= g)
  none g None h = refl
  none g (Some x) h = cc

pub goes_more : (room : ℕ) (a b c : List Shape) (ss ts us : List State) (s : State) (f : Way)
    → Goes room a b ss ts f → Steps room b c s us f → Goes room a c (ss ++ s ∷ []) (ts ++ us) f
goes_more room a b c ss ts us s f h i = record {
  grows = grows_on h.grows i.grows;
  states = states_joined c ts us (states_grown i.grows ts h.states) i.states;
  stands = λ e v m r o j k.
      standing_joined v ts us ∙
      one_more (v s.guard.index).truth (standing v ss) (standing v ts) (standing v us) (run_in v s) (f e v) o
      (h.stands e v (weaken i.grows m) r) (i.stands e v m r) (sym (standing_joined v ss (s ∷ [])) ∙ j) k;
  sized = i.sized;
}

-- ---- one behind the other

then_to : {D : Type 0} (o : Option D) (f g : D → Option D) → (o >>= f) >>= g ≡ o >>= (λ d. f d >>= g)
then_to None f g = refl
then_to (Some d) f g = refl

all_sized : (o : Option Held) (f : Held → Option Held) → ((h : Held) → IsSized h.done.store → AllSized (f h)) → AllSized o → AllSized (o >>= f)
all_sized None f h k = tt
all_sized (Some x) f h k = h x k

pub goes_then : (room : ℕ) (a b c : List Shape) (ss ts us : List State) (f g : Way)
    → Goes room a b ss ts f → Goes room b c ts us g → Goes room a c ss us (λ e v h. f e v h >>= g e v)
goes_then room a b c ss ts us f g h i = record {
  grows = grows_on h.grows i.grows;
  states = i.states;
  stands = λ e v m r o j k.
      let mb = weaken i.grows m in
      i.stands e v m r (o >>= f e v) (h.stands e v mb r o j k) (all_sized o (f e v) (h.sized e v mb r) k)
      ∙ ap to_list (then_to o (f e v) (g e v));
  sized = λ e v m r d k. all_sized (f e v d) (g e v) (i.sized e v m r) (h.sized e v (weaken i.grows m) r d k);
}

stays_so : {D : Type 0} (o : Option D) → o >>= (λ d. Some d) ≡ o
stays_so None = refl
stays_so (Some d) = refl

-- the same runs, in other states
pub goes_joined : (room : ℕ) (a b c : List Shape) (ss ts us : List State) (f : Way)
    → Goes room a b ss ts f → Goes room b c ts us stay → Goes room a c ss us f
goes_joined room a b c ss ts us f h i = record {
  grows = grows_on h.grows i.grows;
  states = i.states;
  stands = λ e v m r o j k.
      let mb = weaken i.grows m in
      i.stands e v m r (o >>= f e v) (h.stands e v mb r o j k) (all_sized o (f e v) (h.sized e v mb r) k)
      ∙ ap to_list (stays_so (o >>= f e v));
  sized = λ e v m r d k. h.sized e v (weaken i.grows m) r d k;
}

same_on : {D : Type 0} (o : Option D) (f g : D → Option D) → ((d : D) → f d ≡ g d) → o >>= f ≡ o >>= g
same_on None f g h = refl
same_on (Some d) f g h = h d

-- a way said otherwise
pub goes_as : (room : ℕ) (a b : List Shape) (ss ts : List State) (f g : Way)
    → ((e : Environment) (v : Values) (h : Held) → f e v h ≡ g e v h) → Goes room a b ss ts f → Goes room a b ss ts g
goes_as room a b ss ts f g same h = record {
  grows = h.grows;
  states = h.states;
  stands = λ e v m r o j k. h.stands e v m r o j k ∙ ap to_list (same_on o (f e v) (g e v) (same e v));
  sized = λ e v m r d k. rw (← same e v d) (h.sized e v m r d k);
}

pub steps_from : (room : ℕ) (a b c : List Shape) (s : State) (ts : List State) (f : Way) → Grows a b → Steps room b c s ts f → Steps room a c s ts f
steps_from room a b c s ts f g h = record { grows = grows_on g h.grows; states = h.states; stands = h.stands; sized = h.sized }

-- ---- expressions

pub walks_none : (room : ℕ) (a : List Shape) (f : Trial)
    → ((e : Environment) (v : Values) → Models a e v → IsRoomy room e → (h : Held) → IsSized h.done.store
    → AllSized (going (f e v h)) × AllSized (ending (f e v h)))
    → Walks room a a [] (record { going = []; ended = [] }) f
walks_none room a f sized = record {
  going = goes_none room a (λ e v h. going (f e v h)) (λ e v m r h k. (sized e v m r h k).0);
  ended = goes_none room a (λ e v h. ending (f e v h)) (λ e v m r h k. (sized e v m r h k).1);
}

pub walks_more : (room : ℕ) (a b c : List Shape) (ss : List State) (s : State) (w u : Walked) (f : Trial)
    → Walks room a b ss w f → Tries room b c s u f
    → Walks room a c (ss ++ s ∷ []) (record { going = w.going ++ u.going; ended = w.ended ++ u.ended }) f
walks_more room a b c ss s w u f h i = record {
  going = goes_more room a b c ss w.going u.going s (λ e v h. going (f e v h)) h.going i.going;
  ended = goes_more room a b c ss w.ended u.ended s (λ e v h. ending (f e v h)) h.ended i.ended;
}

goes_on : (o : Option (Result Held (Done ℕ))) (g : Held → Option (Result Held (Done ℕ)))
    → going o >>= (λ h. going (g h)) ≡ going (tried o g)
goes_on None g = refl
goes_on (Some (Ok h)) g = refl
goes_on (Some (Err d)) g = refl

ends_on : (o : Option (Result Held (Done ℕ))) (g : Held → Option (Result Held (Done ℕ)))
    → to_list (ending o) ++ to_list (going o >>= (λ h. ending (g h))) ≡ to_list (ending (tried o g))
ends_on None g = refl
ends_on (Some (Ok h)) g = refl
ends_on (Some (Err d)) g = refl

ends_all : (o : Option Held) (f : Held → Option (Result Held (Done ℕ))) (g : Held → Option (Result Held (Done ℕ)))
    → to_list (o >>= (λ h. ending (f h))) ++ to_list ((o >>= (λ h. going (f h))) >>= (λ h. ending (g h)))
    ≡ to_list (o >>= (λ h. ending (tried (f h) g)))
ends_all None f g = refl
ends_all (Some h) f g = ends_on (f h) g

ended_sized : (o : Option (Result Held (Done ℕ))) (g : Held → Option (Result Held (Done ℕ)))
    → ((h : Held) → IsSized h.done.store → AllSized (ending (g h))) → AllSized (going o) → AllSized (ending o) → AllSized (ending (tried o g))
ended_sized None g h k l = tt
ended_sized (Some (Ok x)) g h k l = h x k
ended_sized (Some (Err d)) g h k l = l

-- those that go on go on, and those that have ended are beside them
pub walks_then : (room : ℕ) (a b c : List Shape) (ss : List State) (w u : Walked) (f g : Trial)
    → Walks room a b ss w f → Walks room b c w.going u g
    → Walks room a c ss (record { going = u.going; ended = w.ended ++ u.ended }) (λ e v h. tried (f e v h) (g e v))
walks_then room a b c ss w u f g h i = record {
  going = goes_as room a c ss u.going (λ e v x. going (f e v x) >>= (λ y. going (g e v y))) (λ e v x. going (tried (f e v x) (g e v)))
      (λ e v x. goes_on (f e v x) (g e v))
      (goes_then room a b c ss w.going u.going (λ e v x. going (f e v x)) (λ e v x. going (g e v x)) h.going i.going);
  ended = record {
    grows = grows_on h.going.grows i.going.grows;
    states = states_joined c w.ended u.ended (states_grown i.ended.grows w.ended h.ended.states) i.ended.states;
    stands = λ e v m r o j k.
        let mb = weaken i.ended.grows m in
        standing_joined v w.ended u.ended
        ∙ ap (λ l. l ++ standing v u.ended) (h.ended.stands e v mb r o j k)
        ∙ ap (λ l. to_list (o >>= (λ x. ending (f e v x))) ++ l)
        (i.ended.stands e v m r (o >>= (λ x. going (f e v x))) (h.going.stands e v mb r o j k)
        (all_sized o (λ x. going (f e v x)) (h.going.sized e v mb r) k))
        ∙ ends_all o (f e v) (g e v);
    sized = λ e v m r x k.
        let mb = weaken i.ended.grows m in
        ended_sized (f e v x) (g e v) (i.ended.sized e v m r) (h.going.sized e v mb r x k) (h.ended.sized e v mb r x k);
  };
}
