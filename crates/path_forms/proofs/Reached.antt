-- Trials behind whatever led to the states.
use Rattle.std.proofs.Common.{◌≡◌, ℕ, List, [], ◌++◌, Option, Some, None, refl, sym, ap, subst, ◌∙◌}
use Rattle.std.specs.Prelude.{Result, Ok, Err}
use Rattle.core_tree.specs.States.{Done}
use Rattle.term_bank.specs.declared.shape.Shape.{Shape}
use Rattle.term_bank.specs.Values.{Environment, Values, Models, Grows}
use Rattle.term_bank.proofs.BankLemmas.{weaken, grows_on, stays as unchanged}
use Rattle.path_states.specs.declared.state.State.{State}
use Rattle.path_states.specs.declared.state.Walked.{Walked}
use Rattle.path_states.specs.States.{Held, AreStates, IsRoomy, AllSized}
use Rattle.path_states.specs.Ways.{Way, Trial, Goes, Walks, to_list, ◌>>=◌, going, ending, tried}
use Rattle.path_states.proofs.Growth.{states_grown}
use Rattle.path_states.proofs.Paths.{walks_then}
use Rattle.path_steps.specs.declared.leaf.Leaf.{Leaf}
use Rattle.path_steps.specs.Leaves.{leaf_way, HasRoom, Follows}
use Rattle.path_forms.specs.Reaching.{Ready, Reaches}

-- ---- outcomes one behind the other

pub assoc : (o : Option (Result Held (Done ℕ))) (f g : Held → Option (Result Held (Done ℕ)))
    → tried (tried o f) g ≡ tried o (λ h. tried (f h) g)
assoc None f g = refl
assoc (Some (Ok h)) f g = refl
assoc (Some (Err d)) f g = refl

same_on : (o : Option Held) (f g : Held → Option Held) → ((h : Held) → f h ≡ g h) → o >>= f ≡ o >>= g
same_on None f g h = refl
same_on (Some d) f g h = h d

-- ---- ways and trials said otherwise, in environments with the room

module _ (room : ℕ) (a b : List Shape) where
  pub goes_where : (ss ts : List State) (f g : Way)
      → ((e : Environment) (v : Values) → Models b e v → IsRoomy room e → (h : Held) → f e v h ≡ g e v h)
      → Goes room a b ss ts f → Goes room a b ss ts g
  goes_where ss ts f g same h = record {
    grows = h.grows;
    states = h.states;
    stands = λ e v m r o j k. h.stands e v m r o j k ∙ ap to_list (same_on o (f e v) (g e v) (same e v m r));
    sized = λ e v m r d k.
        let P : Option Held → Type 0 = λ o. AllSized o in
        subst P (same e v m r d) (h.sized e v m r d k);
  }

  pub walks_where : (ss : List State) (w : Walked) (f g : Trial)
      → ((e : Environment) (v : Values) → Models b e v → IsRoomy room e → (h : Held) → f e v h ≡ g e v h)
      → Walks room a b ss w f → Walks room a b ss w g
  walks_where ss w f g same h = record {
    going = goes_where ss w.going (λ e v x. going (f e v x)) (λ e v x. going (g e v x))
        (λ e v m r x. ap going (same e v m r x)) h.going;
    ended = goes_where ss w.ended (λ e v x. ending (f e v x)) (λ e v x. ending (g e v x))
        (λ e v m r x. ap ending (same e v m r x)) h.ended;
  }

-- ---- banks that grow

module _ (room : ℕ) (a b c : List Shape) (g : Grows b c) where
  pub goes_grown : (ss ts : List State) (f : Way) → Goes room a b ss ts f → Goes room a c ss ts f
  goes_grown ss ts f h = record {
    grows = grows_on h.grows g;
    states = states_grown g ts h.states;
    stands = λ e v m r o j k. h.stands e v (weaken g m) r o j k;
    sized = λ e v m r d k. h.sized e v (weaken g m) r d k;
  }

  pub walks_grown : (ss : List State) (w : Walked) (f : Trial) → Walks room a b ss w f → Walks room a c ss w f
  walks_grown ss w f h = record {
    going = goes_grown ss w.going (λ e v x. going (f e v x)) h.going;
    ended = goes_grown ss w.ended (λ e v x. ending (f e v x)) h.ended;
  }

pub ready_grown : (b c : List Shape) (w : Walked) → Grows b c → Ready b w → Ready c w
ready_grown b c w g h = record { going = states_grown g w.going h.going }

-- ---- trials behind others

pub reach_of : (room : ℕ) (b c : List Shape) (w u : Walked) (x : Leaf) → HasRoom room x → Follows b c w u x
    → Reaches room b c w u (leaf_way x)
reach_of room b c w u x has h = record {
  grows = h.grows;
  ready = record { going = h.going };
  reaches = λ a ss f k. h.follows room has a ss f k;
}

pub reach_then : (room : ℕ) (a b c : List Shape) (w u x : Walked) (f g : Trial) → Reaches room a b w u f → Reaches room b c u x g
    → Reaches room a c w x (λ e v h. tried (f e v h) (g e v))
reach_then room a b c w u x f g h i = record {
  grows = grows_on h.grows i.grows;
  ready = i.ready;
  reaches = λ k ss p q.
      walks_where room k c ss x (λ e v y. tried (tried (p e v y) (f e v)) (g e v)) (λ e v y. tried (p e v y) (λ z. tried (f e v z) (g e v)))
      (λ e v m r y. assoc (p e v y) (f e v) (g e v))
      (i.reaches k ss (λ e v y. tried (p e v y) (f e v)) (h.reaches k ss p q));
}

pub tried_same : (o : Option (Result Held (Done ℕ))) (f g : Held → Option (Result Held (Done ℕ))) → ((h : Held) → f h ≡ g h)
    → tried o f ≡ tried o g
tried_same None f g h = refl
tried_same (Some (Ok x)) f g h = h x
tried_same (Some (Err d)) f g h = refl

pub reach_where : (room : ℕ) (a b : List Shape) (w u : Walked) (f g : Trial)
    → ((e : Environment) (v : Values) → Models b e v → IsRoomy room e → (h : Held) → f e v h ≡ g e v h)
    → Reaches room a b w u f → Reaches room a b w u g
reach_where room a b w u f g same h = record {
  grows = h.grows;
  ready = h.ready;
  reaches = λ k ss p q.
      walks_where room k b ss u (λ e v y. tried (p e v y) (f e v)) (λ e v y. tried (p e v y) (g e v))
      (λ e v m r y. tried_same (p e v y) (f e v) (g e v) (same e v m r)) (h.reaches k ss p q);
}

-- nothing is done
pub reach_here : (room : ℕ) (b : List Shape) (w : Walked) → Ready b w → Reaches room b b w w (λ e v h. Some (Ok h))
reach_here room b w h = record {
  grows = unchanged;
  ready = h;
  reaches = λ k ss f i.
      walks_where room k b ss w f (λ e v y. tried (f e v y) (λ z. Some (Ok z))) (λ e v m r y. same (f e v y)) i;
} where
  same : (o : Option (Result Held (Done ℕ))) → o ≡ tried o (λ z. Some (Ok z))
  same None = refl
  same (Some (Ok h)) = refl
  same (Some (Err d)) = refl

-- the states that go on go on by a trial, and those that end so stand behind those that had ended
pub reach_behind : (room : ℕ) (a b c : List Shape) (w w' u : Walked) (rest : List State) (f g : Trial) → Reaches room a b w w' f
    → Walks room b c w'.going (record { going = u.going; ended = rest }) g → u.ended ≡ w'.ended ++ rest → Ready c u
    → Reaches room a c w u (λ e v h. tried (f e v h) (g e v))
reach_behind room a b c w w' u rest f g h i same ready = record {
  grows = grows_on h.grows i.going.grows;
  ready = ready;
  reaches = λ k ss p q.
      let all = walks_then room k b c ss w' (record { going = u.going; ended = rest }) (λ e v y. tried (p e v y) (f e v)) g
      (h.reaches k ss p q) i in
      let P : List State → Type 0 = λ l. Walks room k c ss (record { going = u.going; ended = l }) (λ e v y. tried (tried (p e v y) (f e v)) (g e v)) in
      walks_where room k c ss u (λ e v y. tried (tried (p e v y) (f e v)) (g e v)) (λ e v y. tried (p e v y) (λ z. tried (f e v z) (g e v)))
      (λ e v m r y. assoc (p e v y) (f e v) (g e v))
      (subst P (sym same) all);
}

-- nothing was done
pub walks_start : (room : ℕ) (a : List Shape) (ss : List State) → AreStates a ss
    → Walks room a a ss (record { going = ss; ended = [] }) (λ e v h. Some (Ok h))
walks_start room a ss are = record {
  going = record {
    grows = unchanged;
    states = are;
    stands = λ e v m r o j k. j ∙ ap to_list (stays o);
    sized = λ e v m r d k. k;
  };
  ended = record {
    grows = unchanged;
    states = tt;
    stands = λ e v m r o j k. nothing o;
    sized = λ e v m r d k. tt;
  };
} where
  stays : (o : Option Held) → o ≡ o >>= (λ h. Some h)
  stays None = refl
  stays (Some h) = refl

  nothing : (o : Option Held) → ◌≡◌ {A = List Held} [] (to_list (o >>= (λ (h : Held). None)))
  nothing None = refl
  nothing (Some h) = refl
