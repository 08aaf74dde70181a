-- Calls from lists of states.
use Rattle.std.proofs.Common.{◌≡◌, ℕ, List, [], ◌∷◌, ◌++◌, Bool, true, false, cond, Option, Some, None, refl, sym, ap, subst, ◌∙◌}
use Rattle.term_bank.specs.declared.shape.Shape.{Shape}
use Rattle.term_bank.specs.Values.{Grows}
use Rattle.term_bank.proofs.BankLemmas.{grows_on}
use Rattle.path_states.specs.declared.state.State.{State}
use Rattle.path_states.specs.declared.state.Walked.{Walked}
use Rattle.path_states.specs.States.{Held, AllSized, IsSized, run_in, standing}
use Rattle.path_states.specs.Ways.{Way, Trial, Goes, Walks, Steps, Tries, to_list, ◌>>=◌, going, ending, tried, stay}
use Rattle.path_states.proofs.Paths.{walks_then, goes_joined}
use Rattle.path_forms.specs.Calling.{IsNobody, Joins}
use Rattle.path_forms.specs.Reaching.{Reaches}
use Rattle.path_forms.proofs.Reached.{goes_grown}

-- ---- one state

module _ {D : Type 0} (f : D → Option D) where
  stands_alone : (g : Bool) (w : D) (us : List D) (o : Option D) → cond g (w ∷ []) [] ≡ to_list o
      → us ≡ cond g (to_list (f w)) [] → us ≡ to_list (o >>= f)
  stands_alone true w us None j h = cc
  stands_alone true w us (Some x) j h =
      let same : w ≡ x = cc in
      h ∙ ap (λ y. to_list (f y)) same
  stands_alone false w us None j h = h
  stands_alone false w us (Some x) j h = cc

  stands_nowhere : (o : Option D) → [] ≡ to_list o → [] ≡ to_list (o >>= f)
  stands_nowhere None j = refl
  stands_nowhere (Some x) j = cc

alone_sized : (g : Bool) (w : Held) (o : Option Held) → cond g (w ∷ []) [] ≡ to_list o → AllSized o → g ≡ true
    → IsSized w.done.store
alone_sized true w None j k is = absurd (cc)
alone_sized true w (Some x) j k is =
    let same : x ≡ w = cc in
    let P : Held → Type 0 = λ y. IsSized y.done.store in
    subst P same k
alone_sized false w o j k is = absurd (cc)

goes_alone : (room : ℕ) (a b : List Shape) (s : State) (ts : List State) (f : Way) → Steps room a b s ts f
    → Goes room a b (s ∷ []) ts f
goes_alone room a b s ts f h = record {
  grows = h.grows;
  states = h.states;
  stands = λ e v m r o j k.
      stands_alone (f e v) (v s.guard.index).truth (run_in v s) (standing v ts) o j
      (h.stands e v m r (alone_sized (v s.guard.index).truth (run_in v s) o j k));
  sized = h.sized;
}

pub walks_alone : (room : ℕ) (a b : List Shape) (s : State) (w : Walked) (f : Trial) → Tries room a b s w f
    → Walks room a b (s ∷ []) w f
walks_alone room a b s w f h = record {
  going = goes_alone room a b s w.going (λ e v x. going (f e v x)) h.going;
  ended = goes_alone room a b s w.ended (λ e v x. ending (f e v x)) h.ended;
}

-- ---- no state

goes_nowhere : (room : ℕ) (a b c : List Shape) (s : State) (ts : List State) (f : Way) → Grows a b
    → Steps room b c s ts f → Goes room a c [] [] f
goes_nowhere room a b c s ts f g h = record {
  grows = grows_on g h.grows;
  states = tt;
  stands = λ e v m r o j k. stands_nowhere (f e v) o j;
  sized = h.sized;
}

pub walks_nowhere : (room : ℕ) (a b c : List Shape) (s : State) (w : Walked) (f : Trial) → IsNobody a b s
    → Tries room b c s w f
    → Walks room a c [] (record { going = []; ended = [] }) f
walks_nowhere room a b c s w f n h = record {
  going = goes_nowhere room a b c s w.going (λ e v x. going (f e v x)) n.grows h.going;
  ended = goes_nowhere room a b c s w.ended (λ e v x. ending (f e v x)) n.grows h.ended;
}

-- ---- behind others

pub reach_calls : (room : ℕ) (b c : List Shape) (w u : Walked) (g : Trial) → Walks room b c w.going u g
    → Reaches room b c w (record { going = u.going; ended = w.ended ++ u.ended }) g
reach_calls room b c w u g h = record {
  grows = h.going.grows;
  ready = record { going = h.going.states };
  reaches = λ a ss f k. walks_then room a b c ss w u f g k h;
}

pub joined_by : (a b : List Shape) (w : Walked) (ts : List State) → ((room : ℕ) → Goes room a b w.going ts stay)
    → Joins a b w (record { going = ts; ended = w.ended })
joined_by a b w ts h = record { ready = record { going = (h 0).states }; joined = h; ended = refl }

pub reach_joined : (room : ℕ) (a b c : List Shape) (w u x : Walked) (g : Trial) → Reaches room a b w u g → Joins b c u x
    → Reaches room a c w x g
reach_joined room a b c w u x g h j =
    let more : Goes room b c u.going x.going stay = j.joined room in
    record {
      grows = grows_on h.grows more.grows;
      ready = j.ready;
      reaches = λ k ss f i.
          let all = h.reaches k ss f i in
          let way : Way = λ e v y. ending (tried (f e v y) (g e v)) in
          let P : List State → Type 0 = λ l. Goes room k c ss l way in
          record {
            going = goes_joined room k b c ss u.going x.going (λ e v y. going (tried (f e v y) (g e v))) all.going more;
            ended = subst P (sym j.ended) (goes_grown room k b c more.grows ss u.ended way all.ended);
          };
    }
