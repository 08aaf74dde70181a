-- Two ways beside one another, and the sides of a branch.
use Rattle.std.proofs.Common.{◌≡◌, ℕ, List, [], ◌∷◌, ◌++◌, Bool, true, false, cond, Option, Some, None, refl, sym, ap, subst, ◌∙◌, append-nil}
use Rattle.std.specs.Prelude.{Result}
use Rattle.plain_data.specs.declared.run.Side.TheVariants as side
use Rattle.c_language.specs.Integers.{is_zero}
use Rattle.core_tree.specs.States.{Done}
use Rattle.term_bank.specs.declared.shape.Shape.{Shape}
use Rattle.term_bank.specs.Values.{Environment, Values}
use Rattle.term_bank.proofs.BankLemmas.{grows_on}
use Rattle.path_states.specs.declared.state.State.{State}
use Rattle.path_states.specs.declared.state.Walked.{Walked}
use Rattle.path_states.specs.States.{Held, IsSized, AllSized, standing}
use Rattle.path_states.specs.Ways.{Way, Trial, Goes, Walks, to_list, ◌>>=◌, going, ending, tried, stay}
use Rattle.path_states.proofs.Growth.{states_joined, standing_joined}
use Rattle.path_states.proofs.Paths.{goes_joined}
use Rattle.path_steps.specs.Branches.{takes, skips, noted_at, PartsAll}
use Rattle.path_steps.specs.declared.parting.Parted.{Parted}
use Rattle.path_steps.specs.Operands.{top}
use Rattle.path_forms.specs.declared.sides.Sides.{Sides}
use Rattle.path_forms.specs.Reaching.{Ready, Reaches, Beside, Meets, TurnsTo, Branches, Closes, by_way, passing, by_sides}
use Rattle.path_forms.proofs.Reached.{walks_grown, goes_grown, ready_grown}

-- ---- two ways

pub sized_beside : (x y z : Option Held) → to_list x ++ to_list y ≡ to_list z → AllSized x → AllSized y → AllSized z
sized_beside None None None e h k = tt
sized_beside None None (Some c) e h k = absurd (cc)
sized_beside None (Some b) None e h k = tt
sized_beside None (Some b) (Some c) e h k =
    let same : b ≡ c = cc in
    let P : Held → Type 0 = λ y. IsSized y.done.store in
    subst P same k
sized_beside (Some a) None None e h k = tt
sized_beside (Some a) None (Some c) e h k =
    let same : a ≡ c = cc in
    let P : Held → Type 0 = λ y. IsSized y.done.store in
    subst P same h
sized_beside (Some a) (Some b) z e h k = two z e
  where
    two : (z : Option Held) → a ∷ b ∷ [] ≡ to_list z → AllSized z
    two None e = tt
    two (Some c) e = absurd (cc)

beside_on : (o : Option Held) (f g k : Held → Option Held) → ((h : Held) → to_list (f h) ++ to_list (g h) ≡ to_list (k h))
    → to_list (o >>= f) ++ to_list (o >>= g) ≡ to_list (o >>= k)
beside_on None f g k h = refl
beside_on (Some x) f g k h = h x

pub goes_beside : (room : ℕ) (a b : List Shape) (ss ts us : List State) (f g k : Way)
    → ((e : Environment) (v : Values) (h : Held) → to_list (f e v h) ++ to_list (g e v h) ≡ to_list (k e v h))
    → Goes room a b ss ts f → Goes room a b ss us g → Goes room a b ss (ts ++ us) k
goes_beside room a b ss ts us f g k same h i = record {
  grows = h.grows;
  states = states_joined b ts us h.states i.states;
  stands = λ e v m r o j s.
      standing_joined v ts us
      ∙ ap (λ l. l ++ standing v us) (h.stands e v m r o j s)
      ∙ ap (λ l. to_list (o >>= f e v) ++ l) (i.stands e v m r o j s)
      ∙ beside_on o (f e v) (g e v) (k e v) (same e v);
  sized = λ e v m r d s. sized_beside (f e v d) (g e v d) (k e v d) (same e v d) (h.sized e v m r d s) (i.sized e v m r d s);
}

pub walks_beside : (room : ℕ) (a b : List Shape) (ss : List State) (w u : Walked) (f g k : Trial) → Beside f g k
    → Walks room a b ss w f → Walks room a b ss u g
    → Walks room a b ss (record { going = w.going ++ u.going; ended = w.ended ++ u.ended }) k
walks_beside room a b ss w u f g k both h i = record {
  going = goes_beside room a b ss w.going u.going (λ e v x. going (f e v x)) (λ e v x. going (g e v x)) (λ e v x. going (k e v x))
      both.going h.going i.going;
  ended = goes_beside room a b ss w.ended u.ended (λ e v x. ending (f e v x)) (λ e v x. ending (g e v x)) (λ e v x. ending (k e v x))
      both.ended h.ended i.ended;
}

-- ---- both sides met

pub walks_met : (room : ℕ) (a b c : List Shape) (ss : List State) (p : Sides) (u : Walked) (f g k : Trial) → Meets b c p u → Beside f g k
    → Walks room a b ss p.yes f → Walks room a b ss p.no g
    → Walks room a c ss (record { going = u.going; ended = p.yes.ended ++ p.no.ended }) k
walks_met room a b c ss p u f g k m both h i =
    let all = walks_beside room a b ss p.yes p.no f g k both h i in
    record {
      going = goes_joined room a b c ss (p.yes.going ++ p.no.going) u.going (λ e v x. going (k e v x)) all.going (m.joined room);
      ended = goes_grown room a b c m.grows ss (p.yes.ended ++ p.no.ended) (λ e v x. ending (k e v x)) all.ended;
    }

pub walks_turned : (room : ℕ) (a b c : List Shape) (ss : List State) (p q : Sides) (f : Trial) → TurnsTo b c p q
    → Walks room a b ss p.yes f → Walks room a c ss q.yes f
walks_turned room a b c ss p q f t h =
    let P : List State → Type 0 = λ l. Goes room a c ss l (λ e v x. ending (f e v x)) in
    record {
      going = goes_joined room a b c ss p.yes.going q.yes.going (λ e v x. going (f e v x)) h.going (t.joined room);
      ended = subst P (sym t.yes_ended) (goes_grown room a b c t.grows ss p.yes.ended (λ e v x. ending (f e v x)) h.ended);
    }

-- ---- the sides of a branch

module _ (c : Bool) (p q : Held) (f g : Held → Option (Result Held (Done ℕ))) where
  pub sides_going : to_list (going (tried (passing (cond c None (Some p))) f)) ++ to_list (going (tried (passing (cond c (Some q) None)) g))
      ≡ to_list (going (cond c (g q) (f p)))
  sides_going = elim c as (λ b. to_list (going (tried (passing (cond b None (Some p))) f))
      ++ to_list (going (tried (passing (cond b (Some q) None)) g)) ≡ to_list (going (cond b (g q) (f p)))) [
        | true ↦ refl
        | false ↦ append-nil (to_list (going (f p)))
      ]

  pub sides_ended : to_list (ending (tried (passing (cond c None (Some p))) f)) ++ to_list (ending (tried (passing (cond c (Some q) None)) g))
      ≡ to_list (ending (cond c (g q) (f p)))
  sides_ended = elim c as (λ b. to_list (ending (tried (passing (cond b None (Some p))) f))
      ++ to_list (ending (tried (passing (cond b (Some q) None)) g)) ≡ to_list (ending (cond b (g q) (f p)))) [
        | true ↦ refl
        | false ↦ append-nil (to_list (ending (f p)))
      ]

pub beside_sides : (at : ℕ) (f g : Trial)
    → Beside (λ e v h. tried (by_way (takes at) e v h) (f e v)) (λ e v h. tried (by_way (skips at) e v h) (g e v)) (by_sides at f g)
beside_sides at f g = record {
  going = λ e v h. sides_going (is_zero (top h.operands)) (noted_at at side.Yes h) (noted_at at side.No h) (f e v) (g e v);
  ended = λ e v h. sides_ended (is_zero (top h.operands)) (noted_at at side.Yes h) (noted_at at side.No h) (f e v) (g e v);
}

pub beside_as : (f f' g g' k : Trial) → ((e : Environment) (v : Values) (h : Held) → f e v h ≡ f' e v h)
    → ((e : Environment) (v : Values) (h : Held) → g e v h ≡ g' e v h) → Beside f g k → Beside f' g' k
beside_as f f' g g' k p q h = record {
  going = λ e v x.
      ap (λ o. to_list (going o) ++ to_list (going (g' e v x))) (sym (p e v x))
      ∙ ap (λ o. to_list (going (f e v x)) ++ to_list (going o)) (sym (q e v x)) ∙ h.going e v x;
  ended = λ e v x.
      ap (λ o. to_list (ending o) ++ to_list (ending (g' e v x))) (sym (p e v x))
      ∙ ap (λ o. to_list (ending (f e v x)) ++ to_list (ending o)) (sym (q e v x)) ∙ h.ended e v x;
}

-- ---- branches

none_ended : (room : ℕ) (a b : List Shape) (ss ts : List State) (f : Way) → Goes room a b ss ts f
    → Walks room a b ss (record { going = ts; ended = [] }) (by_way f)
none_ended room a b ss ts f h = record {
  going = record {
    grows = h.grows;
    states = h.states;
    stands = λ e v m r o j k. h.stands e v m r o j k ∙ ap to_list (passed o (f e v));
    sized = λ e v m r d k. all (f e v d) (h.sized e v m r d k);
  };
  ended = record {
    grows = h.grows;
    states = tt;
    stands = λ e v m r o j k. nothing o (f e v);
    sized = λ e v m r d k. never (f e v d);
  };
} where
  kept : (o : Option Held) → o ≡ going (passing o)
  kept None = refl
  kept (Some h) = refl

  passed : (o : Option Held) (g : Held → Option Held) → o >>= g ≡ o >>= (λ h. going (passing (g h)))
  passed None g = refl
  passed (Some h) g = kept (g h)

  all : (o : Option Held) → AllSized o → AllSized (going (passing o))
  all None k = tt
  all (Some h) k = k

  ends : (o : Option Held) → ending (passing o) ≡ None
  ends None = refl
  ends (Some h) = refl

  nothing : (o : Option Held) (g : Held → Option Held) → ◌≡◌ {A = List Held} [] (to_list (o >>= (λ h. ending (passing (g h)))))
  nothing None g = refl
  nothing (Some h) g = ap to_list (sym (ends (g h)))

  never : (o : Option Held) → AllSized (ending (passing o))
  never None = tt
  never (Some h) = tt

pub branched : (a b : List Shape) (w : Walked) (at : ℕ) (p : Parted) → PartsAll a b w.going at p
    → Branches a b w at (record {
      yes = record { going = p.yes; ended = [] };
      no = record { going = p.no; ended = [] };
      ended = w.ended;
    })
branched a b w at p h = record {
  grows = h.grows;
  ready = record { going = h.yes_states };
  other = record { going = h.no_states };
  yes = λ room. none_ended room a b w.going p.yes (takes at) (h.yes room);
  no = λ room. none_ended room a b w.going p.no (skips at) (h.no room);
  ended = refl;
}

pub closed : (room : ℕ) (a b c d : List Shape) (p : Sides) (y n u : Walked) (f g : Trial) → Reaches room a b p.yes y f
    → Reaches room b c p.no n g → Meets c d (record { yes = y; no = n; ended = p.ended }) u → Closes room a d p u f g
closed room a b c d p y n u f g h i m = record {
  grows = grows_on h.grows (grows_on i.grows m.grows);
  ready = m.ready;
  rest = y.ended ++ n.ended;
  ended = m.ended;
  closes = λ k ss s t way both yes no.
      walks_met room k c d ss (record { yes = y; no = n; ended = p.ended }) u (λ e v x. tried (s e v x) (f e v))
      (λ e v x. tried (t e v x) (g e v)) way m both
      (walks_grown room k b c i.grows ss y (λ e v x. tried (s e v x) (f e v)) (h.reaches k ss s yes))
      (i.reaches k ss t (walks_grown room k a b h.grows ss p.no t no));
}

-- ---- states joined

pub met : (a b : List Shape) (p : Sides) (ts : List State) → ((room : ℕ) → Goes room a b (p.yes.going ++ p.no.going) ts stay)
    → Meets a b p (record { going = ts; ended = p.ended ++ (p.yes.ended ++ p.no.ended) })
met a b p ts h = record { grows = (h 0).grows; ready = record { going = (h 0).states }; joined = h; ended = refl }

pub turned : (a b : List Shape) (p : Sides) (ts : List State) → Ready a p.no → ((room : ℕ) → Goes room a b p.yes.going ts stay)
    → TurnsTo a b p (record { yes = record { going = ts; ended = p.yes.ended }; no = p.no; ended = p.ended })
turned a b p ts waits h = record {
  grows = (h 0).grows;
  ready = ready_grown a b p.no (h 0).grows waits;
  first = record { going = (h 0).states };
  joined = h;
  yes_ended = refl;
  no = refl;
  ended = refl;
}
