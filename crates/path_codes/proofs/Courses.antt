-- Runs of which some are over, one step behind the other.
use Rattle.std.proofs.Common.{◌≡◌, ℕ, List, ◌∷◌, ◌++◌, Option, Some, None, refl, sym, ap, ◌∙◌, append_assoc}
use Rattle.core_tree.specs.States.{Done, Arrow, onward}
use Rattle.term_bank.specs.declared.shape.Shape.{Shape}
use Rattle.term_bank.specs.Values.{Environment, Values}
use Rattle.path_states.specs.declared.state.State.{State}
use Rattle.path_states.specs.States.{Held, AreStates}
use Rattle.path_states.specs.Ways.{Way, Goes, to_list, ◌>>=◌, stay}
use Rattle.path_states.proofs.Paths.{goes_then, goes_joined, goes_as}
use Rattle.path_arrows.specs.Arrows.{bared, by_arrow}
use Rattle.path_forms.proofs.Reached.{goes_grown}
use Rattle.path_forms.proofs.SideLemmas.{goes_beside}
use Rattle.path_codes.specs.Courses.{Splits, Toward}

-- ---- outcomes

-- of two outcomes the one that is there
abbrev either : Option Held → Option Held → Option Held
either None q = q
either (Some x) q = Some x

same_on : (o : Option Held) (f g : Held → Option Held) → ((h : Held) → f h ≡ g h) → o >>= f ≡ o >>= g
same_on None f g h = refl
same_on (Some d) f g h = h d

two : (a b : Held) (l : List Held) (w : Option Held) → a ∷ b ∷ l ≡ to_list w → ⊥
two a b l None h = cc
two a b l (Some c) h = cc

only : (p r : Option Held) (l : List Held) (w : Option Held) → to_list p ++ (to_list r ++ l) ≡ to_list w
    → to_list p ++ to_list r ≡ to_list (either p r)
only None r l w h = refl
only (Some a) None l w h = refl
only (Some a) (Some b) l w h = absurd (two a b l w h)

second : (f g k m : Held → Option Held) → ((h : Held) → to_list (f h) ++ to_list (g h >>= m) ≡ to_list (k h)) → (o : Option Held)
    → to_list (o >>= f) ++ to_list ((o >>= g) >>= m) ≡ to_list (o >>= k)
second f g k m next None = refl
second f g k m next (Some h) = next h

module _ (p q w : Option Held) (f g k m : Held → Option Held) (first : to_list p ++ to_list (q >>= k) ≡ to_list w)
    (next : (h : Held) → to_list (f h) ++ to_list (g h >>= m) ≡ to_list (k h)) where
  all_three : to_list p ++ (to_list (q >>= f) ++ to_list ((q >>= g) >>= m)) ≡ to_list w
  all_three = ap (λ l. to_list p ++ l) (second f g k m next q) ∙ first

  one_over : to_list p ++ to_list (q >>= f) ≡ to_list (either p (q >>= f))
  one_over = only p (q >>= f) (to_list ((q >>= g) >>= m)) w all_three

  leads_on : to_list (either p (q >>= f)) ++ to_list ((q >>= g) >>= m) ≡ to_list w
  leads_on =
      ap (λ l. l ++ to_list ((q >>= g) >>= m)) (sym one_over)
      ∙ append_assoc (to_list p) (to_list (q >>= f)) (to_list ((q >>= g) >>= m)) ∙ all_three

bare_then : (o : Option (Done ℕ)) (g : Arrow ℕ) → bared o >>= (λ h. bared (g h.done)) ≡ bared (onward o g)
bare_then None g = refl
bare_then (Some d) g = refl

-- ---- ways one behind the other

pub arrows_then : (room : ℕ) (a b c : List Shape) (ss ts us : List State) (f g : Environment → Arrow ℕ)
    → Goes room a b ss ts (by_arrow f) → Goes room b c ts us (by_arrow g)
    → Goes room a c ss us (by_arrow (λ e d. onward (f e d) (g e)))
arrows_then room a b c ss ts us f g h i =
    goes_as room a c ss us (λ e v x. by_arrow f e v x >>= by_arrow g e v) (by_arrow (λ e d. onward (f e d) (g e)))
    (λ e v x. bare_then (f e x.done) (g e)) (goes_then room a b c ss ts us (by_arrow f) (by_arrow g) h i)

pub arrows_as : (room : ℕ) (a b : List Shape) (ss ts : List State) (f g : Environment → Arrow ℕ)
    → ((e : Environment) (d : Done ℕ) → f e d ≡ g e d) → Goes room a b ss ts (by_arrow f) → Goes room a b ss ts (by_arrow g)
arrows_as room a b ss ts f g same h =
    goes_as room a b ss ts (by_arrow f) (by_arrow g) (λ e v x. ap bared (same e x.done)) h

-- ---- one step behind the other

module _ (room : ℕ) (a b c : List Shape) (ss over on : List State) (rest whole : Way) where
  pub splits_then : (over2 on2 : List State) (rest2 : Way) → Splits room a b ss over on rest whole
      → Splits room b c on over2 on2 rest2 rest → Splits room a c ss (over ++ over2) on2 rest2 whole
  splits_then over2 on2 rest2 h i =
      let ended : Way = λ e v x. either (h.over_way e v x) (h.on_way e v x >>= i.over_way e v) in
      record {
        over_way = ended;
        on_way = λ e v x. h.on_way e v x >>= i.on_way e v;
        over = goes_beside room a c ss over over2 h.over_way (λ e v x. h.on_way e v x >>= i.over_way e v) ended
            (λ e v x. one_over (h.over_way e v x) (h.on_way e v x) (whole e v x) (i.over_way e v) (i.on_way e v) (rest e v)
            (rest2 e v) (h.leads e v x) (i.leads e v))
            (goes_grown room a b c i.over.grows ss over h.over_way h.over)
            (goes_then room a b c ss on over2 h.on_way i.over_way h.on i.over);
        on = goes_then room a b c ss on on2 h.on_way i.on_way h.on i.on;
        leads = λ e v x. leads_on (h.over_way e v x) (h.on_way e v x) (whole e v x) (i.over_way e v) (i.on_way e v) (rest e v)
            (rest2 e v) (h.leads e v x) (i.leads e v);
      }

  -- what is left is done
  pub splits_goes : (us : List State) → Splits room a b ss over on rest whole → Goes room b c on us rest
      → Goes room a c ss (over ++ us) whole
  splits_goes us h i =
      goes_beside room a c ss over us h.over_way (λ e v x. h.on_way e v x >>= rest e v) whole h.leads
      (goes_grown room a b c i.grows ss over h.over_way h.over) (goes_then room a b c ss on us h.on_way rest h.on i)

  -- a part of what is left is done
  pub splits_on : (us : List State) (f rest2 : Way) → Splits room a b ss over on rest whole
      → ((e : Environment) (v : Values) (x : Held) → f e v x >>= rest2 e v ≡ rest e v x) → Goes room b c on us f
      → Splits room a c ss over us rest2 whole
  splits_on us f rest2 h same i = record {
    over_way = h.over_way;
    on_way = λ e v x. h.on_way e v x >>= f e v;
    over = goes_grown room a b c i.grows ss over h.over_way h.over;
    on = goes_then room a b c ss on us h.on_way f h.on i;
    leads = λ e v x.
        ap (λ o. to_list (h.over_way e v x) ++ to_list o) (then_on (h.on_way e v x) (f e v) (rest2 e v) (rest e v) (same e v))
        ∙ h.leads e v x;
  } where
    then_on : (o : Option Held) (f g k : Held → Option Held) → ((x : Held) → f x >>= g ≡ k x) → (o >>= f) >>= g ≡ o >>= k
    then_on None f g k same = refl
    then_on (Some x) f g k same = same x

  -- those that are over, in other states
  pub splits_joined : (ts : List State) → Splits room a b ss over on rest whole → AreStates b on → Goes room b c over ts stay
      → Splits room a c ss ts on rest whole
  splits_joined ts h are i = record {
    over_way = h.over_way;
    on_way = h.on_way;
    over = goes_joined room a b c ss over ts h.over_way h.over i;
    on = goes_grown room a b c i.grows ss on h.on_way h.on;
    leads = h.leads;
  }

  -- first a step, then these
  pub splits_behind : (over2 on2 : List State) (f rest2 : Way) → Goes room a b ss on f → Splits room b c on over2 on2 rest2 rest
      → ((e : Environment) (v : Values) (x : Held) → f e v x >>= rest e v ≡ whole e v x) → Splits room a c ss over2 on2 rest2 whole
  splits_behind over2 on2 f rest2 h i same = record {
    over_way = λ e v x. f e v x >>= i.over_way e v;
    on_way = λ e v x. f e v x >>= i.on_way e v;
    over = goes_then room a b c ss on over2 f i.over_way h i.over;
    on = goes_then room a b c ss on on2 f i.on_way h i.on;
    leads = λ e v x.
        second (i.over_way e v) (i.on_way e v) (rest e v) (rest2 e v) (i.leads e v) (f e v x) ∙ ap to_list (same e v x);
  }

-- the same, said otherwise
pub splits_as : (room : ℕ) (a b : List Shape) (ss over on : List State) (rest rest2 whole whole2 : Way)
    → ((e : Environment) (v : Values) (x : Held) → rest e v x ≡ rest2 e v x)
    → ((e : Environment) (v : Values) (x : Held) → whole e v x ≡ whole2 e v x)
    → Splits room a b ss over on rest whole → Splits room a b ss over on rest2 whole2
splits_as room a b ss over on rest rest2 whole whole2 left all h = record {
  over_way = h.over_way;
  on_way = h.on_way;
  over = h.over;
  on = h.on;
  leads = λ e v x.
      ap (λ o. to_list (h.over_way e v x) ++ to_list o)
      (same_on (h.on_way e v x) (rest2 e v) (rest e v) (λ y. sym (left e v y)))
      ∙ h.leads e v x ∙ ap to_list (all e v x);
}

-- what is left is done, and all are joined
pub splits_close : (room : ℕ) (a b c d : List Shape) (ss over on us ts : List State) (rest whole : Way)
    → Splits room a b ss over on rest whole → Goes room b c on us rest → Goes room c d (over ++ us) ts stay
    → Goes room a d ss ts whole
splits_close room a b c d ss over on us ts rest whole h i j =
    goes_joined room a c d ss (over ++ us) ts whole (splits_goes room a b c ss over on rest whole us h i) j

-- ---- what is left of a sequence

pub toward_next : (room : ℕ) (a b c : List Shape) (ss ts us : List State) (f rest left whole : Environment → Arrow ℕ)
    → Toward room a b ss ts left whole → ((e : Environment) (d : Done ℕ) → onward (f e d) (rest e) ≡ left e d)
    → Goes room b c ts us (by_arrow f) → Toward room a c ss us rest whole
toward_next room a b c ss ts us f rest left whole h same i = record {
  arrow = λ e d. onward (h.arrow e d) (f e);
  goes = arrows_then room a b c ss ts us h.arrow f h.goes i;
  leads = λ e d. then_on (h.arrow e d) (f e) (rest e) (left e) (same e) ∙ h.leads e d;
} where
  then_on : (o : Option (Done ℕ)) (f g k : Arrow ℕ) → ((d : Done ℕ) → onward (f d) g ≡ k d) → onward (onward o f) g ≡ onward o k
  then_on None f g k same = refl
  then_on (Some d) f g k same = same d

pub toward_end : (room : ℕ) (a b : List Shape) (ss ts : List State) (rest whole : Environment → Arrow ℕ)
    → Toward room a b ss ts rest whole → ((e : Environment) (d : Done ℕ) → rest e d ≡ Some d)
    → Goes room a b ss ts (by_arrow whole)
toward_end room a b ss ts rest whole h none =
    arrows_as room a b ss ts h.arrow whole (λ e d. ended (h.arrow e d) (rest e) (none e) ∙ h.leads e d) h.goes
  where
    ended : (o : Option (Done ℕ)) (f : Arrow ℕ) → ((d : Done ℕ) → f d ≡ Some d) → o ≡ onward o f
    ended None f same = refl
    ended (Some d) f same = sym (same d)
