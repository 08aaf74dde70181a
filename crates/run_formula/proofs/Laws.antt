-- What the run along a log says is what the run that prints says.
use Rattle.std.proofs.Common.{◌≡◌, ◌↔◌, ◌+◌, ℕ, ℤ, List, [], ◌∷◌, length, Bool, true, false}
use Rattle.std.proofs.Common.{cond, ◌&&◌, nat_eq, Option, Some, None, refl, sym, ap, subst, ◌∙◌, arith}
use Rattle.std.specs.List.{Any, starts_with}
use Rattle.plain_data.specs.declared.fact.Fact.{Fact}
use Rattle.plain_data.specs.declared.run.Event.{Event}
use Rattle.plain_data.specs.declared.fact.Fact.TheVariants as fact
use Rattle.log_text.specs.Shown.{StaysIn, Fits, Holds}
use Rattle.core_tree.specs.States.{Done, Output, follows, plain}
use Rattle.core_tree.specs.Programs.{machine, end_of, nothing_left, ran, maybe_ran}
use Rattle.core_tree.proofs.Cut.{end_cut}
use Rattle.core_tree.proofs.CutStates.{prefix, starts_prefix, seen_as, CutsState}
use Rattle.std.specs.Prelude.{slice_get}
use Rattle.term_bank.specs.declared.sort.Node.{Node}
use Rattle.term_bank.specs.declared.sort.Sort.TheVariants as sort
use Rattle.term_bank.specs.Terms.{IsTerm}
use Rattle.term_bank.specs.declared.shape.Shape.{Shape}
use Rattle.term_bank.specs.Values.{Environment, Values, Models}
use Rattle.term_bank.proofs.BankLemmas.{weaken, grows_on}
use Rattle.path_states.specs.declared.state.State.{State}
use Rattle.summary_compose.specs.Summaries.{world_in}
use Rattle.log_expr.specs.Tours.{Tour}
use Rattle.run_formula.specs.declared.questions.Question.{Question}
use Rattle.run_formula.specs.declared.questions.Question.TheVariants as question
use Rattle.run_formula.specs.Whole.{run_in_world, RunsAll}
use Rattle.run_formula.specs.Questions.{OneOf, shown, MeetsOn, IsAnswer, AnswerAll, AsksAll, TellsStates}
use Rattle.run_formula.specs.Formula.{OfRun, the_run, FitsIn, LeavesIn, HoldsIn, SaysWhere, SaysFact, SayFacts}
use Rattle.run_formula.specs.Formula.{AnswersOther, AreObservations, IsFormula, IsSeenIf, Observes}
use Rattle.run_formula.specs.Sighted.{AreObserved, AreSightings, AreTruths, LacksAt, OneWhere, ShownIn, ShowsOther, StatesSighted, lists_in, truths}
use Rattle.run_formula.specs.Watched.{IsAt, SeesOther, Shows}
use Rattle.run_formula.specs.declared.watches.Watch.{Watch}
use Rattle.run_formula.specs.declared.formula.RunFormula.{RunFormula}
use Rattle.run_formula.specs.declared.observing.Observation.{Observation}
use Rattle.run_formula.specs.declared.seen.Seen.{Seen}
use Rattle.run_formula.specs.declared.sighting.Sightings.{Sightings}
use Rattle.run_formula.proofs.Asked.{any_one, back, both, answer_of, answer_grown, answers_run, one_any}
use Rattle.run_formula.proofs.Sights.{by_lists, events_of, observes_where, one_as, sees_shows, shown_alone}

-- ---- texts

both_true : (x y : Bool) → (x && y) ≡ true → (x ≡ true) × (y ≡ true)
both_true true true h = (refl, refl)
both_true true false h = absurd (cc)
both_true false y h = absurd (cc)

same_number : (x y : ℕ) → nat_eq x y ≡ true → x ≡ y
same_number x y h = grind (arith, h)

equal_self : (x : ℕ) → nat_eq x x ≡ true
equal_self x = grind arith

prefix_whole : (xs ys : List ℕ) → prefix xs ys ≡ true → length xs ≡ length ys → xs ≡ ys
unfolding prefix
prefix_whole [] [] h n = refl
prefix_whole [] (y ∷ ys) h n = absurd (omega (arith, n))
prefix_whole (x ∷ xs) [] h n = absurd (omega (arith, n))
prefix_whole (x ∷ xs) (y ∷ ys) h n =
    let parts = both_true (nat_eq x y) (prefix xs ys) h in
    let first : x ≡ y = same_number x y parts.0 in
    let rest : xs ≡ ys = prefix_whole xs ys parts.1 (omega (arith, n)) in
    ap (λ z. z ∷ xs) first ∙ ap (λ zs. y ∷ zs) rest

prefix_self : (xs : List ℕ) → prefix xs xs ≡ true
unfolding prefix
prefix_self [] = refl
prefix_self (x ∷ xs) = ap (λ b. b && prefix xs xs) (equal_self x) ∙ prefix_self xs

begins_self : (log text : List ℕ) → text ≡ log → starts_with nat_eq log text ≡ true
begins_self log text same = starts_prefix log text ∙ ap (λ t. prefix t log) same ∙ prefix_self log

-- ---- one run

nowhere : (P : Type 0) → (P → ⊥) → ⊥ ↔ P
nowhere P h = (λ k. absurd k, h)

on_same : (log : List ℕ) (q : Question) (r s : Option (Done ℕ)) → r ≡ s → MeetsOn log q r ↔ MeetsOn log q s
on_same log q r s same = (λ h. subst (MeetsOn log q) same h, λ h. subst (MeetsOn log q) (sym same) h)

wrong : {A : Type 0} (b : Bool) → b ≡ false → b ≡ true → A
wrong b h k = let no_way : false ≡ true = sym h ∙ k in absurd (cc)

fits_where : (log : List ℕ) (d : Done Output) (b : Bool) → starts_with nat_eq log d.out.printed ≡ b → d.out.count ≡ 0 + length d.out.printed
    → MeetsOn log question.Fits (cond b (Some (seen_as log d)) None) ↔ Fits log (ran d)
fits_where log d true is counted = (
  λ h. record {
    stays = h.0;
    prints = prefix_whole d.out.printed log (sym (starts_prefix log d.out.printed) ∙ is)
        (let at : d.out.count ≡ length log = h.1 in omega (arith, counted, at));
  },
  λ h. (h.stays, let long : length d.out.printed ≡ length log = ap length h.prints in omega (arith, counted, long)),
)
fits_where log d false is counted = nowhere (Fits log (ran d)) (λ h. wrong _ is (begins_self log d.out.printed h.prints))

left_where : (log : List ℕ) (d : Done Output) (b : Bool) → starts_with nat_eq log d.out.printed ≡ b
    → MeetsOn log question.Left (cond b (Some (seen_as log d)) None)
    ↔ ((StaysIn (ran d).finish → ⊥) × (starts_with nat_eq log d.out.printed ≡ true))
left_where log d true is = (λ h. (h, is), λ h. h.0)
left_where log d false is = nowhere _ (λ h. wrong _ is h.1)

holds_alike : (log : List ℕ) (d : Done Output) (f : Fact) → Holds log (shown log (seen_as log d)) f ↔ Holds log (ran d) f
holds_alike log d (fact.Branch at side) = (λ h. h, λ h. h)
holds_alike log d (fact.BranchIn at side line) = (λ h. h, λ h. h)
holds_alike log d (fact.Call at) = (λ h. h, λ h. h)
holds_alike log d (fact.CallIn at line) = (λ h. h, λ h. h)
holds_alike log d (fact.Print at line) = (λ h. h, λ h. h)
holds_alike log d (fact.StopAt kind at) = (λ h. h, λ h. h)
holds_alike log d fact.Returned = (λ h. h, λ h. h)
holds_alike log d fact.Exited = (λ h. h, λ h. h)
holds_alike log d fact.Aborted = (λ h. h, λ h. h)
holds_alike log d (fact.StopOf kind) = (λ h. h, λ h. h)

holds_where : (log : List ℕ) (d : Done Output) (f : Fact) (b : Bool) → starts_with nat_eq log d.out.printed ≡ b → Fits log (ran d)
    → MeetsOn log (question.Holds f) (cond b (Some (seen_as log d)) None) ↔ Holds log (ran d) f
holds_where log d f true is fits = holds_alike log d f
holds_where log d f false is fits = wrong _ is (begins_self log d.out.printed fits.prints)

fits_of : (log : List ℕ) (o : Option (Done Output)) (r : Option (Done ℕ)) → CutsState log 0 o r
    → MeetsOn log question.Fits r ↔ OfRun (Fits log) (maybe_ran o)
fits_of log None r h = on_same log question.Fits r None h
fits_of log (Some d) r h = both (on_same log question.Fits r _ h.1) (fits_where log d (follows log 0 d.out.printed) refl h.0)

left_of : (log : List ℕ) (o : Option (Done Output)) (r : Option (Done ℕ)) → CutsState log 0 o r
    → MeetsOn log question.Left r ↔ OfRun (λ x. (StaysIn x.finish → ⊥) × (starts_with nat_eq log x.printed ≡ true)) (maybe_ran o)
left_of log None r h = on_same log question.Left r None h
left_of log (Some d) r h = both (on_same log question.Left r _ h.1) (left_where log d (follows log 0 d.out.printed) refl)

holds_of : (log : List ℕ) (f : Fact) (o : Option (Done Output)) (r : Option (Done ℕ)) → CutsState log 0 o r → OfRun (Fits log) (maybe_ran o)
    → MeetsOn log (question.Holds f) r ↔ OfRun (λ x. Holds log x f) (maybe_ran o)
holds_of log f None r h fits = on_same log (question.Holds f) r None h
holds_of log f (Some d) r h fits =
    both (on_same log (question.Holds f) r _ h.1) (holds_where log d f (follows log 0 d.out.printed) refl fits)

some_where : (log : List ℕ) (d : Done Output) (P : Event → Type 0) (b : Bool) → starts_with nat_eq log d.out.printed ≡ b → Fits log (ran d)
    → OneOf P (events_of (cond b (Some (seen_as log d)) None)) ↔ Any P (ran d).events
some_where log d P true is fits = (λ h. any_one P d.events h, λ h. one_any P d.events h)
some_where log d P false is fits = wrong _ is (begins_self log d.out.printed fits.prints)

some_of : (log : List ℕ) (P : Event → Type 0) (o : Option (Done Output)) (r : Option (Done ℕ)) → CutsState log 0 o r → OfRun (Fits log) (maybe_ran o)
    → OneOf P (events_of r) ↔ OfRun (λ y. Any P y.events) (maybe_ran o)
some_of log P None r h fits = absurd fits
some_of log P (Some d) r h fits =
    both (let same = ap events_of h.1 in (λ g. subst (OneOf P) same g, λ g. subst (OneOf P) (sym same) g))
    (some_where log d P (follows log 0 d.out.printed) refl fits)

-- ---- in each world

cut : (t : Tour) (e : Environment)
    → CutsState t.log 0 (end_of (machine plain t.core (world_in e) t.limits t.depth) nothing_left) (run_in_world t e)
cut t e = end_cut t.log t.core (world_in e) t.limits t.depth

prints : Tour → Environment → Option (Done Output)
prints t e = end_of (machine plain t.core (world_in e) t.limits t.depth) nothing_left

pub fits_law : (t : Tour) (e : Environment) → MeetsOn t.log question.Fits (run_in_world t e) ↔ FitsIn t e
unfolding prints
fits_law t e = fits_of t.log (prints t e) (run_in_world t e) (cut t e)

pub left_law : (t : Tour) (e : Environment) → MeetsOn t.log question.Left (run_in_world t e) ↔ LeavesIn t e
unfolding prints
left_law t e = left_of t.log (prints t e) (run_in_world t e) (cut t e)

pub holds_law : (t : Tour) (e : Environment) (f : Fact) → FitsIn t e → MeetsOn t.log (question.Holds f) (run_in_world t e) ↔ HoldsIn t e f
unfolding prints
holds_law t e f fits = holds_of t.log f (prints t e) (run_in_world t e) (cut t e) fits

pub some_law : (t : Tour) (e : Environment) (P : Event → Type 0) → FitsIn t e
    → OneOf P (events_of (run_in_world t e)) ↔ OfRun (λ r. Any P r.events) (the_run t e)
unfolding prints
some_law t e P fits = some_of t.log P (prints t e) (run_in_world t e) (cut t e) fits

-- ---- the formula

module _ (t : Tour) (a b : List Shape) (ss : List State) (runs : RunsAll t a b ss) where
  says_where : (c : List Shape) (q : Question) (n : Node) (P : Environment → Type 0) → IsAnswer c t.log q ss n
      → ((e : Environment) (v : Values) → Models c e v → Models b e v) → ((e : Environment) → MeetsOn t.log q (run_in_world t e) ↔ P e)
      → SaysWhere c P n
  says_where c q n P h old law = record { term = h.term; is = λ e v m. both (answers_run t a b c q ss n runs h e v (old e v m) m) (law e) }

  says_fact : (c : List Shape) (f : Fact) (n : Node) → IsAnswer c t.log (question.Holds f) ss n
      → ((e : Environment) (v : Values) → Models c e v → Models b e v) → SaysFact t c f n
  says_fact c f n h old = record {
    term = h.term;
    is = λ e v m fits. both (answers_run t a b c (question.Holds f) ss n runs h e v (old e v m) m) (holds_law t e f fits);
  }

  say_facts : (c : List Shape) (fs : List Fact) (ns : List Node) → AnswerAll c t.log ss fs ns
      → ((e : Environment) (v : Values) → Models c e v → Models b e v) → SayFacts t c fs ns
  say_facts c [] [] h old = tt
  say_facts c [] (n ∷ ns) h old = h
  say_facts c (f ∷ fs) [] h old = h
  say_facts c (f ∷ fs) (n ∷ ns) h old = (says_fact c f n h.0 old, say_facts c fs ns h.1 old)

pub formula_is : (t : Tour) (a b c d f : List Shape) (ss : List State) (fits left : Node) (facts : List Fact) (ns : List Node) (ws : List Watch) (log : List ℕ)
    → RunsAll t a b ss → TellsStates b c t.log question.Fits ss fits → TellsStates c d t.log question.Left ss left → AsksAll d f t.log ss facts ns
    → log ≡ t.log
    → IsFormula t a f facts (record { fits = fits; left = left; facts = ns; watches = ws; states = ss; log = log })
formula_is t a b c d f ss fits left facts ns ws log runs h k j same =
    let cf = grows_on k.grows j.grows in
    let bf = grows_on h.grows cf in
    record {
      grows = grows_on runs.grows bf;
      fits = says_where t a b ss runs f question.Fits fits (FitsIn t)
          (answer_grown c f t.log question.Fits ss fits cf (answer_of b c t.log question.Fits ss fits h))
          (λ e v m. weaken bf m) (fits_law t);
      left = says_where t a b ss runs f question.Left left (LeavesIn t)
          (answer_grown d f t.log question.Left ss left j.grows (answer_of c d t.log question.Left ss left k))
          (λ e v m. weaken bf m) (left_law t);
      facts = say_facts t a b ss runs f facts ns j.answers (λ e v m. weaken bf m);
      ends = record { start = a; ended = b; runs = runs; grown = bf };
      log = same;
    }

-- ---- what prints see

any_as : {A : Type 0} (P Q : A → Type 0) → ((x : A) → P x ↔ Q x) → (xs : List A) → Any P xs ↔ Any Q xs
any_as P Q h xs = (
  λ k. any_one Q xs (one_as P Q (λ x. (h x).0) xs (one_any P xs k)),
  λ k. any_one P xs (one_as Q P (λ x. (h x).1) xs (one_any Q xs k)),
)

of_run_as : (P Q : Event → Type 0) → ((x : Event) → P x ↔ Q x) → (o : _) → OfRun (λ r. Any P r.events) o ↔ OfRun (λ r. Any Q r.events) o
of_run_as P Q h None = (λ k. k, λ k. k)
of_run_as P Q h (Some r) = any_as P Q h r.events

-- some print by the site that begins in the line shows what is so, exactly where a list that is shown is
pub sighted_law : (t : Tour) (a b c d : List Shape) (w : Watch) (ks : List ℕ) (ss : List State) (ns : List Node) (P : List ℤ → Type 0)
    → RunsAll t a b ss → StatesSighted c d t.log w ks ss ns → (e : Environment) (v : Values) → Models b e v → Models d e v → FitsIn t e
    → OfRun (λ r. Any (Shows t.log w P) r.events) (the_run t e) ↔ OneWhere P (truths v ns) (lists_in v ks)
sighted_law t a b c d w ks ss ns P runs h e v old m fits =
    both (back (some_law t e (Shows t.log w P) fits))
    (by_lists t.log w P (events_of (run_in_world t e)) (truths v ns) (lists_in v ks)
    (λ zs. both (back (shown_alone t.log w zs (run_in_world t e)))
    (subst (λ hs. OneOf (ShownIn t.log w zs) hs ↔ OneWhere (λ l. l ≡ zs) (truths v ns) (lists_in v ks)) (runs.stand e v old) (h.are e v m zs))))

pub other_answered : (a b c : List Shape) (r : RunFormula) (w : Watch) (x : ℤ) (s : Sightings) (n : Node) → AreSightings a b r.log w r.states s
    → ShowsOther b c s.lists s.truths w.place x n → AnswersOther a c r w x n
other_answered a b c r w x s n h k = record {
  grows = grows_on h.grows k.grows;
  term = k.term;
  says = λ t p q fs is g. record {
    term = k.term;
    is = λ e v m fits.
        let mb = weaken k.grows m in
        let seen : StatesSighted a b t.log w s.lists r.states s.truths = subst (λ log. AreSightings a b log w r.states s) is.log h in
        both (k.is e v m)
        (both (back (sighted_law t is.ends.start is.ends.ended a b w s.lists r.states s.truths (LacksAt w.place x) is.ends.runs seen e v
        (weaken (grows_on is.ends.grown (grows_on g h.grows)) mb) mb fits))
        (of_run_as (Shows t.log w (LacksAt w.place x)) (SeesOther t.log w x) (λ y. back (sees_shows t.log w x y)) (the_run t e)));
  };
}

observed_terms : (b : List Shape) (place : ℕ) (ks : List ℕ) (ns : List Node) (os : List Observation) → AreTruths b ns → AreObserved b place ks ns os
    → AreObservations b os
observed_terms b place [] [] [] terms h = tt
observed_terms b place [] [] (o ∷ os) terms h = absurd h
observed_terms b place [] (n ∷ ns) os terms h = absurd h
observed_terms b place (k ∷ ks) [] os terms h = absurd h
observed_terms b place (k ∷ ks) (n ∷ ns) [] terms h = absurd h
observed_terms b place (k ∷ ks) (n ∷ ns) (o ∷ os) terms h =
    (subst (IsTerm b sort.Truth) (sym h.0) terms.0, (seen_if o.seen h.1.0, observed_terms b place ks ns os terms.1 h.1.1))
  where
    seen_if : (x : Option Seen) → IsAt b k place x → IsSeenIf b x
    seen_if None h = tt
    seen_if (Some y) h = h.0

pub observations_are : (a b : List Shape) (r : RunFormula) (w : Watch) (s : Sightings) (os : List Observation) → AreSightings a b r.log w r.states s
    → AreObserved b w.place s.lists s.truths os → Observes a b r w os
observations_are a b r w s os h k = record {
  grows = h.grows;
  terms = observed_terms b w.place s.lists s.truths os h.terms k;
  says = λ t p q fs is g. record {
    is = λ e v m fits x.
        let seen : StatesSighted a b t.log w s.lists r.states s.truths = subst (λ log. AreSightings a b log w r.states s) is.log h in
        both (sighted_law t is.ends.start is.ends.ended a b w s.lists r.states s.truths (λ zs. slice_get zs w.place ≡ x) is.ends.runs seen e v
        (weaken (grows_on is.ends.grown (grows_on g h.grows)) m) m fits)
        (observes_where b w.place s.lists s.truths os k e v m x);
  };
}
