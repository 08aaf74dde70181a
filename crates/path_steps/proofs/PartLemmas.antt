-- The sides of a branch.
use Rattle.std.proofs.Common.{◌≡◌, ℕ, List, [], ◌∷◌, ◌++◌, Bool, true, false, not, cond, Some, None, refl, sym, ap, subst, ◌∙◌}
use Rattle.plain_data.specs.declared.run.Happening.TheVariants as happening
use Rattle.plain_data.specs.declared.run.Side.{Side}
use Rattle.plain_data.specs.declared.run.Side.TheVariants as side
use Rattle.c_language.specs.Integers.{is_zero}
use Rattle.core_tree.specs.States.{Done}
use Rattle.term_bank.specs.declared.sort.Sort.TheVariants as sort
use Rattle.term_bank.specs.declared.sort.Node.{Node}
use Rattle.term_bank.specs.declared.shape.Shape.{Shape}
use Rattle.term_bank.specs.Terms.{IsTerm}
use Rattle.term_bank.specs.Values.{Environment, Values, Models}
use Rattle.term_bank.proofs.BankLemmas.{weaken, stays, grows_on}
use Rattle.term_bank.proofs.TermLemmas.{term_grown}
use Rattle.path_states.specs.declared.state.Number.{Number}
use Rattle.path_states.specs.declared.state.State.{State}
use Rattle.path_states.specs.States.{Held, IsState, IsSized, AllSized, run_in, done_in, onto, number_in}
use Rattle.path_states.specs.Ways.{to_list, Halves}
use Rattle.path_states.proofs.Growth.{state_grown, states_grown, states_joined}
use Rattle.path_states.proofs.Paths.{goes_none, goes_more}
use Rattle.path_numbers.specs.Answers.{Truthful}
use Rattle.path_steps.specs.declared.parting.Parted.{Parted}
use Rattle.path_steps.specs.Branches.{noted_at, takes, skips, IsSided, PartsOne, PartsAll}
use Rattle.path_steps.specs.Operands.{Pops, top, under}
use Rattle.path_steps.proofs.Trials.{done_same}

module _ (a b : List Shape) (s t : State) (guard : Node) (at : ℕ) (k : Side) (h : IsSided a b s guard at k t) where
  sided_state : IsState b s → IsTerm b sort.Truth guard → IsState b t
  sided_state is g = subst (λ (u : State). IsState b u) (sym h.is)
      (record { guard = g; kind = is.kind; memory = is.memory; value = is.value; events = h.happened.term; operands = is.operands })

  sided_guard : (v : Values) → (v t.guard.index).truth ≡ (v guard.index).truth
  sided_guard v = ap (λ (u : State). (v u.guard.index).truth) h.is

  -- what the state with its side noted says, where it is another one's with its operand taken off
  sided_run : (e : Environment) (v : Values) (r : State) → Models b e v → s ≡ record r { operands = s.operands }
      → onto v [] s.operands ≡ under (onto v [] r.operands) → run_in v t ≡ noted_at at k (run_in v r)
  sided_run e v r m same rest =
      ap (λ (u : State). run_in v u) h.is
      ∙ ap (λ l. record { operands = onto v [] s.operands; done = record (done_in v s) { events = l } }) (h.happened.is e v m)
      ∙ ap (λ (d : Done ℕ). record {
        operands = onto v [] s.operands;
        done = record d { events = d.events ++ record { what = happening.Branch at k; printed = d.out } ∷ [] };
      }) (done_same v r s same)
      ∙ ap (λ l. record {
        operands = l;
        done = record (done_in v r) { events = (done_in v r).events ++ record { what = happening.Branch at k; printed = (done_in v r).out } ∷ [] };
      }) rest

takes_by : (g c z : Bool) (q : Bool) (h : Held) → q ≡ cond g c false → c ≡ not z → cond q (h ∷ []) [] ≡ cond g (to_list (cond z None (Some h))) []
takes_by true c true q h e k = rw (e, k) refl
takes_by true c false q h e k = rw (e, k) refl
takes_by false c z q h e k = rw e refl

skips_by : (g c z : Bool) (q : Bool) (h : Held) → q ≡ cond g (not c) false → c ≡ not z → cond q (h ∷ []) [] ≡ cond g (to_list (cond z (Some h) None)) []
skips_by true c true q h e k = rw (e, k) refl
skips_by true c false q h e k = rw (e, k) refl
skips_by false c z q h e k = rw e refl

takes_sized : (at : ℕ) (z : Bool) (h : Held) → IsSized h.done.store → AllSized (cond z None (Some (noted_at at side.Yes h)))
takes_sized at true h k = tt
takes_sized at false h k = k

skips_sized : (at : ℕ) (z : Bool) (h : Held) → IsSized h.done.store → AllSized (cond z (Some (noted_at at side.No h)) None)
skips_sized at true h k = k
skips_sized at false h k = tt

pub parted_one : (a b c d f g : List Shape) (s t : State) (x : Number) (truth one two : Node) (at : ℕ) (taking leaving : State)
    → Pops a b s t x → Truthful b c truth (λ v. not (is_zero (number_in v x))) → Halves c d t.guard truth one two
    → IsSided d f t one at side.Yes taking → IsSided f g t two at side.No leaving
    → PartsOne a g s at (record { yes = taking ∷ []; no = leaving ∷ [] })
parted_one a b c d f g s t x truth one two at taking leaving hp ht hh hy hn =
    let fg = hn.happened.grows in let df = hy.happened.grows in let dg = grows_on df fg in
    let cg = grows_on hh.grows dg in let bg = grows_on ht.grows cg in let ag = grows_on hp.grows bg in
    let bf = grows_on ht.grows (grows_on hh.grows df) in
    let guard_of : (v : Values) → (v t.guard.index).truth ≡ (v s.guard.index).truth = λ v. ap (λ (u : State). (v u.guard.index).truth) hp.same in
    let says : (e : Environment) (v : Values) → Models g e v → (v truth.index).truth ≡ not (is_zero (top (onto v [] s.operands))) =
    λ e v m. ht.is e v (weaken cg m) ∙ ap (λ z. not (is_zero z)) (hp.is e v (weaken bg m)) in
    record {
      yes = λ room. record {
        grows = ag;
        states = (state_grown fg taking (sided_state d f t taking one at side.Yes hy (state_grown bf t hp.state) (term_grown d f _ one df hh.yes_term)), tt);
        stands = λ e v m r k.
            ap (λ h. cond (v taking.guard.index).truth (h ∷ []) [])
            (sided_run d f t taking one at side.Yes hy e v s (weaken fg m) hp.same (hp.rest e v (weaken bg m)))
            ∙ takes_by (v s.guard.index).truth (v truth.index).truth (is_zero (top (onto v [] s.operands))) (v taking.guard.index).truth
            (noted_at at side.Yes (run_in v s))
            (sided_guard d f t taking one at side.Yes hy v ∙ hh.yes_is e v (weaken dg m)
            ∙ ap (λ (q : Bool). cond q (v truth.index).truth false) (guard_of v)) (says e v m);
        sized = λ e v m r h k. takes_sized at (is_zero (top h.operands)) h k;
      };
      no = λ room. record {
        grows = ag;
        states = (sided_state f g t leaving two at side.No hn (state_grown bg t hp.state) (term_grown d g _ two dg hh.no_term), tt);
        stands = λ e v m r k.
            ap (λ h. cond (v leaving.guard.index).truth (h ∷ []) [])
            (sided_run f g t leaving two at side.No hn e v s m hp.same (hp.rest e v (weaken bg m)))
            ∙ skips_by (v s.guard.index).truth (v truth.index).truth (is_zero (top (onto v [] s.operands))) (v leaving.guard.index).truth
            (noted_at at side.No (run_in v s))
            (sided_guard f g t leaving two at side.No hn v ∙ hh.no_is e v (weaken dg m)
            ∙ ap (λ (q : Bool). cond q (not (v truth.index).truth) false) (guard_of v)) (says e v m);
        sized = λ e v m r h k. skips_sized at (is_zero (top h.operands)) h k;
      };
    }

pub parts_none : (a : List Shape) (at : ℕ) → PartsAll a a [] at (record { yes = []; no = [] })
parts_none a at = record {
  grows = stays;
  yes_states = tt;
  no_states = tt;
  yes = λ room. goes_none room a (takes at) (λ e v m r h k. takes_sized at (is_zero (top h.operands)) h k);
  no = λ room. goes_none room a (skips at) (λ e v m r h k. skips_sized at (is_zero (top h.operands)) h k);
}

pub parts_more : (a b c : List Shape) (ss : List State) (s : State) (at : ℕ) (p q : Parted) → PartsAll a b ss at p → PartsOne b c s at q
    → PartsAll a c (ss ++ s ∷ []) at (record { yes = p.yes ++ q.yes; no = p.no ++ q.no })
parts_more a b c ss s at p q h i =
    let g = (i.yes 0).grows in
    record {
      grows = grows_on h.grows g;
      yes_states = states_joined c p.yes q.yes (states_grown g p.yes h.yes_states) (i.yes 0).states;
      no_states = states_joined c p.no q.no (states_grown g p.no h.no_states) (i.no 0).states;
      yes = λ room. goes_more room a b c ss p.yes q.yes s (takes at) (h.yes room) (i.yes room);
      no = λ room. goes_more room a b c ss p.no q.no s (skips at) (h.no room) (i.no room);
    }
