-- The run along a log from the walk of `main`.
use Rattle.std.proofs.Common.{◌≡◌, ◌+◌, ◌-◌, ◌≤◌, ◌^◌, ℕ, suc, List, [], ◌∷◌, ◌++◌, Bool, false, cond, Option, Some, None, refl, sym, ap, subst, ◌∙◌, arith}
use Rattle.core_tree.specs.States.{Done, along, onward, running, where_running}
use Rattle.core_tree.specs.Programs.{behind, called_main, given_arguments}
use Rattle.term_bank.specs.declared.shape.Shape.{Shape}
use Rattle.term_bank.specs.Values.{Environment}
use Rattle.term_bank.proofs.BankLemmas.{weaken, grows_on}
use Rattle.path_states.specs.declared.state.State.{State}
use Rattle.path_states.specs.Ways.{to_list}
use Rattle.path_arrows.specs.Arrows.{bared}
use Rattle.summary_compose.specs.declared.summary.Summary.{Summary}
use Rattle.summary_compose.specs.Renaming.{each_of}
use Rattle.summary_compose.specs.Summaries.{world_in}
use Rattle.path_summaries.specs.declared.levels.Levelled.{Levelled}
use Rattle.log_expr.specs.Tours.{Tour}
use Rattle.path_summaries.specs.Tours.{StandsFor, machine_in, room_in}
use Rattle.path_summaries.specs.Levels.{Levels, IsLevelled}
use Rattle.run_formula.specs.Settings.{readied, Readies}
use Rattle.run_formula.specs.Arguments.{TakesGiven, places_given}
use Rattle.run_formula.specs.Whole.{main_arrow, main_from, main_list, IsMain, EntersAll, HasRoom, RunsAll}
use Rattle.run_formula.proofs.ArgumentLaws.{few_arguments}
use Rattle.run_formula.proofs.Readied.{onward_same}
use Rattle.run_formula.proofs.Entered.{enters_run}

-- ---- all worlds at once

no_more : {A : Type 0} (xs : List A) → xs ++ [] ≡ xs
no_more [] = refl
no_more (x ∷ xs) = ap (λ l. x ∷ l) (no_more xs)

one_list : (t : Tour) (e : Environment) (o : Option (Done ℕ))
    → each_of (main_list t e) (to_list (bared o)) ≡ to_list (bared (onward o (running (main_arrow t e))))
one_list t e None = refl
one_list t e (Some d) = no_more (to_list (bared (running (main_arrow t e) d)))

as_it_comes : (o : Option (Done ℕ)) (d : Done ℕ) → o ≡ onward o (λ r. Some (behind (along []) d r))
as_it_comes None d = refl
as_it_comes (Some r) d = refl

-- what is called is `main`
called : (t : Tour) (e : Environment) (d : Done ℕ) → running (main_arrow t e) d ≡ running (called_main (machine_in t (world_in e))) d
called t e d =
    let given = given_arguments t.core.has_arguments (machine_in t (world_in e)) (suc t.core.places) d in
    ap (λ o. where_running d.kind o (Some d)) (as_it_comes (main_from t e given) given)

told_room : (t : Tour) (b : List Shape) (l : Levelled) (place : ℕ) (s : Summary) → (i : StandsFor t b t.core.main (t.depth - 1) 0 s)
    → HasRoom t.core t.limits l.rooms place → IsLevelled t b t.depth l → 1 ≤ t.depth
    → (place + places_given t.core.has_arguments t.limits) + room_in t (t.depth - 1) i.function ≤ 2 ^ 32
told_room t b l place s i h levelled some =
    let depth : t.depth ≡ suc (t.depth - 1) = omega (arith, some) in
    let is : h.room ≡ room_in t (t.depth - 1) i.function = levelled.rooms (t.depth - 1) depth t.core.main h.room i.function h.told i.is in
    subst (λ r. (place + places_given t.core.has_arguments t.limits) + r ≤ 2 ^ 32) is h.within

pub runs_all : (t : Tour) (a b c d : List Shape) (l : Levelled) (place : ℕ) (s : Summary) (before ss : List State) (k m : ℕ) → 1 ≤ t.depth
    → (1 ≤ t.limits.arguments) × (t.limits.arguments ≤ 8) → Levels t a b t.depth l k m → HasRoom t.core t.limits l.rooms place
    → Readies t b c before → StandsFor t b t.core.main (t.depth - 1) 0 s → TakesGiven t.core.has_arguments s.parameters
    → EntersAll t.core.has_arguments t.limits c d s place before ss → RunsAll t a d ss
runs_all t a b c d l place s before ss k m some range levels room readies stands takes enters = record {
  grows = grows_on levels.grows (grows_on readies.grows enters.grows);
  states = enters.states;
  stand = λ e v m.
      let mc = weaken enters.grows m in
      enters_run t.core.has_arguments t.limits t e (readied t e) c d s place before ss v enters main m (readies.stand e v mc) (readies.sized e v mc)
      ∙ one_list t e (readied t e)
      ∙ ap (λ o. to_list (bared o))
      (onward_same (readied t e) (running (main_arrow t e)) (running (called_main (machine_in t (world_in e)))) (called t e));
} where
  main : IsMain t.core.has_arguments t.limits t c s place
  main = record {
    begun = b;
    grown = readies.grows;
    stands = stands;
    has = refl;
    limits = refl;
    few = λ w p. few_arguments t.limits w p range.0 range.1;
    takes = takes;
    behind = room.behind;
    within = told_room t b l place s stands room levels.levelled some;
  }
