-- The plans and numbers over what was noted are those of the source.
use Rattle.std.proofs.Common.{◌≡◌, ℕ, suc, ◌+◌, Bool, true, false, cond, ◌||◌, nat_eq, List, [], ◌∷◌, ◌++◌, map, length}
use Rattle.std.proofs.Common.{Option, Some, None, refl, sym, ap, ap₂, ◌∙◌, subst, arith}
use Rattle.std.proofs.lemmas.Bool.Decides.{nat_tests}
use Rattle.std.specs.Prelude.{option_map, not}
use Rattle.std.specs.Str.{bytes_eq}
use Rattle.c_language.specs.declared.scope.Entry.{Entry}
use Rattle.c_language.specs.Scopes.{Name, Scope}
use Rattle.c_means.specs.Items.{Lasting}
use Rattle.c_item_notes.specs.ItemTellings.{lasting_notes}
use Rattle.c_means.specs.Programs.{Function, Outer, Program, functions_in, function_if, function_named, has_function, is_needed}
use Rattle.c_means.specs.Programs.{watched_lasting, watches, in_blocks, in_file, is_bound, main', reached, needed_words}
use Rattle.c_item_notes.specs.Levels.{Judged}
use Rattle.c_reach.specs.declared.summaries.FunctionNotes.{FunctionNotes}
use Rattle.c_reach.specs.Reaching.{has_at}
use Rattle.c_reach.specs.Summaries.{function_notes}
use Rattle.c_program_notes.specs.declared.outers.OuterNotes.{OuterNotes}
use Rattle.c_program_notes.specs.declared.whole.Overview.{Overview}
use Rattle.c_program_notes.specs.Summaries.{outer_notes}
use Rattle.c_program_notes.specs.Watched as noted
use Rattle.c_program_notes.specs.Wholes.{overview_of}
use Rattle.core_programs.specs.Programs.{HasArguments}
use Rattle.core_units.specs.declared.plan.Plan.{Plan}
use Rattle.core_units.specs.Numbers.{next_number}
use Rattle.core_programs.specs.Marked.{reached_among}
use Rattle.core_units.specs.Overviews as spec
use Rattle.core_units.specs.Plans.{plan_of, watched_if, reached_if}
use Rattle.core_units.specs.Surroundings.{numbered_from}

-- the variables that a function names
blocks_same : (xs : List Lasting) (ats : List ℕ) (es : List Entry) → noted.in_blocks (lasting_notes xs) ats es ≡ in_blocks xs ats es
blocks_same [] ats es = refl
blocks_same (x ∷ xs) ats es =
    ap (λ fs. cond (is_bound x.at ats) (watches (Some x.entry) fs) fs) (blocks_same xs ats es)

watched_are : (j : Judged) (s : Scope) (f : Function) → noted.watched_lasting s (function_notes j f) ≡ watched_lasting s f
watched_are j s f = blocks_same f.body.lasting f.names.bound (in_file s f.names.uses)

-- whether a function is reached, by its offset
has_same : (j : Judged) (f : Function) (fs : List Function) → has_at f.at (map (function_notes j) fs) ≡ has_function f fs
has_same j f [] = refl
has_same j f (g ∷ gs) = ap (λ b. nat_eq f.at g.at || b) (has_same j f gs)

module _ (j : Judged) (p : Program) where
  abbrev over : Overview
  over = overview_of j p

  abbrev found : List Function
  found = reached j.profile p

  pub watched_same : (f : Option Function) → spec.watched_noted over (option_map (function_notes j) f) ≡ watched_if p f
  watched_same None = refl
  watched_same (Some f) = ap (λ es. Some es) (watched_are j p.scope f)

  reached_same : (f : Option Function) → spec.reached_noted over (option_map (function_notes j) f) ≡ reached_if found f
  reached_same None = refl
  reached_same (Some f) = has_same j f found

  plan_same : (o : Outer) → spec.plan_noted over (outer_notes j o)
      ≡ plan_of p (needed_words j.profile p) found o
  plan_same o =
      ap₂ (λ w r. record { is_needed = is_needed (needed_words j.profile p) o; is_reached = r; watched = w })
      (watched_same o.function) (reached_same o.function)

  pub plans_same : (os : List Outer) → map (spec.plan_noted over) (map (outer_notes j) os)
      ≡ map (plan_of p (needed_words j.profile p) found) os
  plans_same [] = refl
  plans_same (o ∷ os) = ap₂ (λ x xs. x ∷ xs) (plan_same o) (plans_same os)

-- numbers

module _ (j : Judged) (found : List Function) where
  abbrev notes : List FunctionNotes
  notes = map (function_notes j) found

  one_number : (n m : ℕ) (o : Option Function) (os : List Outer)
      → ((n m : ℕ) → spec.numbers_noted notes n m (map (outer_notes j) os) ≡ numbered_from found n m (functions_in os))
      → spec.numbers_if notes n m (option_map (function_notes j) o)
      ++ spec.numbers_noted notes (spec.number_behind notes n (option_map (function_notes j) o))
      (spec.other_behind notes m (option_map (function_notes j) o)) (map (outer_notes j) os)
      ≡ numbered_from found n m (function_if o (functions_in os))
  one_number n m None os ih = ih n m
  one_number n m (Some f) os ih =
      ap₂ (λ b xs. record { name = f.name; number = cond b n m } ∷ xs) (has_same j f found)
      (ap (λ b. spec.numbers_noted notes (next_number b n) (next_number (not b) m) (map (outer_notes j) os))
      (has_same j f found)
      ∙ ih (next_number (has_function f found) n) (next_number (not (has_function f found)) m))

  pub numbers_same : (os : List Outer) (n m : ℕ)
      → spec.numbers_noted notes n m (map (outer_notes j) os) ≡ numbered_from found n m (functions_in os)
  numbers_same [] n m = refl
  numbers_same (o ∷ os) n m = one_number n m o.function os (numbers_same os)

  counted : (b : Bool) (f : Function) (n : ℕ) (rest : List Function)
      → next_number b n + length rest ≡ n + length (cond b (f ∷ rest) rest)
  counted true f n rest = omega arith
  counted false f n rest = refl

  one_count : (n : ℕ) (o : Option Function) (os : List Outer)
      → ((n : ℕ) → spec.count_noted notes n (map (outer_notes j) os) ≡ n + length (reached_among found (functions_in os)))
      → spec.count_noted notes (spec.number_behind notes n (option_map (function_notes j) o)) (map (outer_notes j) os)
      ≡ n + length (reached_among found (function_if o (functions_in os)))
  one_count n None os ih = ih n
  one_count n (Some f) os ih =
      ap (λ b. spec.count_noted notes (next_number b n) (map (outer_notes j) os)) (has_same j f found)
      ∙ ih (next_number (has_function f found) n)
      ∙ counted (has_function f found) f n (reached_among found (functions_in os))

  nothing_behind : (n : ℕ) → n ≡ n + 0
  nothing_behind n = omega arith

  pub count_same : (os : List Outer) (n : ℕ)
      → spec.count_noted notes n (map (outer_notes j) os) ≡ n + length (reached_among found (functions_in os))
  count_same [] n = nothing_behind n
  count_same (o ∷ os) n = one_count n o.function os (count_same os)

-- `main`

module _ (j : Judged) where
  abbrev takes : Option Function → Option Bool
  takes f = option_map (λ f. nat_eq (length f.parameters) 2) f

  by_name : (b : Bool) (f : Function) (o : Option Function) (r : Option Bool) → r ≡ takes o
      → cond b (Some (nat_eq (length f.parameters) 2)) r ≡ takes (cond b (Some f) o)
  by_name true f o r is = refl
  by_name false f o r is = is

  one_main : (o : Option Function) (fs : List Function) (r : Option Bool) → r ≡ takes (function_named fs main')
      → cond (spec.is_named_main (option_map (function_notes j) o)) (spec.takes_two (option_map (function_notes j) o)) r
      ≡ takes (function_named (function_if o fs) main')
  one_main None fs r is = is
  one_main (Some f) fs r is = by_name (bytes_eq f.name main') f (function_named fs main') r is

  pub main_same : (os : List Outer) → spec.main_takes_two (map (outer_notes j) os)
      ≡ option_map (λ f. nat_eq (length f.parameters) 2) (function_named (functions_in os) main')
  main_same [] = refl
  main_same (o ∷ os) = one_main o.function (functions_in os) _ (main_same os)

not_two : (n : ℕ) → nat_eq (suc (suc (suc n))) 2 ≡ false
not_two n = grind (arith, nat_tests)

pub has_arguments : (es : List Entry) → HasArguments (nat_eq (length es) 2) es
has_arguments [] = tt
has_arguments (e ∷ []) = tt
has_arguments (e ∷ f ∷ []) = tt
has_arguments (e ∷ f ∷ g ∷ es) = subst (λ b. HasArguments b (e ∷ f ∷ g ∷ es)) (sym (not_two (length es))) tt
