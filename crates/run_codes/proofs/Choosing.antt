-- Selection: the value is found, and a side or a case is run.
use Rattle.std.proofs.Common.{◌≡◌, ℕ, ◌+◌, ℤ, Bool, true, false, cond, List, Option, Some, Ok, refl, sym, ap, ◌∙◌}
use Rattle.plain_data.specs.declared.run.Happening.TheVariants.{Branch}
use Rattle.plain_data.specs.declared.run.Side.TheVariants as side
use Rattle.c_language.specs.Integers.{is_zero}
use Rattle.c_means.specs.Parts.{Env}
use Rattle.c_machine.specs.Kinds.{is_running}
use Rattle.c_means.specs.Items.{past_switch}
use Rattle.core_tree.specs.declared.types.WordType.{WordType}
use Rattle.core_tree.specs.Numbers.{wrapped}
use Rattle.core_tree.specs.States.{Output, Done, Arrow, plain, note, onward, running, arrive, one_of, on_branch, with_value}
use Rattle.core_tree.specs.Values.{Value}
use Rattle.core_tree.specs.Codes.{Item, if_of, if_runs, switch_of, switch_runs, lived, in_turn, chosen_at}
use Rattle.core_running.specs.Settings.{Setting, level}
use Rattle.code_steps.specs.Stores.{Branched}
use Rattle.run_codes.proofs.Turning.{goes}

-- the side that a value takes
pub branch_takes : {A : Type 0} (b : Bool) (at : ℕ) (z : ℤ) (d e : Done Output) (go : Bool → Done Output → A)
    → Branched (Ok b) at z d e → on_branch plain at z go d ≡ go b e
branch_takes true at z d e go h =
    ap (λ c. cond c (go false (note plain (Branch at side.No) d)) (go true (note plain (Branch at side.Yes) d))) h.0
    ∙ ap (go true) (sym h.1)
branch_takes false at z d e go h =
    ap (λ c. cond c (go false (note plain (Branch at side.No) d)) (go true (note plain (Branch at side.Yes) d))) h.0
    ∙ ap (go false) (sym h.1)

module _ (s : Setting) (env : Env) where
  if_sides : ℕ → Value Output → Item Output → Item Output → ℕ → Bool → Arrow Output
  if_sides at c x y base b = one_of b (x.run (level s) env (base + c.needs.room s.measures))
      (y.run (level s) env (base + (c.needs.room s.measures + x.needs.room s.measures)))

  found_side : (b : Bool) (at base : ℕ) (c : Value Output) (x y : Item Output) (z : ℤ) (d e f : Done Output)
      → is_running d.kind ≡ true → c.run (level s) env base d ≡ Some (Ok (z, e)) → Branched (Ok b) at z e f
      → (if_of at c x y).run (level s) env base d ≡ if_sides at c x y base b f
  unfolding if_sides
  found_side b at base c x y z d e f on found took =
      goes (if_runs at c x y (level s) env base) d on
      ∙ ap (λ o. with_value o (λ v. on_branch plain at v (if_sides at c x y base))) found
      ∙ branch_takes b at z e f (if_sides at c x y base) took

  pub positive_side : (at base p : ℕ) (c : Value Output) (x y : Item Output) (z : ℤ) (d e f : Done Output)
      (r : Option (Done Output)) → p ≡ base + c.needs.room s.measures
      → is_running d.kind ≡ true → c.run (level s) env base d ≡ Some (Ok (z, e)) → Branched (Ok true) at z e f
      → x.run (level s) env p f ≡ r → (if_of at c x y).run (level s) env base d ≡ r
  unfolding if_sides
  positive_side at base p c x y z d e f r is on found took ran =
      found_side true at base c x y z d e f on found took ∙ ap (λ p. x.run (level s) env p f) (sym is) ∙ ran

  pub negative_side : (at base p : ℕ) (c : Value Output) (x y : Item Output) (z : ℤ) (d e f : Done Output)
      (r : Option (Done Output)) → p ≡ base + (c.needs.room s.measures + x.needs.room s.measures)
      → is_running d.kind ≡ true → c.run (level s) env base d ≡ Some (Ok (z, e)) → Branched (Ok false) at z e f
      → y.run (level s) env p f ≡ r → (if_of at c x y).run (level s) env base d ≡ r
  unfolding if_sides
  negative_side at base p c x y z d e f r is on found took ran =
      found_side false at base c x y z d e f on found took ∙ ap (λ p. y.run (level s) env p f) (sym is) ∙ ran

  pub switched : (at : ℕ) (word : WordType) (cases : List ℤ) (c : Value Output) (b : Bool) (xs : List (Item Output))
      (base p : ℕ) (z : ℤ) (d e f g h : Done Output) → p ≡ base + c.needs.room s.measures
      → is_running d.kind ≡ true → c.run (level s) env base d ≡ Some (Ok (z, e))
      → f ≡ chosen_at plain at cases (wrapped word z) e → lived (in_turn xs) (level s) env p f ≡ Some g
      → h ≡ arrive past_switch g
      → (switch_of at word cases c b xs).run (level s) env base d ≡ Some h
  switched at word cases c b xs base p z d e f g h is on found picked entered past =
      let x : Item Output = in_turn xs in
      let behind : Option (Done Output) → Option (Done Output) = λ o. onward o (λ r. Some (arrive past_switch r)) in
      let whole : ℤ → Arrow Output = λ v d. behind (lived x (level s) env (base + c.needs.room s.measures)
      (chosen_at plain at cases (wrapped word v) d)) in
      goes (switch_runs at word cases c x (level s) env base) d on
      ∙ ap (λ o. with_value o whole) found
      ∙ ap (λ q. behind (lived x (level s) env q (chosen_at plain at cases (wrapped word z) e))) (sym is)
      ∙ ap (λ y. behind (lived x (level s) env p y)) (sym picked)
      ∙ ap behind entered ∙ ap Some (sym past)
