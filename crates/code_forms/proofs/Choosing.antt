-- The core of a `switch` over any list of values that tells which its cases have.
use Rattle.std.proofs.Common.{◌≡◌, ℕ, ◌+◌, ℤ, Bool, true, false, cond, List, [], ◌∷◌, map, Option, Some, None}
use Rattle.std.proofs.Common.{refl, ap, ap₂, ◌∙◌}
use Rattle.std.specs.Prelude.{◌||◌}
use Rattle.plain_data.specs.declared.run.Happening.TheVariants as happening
use Rattle.plain_data.specs.declared.run.Side.TheVariants as side
use Rattle.c_language.specs.Integers.{converted, is_bool}
use Rattle.c_means.specs.declared.kind.Kind.TheVariants as k
use Rattle.c_means.specs.Parts.{State, note}
use Rattle.c_means.specs.Notes.{Noted}
use Rattle.c_means.specs.Items.{Case, past_switch}
use Rattle.c_means.specs.Items as runs
use Rattle.c_means.specs.Statements as statements
use Rattle.core_tree.specs.declared.code.Code.{Code}
use Rattle.core_tree.specs.declared.code.Code.TheVariants as tree
use Rattle.core_tree.specs.declared.expr.Expr.{Expr}
use Rattle.core_tree.specs.Numbers as numbers
use Rattle.core_tree.specs.States.{Output, plain, Taking, with_value, onward, arrive}
use Rattle.core_tree.specs.Values.{value}
use Rattle.core_tree.specs.Codes.{code, in_turn, lived}
use Rattle.core_tree.specs.Codes as core
use Rattle.core_tree.proofs.Equations as eq
use Rattle.elaborate.specs.Means.{Numbering, IsValueOf, IsCodeOf, as_done}
use Rattle.elaborate.specs.Types.{word_type}
use Rattle.elaborate.proofs.Numbers.{wrapped_same}
use Rattle.elaborate.proofs.Codes.{by_item, acting_acts, lived_same, with_same}
use Rattle.code_forms.specs.Contents.{AreCodesOf, value_if, case_values}

-- a value is among the cases where it is among their values
pub values_among : (z : ℤ) (xs : List Case) → core.is_among z (case_values xs) ≡ statements.is_among (Some z) xs
values_among z [] = refl
values_among z (x ∷ xs) = by_value x.value (values_among z xs) where
  by_value : (v : Option ℤ) → core.is_among z (case_values xs) ≡ statements.is_among (Some z) xs
      → core.is_among z (value_if v (case_values xs)) ≡ (statements.same_case (Some z) v || statements.is_among
      (Some z) xs)
  by_value None h = h
  by_value (Some w) h = ap (λ b. runs.same z w || b) h

chosen_by : Bool → ℕ → ℤ → State → State
chosen_by b at z d = runs.become (cond b (k.Choosing z) k.Defaulting)
    (note (happening.Branch at (cond b (side.Case z) side.Otherwise)) d)

chosen_as : (b : Bool) (at : ℕ) (z : ℤ) (d : State)
    → chosen_by b at z d ≡ statements.choose at (cond b (k.Choosing z) k.Defaulting) z d
unfolding chosen_by
chosen_as true at z d = refl
chosen_as false at z d = refl

chosen_plain : (zs : List ℤ) (at : ℕ) (z : ℤ) (d : State)
    → core.chosen_at plain at zs z (as_done d) ≡ as_done (chosen_by (core.is_among z zs) at z d)
unfolding chosen_by
chosen_plain zs at z d = refl

-- the branch that is noted, and where the run goes
chosen_same : (t : Taking Output) (at : ℕ) (zs : List ℤ) (xs : List Case) (z : ℤ) (d : State) → t ≡ plain
    → core.is_among z zs ≡ statements.is_among (Some z) xs
    → core.chosen_at t at zs z (as_done d) ≡ as_done (statements.choose at (statements.chosen xs z) z d)
chosen_same t at zs xs z d e h =
    ap (λ t. core.chosen_at t at zs z (as_done d)) e
    ∙ chosen_plain zs at z d
    ∙ ap (λ b. as_done (chosen_by b at z d)) h
    ∙ ap as_done (chosen_as (statements.is_among (Some z) xs) at z d)

module _ (numbering : Numbering) where
  pub switch_over : (at : ℕ) (e : Expr) (n : Noted) (is_node : Bool) (xs : List Code) (i : runs.Item) (zs : List ℤ)
      → IsValueOf numbering e n.part → is_bool (statements.switch_kind n) ≡ false
      → ((z : ℤ) → core.is_among z zs ≡ statements.is_among (Some z) i.cases) → AreCodesOf numbering xs i
      → IsCodeOf numbering (tree.Switch at (word_type (statements.switch_kind n)) zs e is_node xs)
      (record (statements.switch_item at n (runs.closed i)) {
        size = λ l. 1 + (n.part.size l + (core.counted is_node + i.size l));
      })
  switch_over at e n is_node xs i zs g whole among h = by_item numbering _ _ _
      (eq.does-Switch at (word_type (statements.switch_kind n)) zs e is_node xs)
      (acting_acts numbering _ _ _ (statements.switch_runs at n (runs.closed i))
      (λ l k like. ap₂ (λ a b. 1 + (a + (core.counted is_node + b))) (g.size l k like) (h.size l k like))
      (λ l k like. ap₂ (λ a b. a + b) (g.room l k like) (h.room l k like))
      (λ l base. refl) (λ l env base d. refl)
      (λ l k like env base d. ap (λ o. with_value o (λ v d. onward
      (lived (in_turn (map code xs)) k env (base + (value {O = Output} e).needs.room k.measures)
      (core.chosen_at k.taking at zs (numbers.wrapped (word_type (statements.switch_kind n)) v) d))
      (λ r. Some (arrive past_switch r)))) (g.runs l k like env base d)
      ∙ with_same (n.part.run l env base d) _ (λ v d. let z = converted (statements.switch_kind n) v in
      runs.arrive past_switch (runs.lived i l env (base + n.part.room l)
      (statements.choose at (statements.chosen i.cases z) z d)))
      (λ v d. ap₂ (λ a z. onward (lived (in_turn (map code xs)) k env (base + a)
      (core.chosen_at k.taking at zs z (as_done d))) (λ r. Some (arrive past_switch r)))
      (g.room l k like) (wrapped_same (statements.switch_kind n) whole v)
      ∙ ap (λ s. onward (lived (in_turn (map code xs)) k env (base + n.part.room l) s)
      (λ r. Some (arrive past_switch r)))
      (chosen_same k.taking at zs i.cases (converted (statements.switch_kind n) v) d like.taking
      (among (converted (statements.switch_kind n) v)))
      ∙ ap (λ o. onward o (λ r. Some (arrive past_switch r)))
      (lived_same numbering (in_turn (map code xs)) i h l k like env (base + n.part.room l)
      (statements.choose at (statements.chosen i.cases (converted (statements.switch_kind n) v))
      (converted (statements.switch_kind n) v) d)))))
