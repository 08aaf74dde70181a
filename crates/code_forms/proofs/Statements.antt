-- What the functions of this crate make is the core of the form.
use Rattle.std.proofs.Common.{◌≡◌, ℕ, ◌+◌, ℤ, Bool, true, false, List, [], ◌∷◌, ◌++◌, map, Option, Some, None, Ok}
use Rattle.std.proofs.Common.{refl, sym, ap, ap₂, ◌∙◌, subst}
use Rattle.std.specs.Prelude.{option_map}
use Rattle.c_language.specs.declared.ctype.IntegerKind.{IntegerKind}
use Rattle.c_language.specs.declared.ctype.IntegerKind.TheVariants as int_
use Rattle.c_language.specs.Integers.{is_bool, converted}
use Rattle.c_language.specs.declared.shown.Told.{Told}
use Rattle.c_language.specs.Scopes.{Name, Scope}
use Rattle.c_language.specs.Typing.{type_in, told_of, used_told}
use Rattle.c_means.specs.Parts.{Part}
use Rattle.c_means.specs.Operators.{kind_in, value_type}
use Rattle.c_means.specs.Values as values
use Rattle.c_means.specs.declared.breach.Breach.{Breach}
use Rattle.c_means.specs.Notes.{Noted}
use Rattle.c_means.specs.Items.{at_case}
use Rattle.c_means.specs.Items as runs
use Rattle.c_means.specs.Statements as statements
use Rattle.core_tree.specs.declared.code.Code.{Code}
use Rattle.core_tree.specs.declared.code.Code.TheVariants as tree
use Rattle.core_tree.specs.declared.expr.Expr.{Expr}
use Rattle.core_tree.specs.declared.expr.Expr.TheVariants as expr
use Rattle.core_tree.specs.declared.types.ValueType.{ValueType}
use Rattle.core_tree.specs.Numbers as numbers
use Rattle.core_tree.specs.States.{Output}
use Rattle.core_tree.specs.Values.{value}
use Rattle.core_tree.specs.Codes.{code, in_turn}
use Rattle.core_tree.specs.Codes as core
use Rattle.core_tree.proofs.Equations as eq
use Rattle.elaborate.specs.Means.{Numbering, IsValueOf, IsEffectOf, Acts, IsCodeOf, as_found}
use Rattle.elaborate.specs.Types.{word_type}
use Rattle.elaborate.proofs.Codes.{by_item, no_item, nothing_code, part_code, return_code, block_code, inner_code}
use Rattle.elaborate.proofs.Codes.{if_code, looped_acts, no_test, a_test, Tests}
use Rattle.elaborate.proofs.Values.{by_worth, between_does}
use Rattle.code_forms.specs.declared.blocks.Content.{Content}
use Rattle.code_forms.specs.Nodes.{negative_node}
use Rattle.code_forms.specs.Contents.{AreCodesOf, noded, case_values, IsContentOf}
use Rattle.code_forms.proofs.Choosing.{values_among, switch_over}
use Rattle.code_forms.proofs.Turns.{nothing_before, and_code}

-- a `switch` compares in no `_Bool`
pub compared_whole : (kind : Option IntegerKind) → is_bool (statements.compared_in kind) ≡ false
compared_whole None = refl
compared_whole (Some int_.Bool) = refl
compared_whole (Some int_.Char) = refl
compared_whole (Some int_.SignedChar) = refl
compared_whole (Some int_.UnsignedChar) = refl
compared_whole (Some int_.Short) = refl
compared_whole (Some int_.UnsignedShort) = refl
compared_whole (Some int_.Int) = refl
compared_whole (Some int_.UnsignedInt) = refl
compared_whole (Some int_.Long) = refl
compared_whole (Some int_.UnsignedLong) = refl
compared_whole (Some int_.LongLong) = refl
compared_whole (Some int_.UnsignedLongLong) = refl

module _ (numbering : Numbering) where
  -- ---- `return`

  -- the value is converted to a type whose conversion is that to the type that the function returns
  pub returned_code : (at : ℕ) (e : Expr) (t : ValueType) (n : Noted) (cx : runs.Context)
      → ((z : ℤ) → numbers.converted_to t z ≡ values.converted_to (values.class_in cx.result) z)
      → IsValueOf numbering e n.part
      → IsCodeOf numbering (tree.Return (Some (expr.Convert t e))) (statements.value_return at n cx)
  returned_code at e t n cx same h = return_code numbering at e t n cx
      (by_worth numbering _ _ _ _ _ (eq.worth-Convert t e)
      (between_does numbering (value e) n.part.size n.part.room n.part.run _
      (λ z d. Ok (values.converted_to (values.class_in cx.result) z, d)) h
      (λ z d. ap (λ z. as_found (Ok (z, d))) (same z))))

  -- ---- blocks

  content_by : (b : Bool) (xs : List Code) (i inside : runs.Item) → i ≡ noded b inside
      → AreCodesOf numbering xs inside
      → IsCodeOf numbering (tree.Block b xs) (runs.without_cases (runs.guarded (runs.closed i)))
  content_by true xs i inside is h =
      let r = block_code numbering xs inside h in
      subst (λ j. IsCodeOf numbering (tree.Block true xs) (runs.without_cases (runs.guarded (runs.closed j))))
      (sym is) (record { size = r.size; room = r.room; objects = r.objects; runs = r.runs })
  content_by false xs i inside is h =
      subst (λ j. IsCodeOf numbering (tree.Block false xs) (runs.without_cases (runs.guarded (runs.closed j))))
      (sym is) (inner_code numbering xs inside h)

  -- the block that a substatement is
  pub content_code : (x : Content) (i : runs.Item) → IsContentOf numbering x i
      → IsCodeOf numbering (tree.Block x.is_compound x.items) (runs.without_cases (runs.guarded (runs.closed i)))
  content_code x i h = content_by x.is_compound x.items i h.inside h.is h.items

  -- a compound statement
  pub compound_code : (xs : List Code) (i : runs.Item) → AreCodesOf numbering xs i
      → IsCodeOf numbering (tree.Block true xs) (runs.without_cases (runs.guarded (runs.closed (runs.node i))))
  compound_code xs i h = content_by true xs (runs.node i) i refl h

  -- ---- selection

  -- an `if` without `else`
  pub bare_if_code : (at : ℕ) (e : Expr) (x : Code) (n : Noted) (i : runs.Item) (s : Scope)
      → IsValueOf numbering e n.part → IsCodeOf numbering x i
      → IsCodeOf numbering (tree.If at e x (negative_node None)) (statements.if_item at n i (runs.nothing s))
  bare_if_code at e x n i s g h = if_code numbering at e x (tree.Nothing false) n i (runs.nothing s) g h
      (nothing_code numbering s)

  switch_by : (b : Bool) (at : ℕ) (e : Expr) (n : Noted) (xs : List Code) (i inside : runs.Item)
      → IsValueOf numbering e n.part → i ≡ noded b inside → AreCodesOf numbering xs inside
      → IsCodeOf numbering (tree.Switch at (word_type (statements.switch_kind n)) (case_values i.cases) e b xs)
      (statements.switch_item at n (runs.closed i))
  switch_by true at e n xs i inside g is h =
      let r = switch_over numbering at e n true xs inside (case_values inside.cases) g
      (compared_whole (kind_in (value_type n.part.typed))) (λ z. values_among z inside.cases) h in
      subst (λ j. IsCodeOf numbering (tree.Switch at (word_type (statements.switch_kind n)) (case_values j.cases) e
      true xs) (statements.switch_item at n (runs.closed j))) (sym is)
      (record { size = r.size; room = r.room; objects = r.objects; runs = r.runs })
  switch_by false at e n xs i inside g is h =
      let r = switch_over numbering at e n false xs inside (case_values inside.cases) g
      (compared_whole (kind_in (value_type n.part.typed))) (λ z. values_among z inside.cases) h in
      subst (λ j. IsCodeOf numbering (tree.Switch at (word_type (statements.switch_kind n)) (case_values j.cases) e
      false xs) (statements.switch_item at n (runs.closed j))) (sym is) (record {
        size = λ l k like. r.size l k like ∙ ap (λ m. 1 + (n.part.size l + m)) (sym (nothing_before (inside.size l)));
        room = r.room;
        objects = r.objects;
        runs = r.runs;
      })

  pub switch_content : (at : ℕ) (e : Expr) (n : Noted) (x : Content) (i : runs.Item) → IsValueOf numbering e n.part
      → IsContentOf numbering x i
      → IsCodeOf numbering (tree.Switch at (word_type (statements.switch_kind n)) x.cases e x.is_compound x.items)
      (statements.switch_item at n (runs.closed i))
  switch_content at e n x i g h =
      subst (λ zs. IsCodeOf numbering (tree.Switch at (word_type (statements.switch_kind n)) zs e x.is_compound x.items)
      (statements.switch_item at n (runs.closed i))) (sym h.cases)
      (switch_by x.is_compound at e n x.items i h.inside g h.is h.items)

  -- ---- iteration

  -- the step of a `for`
  abbrev pub IsStepOf : Option Expr → runs.Item → Type 0
  IsStepOf step j = Acts numbering (core.maybe_evaluated (option_map value step)) j

  pub no_step : (s : Scope) → IsStepOf None (runs.nothing s)
  no_step s = no_item numbering s

  pub a_step : (e : Expr) (n : Noted) → IsEffectOf numbering e n.part → IsStepOf (Some e) (statements.value_of n)
  a_step e n h = part_code numbering e n h

  -- the turns of a `for`
  pub turns_code : (at : ℕ) (e : Option Expr) (t : statements.Test) (step : Option Expr) (j : runs.Item) (x : Code)
      (i : runs.Item) (s : Scope) → Tests numbering e t at → IsStepOf step j → IsCodeOf numbering x i
      → IsCodeOf numbering (tree.Loop at e step x) (record (statements.looped at t i j) { after = s })
  turns_code at e t step j x i s tests g h =
      let r = looped_acts numbering at e t (code x) i (core.maybe_evaluated (option_map value step)) j tests h g step
      refl in
      by_item numbering _ _ _ (eq.does-Loop at e step x)
      (record { size = r.size; room = r.room; objects = r.objects; runs = r.runs })

  -- a `for` is a block of what it begins with and its turns
  pub for_code : (xs : List Code) (y : Code) (i j : runs.Item) → AreCodesOf numbering xs i → IsCodeOf numbering y j
      → IsCodeOf numbering (tree.Block false (xs ++ y ∷ [])) (runs.guarded (runs.closed (runs.followed i j)))
  for_code xs y i j h g =
      let r = inner_code numbering (xs ++ y ∷ []) (runs.followed i j) (and_code numbering xs y i j h g) in
      record { size = r.size; room = r.room; objects = r.objects; runs = r.runs }
