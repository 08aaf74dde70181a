-- The core of a part's value.
use Rattle.std.proofs.Common.{◌≡◌, ℕ, ℤ, Bool, true, false, cond, List, [], ◌∷◌, ◌++◌, Option, Some, None, refl, sym, ap, ap₂, ◌∙◌, subst}
use Rattle.std.specs.Prelude.{not}
use Rattle.plain_data.specs.declared.run.Undefined.TheVariants.{Dereference}
use Rattle.c_language.specs.declared.class.Class.{Class}
use Rattle.c_language.specs.declared.class.Class.TheVariants as class
use Rattle.c_language.specs.declared.shown.Told.{Told}
use Rattle.c_language.specs.Scopes.{Name}
use Rattle.c_language.specs.Typing.{Typed, type_of, type_in, told_of, used_told}
use Rattle.c_language.specs.declared.tables.Tables.{Tables}
use Rattle.c_means.specs.Parts.{Part}
use Rattle.c_means.specs.Parts as c
use Rattle.c_means.specs.Expressions as forms
use Rattle.c_means.specs.Objects.{is_read}
use Rattle.c_means.specs.Values.{class_in, bytes_of}
use Rattle.core_tree.specs.declared.expr.Expr.{Expr}
use Rattle.core_tree.specs.declared.expr.Expr.TheVariants as expr
use Rattle.core_tree.specs.declared.types.ValueType.TheVariants as v
use Rattle.core_tree.specs.Values.{value}
use Rattle.core_tree.specs.declared.types.ValueType.{ValueType}
use Rattle.c_means.specs.Marks.{Mark, reads_at}
use Rattle.core_marks.specs.declared.mark.Mark.TheVariants as m
use Rattle.core_marks.specs.Marks.{value_marks}
use Rattle.core_marks.specs.Marks as core_marks
use Rattle.core_tree.specs.declared.types.Access.{Access}
use Rattle.core_marks.proofs.ExprMarks as trees
use Rattle.elaborate.specs.Tokens.{all_told}
use Rattle.elaborate.specs.Types.{integer_type, value_type}
use Rattle.core_forms.specs.declared.built.Used.{Used}
use Rattle.elaborate.specs.Means.{Numbering, SameMarks, Does, IsValueOf, IsAddressOf, OfType}
use Rattle.elaborate.proofs.Values.{loaded_value, array_value, function_value, void_value, rerun}
use Rattle.core_forms.specs.declared.built.Built.{Built}
use Rattle.core_forms.specs.declared.built.Call.{Call}
use Rattle.core_forms.specs.declared.built.Node.{Node}
use Rattle.core_forms.specs.declared.built.Node.TheVariants as node
use Rattle.core_forms.specs.Nodes.{read_node, loaded, call_node, is_cast_of_used, worth_node, HasWorth}
use Rattle.core_forms.specs.Built.{IsPlaceOf, IsWorthOf, IsAnswerOf, IsBuilt, IsUsed, IsDiscarded, IsCastOperand}
use Rattle.core_forms.proofs.KindLaws.{of_read}
use Rattle.core_forms.proofs.Marks.{by_marks, as_told, own_then}

abbrev needs_of : Part → forms.Needs
needs_of p = record { size = p.size; room = p.room; marks = p.place_marks }

-- an lvalue, as a form of its own
abbrev place_of : Part → Part
place_of p = forms.placed p.typed p.rooted (needs_of p) p.reach

module _ (numbering : Numbering) (p : Part) (e : Expr) (address : IsAddressOf numbering e (place_of p)) where
  load_as : (cl : Class) → class_in (type_of p.typed) ≡ cl → is_read cl ≡ true
      → IsValueOf numbering (loaded p.typed.at (value_type cl (bytes_of p.typed.after.tables (type_of p.typed))) p.rooted e) (place_of p)
  load_as cl is reads = loaded_value numbering e p.typed p.rooted (needs_of p) p.reach
      (value_type cl (bytes_of p.typed.after.tables (type_of p.typed))) (of_read p.typed.after.tables p.typed cl is reads) address

  read_by : (cl : Class) → class_in (type_of p.typed) ≡ cl
      → IsValueOf numbering (read_node cl (bytes_of p.typed.after.tables (type_of p.typed)) p.typed.at p.rooted e) (place_of p)
  read_by (class.Integer kind) is = load_as (class.Integer kind) is refl
  read_by class.Pointer is = load_as class.Pointer is refl
  read_by (class.Aggregate number) is = load_as (class.Aggregate number) is refl
  read_by class.Array is =
      array_value numbering e p.typed p.rooted (needs_of p) p.reach is address
  read_by class.Function is =
      function_value numbering e p.typed p.rooted (needs_of p) p.reach is address
  read_by class.Void is =
      void_value numbering e p.typed p.rooted (needs_of p) p.reach is address
  read_by class.Floating is = load_as class.Floating is refl
  read_by class.Opaque is = load_as class.Opaque is refl

-- of a load
loaded_marks : (numbering : Numbering) (stored : ValueType) (at : ℕ) (rooted : Bool) (e : Expr)
    (marks : c.Level → List Mark) → SameMarks numbering (value_marks e) marks
    → SameMarks numbering (value_marks (loaded at stored rooted e)) (λ l. reads_at true at rooted ++ marks l)
loaded_marks numbering stored at rooted e marks h =
    let access : Access = record { at = at; stored = stored; is_tested = not rooted } in
    by_marks numbering (trees.marks-Load (expr.Load access e) access e refl)
    (own_then numbering (core_marks.read_marks access) (reads_at true at rooted)
    (λ name. told_read name rooted) h)
  where
    told_read : (name : ℕ → Name) (rooted : Bool) → all_told name (cond (not rooted) (m.Stop at Dereference ∷ []) [])
        ≡ reads_at true at rooted
    told_read name true = refl
    told_read name false = refl

-- what stands at the tokens of the value of what stands at an address
read_marks : (numbering : Numbering) (cl : Class) (n at : ℕ) (rooted : Bool) (e : Expr) (marks : c.Level → List Mark)
    → SameMarks numbering (value_marks e) marks
    → SameMarks numbering (value_marks (read_node cl n at rooted e)) (λ l. reads_at (is_read cl) at rooted ++ marks l)
read_marks numbering (class.Integer kind) n at rooted e marks h = loaded_marks numbering (integer_type kind) at rooted e marks h
read_marks numbering class.Pointer n at rooted e marks h = loaded_marks numbering v.Pointer at rooted e marks h
read_marks numbering (class.Aggregate number) n at rooted e marks h = loaded_marks numbering (v.Block n) at rooted e marks h
read_marks numbering class.Array n at rooted e marks h = h
read_marks numbering class.Function n at rooted e marks h = h
read_marks numbering class.Void n at rooted e marks h =
    by_marks numbering (trees.marks-Convert (expr.Convert v.Void e) v.Void e refl) h
read_marks numbering class.Floating n at rooted e marks h = loaded_marks numbering (v.Block n) at rooted e marks h
read_marks numbering class.Opaque n at rooted e marks h = loaded_marks numbering (v.Block n) at rooted e marks h

-- what a part does, whose value is used or not
abbrev run_as : Bool → Part → c.Level → c.Run ℤ
run_as true p = p.run
run_as false p = p.effect

module _ (numbering : Numbering) (p : Part) (tables : Tables) where
  abbrev IsWorth : Bool → Expr → Type 0
  IsWorth used f = Does numbering (value f) p.size p.room (run_as used p)

  of_worth : (used : Bool) (e : Expr) → IsWorthOf numbering e p → IsWorth used e
  of_worth true e h = h.value
  of_worth false e h = h.effect

  of_answer : (used : Bool) (c : Call) → IsAnswerOf numbering c p → IsWorth used (call_node c used)
  of_answer true c h = h.value
  of_answer false c h = h.effect

  of_place : (used : Bool) (f e : Expr) → IsPlaceOf numbering e p → IsValueOf numbering f (place_of p) → IsWorth used f
  of_place true f e h w = rerun numbering _ _ _ _ _ w h.value
  of_place false f e h w = rerun numbering _ _ _ _ _ w h.effect

  -- the value of a part, by what is told of it
  by_node : (used : Bool) (told : Told) (rooted : Bool) (n : Node) (f : Expr) → tables ≡ p.typed.after.tables
      → IsBuilt numbering (record { told = told; rooted = rooted; node = n }) p
      → f ≡ worth_node used tables told rooted n → IsWorth used f
  by_node used told rooted (node.Value e) f t h same = subst (λ n. IsWorth used n) (sym same) (of_worth used e h.node)
  by_node used told rooted (node.Call c) f t h same =
      subst (λ n. IsWorth used n) (sym same) (of_answer used c h.node)
  by_node used told rooted (node.Place e) f t h same =
      let is = same
      ∙ ap₂ (λ (a : Told) b. read_node (class_in (type_in a.shown)) (bytes_of tables (type_in a.shown)) a.at b e)
      h.told h.rooted
      ∙ ap (λ a. read_node (class_in (type_of p.typed)) (bytes_of a (type_of p.typed)) p.typed.at p.rooted e) t in
      let w = subst (λ n. IsValueOf numbering n (place_of p)) (sym is)
      (read_by numbering p e h.node.address (class_in (type_of p.typed)) refl) in
      of_place used f e h.node w

  -- what stands at its tokens, used or not
  marks_by_node : (used : Bool) (told : Told) (rooted : Bool) (n : Node) (f : Expr) → tables ≡ p.typed.after.tables
      → IsBuilt numbering (record { told = told; rooted = rooted; node = n }) p
      → f ≡ worth_node used tables told rooted n → SameMarks numbering (value_marks f) p.marks
  marks_by_node used told rooted (node.Value e) f t h same = by_marks numbering (ap value_marks same) h.node.marks
  marks_by_node used told rooted (node.Call c) f t h same =
      by_marks numbering (ap value_marks same) (h.node.marks used)
  marks_by_node used told rooted (node.Place e) f t h same =
      let is = same
      ∙ ap₂ (λ (a : Told) b. read_node (class_in (type_in a.shown)) (bytes_of tables (type_in a.shown)) a.at b e)
      h.told h.rooted in
      by_marks numbering (ap value_marks is) (as_told numbering
      (read_marks numbering (class_in (type_of p.typed)) (bytes_of tables (type_of p.typed)) p.typed.at p.rooted e
      p.place_marks h.node.marks) h.node.reads)

  pub is_used : (x : Built) (y : Used) → tables ≡ p.typed.after.tables → IsBuilt numbering x p
      → HasWorth true tables x (used_told tables x.told) y → IsUsed numbering y p
  is_used x y t h m = record {
    told = m.told ∙ ap₂ used_told t h.told;
    value = by_node true x.told x.rooted x.node y.value t h m.value;
    marks = marks_by_node true x.told x.rooted x.node y.value t h m.value;
  }

  pub is_discarded : (x : Built) (y : Used) → tables ≡ p.typed.after.tables → IsBuilt numbering x p
      → HasWorth false tables x x.told y → IsDiscarded numbering y p
  is_discarded x y t h m = record {
    told = m.told ∙ h.told;
    effect = by_node false x.told x.rooted x.node y.value t h m.value;
    marks = marks_by_node false x.told x.rooted x.node y.value t h m.value;
  }

  -- ---- the operand of a cast

  for_cast : (cl : Class) (e : Expr) → IsWorth (is_cast_of_used cl) e
      → Does numbering (value e) p.size p.room (forms.cast_operand cl p)
  for_cast class.Void e h = h
  for_cast (class.Integer kind) e h = h
  for_cast class.Pointer e h = h
  for_cast (class.Aggregate number) e h = h
  for_cast class.Array e h = h
  for_cast class.Function e h = h
  for_cast class.Floating e h = h
  for_cast class.Opaque e h = h

  pub is_cast_operand : (cl : Class) (x : Built) (y : Used) → tables ≡ p.typed.after.tables → IsBuilt numbering x p
      → HasWorth (is_cast_of_used cl) tables x (used_told tables x.told) y → IsCastOperand numbering cl y p
  is_cast_operand cl x y t h m = record {
    told = m.told ∙ ap₂ used_told t h.told;
    does = for_cast cl y.value (by_node (is_cast_of_used cl) x.told x.rooted x.node y.value t h m.value);
    marks = marks_by_node (is_cast_of_used cl) x.told x.rooted x.node y.value t h m.value;
  }
