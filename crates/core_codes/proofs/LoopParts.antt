-- The parts of statements: tests, steps and first parts of loops, and declarations, which give no case. What lives
-- throughout the run is declared by declarations alone.
use Rattle.std.proofs.Common.{◌≡◌, ℕ, Bool, true, false, List, [], ◌∷◌, ◌++◌, map, Option, Some, None, refl, sym}
use Rattle.std.proofs.Common.{ap₂, subst}
use Rattle.std.specs.Prelude.{option_map}
use Rattle.c_language.specs.declared.expr.Expr.{Expr as CExpr}
use Rattle.c_language.specs.declared.unit.Declaration.{Declaration}
use Rattle.c_language.specs.declared.unit.ForStart.{ForStart}
use Rattle.c_language.specs.declared.unit.ForStart.TheVariants as start_
use Rattle.c_language.specs.declared.scope.Duration.TheVariants as duration
use Rattle.c_language.specs.declared.scope.Entry.{Entry}
use Rattle.c_language.specs.declared.scope.Means.{Means}
use Rattle.c_language.specs.declared.scope.Means.TheVariants as means
use Rattle.c_language.specs.Scopes.{Scope}
use Rattle.c_language.specs.Declares.{Said, said_by}
use Rattle.c_language.specs.Declarations.{declares}
use Rattle.c_means.specs.Notes.{ExprNoted, noted, specifier_noted}
use Rattle.c_means.specs.Initials.{Initial, initialising_if, said_if}
use Rattle.c_means.specs.Items.{Item, Case, Lasting}
use Rattle.c_means.specs.Items as runs
use Rattle.c_means.specs.Statements.{Declaring, declared_means, declared_entry, declares_formed, declares_all}
use Rattle.c_means.specs.Statements.{declaration, type_in_entry, name_offset, defines, maybe_value, begun_by}
use Rattle.c_means.specs.Statements as statements
use Rattle.core_tree.specs.declared.code.Code.TheVariants as code
use Rattle.core_tree.specs.declared.expr.Expr.{Expr}
use Rattle.core_marks.specs.Marks.{code_marks, items_marks, option_marks, test_marks}
use Rattle.elaborate.specs.Means.{Numbering, SameMarks, IsCodeOf}
use Rattle.elaborate.proofs.Codes.{value_code, empty_code, no_item, part_code, by_item, no_test, a_test, Tests}
use Rattle.core_tree.proofs.Equations as eq
use Rattle.core_forms.proofs.Marks.{no_marks}
use Rattle.code_forms.specs.Contents.{AreCodesOf}
use Rattle.code_forms.proofs.Marks.{alone_marks, effect_marks, nothing_marks, tested_marks}
use Rattle.code_forms.proofs.Statements.{IsStepOf, no_step, a_step}
use Rattle.code_forms.proofs.Turns.{alone_codes}
use Rattle.core_codes.specs.declared.parts.Begun.{Begun}
use Rattle.core_codes.specs.Parts.{IsBegun, MaybeWorth, MaybeDone, first_codes, first_begun, effect_node}
use Rattle.core_codes.proofs.Settings.{none_set_of}

-- ---- declarations give no case

abbrev no_cases : List Case
no_cases = []

entry_gives_none : (at : ℕ) (e : Entry) (m : Means) (defined : Bool) (x : Initial) (s : Scope)
    → (declared_means at e m defined x s).cases ≡ no_cases
entry_gives_none at e (means.Object t duration.Automatic l) defined x s = refl
entry_gives_none at e (means.Object t duration.Static l) defined x s = refl
entry_gives_none at e (means.Function t l) defined x s = refl
entry_gives_none at e (means.Typedef t) defined x s = refl
entry_gives_none at e (means.Constant z) defined x s = refl
entry_gives_none at e means.Faulty defined x s = refl

maybe_gives_none : (at : ℕ) (e : Option Entry) (defined : Bool) (x : Initial) (s : Scope)
    → (declared_entry at e defined x s).cases ≡ no_cases
maybe_gives_none at None defined x s = refl
maybe_gives_none at (Some e) defined x s = entry_gives_none at e e.means defined x s

all_give_none : (said : Said) (xs : List Declaring) (s : Scope) → (declares_all said xs s).cases ≡ no_cases
all_give_none said [] s = refl
all_give_none said (x ∷ xs) s =
    let f = x.declarator s in
    let plain = declares said f None in
    let whole = declares said f (said_if x.initial) in
    let i = declares_formed said f x.initial in
    ap₂ (λ (ks ls : List Case). ks ++ ls)
    (maybe_gives_none (name_offset f.name) whole.entry (defines said x.initial)
    (initialising_if x.initial (type_in_entry plain.entry) plain.after) whole.after)
    (all_give_none said xs i.after)

pub declaration_gives_none : (d : Declaration) (s : Scope) → (declaration d s).cases ≡ no_cases
declaration_gives_none d s =
    let xs = map statements.declaring d.declarators in
    let said = said_by (map specifier_noted d.specifiers) (statements.is_alone xs) [] s in
    all_give_none said xs said.scope

pub begun_gives_none : (x : ForStart) (s : Scope) → (begun_by x s).cases ≡ no_cases
begun_gives_none (start_.Value e) s = value_gives_none (option_map noted e) s where
  value_gives_none : (f : Option ExprNoted) (s : Scope) → (maybe_value f s).cases ≡ no_cases
  value_gives_none None s = refl
  value_gives_none (Some f) s = refl
begun_gives_none (start_.Declared d) s = declaration_gives_none d s

-- ---- expressions declare nothing that lives throughout the run

abbrev no_lasting : List Lasting
no_lasting = []

pub value_has_none : (f : Option ExprNoted) (s : Scope) → (maybe_value f s).lasting ≡ no_lasting
value_has_none None s = refl
value_has_none (Some f) s = refl

pub test_has_none : (at : ℕ) (f : Option ExprNoted) (s : Scope)
    → (statements.maybe_test at f s).item.lasting ≡ no_lasting
test_has_none at None s = refl
test_has_none at (Some f) s = refl

module _ (numbering : Numbering) where
  -- ---- tests and steps of loops

  -- a test, with the names in force behind it
  pub record Tested (e : Option Expr) (t : statements.Test) (at : ℕ) (u : Scope) : Type 0 where
    pub tests : Tests numbering e t at
    pub after : u ≡ t.item.after
    pub marks : SameMarks numbering (test_marks at e) t.item.marks

  pub tested : (at : ℕ) (e : Option Expr) (f : Option ExprNoted) (s t : Scope) → MaybeWorth numbering e f s t
      → Tested e (statements.maybe_test at f s) at t
  tested at None None s t h = record { tests = no_test numbering at s; after = h; marks = no_marks numbering }
  tested at None (Some f) s t h = absurd h
  tested at (Some e) None s t h = absurd h
  tested at (Some e) (Some f) s t h = record {
    tests = a_test numbering at e (f s) h.value;
    after = h.after;
    marks = tested_marks numbering at e h.marks;
  }

  -- a step, with the names in force behind it
  pub record Stepped (e : Option Expr) (i : Item) (u : Scope) : Type 0 where
    pub steps : IsStepOf numbering e i
    pub after : u ≡ i.after
    pub marks : SameMarks numbering (option_marks e) i.marks

  pub stepped : (e : Option Expr) (f : Option ExprNoted) (s t : Scope) → MaybeDone numbering e f s t
      → Stepped e (maybe_value f s) t
  stepped None None s t h = record { steps = no_step numbering s; after = h; marks = no_marks numbering }
  stepped None (Some f) s t h = absurd h
  stepped (Some e) None s t h = absurd h
  stepped (Some e) (Some f) s t h = record {
    steps = a_step numbering e (f s) h.effect;
    after = h.after;
    marks = h.marks;
  }

  -- ---- an expression that a `for` begins with

  pub first_done : (e : Option Expr) (f : Option ExprNoted) (s t : Scope) → MaybeDone numbering e f s t
      → AreCodesOf numbering (first_codes e) (maybe_value f s)
  first_done None None s t h = no_item numbering s
  first_done None (Some f) s t h = absurd h
  first_done (Some e) None s t h = absurd h
  first_done (Some e) (Some f) s t h = alone_codes numbering (code.Value false e) (maybe_value (Some f) s)
      (by_item numbering _ _ _ (eq.does-Value false e) (part_code numbering e (f s) h.effect))

  pub first_after : (e : Option Expr) (f : Option ExprNoted) (s t : Scope) → MaybeDone numbering e f s t
      → t ≡ (maybe_value f s).after
  first_after None None s t h = h
  first_after None (Some f) s t h = absurd h
  first_after (Some e) None s t h = absurd h
  first_after (Some e) (Some f) s t h = h.after

  first_marks : (e : Option Expr) (f : Option ExprNoted) (s t : Scope) → MaybeDone numbering e f s t
      → SameMarks numbering (items_marks (first_codes e)) (maybe_value f s).marks
  first_marks None None s t h = no_marks numbering
  first_marks None (Some f) s t h = absurd h
  first_marks (Some e) None s t h = absurd h
  first_marks (Some e) (Some f) s t h =
      alone_marks numbering (code.Value false e) (effect_marks numbering false e h.marks)

  pub begun_value : (x : ForStart) (o : Option CExpr) (e : Option Expr) (y : Begun) (s t : Scope)
      → x ≡ start_.Value o → MaybeDone numbering e (option_map noted o) s t → y ≡ first_begun e
      → IsBegun numbering y (begun_by x s) t
  begun_value x o e y s t is h made =
      let f = option_map noted o in
      subst (λ x. IsBegun numbering y (begun_by x s) t) (sym is)
      (subst (λ y. IsBegun numbering y (maybe_value f s) t) (sym made) (record {
        codes = first_done e f s t h;
        lasting = none_set_of numbering (maybe_value f s).lasting (value_has_none f s);
        after = first_after e f s t h;
        marks = first_marks e f s t h;
      }))

  -- ---- expression statements

  pub effect_code : (e : Option Expr) (f : Option ExprNoted) (s t : Scope) → MaybeDone numbering e f s t
      → IsCodeOf numbering (effect_node e) (runs.node (maybe_value f s))
  effect_code None None s t h = empty_code numbering s
  effect_code None (Some f) s t h = absurd h
  effect_code (Some e) None s t h = absurd h
  effect_code (Some e) (Some f) s t h = value_code numbering e (f s) h.effect

  pub effect_same : (e : Option Expr) (f : Option ExprNoted) (s t : Scope) → MaybeDone numbering e f s t
      → SameMarks numbering (code_marks (effect_node e)) (maybe_value f s).marks
  effect_same None None s t h = nothing_marks numbering true
  effect_same None (Some f) s t h = absurd h
  effect_same (Some e) None s t h = absurd h
  effect_same (Some e) (Some f) s t h = effect_marks numbering true e h.marks
