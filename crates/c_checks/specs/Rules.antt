-- The rules of statements, over what is told of the expressions in them (C99 6.8): the lists of broken rules that the
-- items of `c_means` have.
use Rattle.std.specs.Prelude.{ℕ, List, ◌++◌, not, Option}
use Rattle.c_language.specs.declared.ctype.CType.{CType}
use Rattle.c_language.specs.declared.ctype.IntegerKind.{IntegerKind}
use Rattle.c_language.specs.declared.scope.Rule.TheVariants as rule
use Rattle.c_language.specs.declared.shown.Told.{Told}
use Rattle.c_language.specs.Scopes.{Name}
use Rattle.c_language.specs.Typing.{Typed, used, not_constant_of, condition_faults}
use Rattle.c_means.specs.Operators.{value_type, kind_in}
use Rattle.c_means.specs.declared.breach.Breach.{Breach}
use Rattle.c_means.specs.declared.breach.BrokenRule.{BrokenRule}
use Rattle.c_means.specs.declared.breach.BrokenRule.TheVariants as broken
use Rattle.c_means.specs.Items.{Label, typing, breach_if}
use Rattle.c_means.specs.Statements.{compared_in, integer_fault, return_breaches, returns_void, is_chosen, leads, stood_before}

abbrev pub mismatch : BrokenRule
mismatch = broken.Typing rule.TypeMismatch

-- a condition, by the offset of its statement's keyword (C99 6.8.4.1p1, 6.8.5p2)
abbrev pub condition_breaches : ℕ → Typed → List Breach
condition_breaches at x = typing (condition_faults at x)

-- the value of a `switch` (C99 6.8.4.2p1), and the type in which its cases are compared (C99 6.8.4.2p5)
abbrev pub switch_breaches : ℕ → Typed → List Breach
switch_breaches at x = typing (used x).faults ++ integer_fault at (value_type x)

abbrev pub kind_of_value : Option CType → IntegerKind
kind_of_value t = compared_in (kind_in t)

abbrev pub switch_kind : Typed → IntegerKind
switch_kind x = kind_of_value (value_type x)

-- a case, of the `switch` that chooses in this type, where it stands in the block of one (C99 6.8.1p2, 6.8.4.2p3)
abbrev pub case_breaches : ℕ → Told → Option IntegerKind → List Breach
case_breaches at x chooses =
    typing (x.faults ++ not_constant_of x.at x.shown) ++ breach_if (not (is_chosen chooses)) at broken.BadGoto

abbrev pub default_breaches : ℕ → Option IntegerKind → List Breach
default_breaches at chooses = breach_if (not (is_chosen chooses)) at broken.BadGoto

-- `return` in a function that returns this type (C99 6.8.6.4p1)
abbrev pub bare_return_breaches : ℕ → Option CType → List Breach
bare_return_breaches at result = breach_if (not (returns_void result)) at mismatch

abbrev pub return_value_breaches : ℕ → Option CType → Typed → List Breach
return_value_breaches at result x = typing (used x).faults ++ return_breaches at result (value_type x)

-- a `goto` where these labels are in force (C99 6.8.6.1p1), and a label of a function that has these (C99 6.8.1p3)
abbrev pub goto_breaches : ℕ → Name → List Label → List Breach
goto_breaches at name labels = breach_if (not (leads at name labels)) at broken.BadGoto

abbrev pub label_breaches : ℕ → Name → List Label → List Breach
label_breaches at name every = breach_if (stood_before at name every) at broken.BadGoto
