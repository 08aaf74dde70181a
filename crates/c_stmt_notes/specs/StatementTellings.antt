-- What code keeps of what `c_means` says of statements, by what they stand in.
use Rattle.std.specs.Prelude.{ℕ, ℤ, Bool, not, List, [], ◌∷◌, Option, Some, None}
use Rattle.c_language.specs.declared.ctype.CType.{CType}
use Rattle.c_language.specs.declared.ctype.IntegerKind.{IntegerKind}
use Rattle.c_language.specs.Scopes.{Scope, enter}
use Rattle.c_language.specs.Typing.{constant_of, told_of}
use Rattle.c_language.specs.Declarations.{FunctionSaid}
use Rattle.c_means.specs.declared.breach.Breach.{Breach}
use Rattle.c_means.specs.declared.breach.BrokenRule.TheVariants as broken_
use Rattle.c_means.specs.Notes.{Noted}
use Rattle.c_means.specs.Items.{Case, Code, Item, Label, breach_if, nothing}
use Rattle.c_means.specs.Items.{closed, guarded, in_turn, node, opened, unchosen, without_cases}
use Rattle.c_means.specs.Items as runs
use Rattle.c_means.specs.Statements.{case_value, repeated_cases}
use Rattle.c_checks.specs.Refusals.{least_of, lesser}
use Rattle.c_checks.specs.Rules.{case_breaches}
use Rattle.c_notes.specs.declared.notes.ExprNotes.{ExprNotes}
use Rattle.c_item_notes.specs.declared.items.ItemNotes.{ItemNotes}
use Rattle.c_item_notes.specs.Levels.{Judged}
use Rattle.c_item_notes.specs.ItemTellings.{Summed, and_item, nothing_noted, summed_in}
use Rattle.c_stmt_notes.specs.declared.context.Context.{Context}
use Rattle.c_stmt_notes.specs.declared.gathering.Aside.{Aside}

-- the context of the definition, with the names in force
abbrev pub context_in : Context → Scope → runs.Context
context_in x s = record {
  scope = s;
  labels = x.labels.now;
  every = x.every.now;
  breaks = x.breaks;
  continues = x.continues;
  chooses = x.chooses;
  result = x.returned.now;
}

-- an item behind what was noted so far
abbrev pub gathered : Judged → ItemNotes → Scope → Item → Summed
gathered j n s x = and_item j (summed_in n s) x

-- ---- parts of statements

abbrev pub broken : Option Breach → ItemNotes
broken b = record nothing_noted { breach = b }

-- an expression that is evaluated, with the rule that is broken
abbrev pub evaluated : Option Breach → ExprNotes → ItemNotes
evaluated b n = record nothing_noted { breach = b; calls = n.calls; called = n.called }

-- a case without value breaks a rule, and is none
abbrev pub case_at : ℕ → Option ℤ → List Case
case_at at None = []
case_at at (Some z) = record { at = at; value = Some z } ∷ []

abbrev pub case_notes : ℕ → Option Breach → Option ℤ → ExprNotes → ItemNotes
case_notes at b z n = record nothing_noted { breach = b; cases = case_at at z; calls = n.calls }

abbrev pub default_notes : ℕ → Option Breach → ItemNotes
default_notes at b = record nothing_noted { breach = b; cases = record { at = at; value = None } ∷ [] }

-- `case` and its value, in front of a statement
abbrev pub case_front : ℕ → Noted → Option IntegerKind → Item
case_front at x chooses = record (nothing x.part.typed.after) {
  breaches = case_breaches at (told_of x.part.typed) chooses;
  cases = case_at at (case_value chooses (constant_of x.part.typed));
  calls = x.notes.calls;
}

-- of a jump that may stand here or not
abbrev pub jump_breaches : Bool → ℕ → List Breach
jump_breaches may at = breach_if (not may) at broken_.BadGoto

-- behind the block of a `switch` whose value breaks this
abbrev pub taken_back : Aside → Option Breach → ItemNotes → ItemNotes
taken_back aside said n = record n {
  breach = lesser aside.breach (lesser said (lesser (least_of (repeated_cases [] n.cases)) n.breach));
  cases = aside.cases;
}

-- ---- blocks

-- a compound statement, in which these labels are in force
abbrev pub block_of_items : List Code → List Label → runs.Context → Item
block_of_items items labels c =
    without_cases (guarded (closed (in_turn items (record (unchosen c) { scope = enter c.scope; labels = labels }))))

-- ---- bodies of functions

-- the head of a function of which is known what it returns, and the scope of its body
abbrev pub body_head : Option CType → Scope → FunctionSaid
body_head t s = record { entry = None; returned = t; parameters = []; faults = []; after = s; inside = s }
