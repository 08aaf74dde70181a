-- What it is to be the core of a statement in what it stands in: whatever labels are in force, since no core depends on
-- them, and whatever else the definition has for rules alone.
use Rattle.std.specs.Prelude.{◌≡◌, ℤ, Bool, List, ◌++◌, Option, Some, None}
use Rattle.c_language.specs.declared.ctype.CType.{CType}
use Rattle.c_language.specs.Scopes.{Scope, enter}
use Rattle.c_means.specs.Values as values
use Rattle.c_means.specs.Notes.{ExprNoted}
use Rattle.c_means.specs.Items.{Item, Label}
use Rattle.c_means.specs.Items as runs
use Rattle.core_tree.specs.Numbers as numbers
use Rattle.core_marks.specs.Marks.{code_marks, items_marks}
use Rattle.elaborate.specs.Means.{Numbering, SameMarks, IsCodeOf}
use Rattle.code_forms.specs.Contents.{AreCodesOf, IsContentOf, case_values}
use Rattle.core_codes.specs.declared.context.Context.{Context}
use Rattle.core_codes.specs.declared.made.Body.{Body}
use Rattle.core_codes.specs.declared.made.Made.{Made}
use Rattle.core_codes.specs.declared.made.SubBlock.{SubBlock}
use Rattle.core_codes.specs.declared.pieces.IfBegun.{IfBegun}
use Rattle.core_codes.specs.Parts.{IsWorth}
use Rattle.core_codes.specs.Settings.{AreAllSet}

-- what else a statement stands in
pub record Around : Type 0 where
  pub labels : List Label
  pub every : List Label
  pub breaks : Bool
  pub continues : Bool
  pub result : Option CType

abbrev pub context_in : Context → Scope → Around → runs.Context
context_in x s a = record {
  scope = s;
  labels = a.labels;
  every = a.every;
  breaks = a.breaks;
  continues = a.continues;
  chooses = x.compared;
  result = a.result;
}

-- what the function returns is converted as to this type of the core
abbrev pub Returns : Context → Around → Type 0
Returns x a = (z : ℤ) → numbers.converted_to x.returned z ≡ values.converted_to (values.class_in a.result) z

-- one behind the other
abbrev pub joined : Made → Made → Made
joined x y = record {
  codes = x.codes ++ y.codes;
  cases = x.cases ++ y.cases;
  settings = x.settings ++ y.settings;
}

-- items of a block, in front of which one scope is in force and behind which the other
pub record IsMade (numbering : Numbering) (x : Context) (s : Scope) (f : runs.Context → Item) (y : Made) (t : Scope) :
    Type 0
  where
    pub codes : (a : Around) → Returns x a → AreCodesOf numbering y.codes (f (context_in x s a))
    pub cases : (a : Around) → Returns x a → y.cases ≡ case_values (f (context_in x s a)).cases
    pub lasting : (a : Around) → Returns x a → AreAllSet numbering y.settings (f (context_in x s a)).lasting
    pub after : (a : Around) → Returns x a → t ≡ (f (context_in x s a)).after
    pub marks : (a : Around) → Returns x a
        → SameMarks numbering (items_marks y.codes) (f (context_in x s a)).marks

-- what stands in the block that a statement is
pub record IsContent (numbering : Numbering) (x : Context) (s : Scope) (f : runs.Context → Item) (y : Body)
    (t : Scope) : Type 0
  where
    pub content : (a : Around) → Returns x a → IsContentOf numbering y.content (f (context_in x s a))
    pub lasting : (a : Around) → Returns x a → AreAllSet numbering y.settings (f (context_in x s a)).lasting
    pub after : (a : Around) → Returns x a → t ≡ (f (context_in x s a)).after

-- the block that a substatement is
pub record IsSub (numbering : Numbering) (x : Context) (s : Scope) (f : runs.Context → Item) (y : SubBlock)
    (t : Scope) : Type 0
  where
    pub code : (a : Around) → Returns x a → IsCodeOf numbering y.code (f (context_in x s a))
    pub lasting : (a : Around) → Returns x a → AreAllSet numbering y.settings (f (context_in x s a)).lasting
    pub after : (a : Around) → Returns x a → t ≡ (f (context_in x s a)).after
    pub marks : (a : Around) → Returns x a → SameMarks numbering (code_marks y.code) (f (context_in x s a)).marks

-- an `else`, where there is one
abbrev pub MaybeSub : Numbering → Context → Scope → Option runs.Code → Option SubBlock → Scope → Type 0
MaybeSub numbering x s None None t = t ≡ s
MaybeSub numbering x s (Some b) (Some c) t = IsSub numbering x s (runs.sub b) c t
MaybeSub numbering x s _ _ t = ⊥

-- the condition of an `if`, and what is done where it isn't 0, in the statement's own block
pub record IsIfBegun (numbering : Numbering) (x : Context) (s : Scope) (condition : ExprNoted) (b : runs.Code)
    (y : IfBegun) (t : Scope) : Type 0
  where
    pub behind_condition : Scope
    pub tests : IsWorth numbering y.condition (condition (enter s)) behind_condition
    pub positive : IsSub numbering x behind_condition (runs.sub b) y.positive t
