-- What it is that expressions of an initializer were put to the parts that they set.
use Rattle.std.specs.Prelude.{◌≡◌, ℕ, pos, List, [], ◌∷◌, ◌++◌, Option, Some, unwrap_or, Result}
use Rattle.c_language.specs.declared.tables.Tables.{Tables}
use Rattle.c_language.specs.Types.{class_of}
use Rattle.c_language.specs.Initials.{Part, is_literal_in}
use Rattle.c_language.specs.Scopes.{Scope}
use Rattle.c_means.specs.Parts.{Level}
use Rattle.c_means.specs.Parts as c
use Rattle.c_means.specs.Values.{bytes_of}
use Rattle.c_means.specs.Notes.{Noted}
use Rattle.c_means.specs.Initials as initials
use Rattle.core_tree.specs.declared.code.Setting.{Setting}
use Rattle.core_tree.specs.declared.code.Setting.TheVariants as setting
use Rattle.core_tree.specs.declared.expr.Expr.{Expr}
use Rattle.core_tree.specs.declared.expr.Expr.TheVariants as expr
use Rattle.core_tree.specs.States as core
use Rattle.core_tree.specs.Values.{value}
use Rattle.core_marks.specs.Marks.{value_marks}
use Rattle.elaborate.specs.Means.{Numbering, Like, SameMarks, IsValueOf}
use Rattle.elaborate.specs.Types.{value_type}
use Rattle.core_objects.specs.Given.{IsSet}
use Rattle.core_declarations.specs.declared.pairing.Source.{Source}
use Rattle.core_declarations.specs.declared.pairing.Pair.{Pair}
use Rattle.core_declarations.specs.declared.pairing.Waiting.{Waiting}
use Rattle.core_declarations.specs.declared.pairing.Paired.{Paired}

-- ---- one expression

-- what is known of an expression
pub record IsSource (numbering : Numbering) (x : Source) (n : Noted) : Type 0 where
  pub literal : x.is_literal ≡ is_literal_in n.part.typed.shown
  pub worth : IsValueOf numbering x.value n.part
  pub text : (l : Level) → l.identity ≡ numbering.identity → x.text ≡ n.part.text l
  pub marks : SameMarks numbering (value_marks x.value) n.part.marks

-- an expression, and the part that it sets
pub record IsPair (numbering : Numbering) (y : Pair) (p : Part) (n : Noted) : Type 0 where
  pub set : IsSet numbering y.setting p n
  pub size : (l : c.Level) (k : core.Level core.Output) → Like numbering l k
      → (value {O = core.Output} y.counted).needs.size k.measures ≡ initials.set_size p n l
  pub marks : SameMarks numbering (value_marks y.counted) (initials.set_marks p n)

-- a literal that sets a whole array counts as one node
abbrev pub text_pair : Tables → Part → Option (List ℕ) → Pair
text_pair tables p text =
    let bytes = unwrap_or text [] in
    record {
      setting = setting.Text p.offset (initials.text_room tables p.type bytes) bytes;
      counted = expr.Constant (pos 0);
    }

abbrev pub value_pair : Tables → Part → Expr → Pair
value_pair tables p e = record {
  setting = setting.Value p.offset (value_type (class_of p.type) (bytes_of tables (Some p.type))) e;
  counted = e;
}

-- ---- all of them

abbrev pub none_paired : Paired
none_paired = record { settings = []; counted = []; waiting = [] }

abbrev pub and_pair : Pair → Paired → Paired
and_pair y x = record x { settings = x.settings ++ y.setting ∷ []; counted = x.counted ++ y.counted ∷ [] }

abbrev pub waits : Scope → Source → Paired → Paired
waits s x y = record y { waiting = y.waiting ++ record { scope = s; source = x } ∷ [] }

-- one more, with this part
pub record HasPair (numbering : Numbering) (x : Paired) (p : Part) (n : Noted) (y : Paired) : Type 0 where
  pub pair : Pair
  pub is_pair : IsPair numbering pair p n
  pub is : y ≡ and_pair pair x

-- an expression that waits, behind which these names are in force
pub record IsWaiting (numbering : Numbering) (w : Waiting) (n : Noted) : Type 0 where
  pub after : w.scope ≡ n.part.typed.after
  pub source : IsSource numbering w.source n

abbrev pub AllWait : Numbering → List Waiting → List Noted → Type 0
AllWait numbering [] [] = Unit {0}
AllWait numbering (w ∷ ws) (n ∷ ns) = IsWaiting numbering w n × AllWait numbering ws ns
AllWait numbering _ _ = ⊥

-- an expression that has its part
pub record Step (numbering : Numbering) : Type 0 where
  pub pair : Pair
  pub part : Part
  pub noted : Noted
  pub is_pair : IsPair numbering pair part noted

module _ (numbering : Numbering) where
  abbrev pub settings_of : List (Step numbering) → List Setting
  settings_of [] = []
  settings_of (x ∷ xs) = x.pair.setting ∷ settings_of xs

  abbrev pub counted_of : List (Step numbering) → List Expr
  counted_of [] = []
  counted_of (x ∷ xs) = x.pair.counted ∷ counted_of xs

  abbrev pub parts_of : List (Step numbering) → List Part
  parts_of [] = []
  parts_of (x ∷ xs) = x.part ∷ parts_of xs

  abbrev pub noted_of : List (Step numbering) → List Noted
  noted_of [] = []
  noted_of (x ∷ xs) = x.noted ∷ noted_of xs

-- these expressions, where these parts are filled: the first of them have their parts, and the others wait
pub record Holds (numbering : Numbering) (ns : List Noted) (ps : List Part) (x : Paired) : Type 0 where
  pub steps : List (Step numbering)
  pub left : List Noted
  pub noted : ns ≡ noted_of numbering steps ++ left
  pub parts : ps ≡ parts_of numbering steps
  pub settings : x.settings ≡ settings_of numbering steps
  pub counted : x.counted ≡ counted_of numbering steps
  pub waiting : AllWait numbering x.waiting left

-- ---- parts that are filled

pub record OneMore (ps qs : List Part) : Type 0 where
  pub part : Part
  pub is : qs ≡ ps ++ part ∷ []

-- an expression fills one part, or none
abbrev pub AreGrown : List Part → List Part → Type 0
AreGrown ps qs = Result (qs ≡ ps) (OneMore ps qs)
