-- Initializers (C99 6.7.8): what they do to the object that is declared. What is said of them stands in `c_language`.
use Rattle.std.specs.Prelude.{ℕ, zero, suc, ◌+◌, ℤ, Bool, true, false, cond, List, [], ◌∷◌, ◌++◌, map, Option, Some}
use Rattle.std.specs.Prelude.{None, length, unwrap_or, is_some, not, ◌&&◌}
use Rattle.c_language.specs.declared.unit.Designator.{Designator}
use Rattle.c_language.specs.declared.unit.Designator.TheVariants as designator
use Rattle.c_language.specs.declared.unit.Initializer.{Initializer, fold-Initializer}
use Rattle.c_language.specs.declared.unit.Initializer.TheOpen as open_
use Rattle.c_language.specs.declared.unit.InitializerItem.{InitializerItem, fold-InitializerItem}
use Rattle.c_language.specs.declared.ctype.CType.{CType}
use Rattle.c_language.specs.declared.tables.Tables.{Tables}
use Rattle.c_language.specs.Types.{class_of}
use Rattle.c_language.specs.Layouts.{size_of}
use Rattle.c_store.specs.Store.{lay, write}
use Rattle.c_language.specs.Scopes.{Name, Scope}
use Rattle.c_language.specs.Typing.{no_constant}
use Rattle.c_language.specs.Initials.{Part, Filling, Fills, InitialSaid, Designates, ToMember, ToElement, value_says}
use Rattle.c_language.specs.Initials.{list_says, item_says, filling_of, is_text_of}
use Rattle.c_language.specs.Declarations.{InitialSays}
use Rattle.c_language.specs.Units.{initialises}
use Rattle.c_means.specs.Parts.{Level, Site}
use Rattle.c_means.specs.Values.{class_in, bytes_of, converted_to, bytes_of_value}
use Rattle.c_means.specs.declared.breach.Breach.{Breach}
use Rattle.c_means.specs.declared.breach.BrokenRule.TheVariants as broken
use Rattle.c_means.specs.Notes.{Noted, ExprNoted, noted, typed_as, is_static_value}
use Rattle.c_means.specs.Items.{Arrow, Acts, breach_if, with_value, running}
use Rattle.c_means.specs.Marks.{Mark}

-- ---- the expressions of an initializer, in order

-- one that initialises a part, or the index of a designator, which isn't evaluated
pub data Element : Type 0 where
  Evaluates : ExprNoted → Element
  Indexes : ExprNoted → Element

-- what an initializer says, whether it stands in braces, and its expressions
pub record Initially : Type 0 where
  pub says : InitialSaid
  pub is_braced : Bool
  pub elements : List Element

-- an item of a braced list
pub record Listed : Type 0 where
  pub fills : Fills
  pub elements : List Element

abbrev pub all_fills : List Listed → List Fills
all_fills [] = []
all_fills (x ∷ xs) = x.fills ∷ all_fills xs

abbrev pub all_elements : List Listed → List Element
all_elements [] = []
all_elements (x ∷ xs) = x.elements ++ all_elements xs

abbrev pub value_initially : ExprNoted → Initially
value_initially e = record {
  says = value_says {E = ExprNoted} typed_as e;
  is_braced = false;
  elements = Evaluates e
      ∷ [];
}

abbrev pub list_initially : ℕ → List Listed → Initially
list_initially at xs = record { says = list_says at (all_fills xs); is_braced = true; elements = all_elements xs }

abbrev pub indices : List (Designates ExprNoted) → List Element
indices [] = []
indices (ToMember at name ∷ ds) = indices ds
indices (ToElement at e ∷ ds) = Indexes e ∷ indices ds

abbrev pub listed : List (Designates ExprNoted) → Initially → Listed
listed ds x = record { fills = item_says {E = ExprNoted} typed_as ds x.says; elements = indices ds ++ x.elements }

abbrev pub designated : Designator → Designates ExprNoted
designated (designator.Member at member) = ToMember at member
designated (designator.Element at index) = ToElement at (noted index)

abbrev pub initially_step : open_.Initializer-F Initially Listed → Initially
initially_step (open_.Value value) = value_initially (noted value)
initially_step (open_.List at items trailing) = list_initially at items

abbrev pub listed_step : open_.InitializerItem-F Initially Listed → Listed
listed_step item = listed (map designated item.designators) item.value

unfoldable pub initially : Initializer → Initially
initially x = fold-Initializer Initially Listed initially_step listed_step x

unfoldable pub listed_item : InitializerItem → Listed
listed_item x = fold-InitializerItem Initially Listed initially_step listed_step x

-- ---- what is stored

-- n bytes of a text, and 0 behind its end
abbrev pub text_byte : List ℕ → ℕ → ℕ
text_byte [] i = 0
text_byte (b ∷ bytes) zero = b
text_byte (b ∷ bytes) (suc i) = text_byte bytes i

-- a literal's bytes in a whole array of characters (C99 6.7.8p14, p21)
abbrev pub lays_text : ℕ → ℕ → List ℕ → Arrow
lays_text a n bytes d = record d { store = lay a n (text_byte bytes) d.store }

-- a value, converted to a type, as it is stored; where there is none, nothing is
abbrev pub stores_as : Tables → Option CType → ℕ → ℤ → Arrow
stores_as tables t a z d = record d {
  store = write (bytes_of tables t) a (bytes_of_value (class_in t) (converted_to (class_in t) z)) d.store;
}

-- to the type of the part (C99 6.7.8p11, p13)
abbrev pub stores : Tables → CType → ℕ → ℤ → Arrow
stores tables t a z d = stores_as tables (Some t) a z d

-- an array of unknown length takes the zero behind the literal too (C99 6.7.8p14, p22)
abbrev pub text_room : Tables → CType → List ℕ → ℕ
text_room tables t bytes = unwrap_or (size_of tables t) (suc (length bytes))

abbrev pub sets_text : Tables → Part → ℕ → List ℕ → Arrow
sets_text tables p a bytes = lays_text (a + p.offset) (text_room tables p.type bytes) bytes

abbrev pub sets : Part → Noted → ℕ → Acts
sets p x a l env base d =
    cond (is_text_of p.type x.part.typed)
    (sets_text x.part.typed.after.tables p a (unwrap_or (x.part.text l) []) d)
    (with_value (x.part.run l env base d) (stores x.part.typed.after.tables p.type (a + p.offset)))

-- each expression in the scope that those before it leave
abbrev pub evaluated : List Element → Scope → List Noted
evaluated [] s = []
evaluated (Evaluates e ∷ es) s = let x = e s in x ∷ evaluated es x.part.typed.after
evaluated (Indexes e ∷ es) s = evaluated es (e s).part.typed.after

-- a literal that sets a whole array is one node, and takes no place
abbrev pub set_size : Part → Noted → Level → ℕ
set_size p x l = cond (is_text_of p.type x.part.typed) 1 (x.part.size l)

abbrev pub set_room : Part → Noted → Level → ℕ
set_room p x l = cond (is_text_of p.type x.part.typed) 0 (x.part.room l)

abbrev pub set_marks : Part → Noted → Level → List Mark
set_marks p x l = cond (is_text_of p.type x.part.typed) [] (x.part.marks l)

-- in order, into their parts
abbrev pub sets_all : List Part → List Noted → ℕ → Acts
sets_all [] xs a l env base d = d
sets_all (p ∷ ps) [] a l env base d = d
sets_all (p ∷ ps) (x ∷ xs) a l env base d =
    running (sets_all ps xs a l env (base + set_room p x l)) (sets p x a l env base d)

-- ---- an initializer, as the object's declaration has it

-- `run` acts on the object at an address. What a braced initializer doesn't name is 0 (C99 6.7.8p21): where
-- `is_zeroed`, the object is set to 0 before the first expression is evaluated. `constant` are the expressions that
-- a static object may not be initialised with.
pub record Initial : Type 0 where
  pub is_zeroed : Bool
  pub calls : List (Level → Site)
  pub called : List Name
  pub size : Level → ℕ
  pub room : Level → ℕ
  pub marks : Level → List Mark
  pub constant : List Breach
  pub run : ℕ → Acts

abbrev pub all_calls : List Noted → List (Level → Site)
all_calls [] = []
all_calls (x ∷ xs) = x.notes.calls ++ all_calls xs

abbrev pub all_called : List Noted → List Name
all_called [] = []
all_called (x ∷ xs) = x.notes.called ++ all_called xs

-- of each part with its expression: one that is too many breaks a rule, and isn't evaluated
abbrev pub all_sizes : List Part → List Noted → Level → ℕ
all_sizes [] xs l = 0
all_sizes (p ∷ ps) [] l = 0
all_sizes (p ∷ ps) (x ∷ xs) l = set_size p x l + all_sizes ps xs l

abbrev pub all_rooms : List Part → List Noted → Level → ℕ
all_rooms [] xs l = 0
all_rooms (p ∷ ps) [] l = 0
all_rooms (p ∷ ps) (x ∷ xs) l = set_room p x l + all_rooms ps xs l

abbrev pub each_marks : List Part → List Noted → Level → List Mark
each_marks [] xs l = []
each_marks (p ∷ ps) [] l = []
each_marks (p ∷ ps) (x ∷ xs) l = set_marks p x l ++ each_marks ps xs l

-- what has no type breaks a rule already
abbrev pub not_static : Noted → List Breach
not_static x =
    breach_if (is_some x.part.typed.shown && not (is_static_value x)) x.part.typed.at (broken.Typing no_constant)

abbrev pub all_not_static : List Noted → List Breach
all_not_static [] = []
all_not_static (x ∷ xs) = not_static x ++ all_not_static xs

abbrev pub initial_of : Bool → Filling → List Noted → Initial
initial_of braced y xs = record {
  is_zeroed = braced;
  calls = all_calls xs;
  called = all_called xs;
  size = all_sizes y.parts xs;
  room = all_rooms y.parts xs;
  marks = each_marks y.parts xs;
  constant = all_not_static xs;
  run = λ a. sets_all y.parts xs a;
}

-- for an object of a type, from the scope in which its name is in force
abbrev pub initialising : Initially → CType → Scope → Initial
initialising x t s = initial_of x.is_braced (filling_of x.says t s) (evaluated x.elements s)

-- no initializer: nothing is done
abbrev pub uninitialised : Initial
uninitialised = record {
  is_zeroed = false;
  calls = [];
  called = [];
  size = λ l. 0;
  room = λ l. 0;
  marks = λ l. [];
  constant = [];
  run = λ a l env base d. d;
}

abbrev pub initialising_if : Option Initially → Option CType → Scope → Initial
initialising_if None t s = uninitialised
initialising_if (Some x) None s = uninitialised
initialising_if (Some x) (Some t) s = initialising x t s

abbrev pub said_if : Option Initially → Option InitialSays
said_if None = None
said_if (Some x) = Some (initialises x.says)
