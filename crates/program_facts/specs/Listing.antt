-- The facts of a program along a log, in the order of a report.
use Rattle.std.specs.Prelude.{◌≡◌, ℕ, ◌+◌, Bool, true, false, cond, ◌&&◌, ◌||◌, nat_eq, List, [], ◌∷◌, ◌++◌, Option, Some, None, slice_get}
use Rattle.std.specs.List.{list_any}
use Rattle.plain_data.specs.declared.fact.Fact.TheVariants as fact
use Rattle.plain_data.specs.declared.fact.Facts.{Facts}
use Rattle.plain_data.specs.declared.run.Side.{Side}
use Rattle.plain_data.specs.declared.run.Undefined.{Undefined}
use Rattle.plain_data.specs.declared.run.Undefined.TheVariants as undefined
use Rattle.log_text.specs.Lines.{line_count}
use Rattle.core_tree.specs.declared.program.Core.{Core}
use Rattle.core_tree.specs.declared.program.Function.{Function}
use Rattle.core_marks.specs.declared.mark.Mark.{Mark}
use Rattle.core_marks.specs.declared.mark.Mark.TheVariants.{Branch, Call, Body, Log, Exit, Abort, Stop}
use Rattle.core_marks.specs.Order.{IsInOrder, kind_number}
use Rattle.core_marks.specs.Programs.{source_marks, library_marks}
use Rattle.program_facts.specs.Entries.{Entry, plain, each_line, with_all, no_facts}
use Rattle.program_facts.specs.Prints.{ArePrintsOf}

-- ---- what stands at a token

-- a value of the function of a number can be missing where it is used (C99 6.9.1p12)
abbrev pub misses : Option Function → Bool
misses None = false
misses (Some f) = f.may_miss

abbrev pub may_miss : List Function → ℕ → Bool
may_miss fs n = misses (slice_get fs n)

-- in all lines, and then in each line up to the last
abbrev pub branch_entries : ℕ → Side → ℕ → List Entry
branch_entries at side last = plain (fact.Branch at side) ∷ each_line (λ line. fact.BranchIn at side line) last

abbrev pub call_entries : ℕ → ℕ → List Entry
call_entries at last = plain (fact.Call at) ∷ each_line (λ line. fact.CallIn at line) last

abbrev pub stop_entries : ℕ → Undefined → List Entry
stop_entries at kind = plain (fact.StopAt kind at) ∷ []

abbrev pub missing_entries : ℕ → Bool → List Entry
missing_entries at missing = cond missing (stop_entries at undefined.MissingValue) []

-- of what is no log call
abbrev pub plain_entries : List Function → ℕ → Mark → List Entry
plain_entries fs last (Branch at side) = branch_entries at side last
plain_entries fs last (Call at) = call_entries at last
plain_entries fs last (Body at function) = missing_entries at (may_miss fs function)
plain_entries fs last (Log site) = []
plain_entries fs last (Exit at) = []
plain_entries fs last (Abort at) = []
plain_entries fs last (Stop at kind) = stop_entries at kind

abbrev pub is_log : Mark → Bool
is_log (Log site) = true
is_log _ = false

-- the facts of what stands at a token
abbrev pub Gives : List Function → List ℕ → ℕ → Mark → List Entry → Type 0
Gives fs log last (Log site) entries = ArePrintsOf log site entries
Gives fs log last m entries = entries ≡ plain_entries fs last m

-- of all, one behind the other
abbrev pub GiveAll : List Function → List ℕ → ℕ → List Mark → List Entry → Type 0
GiveAll fs log last [] entries = entries ≡ []
GiveAll fs log last (m ∷ ms) entries =
    (first : List Entry) × ((rest : List Entry)
    × (Gives fs log last m first × GiveAll fs log last ms rest × (entries ≡ first ++ rest)))

-- ---- facts without a token

abbrev pub is_exit : Mark → Bool
is_exit (Exit at) = true
is_exit _ = false

abbrev pub is_abort : Mark → Bool
is_abort (Abort at) = true
is_abort _ = false

-- it lists this kind of undefined behaviour
abbrev pub lists : List Function → Undefined → Mark → Bool
lists fs kind (Stop at met) = nat_eq (kind_number met) (kind_number kind)
lists fs kind (Body at function) = nat_eq (kind_number undefined.MissingValue) (kind_number kind) && may_miss fs function
lists fs kind _ = false

abbrev pub entry_if : Bool → Entry → List Entry
entry_if wanted e = cond wanted (e ∷ []) []

-- of these kinds, each that is listed at a token of a function of the source or of the library
abbrev pub kind_entries : List Function → List Mark → List Mark → List Undefined → List Entry
kind_entries fs source library [] = []
kind_entries fs source library (kind ∷ kinds) =
    entry_if (list_any (λ m. lists fs kind m) source || list_any (λ m. lists fs kind m) library) (plain (fact.StopOf kind))
    ++ kind_entries fs source library kinds

abbrev pub all_kinds : List Undefined
all_kinds = undefined.Overflow ∷ undefined.ZeroDivisor ∷ undefined.Shift ∷ undefined.PointerRange ∷ undefined.Dereference
    ∷ undefined.LiteralWrite ∷ undefined.Free ∷ undefined.PointerOrder ∷ undefined.MissingValue ∷ []

-- how a run ends: `main` returns; `exit` and `abort` where they are called; the kinds by their numbers
abbrev pub end_entries : List Function → List Mark → List Mark → List Entry
end_entries fs source library =
    plain fact.Returned ∷ (entry_if (list_any is_exit source) (plain fact.Exited)
    ++ (entry_if (list_any is_abort source) (plain fact.Aborted) ++ kind_entries fs source library all_kinds))

-- ---- the whole list

-- the last line in which branches and calls are listed: that behind the log's last, or none
abbrev pub last_line : Bool → List ℕ → ℕ
last_line by_line log = cond by_line (line_count log + 1) 0

-- The facts and watched variables of a program along a log, with or without lines: those of what stands at the tokens of
-- the functions of its source that are reached, in the order of the tokens; then those of the end of a run.
pub record AreFactsOf (p : Core) (log : List ℕ) (by_line : Bool) (facts : Facts) : Type 0 where
  pub marks : List Mark
  pub in_order : IsInOrder (source_marks p) marks
  pub entries : List Entry
  pub give : GiveAll p.functions log (last_line by_line log) marks entries
  pub are : facts ≡ with_all (with_all no_facts entries) (end_entries p.functions marks (library_marks p))

-- ---- as they are found

pub record PutsMark (fs : List Function) (log : List ℕ) (last : ℕ) (m : Mark) (old now : Facts) : Type 0 where
  pub entries : List Entry
  pub give : Gives fs log last m entries
  pub is : now ≡ with_all old entries

pub record PutsMarks (fs : List Function) (log : List ℕ) (last : ℕ) (ms : List Mark) (old now : Facts) : Type 0 where
  pub entries : List Entry
  pub give : GiveAll fs log last ms entries
  pub is : now ≡ with_all old entries
