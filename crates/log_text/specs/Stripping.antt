-- What stripping leaves of a log: a map over its whole lines.
use Rattle.std.specs.Prelude.{ℕ, List, [], drop, Bool, true, false, Option, Some, None, ◌==◌, if◌then◌else◌}
use Rattle.std.specs.List.{flat_map}
use Rattle.regex.specs.Patterns.{Re, Match, find}
use Rattle.log_text.specs.Lines.{lines_of}

-- a line where the pattern doesn't match at the first byte
abbrev pub unmatched : Bool → List ℕ → List ℕ
unmatched drop_unmatched line = if drop_unmatched then [] else line

-- a line without the pattern's first match, where that begins at the line's first byte
abbrev pub without : Option Match → Bool → List ℕ → List ℕ
without None drop_unmatched line = unmatched drop_unmatched line
without (Some m) drop_unmatched line = if m.start == 0 then drop m.trace.end line else unmatched drop_unmatched line

-- what is left of a line, its newline included; with no pattern all of it
abbrev pub stripped_line : Option Re → Bool → List ℕ → List ℕ
stripped_line None drop_unmatched line = line
stripped_line (Some pattern) drop_unmatched line = without (find pattern line 0) drop_unmatched line

abbrev pub stripped : Option Re → Bool → List ℕ → List ℕ
stripped pattern drop_unmatched log = flat_map (stripped_line pattern drop_unmatched) (lines_of log)
