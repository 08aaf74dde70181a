-- A source with so many functions, and a log that it can print.
use Rattle.std.specs.Prelude.{ℕ, zero, suc, ◌%◌, ◌==◌, if◌then◌else◌, List, [], ◌++◌, codes}
use Rattle.std.specs.Fmt.{decimal}

abbrev pub Text : Type 0
Text = List ℕ

-- a line for each number: this one, and so many in all
unfoldable pub numbered : (ℕ → Text) → ℕ → ℕ → Text
numbered line number zero = []
numbered line number (suc count) = line number ++ numbered line (suc number) count

-- ---- the source

abbrev pub declarations : Text
declarations = codes "int ext(int);\nint printf(const char *, ...);\n"

unfoldable pub function_line : ℕ → Text
function_line number =
    codes "int f" ++ (decimal number ++ (codes "(int x) { int r = ext(x); if (r < 0) { printf(\"f" ++ (decimal number
    ++ (codes " low %d\\n\", r); return 1; } printf(\"f" ++ (decimal number ++ codes " ok %d\\n\", r); return 0; }\n")))))

abbrev pub main_head : Text
main_head = codes "int main(void) {\n  int s = 0;\n"

unfoldable pub call_line : ℕ → Text
call_line number = codes "  s += f" ++ (decimal number ++ (codes "(" ++ (decimal number ++ codes ");\n")))

abbrev pub main_end : Text
main_end = codes "  return s;\n}\n"

abbrev pub source : ℕ → Text
source count = declarations ++ (numbered function_line 1 count ++ (main_head ++ (numbered call_line 1 count ++ main_end)))

-- ---- the log

-- every third call fails
unfoldable pub low_line : ℕ → Text
low_line number = codes "f" ++ (decimal number ++ (codes " low -" ++ (decimal number ++ codes "\n")))

unfoldable pub ok_line : ℕ → Text
ok_line number = codes "f" ++ (decimal number ++ (codes " ok " ++ (decimal number ++ codes "\n")))

abbrev pub log_line : ℕ → Text
log_line number = if number % 3 == 0 then low_line number else ok_line number

abbrev pub log : ℕ → Text
log count = numbered log_line 1 count
