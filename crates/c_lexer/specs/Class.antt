-- Classes of bytes (C99 5.2.1, 6.4), and the longest run of one class.
use Rattle.std.specs.Prelude.{ℕ, ◌+◌, Bool, not, ◌&&◌, ◌||◌, ◌==◌, nat_le, List, drop}
use Rattle.std.specs.Char.{is_ascii_digit, is_ascii_hexdigit, is_ascii_alphabetic, is_ascii_alphanumeric}
use Rattle.std.specs.List.{prefix_len}
use Rattle.c_lexer.specs.declared.class.Class.{Class}
use Rattle.c_lexer.specs.declared.class.Class.TheVariants as class

abbrev pub Text : Type 0
Text = List ℕ

-- space, tab, vertical tab, form feed and carriage return
abbrev pub is_blank : ℕ → Bool
is_blank b = b == 32 || b == 9 || (nat_le 11 b && nat_le b 13)

abbrev pub is_in : Class → ℕ → Bool
is_in class.Blank b = is_blank b
is_in class.Digit b = is_ascii_digit b
is_in class.Octal b = nat_le 48 b && nat_le b 55
is_in class.Hex b = is_ascii_hexdigit b
is_in class.Letter b = is_ascii_alphabetic b || b == 95
is_in class.Word b = is_ascii_alphanumeric b || b == 95
is_in class.Line b = not (b == 10)
is_in class.Flag b = is_ascii_digit b || is_blank b
is_in class.Exponent b = b == 101 || b == 69
is_in class.BinaryExponent b = b == 112 || b == 80
is_in class.Sign b = b == 43 || b == 45
is_in class.FloatSuffix b = b == 102 || b == 70 || b == 108 || b == 76

-- the first place from `at` on whose byte is not of the class
abbrev pub past : Class → Text → ℕ → ℕ
past c text at = at + prefix_len (is_in c) (drop at text)
