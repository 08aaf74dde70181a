-- The functions with a body in the source, by name.
use Rattle.std.specs.Prelude.{ℕ, List, Option, Some, None}
use Rattle.std.specs.Str.{bytes_eq}
use Rattle.c_language.specs.Scopes.{Name, last_where}
use Rattle.core_callees.specs.declared.numbered.FunctionNumber.{FunctionNumber}

abbrev pub number_of : Option FunctionNumber → Option ℕ
number_of None = None
number_of (Some f) = Some f.number

-- by the last function of a name
abbrev pub numbers_in : List FunctionNumber → Name → Option ℕ
numbers_in fs name = number_of (last_where (λ f. bytes_eq f.name name) None fs)
