-- The functions of the C library that have a body here, by name and type.
use Rattle.std.specs.Prelude.{ℕ, ◌+◌, cond, Option, Some, None}
use Rattle.std.specs.Str.{bytes_eq}
use Rattle.c_language.specs.Scopes.{Name}
use Rattle.c_means.specs.Rules.{Taking, same_taking}
use Rattle.c_prelude.specs.Heads.{Head}
use Rattle.c_prelude.specs.Heads as heads
use Rattle.core_callees.specs.declared.bodies.PreludeFunction.{PreludeFunction}
use Rattle.core_callees.specs.declared.bodies.PreludeFunction.TheVariants as f

abbrev pub head_for : PreludeFunction → Head
head_for f.Strlen = heads.strlen
head_for f.Strcmp = heads.strcmp
head_for f.Strncmp = heads.strncmp
head_for f.Strchr = heads.strchr
head_for f.Strcpy = heads.strcpy
head_for f.Strcat = heads.strcat
head_for f.Memset = heads.memset
head_for f.Memcpy = heads.memcpy
head_for f.Atoi = heads.atoi

-- its place among the functions of the prelude, from 0
abbrev pub position : PreludeFunction → ℕ
position f.Strlen = 0
position f.Strcmp = 1
position f.Strncmp = 2
position f.Strchr = 3
position f.Strcpy = 4
position f.Strcat = 5
position f.Memset = 6
position f.Memcpy = 7
position f.Atoi = 8

abbrev pub named : Name → Option PreludeFunction
named name =
    cond (bytes_eq heads.strlen.name name) (Some f.Strlen)
    (cond (bytes_eq heads.strcmp.name name) (Some f.Strcmp)
    (cond (bytes_eq heads.strncmp.name name) (Some f.Strncmp)
    (cond (bytes_eq heads.strchr.name name) (Some f.Strchr)
    (cond (bytes_eq heads.strcpy.name name) (Some f.Strcpy)
    (cond (bytes_eq heads.strcat.name name) (Some f.Strcat)
    (cond (bytes_eq heads.memset.name name) (Some f.Memset)
    (cond (bytes_eq heads.memcpy.name name) (Some f.Memcpy)
    (cond (bytes_eq heads.atoi.name name) (Some f.Atoi) None))))))))

-- where its declared type is that of the prelude
abbrev pub if_typed : Option Taking → Option PreludeFunction → Option PreludeFunction
if_typed t None = None
if_typed t (Some g) = cond (same_taking t (head_for g).taking) (Some g) None

abbrev pub prelude_in : Option Taking → Name → Option PreludeFunction
prelude_in t name = if_typed t (named name)

-- all nine have numbers, in order from the first
abbrev pub number_from : ℕ → Option PreludeFunction → Option ℕ
number_from first None = None
number_from first (Some g) = Some (first + position g)
