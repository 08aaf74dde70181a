-- What the heads of the functions that have a body here say: names, types as they are compared, and how many
-- parameters there are.
use Rattle.std.specs.Prelude.{ℕ, cond, List, [], ◌∷◌, length, Option, Some, None}
use Rattle.std.specs.Str.{bytes_eq}
use Rattle.c_language.specs.declared.ctype.IntegerKind.TheVariants as int_
use Rattle.c_language.specs.Scopes.{Name}
use Rattle.c_means.specs.Programs.{Function}
use Rattle.c_means.specs.Rules.{Plain, Taking, declared_taking, PlainInteger, PlainPointer}

pub record Head : Type 0 where
  pub name : Name
  pub taking : Option Taking
  pub parameters : ℕ

abbrev pub head_of : Function → Head
head_of f = record {
  name = f.name;
  taking = declared_taking f.inside.tables f.means;
  parameters = length f.parameters;
}

abbrev pub int : Option Plain
int = Some (PlainInteger int_.Int)

abbrev pub size : Option Plain
size = Some (PlainInteger int_.UnsignedLong)

abbrev pub pointer : Option Plain
pointer = Some PlainPointer

abbrev pub returning : Name → Option Plain → List (Option Plain) → Head
returning name r ps = record {
  name = name;
  taking = Some (record { result = r; parameters = ps });
  parameters = length ps;
}

abbrev pub strlen : Head
strlen = returning (115 ∷ 116 ∷ 114 ∷ 108 ∷ 101 ∷ 110 ∷ []) size (pointer ∷ [])

abbrev pub strcmp : Head
strcmp = returning (115 ∷ 116 ∷ 114 ∷ 99 ∷ 109 ∷ 112 ∷ []) int (pointer ∷ pointer ∷ [])

abbrev pub strncmp : Head
strncmp = returning (115 ∷ 116 ∷ 114 ∷ 110 ∷ 99 ∷ 109 ∷ 112 ∷ []) int (pointer ∷ pointer ∷ size ∷ [])

abbrev pub strchr : Head
strchr = returning (115 ∷ 116 ∷ 114 ∷ 99 ∷ 104 ∷ 114 ∷ []) pointer (pointer ∷ int ∷ [])

abbrev pub strcpy : Head
strcpy = returning (115 ∷ 116 ∷ 114 ∷ 99 ∷ 112 ∷ 121 ∷ []) pointer (pointer ∷ pointer ∷ [])

abbrev pub strcat : Head
strcat = returning (115 ∷ 116 ∷ 114 ∷ 99 ∷ 97 ∷ 116 ∷ []) pointer (pointer ∷ pointer ∷ [])

abbrev pub memset : Head
memset = returning (109 ∷ 101 ∷ 109 ∷ 115 ∷ 101 ∷ 116 ∷ []) pointer (pointer ∷ int ∷ size ∷ [])

abbrev pub memcpy : Head
memcpy = returning (109 ∷ 101 ∷ 109 ∷ 99 ∷ 112 ∷ 121 ∷ []) pointer (pointer ∷ pointer ∷ size ∷ [])

abbrev pub atoi : Head
atoi = returning (97 ∷ 116 ∷ 111 ∷ 105 ∷ []) int (pointer ∷ [])

abbrev pub heads : List Head
heads = strlen ∷ strcmp ∷ strncmp ∷ strchr ∷ strcpy ∷ strcat ∷ memset ∷ memcpy ∷ atoi ∷ []

-- the head of a name, the first that has it
abbrev pub head_named : List Head → Name → Option Head
head_named [] name = None
head_named (h ∷ hs) name = cond (bytes_eq h.name name) (Some h) (head_named hs name)
