-- What parts say together, from what the trees in them say.
use Rattle.std.specs.Prelude.{Option, option_map}
use Rattle.c_language.specs.declared.expr.Declarator.{Declarator}
use Rattle.c_language.specs.declared.expr.Expr.{Expr}
use Rattle.c_language.specs.Scopes.{Scope}
use Rattle.c_language.specs.Typing.{Arguments}
use Rattle.c_language.specs.Declares.{Counted, Laying, counted, bits_declared}
use Rattle.c_language.specs.Trees.{ExprSays, Through, itself, typed, declarator_says}

-- arguments in front of the scope that they leave
abbrev pub behind : Arguments → Scope → Through
behind xs s = record { arguments = xs; after = s }

-- the length of an array between its brackets
abbrev pub length_says : Option Expr → Scope → Counted
length_says e s = counted {E = ExprSays} itself (option_map typed e) s

-- a bit-field's declarator, where it has one
abbrev pub bits_say : Option Declarator → Laying
bits_say d x = bits_declared (option_map declarator_says d) x
