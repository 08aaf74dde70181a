use Rattle.std.proofs.Common.{◌≡◌, drop}
use Rattle.c_grammar.specs.Units as units
use Rattle.c_parser.proofs.declarations.makes_types.Given as goal

abbrev pub invariant-loop-specifier : goal.invariant-loop-specifier
invariant-loop-specifier l = units.makes_types (drop l.specifier-index l.specifiers) ≡ units.makes_types l.specifiers
