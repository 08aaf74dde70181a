-- What stands on a bench.
use Rattle.c_prelude.specs.declared.bench.Bench.{Bench}
use Rattle.c_prelude.specs.Steps.{Parts}

abbrev pub parts : Bench → Parts
parts b = record {
  specifiers = b.specifiers;
  parameters = b.parameters;
  exprs = b.exprs;
  stmts = b.stmts;
  blocks = b.blocks;
}
