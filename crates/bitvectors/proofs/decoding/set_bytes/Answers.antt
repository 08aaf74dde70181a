use Rattle.std.proofs.Common.{◌∙◌, refl}
use Rattle.cnf_core.specs.Truth.{value_of}
use Rattle.input_tables.proofs.RowLemmas.{member-read}
use Rattle.bitvectors.proofs.DecodeLemmas.{rows-start, rows-more, rows-whole}
use Rattle.bitvectors.proofs.decoding.set_bytes.Goals as goal

pub rows-init : goal.rows-init
rows-init c = record { sets = rows-start (value_of c.args.values.now) c.args.world.now.bytes c.args.rows.now; same = refl }

pub set_byte-requires : goal.set_byte-requires
set_byte-requires c = c.requires c.index-rows-index.result (member-read c.args.rows.now c.rows.index c.index-rows-index.result c.rows-test.true c.index-rows-index.is)

pub rows-preserved : goal.rows-preserved
rows-preserved c = record {
  sets = rows-more (value_of c.args.values.now) c.args.world.now.bytes c.rows.world.bytes _ c.args.rows.now c.rows.index c.index-rows-index.result c.rows-test.true c.index-rows-index.is c.rows.invariant.sets c.in_ok-set_byte.ensures.bytes;
  same = c.set_byte.ensures.words ∙ c.rows.invariant.same;
}

pub returns-clause-bytes : goal.returns-clause-bytes
returns-clause-bytes c = rows-whole (value_of c.args.values.now) c.args.world.now.bytes c.rows.world.bytes c.args.rows.now c.rows.index c.rows-test.false c.rows.invariant.sets
