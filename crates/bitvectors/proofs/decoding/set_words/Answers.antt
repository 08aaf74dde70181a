use Rattle.std.proofs.Common.{◌∙◌, refl}
use Rattle.cnf_core.specs.Truth.{value_of}
use Rattle.input_tables.proofs.RowLemmas.{member-read}
use Rattle.bitvectors.proofs.DecodeLemmas.{rows-start, rows-more, rows-whole}
use Rattle.bitvectors.proofs.decoding.set_words.Goals as goal

pub rows-init : goal.rows-init
rows-init c = record { sets = rows-start (value_of c.args.values.now) c.args.world.now.words c.args.rows.now; same = refl }

pub set_word-requires : goal.set_word-requires
set_word-requires c = c.requires c.index-rows-index.result (member-read c.args.rows.now c.rows.index c.index-rows-index.result c.rows-test.true c.index-rows-index.is)

pub rows-preserved : goal.rows-preserved
rows-preserved c = record {
  sets = rows-more (value_of c.args.values.now) c.args.world.now.words c.rows.world.words _ c.args.rows.now c.rows.index c.index-rows-index.result c.rows-test.true c.index-rows-index.is c.rows.invariant.sets c.in_ok-set_word.ensures.words;
  same = c.set_word.ensures.bytes ∙ c.rows.invariant.same;
}

pub returns-clause-words : goal.returns-clause-words
returns-clause-words c = rows-whole (value_of c.args.values.now) c.args.world.now.words c.rows.world.words c.args.rows.now c.rows.index c.rows-test.false c.rows.invariant.sets
