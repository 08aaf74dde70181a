use Rattle.std.proofs.Common.{◌∙◌, ap}
use Rattle.cnf_core.specs.Truth.{value_of}
use Rattle.word_gates.specs.Spelling.{spelled}
use Rattle.bitvectors.proofs.DecodeLemmas.{byte-small}
use Rattle.bitvectors.proofs.decoding.set_byte.Goals as goal

pub overflow_cast-value : goal.overflow_cast-value
overflow_cast-value c = record { fits = byte-small (value_of c.args.values.now) c.args.row.now c.number_of-value.result c.requires (c.number_of-value.ensures ∙ ap (spelled (value_of c.args.values.now)) c.as_slice-2.ensures) }
