use Rattle.std.proofs.Common.{◌∙◌, ap, refl, sym}
use Rattle.cnf_core.specs.Truth.{value_of}
use Rattle.bitvectors.proofs.DecodeLemmas.{decoded, fixed-widths, free-widths}
use Rattle.bitvectors.proofs.inputs.Inputs.decode.Goals as goal

pub set_words-requires : goal.set_words-requires
set_words-requires c = fixed-widths 64 c.args.self.now.words c.as_slice.result.now c.requires.words c.as_slice.ensures

pub set_words-requires-2 : goal.set_words-requires-2
set_words-requires-2 c = free-widths 64 c.args.self.now.words c.as_slice-2.result.now c.requires.words c.as_slice-2.ensures

pub set_bytes-requires : goal.set_bytes-requires
set_bytes-requires c = fixed-widths 8 c.args.self.now.bytes c.as_slice-3.result.now c.requires.bytes c.as_slice-3.ensures

pub set_bytes-requires-2 : goal.set_bytes-requires-2
set_bytes-requires-2 c = free-widths 8 c.args.self.now.bytes c.as_slice-4.result.now c.requires.bytes c.as_slice-4.ensures

pub returns : goal.returns
returns c = λ blasted same.
    decoded blasted (value_of c.args.values.now) c.new-world.result.words c.set_words.new.world.words c.set_words-2.new.world.words c.set_words-2.new.world.bytes c.set_bytes.new.world.bytes c.set_bytes-2.new.world.bytes c.as_slice.result.now c.as_slice-2.result.now c.as_slice-3.result.now c.as_slice-4.result.now c.set_bytes-2.new.world
    (rw same c.requires.words) (rw same c.requires.bytes) (c.as_slice.ensures ∙ ap (λ i. i.words.fixed) (sym same)) (c.as_slice-2.ensures ∙ ap (λ i. i.words.free) (sym same)) (c.as_slice-3.ensures ∙ ap (λ i. i.bytes.fixed) (sym same)) (c.as_slice-4.ensures ∙ ap (λ i. i.bytes.free) (sym same)) c.in_ok-set_words.ensures.words c.in_ok-set_words-2.ensures.words c.in_ok-set_bytes.ensures.bytes c.in_ok-set_bytes-2.ensures.bytes (c.set_bytes-2.ensures.words ∙ c.set_bytes.ensures.words) refl
