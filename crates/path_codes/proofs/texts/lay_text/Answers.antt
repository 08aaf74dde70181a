use Rattle.std.proofs.Common.{rules, ◌≡◌, arith}
use Rattle.c_means.specs.Initials.{text_byte}
use Rattle.term_bank.proofs.TermLemmas.{term_grown}
use Rattle.path_codes.proofs.Laid.{laid_none, laid_more}
use Rattle.path_codes.proofs.texts.lay_text.Goals as goal

pub bytes-init : goal.bytes-init
bytes-init c = (laid_none c.args.bank.now c.args.memory c.args.from (text_byte c.args.text.now) c.requires.memory, (search rules))

pub write_byte-requires-clause-memory : goal.write_byte-requires-clause-memory
write_byte-requires-clause-memory c = c.bytes.invariant.0.term

pub write_byte-requires-clause-from : goal.write_byte-requires-clause-from
write_byte-requires-clause-from c = term_grown _ _ _ c.args.from c.bytes.invariant.0.grows c.requires.from

pub bytes-preserved : goal.bytes-preserved
bytes-preserved c = (
  laid_more _ _ _ c.args.memory c.args.from c.bytes.laid c.in_ok-laid.laid c.bytes.at c.byte_at-byte.result (text_byte c.args.text.now)
      (term_grown _ _ _ c.args.from c.bytes.invariant.0.grows c.requires.from) (search rules) (search rules) c.byte_at-byte.ensures
      c.bytes.invariant.0 c.in_ok-laid.ensures,
  (search rules),
)

pub returns : goal.returns
returns c =
    let all : c.bytes.at ≡ c.args.size = omega (arith, c.bytes-test.false, c.bytes.invariant.1) in
    rw all at c.bytes.invariant.0
