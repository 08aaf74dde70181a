use Rattle.cert_text.proofs.WorldLaws.{reads, reads_other}
use Rattle.cert_text.proofs.reading.read_world.Goals as goal

pub returns-then-names_other_version : goal.returns-then-names_other_version
returns-then-names_other_version c = reads_other c.args.bytes.now (c.names_other_version.ensures.0 c.if-names_other_version.true)

pub returns : goal.returns
returns c = reads c.args.bytes.now c.read_lines.result (λ h. let t = c.names_other_version.ensures.1 h in let f = c.if-names_other_version.false in cc) c.read_lines.ensures
