use Rattle.std.proofs.Common.{rules}
use Rattle.path_codes.proofs.Laid.{byte_found, byte_behind}
use Rattle.path_codes.proofs.texts.byte_at.Goals as goal

pub returns-in-Some : goal.returns-in-Some
returns-in-Some c = byte_found c.args.text.now c.args.at c.in-Some.byte.now (search rules) (search rules)

pub returns-in-None : goal.returns-in-None
returns-in-None c = byte_behind c.args.text.now c.args.at (search rules)
