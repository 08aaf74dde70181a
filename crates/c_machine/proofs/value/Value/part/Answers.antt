use Rattle.std.proofs.Common.{◌∙◌, ◌^◌, ◌/◌, ◌%◌, ap, length}
use Rattle.std.specs.Prelude.{unsigned_abs}
use Rattle.plain_data.specs.Words.{from_bytes}
use Rattle.plain_data.proofs.WordLaws.{length-to_bytes}
use Rattle.c_means.specs.Values.{bytes_as, value_of_bytes}
use Rattle.c_machine.specs.Worth.{worth}
use Rattle.c_machine.proofs.Spelling.{from_to_mod}
use Rattle.c_machine.proofs.value.Value.part.Goals as goal

pub of_bytes-requires : goal.of_bytes-requires
of_bytes-requires c =
    ap length c.in_ok-bytes.ensures
    ∙ length-to_bytes c.bytes_as.result (unsigned_abs (worth c.args.self.now) / 256 ^ c.args.offset) ∙ c.bytes_as.ensures

pub returns-clause-value : goal.returns-clause-value
returns-clause-value c =
    c.of_bytes.ensures.value
    ∙ ap (value_of_bytes c.args.class)
    (ap from_bytes c.in_ok-bytes.ensures
    ∙ from_to_mod c.bytes_as.result (unsigned_abs (worth c.args.self.now) / 256 ^ c.args.offset)
    ∙ ap (λ n. (unsigned_abs (worth c.args.self.now) / 256 ^ c.args.offset) % 256 ^ n) c.bytes_as.ensures)
