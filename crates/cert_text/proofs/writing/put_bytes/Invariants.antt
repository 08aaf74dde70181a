use Rattle.std.proofs.Common.{◌≡◌, ◌++◌}
use Rattle.std.specs.List.{flat_map}
use Rattle.cert_text.specs.WorldTexts.{byte_line}
use Rattle.cert_text.proofs.writing.put_bytes.Given as goal

abbrev pub invariant-loop-address : goal.invariant-loop-address
invariant-loop-address l = l.text ++ flat_map byte_line l.address-iterator ≡ l.fn.text ++ flat_map byte_line l.fn.world.bytes
