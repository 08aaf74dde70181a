use Rattle.std.proofs.Common.{◌≡◌, ◌++◌, drop}
use Rattle.std.specs.List.{flat_map}
use Rattle.site_text.specs.Shown.{shown_byte}
use Rattle.site_text.proofs.escaping.put_bytes.Given as goal

abbrev pub invariant-loop-byte : goal.invariant-loop-byte
invariant-loop-byte l = l.text ++ flat_map shown_byte (drop l.byte-index l.bytes) ≡ l.fn.text ++ flat_map shown_byte l.bytes
