use mir.Val.{SFits}
use mir.Syntax.{w128}
use Rattle.std.proofs.Common.{rules, ◌∙◌, ◌≡◌, ◌<◌, ◌^◌, ap, length, pos}
use Rattle.plain_data.specs.Words.{from_bytes}
use Rattle.c_language.specs.declared.ctype.IntegerKind.TheVariants.{UnsignedLong}
use Rattle.c_language.specs.Integers.{bytes_of, value_of_word}
use Rattle.c_means.specs.Values.{bytes_as}
use Rattle.c_machine.proofs.Spelling.{kept, low_below}
use Rattle.c_machine.proofs.value.Value.of_bytes.Goals as goal

pub value_of_word-requires : goal.value_of_word-requires
value_of_word-requires c =
    let n : length c.args.bytes ≡ bytes_of c.in-Integer.kind =
    c.requires ∙ ap (λ k. bytes_as k c.args.size) c.in-Integer.is in
    let below : from_bytes c.args.bytes < 256 ^ length c.args.bytes = rw (← c.as_slice.ensures) c.lowest.ensures.below in
    (low_below c.in-Integer.kind (length c.args.bytes) (from_bytes c.args.bytes) c.lowest.result below n
    (rw (← c.as_slice.ensures) c.lowest.ensures.value)).1

pub returns-in-Integer-clause-value : goal.returns-in-Integer-clause-value
returns-in-Integer-clause-value c =
    let n : length c.args.bytes ≡ bytes_of c.in-Integer.kind =
    c.requires ∙ ap (λ k. bytes_as k c.args.size) c.in-Integer.is in
    let below : from_bytes c.args.bytes < 256 ^ length c.args.bytes = rw (← c.as_slice.ensures) c.lowest.ensures.below in
    let same = (low_below c.in-Integer.kind (length c.args.bytes) (from_bytes c.args.bytes) c.lowest.result below n
    (rw (← c.as_slice.ensures) c.lowest.ensures.value)).0 in
    let fits : SFits w128 c.value_of_word.result = search rules in
    rw c.in-Integer.is
    (kept c.value_of_word.result (value_of_word c.in-Integer.kind (from_bytes c.args.bytes)) fits
    (c.value_of_word.ensures.value ∙ ap (value_of_word c.in-Integer.kind) same))

pub returns-in-Pointer-clause-value : goal.returns-in-Pointer-clause-value
returns-in-Pointer-clause-value c =
    let n : length c.args.bytes ≡ bytes_of UnsignedLong =
    c.requires ∙ ap (λ k. bytes_as k c.args.size) c.in-Pointer.is in
    let below : from_bytes c.args.bytes < 256 ^ length c.args.bytes =
    rw (← c.as_slice-in-Pointer.ensures) c.lowest-in-Pointer.ensures.below in
    let same = (low_below UnsignedLong (length c.args.bytes) (from_bytes c.args.bytes) c.lowest-in-Pointer.result below n
    (rw (← c.as_slice-in-Pointer.ensures) c.lowest-in-Pointer.ensures.value)).0 in
    let fits : SFits w128 c.from.result = search rules in
    rw c.in-Pointer.is (kept c.from.result (pos (from_bytes c.args.bytes)) fits (c.from.ensures ∙ ap pos same))
