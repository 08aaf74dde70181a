use Rattle.std.proofs.Common.{◌≡◌, ◌∙◌, ◌-◌, length, rules, w64, to_z, of_z}
use Rattle.format_match.proofs.StarLaws.{held_thin}
use Rattle.format_match.proofs.stars.push_thin_widths.Goals as goal

pub push_width-requires : goal.push_width-requires
push_width-requires c =
    let low = to_z w64 (of_z w64 c.negative.result) in
    let high = to_z w64 (of_z w64 c.positive.result) in
    let fits : low ≡ c.negative.result = search rules in
    let fits' : high ≡ c.positive.result = search rules in
    held_thin low high (length c.args.slice.now - 1) (fits ∙ c.negative.ensures) (fits' ∙ c.positive.ensures)
