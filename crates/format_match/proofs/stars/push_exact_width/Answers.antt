use Rattle.std.proofs.Common.{◌≡◌, ◌∙◌, rules, ap, w64, to_z, of_z}
use Rattle.plain_data.specs.Words.{is_signed}
use Rattle.plain_data.specs.declared.width.Width.TheVariants.{W32}
use Rattle.format_match.proofs.StarLaws.{held_exact}
use Rattle.format_match.proofs.stars.push_exact_width.Goals as goal

pub push_width-requires : goal.push_width-requires
push_width-requires c =
    let z = to_z w64 (of_z w64 c.args.value) in
    let fits : z ≡ c.args.value = search rules in
    held_exact z (ap (is_signed W32) fits ∙ c.requires)
