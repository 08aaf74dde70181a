use Rattle.format_match.specs.Splits.{conversion_marks}
use Rattle.format_match.proofs.Onwards.{ways_are}
use Rattle.format_match.proofs.marking.prints_some.Goals as goal

pub returns : goal.returns
returns c =
    ways_are c.args.c.now (conversion_marks c.args.c.now) c.args.slice.now c.new-ways.result c.push_conversion.new.out c.as_slice.result.now c.is_empty.result
    c.new-ways.ensures c.in_ok-push_conversion.ensures c.as_slice.ensures c.is_empty.ensures
