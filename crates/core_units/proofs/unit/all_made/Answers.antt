use Rattle.std.proofs.Common.{◌∙◌, ◌++◌, ap}
use Rattle.core_units.proofs.Wholes.{plans_given}
use Rattle.core_units.proofs.unit.all_made.Goals as goal

pub make_each-requires-clause-plans : goal.make_each-requires-clause-plans
make_each-requires-clause-plans c =
    plans_given c.args.around.now c.args.overview.now c.as_slice.result.now c.requires.overview
    (c.as_slice.ensures ∙ c.in_ok-plans.ensures)

pub returns : goal.returns
returns c = record {
  sources = c.in_ok-made.made.functions;
  library = c.in_ok-more.more;
  others = c.in_ok-made.made.others;
  all = c.in_ok-append-2.ensures.ok ∙ ap (λ fs. c.in_ok-made.made.functions ++ fs) c.in_ok-append.ensures.ok;
  walk = c.in_ok-made.ensures;
  prelude = c.in_ok-more.ensures;
}
