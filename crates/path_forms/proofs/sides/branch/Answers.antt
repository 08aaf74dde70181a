use Rattle.path_forms.proofs.SideLemmas.{branched}
use Rattle.path_forms.proofs.sides.branch.Goals as goal

pub part-requires : goal.part-requires
part-requires c = rw c.as_slice.ensures c.requires.going

pub returns : goal.returns
returns c =
    let parted = rw c.as_slice.ensures at c.in_ok-yes.ensures in
    rw (c.new.ensures, c.new-2.ensures) (branched _ _ c.args.walked c.args.at _ parted)
