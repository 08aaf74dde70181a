use Rattle.path_forms.proofs.Located.{by_local, by_fixed, by_offset}
use Rattle.path_forms.proofs.access.+distance_of.Goals as goal

pub returns-in-Local : goal.returns-in-Local
returns-in-Local t c =
    by_local c.args.frame.now c.args.room c.args.address.now _ _ c.in-Local.is
    c.local_distance.ensures

pub returns-in-Fixed : goal.returns-in-Fixed
returns-in-Fixed t c =
    by_fixed c.args.frame.now c.args.room c.args.address.now _ _ c.in-Fixed.is
    c.fixed_distance.ensures

pub returns-in-Offset : goal.returns-in-Offset
returns-in-Offset t c =
    by_offset c.args.frame.now c.args.room c.args.address.now _ _ _ _ _ c.in-Offset.is c.get.ensures
    c.distance_of.ensures c.farther.ensures
