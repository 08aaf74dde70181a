use Rattle.path_forms.proofs.Located.{access_tested, access_near}
use Rattle.path_forms.proofs.access.check_access.Goals as goal

pub returns-then-access : goal.returns-then-access
returns-then-access c =
    access_tested c.args.frame.now c.args.room c.args.access c.args.address.now _
    c.in-Some.ensures c.if-access.true

pub returns-in-Some-farther : goal.returns-in-Some-farther
returns-in-Some-farther c =
    access_near c.args.frame.now c.args.room c.args.access c.args.address.now _ c.in-Some.ensures _ _
    c.distance_of.ensures c.in-Some-farther.ensures
