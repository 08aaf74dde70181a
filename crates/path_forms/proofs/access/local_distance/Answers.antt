use Rattle.path_forms.proofs.Located.{named_local}
use Rattle.path_forms.proofs.access.local_distance.Goals as goal

pub returns-in-Some : goal.returns-in-Some
returns-in-Some c = λ x. named_local x c.args.frame.now c.args.room c.args.at _ c.in-Some.ensures
