use Rattle.path_forms.proofs.Located.{named_fixed}
use Rattle.path_forms.proofs.access.fixed_distance.Goals as goal

pub returns-then-place-lt4294967296 : goal.returns-then-place-lt4294967296
returns-then-place-lt4294967296 c = λ x frame room. named_fixed x frame room c.args.place c.if-place-lt4294967296.true
