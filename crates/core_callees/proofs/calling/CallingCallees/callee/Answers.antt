use Rattle.std.proofs.lemmas.Result.{IfOk-weaker}
use Rattle.c_means.specs.Values.{bytes_of, class_in}
use Rattle.core_forms.specs.Nodes.{type_as}
use Rattle.core_forms.proofs.KindLaws.{converts_same}
use Rattle.core_exprs.specs.Sites.{site_of}
use Rattle.core_callees.specs.Knows.{known_by}
use Rattle.core_callees.proofs.CallLaws.{chosen}
use Rattle.core_callees.proofs.calling.CallingCallees.callee.Goals as goal

pub returns : goal.returns
returns c =
    IfOk-weaker c.callee_of.result _ _
    (λ y is. chosen (known_by c.args.self.now) (site_of c.args.site.now c.args.scope.now)
    (type_as c.args.scope.now.tables c.args.site.now.ctype)
    (converts_same (class_in c.args.site.now.ctype) (bytes_of c.args.scope.now.tables c.args.site.now.ctype)) y is)
    c.callee_of.ensures
