use Rattle.std.proofs.Common.{refl}
use Rattle.elaborate.proofs.Calls.{body_call_of}
use Rattle.core_forms.specs.Nodes.{type_as}
use Rattle.core_exprs.specs.Sites.{site_of}
use Rattle.core_objects.specs.Begun.{bare}
use Rattle.core_declarations.proofs.bare.BareCallees.callee.Goals as goal

pub returns : goal.returns
returns g c =
    let site = c.args._site.now in
    let s = c.args._scope.now in
    body_call_of (bare (g.C.Places.numbering c.args.self.now.callees.now)) site.at (type_as s.tables site.ctype)
    (λ l. site_of site s) 0 (λ l. refl) (λ l. refl)
