use Rattle.std.proofs.Common.{◌≡◌, IfSome, subst, rules}
use Rattle.c_language.specs.Units as units
use Rattle.c_types.proofs.scope.Scope.declare_function.Goals as goal

pub invariant_of-self : goal.invariant_of-self
invariant_of-self c =
    let same : (units.function_says c.args.specified.now c.args.named.now c.replace-before.result).after
    ≡ c.replace-before.new.dest = search rules in
    subst (λ names. IfSome c.headed.result (λ spare. spare ≡ names)) same c.headed.ensures
