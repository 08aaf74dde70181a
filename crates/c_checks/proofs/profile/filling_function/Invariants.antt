use Rattle.std.proofs.Common.{◌≡◌, None, drop}
use Rattle.std.specs.Option.{option_copied}
use Rattle.std.specs.Str.{bytes_eq}
use Rattle.c_language.specs.Scopes.{last_where}
use Rattle.c_checks.proofs.profile.filling_function.Given as goal

abbrev pub invariant-loop-function : goal.invariant-loop-function
invariant-loop-function l =
    last_where (λ f. bytes_eq f.name l.name) (option_copied l.found) (drop l.function-index l.profile.fills)
    ≡ last_where (λ f. bytes_eq f.name l.name) None l.profile.fills
