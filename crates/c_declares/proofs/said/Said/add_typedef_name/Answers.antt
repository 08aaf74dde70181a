use Rattle.std.proofs.Common.{◌≡◌, ◌∙◌, sym, ap, Some}
use Rattle.c_language.specs.Scopes.{look_up}
use Rattle.c_declares.proofs.said.Said.add_typedef_name.Goals as goal

pub returns-in-Some : goal.returns-in-Some
returns-in-Some c =
    let found : look_up c.args.scope.now c.args.name.now ≡ Some c.in-Some.entry.now =
    ap (λ n. look_up c.args.scope.now n) (sym (c.as_slice.ensures ∙ c.get.ensures)) ∙ sym c.in-Some.ensures in
    rw found (rw (c.get-in-Some.ensures, c.start_at.ensures) at (c.add_typedef.ensures c.args.scope.now))
