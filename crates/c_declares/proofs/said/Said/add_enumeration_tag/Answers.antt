use Rattle.std.proofs.Common.{◌≡◌, ◌∙◌, sym, ap, Some}
use Rattle.c_language.specs.Scopes.{tag_of}
use Rattle.c_declares.proofs.said.Said.add_enumeration_tag.Goals as goal

pub returns-in-Some : goal.returns-in-Some
returns-in-Some c =
    let found : tag_of c.args.scope.now c.args.tag.now.name ≡ Some c.in-Some.known.now =
    ap (λ n. tag_of c.args.scope.now n) (sym (c.as_slice.ensures ∙ c.get.ensures)) ∙ sym c.in-Some.ensures in
    rw found (rw (c.get-in-Some.ensures, c.start_at.ensures) at (c.refer_to_enumeration.ensures c.args.scope.now))
