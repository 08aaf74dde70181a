use Rattle.std.proofs.Common.{◌∙◌, ap, subst, sym}
use Rattle.c_language.specs.PlaceTables.{AreFound, places_of}
use Rattle.c_language.proofs.PlaceLemmas.{are_found}
use Rattle.c_language.proofs.places.Places.of_tokens.Goals as goal

pub returns-clause-found : goal.returns-clause-found
returns-clause-found c =
    λ end stand.
    subst (λ z. AreFound z c.args.tokens.now.tokens)
    (sym (c.in_ok-table.ensures ∙ ap places_of c.as_slice.ensures))
    (are_found c.args.tokens.now.tokens end stand)
