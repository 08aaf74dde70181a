-- Log calls chosen one behind the other.
use Rattle.std.proofs.Common.{◌≡◌, List, [], ◌∷◌, ◌++◌, sym, ap, ◌∙◌, append_assoc}
use Rattle.std.proofs.lemmas.List.{append-nil}
use Rattle.core_marks.specs.declared.mark.Site.{Site as Own}
use Rattle.source_sites.specs.declared.listing.Site.{Site}
use Rattle.source_sites.specs.Chosen.{chosen, one_if}

one_behind : (own : List Own) (xs : List Site) (x : Site) → chosen own (xs ++ x ∷ []) ≡ chosen own xs ++ one_if own x
one_behind own [] x = append-nil (one_if own x)
one_behind own (y ∷ xs) x =
    ap (λ l. one_if own y ++ l) (one_behind own xs x) ∙ sym (append_assoc (one_if own y) (chosen own xs) (one_if own x))

pub chosen_more : (own : List Own) (xs : List Site) (x : Site) (old now : List Site) → old ≡ chosen own xs
    → now ≡ old ++ one_if own x → now ≡ chosen own (xs ++ x ∷ [])
chosen_more own xs x old now p q = q ∙ ap (λ l. l ++ one_if own x) p ∙ sym (one_behind own xs x)
