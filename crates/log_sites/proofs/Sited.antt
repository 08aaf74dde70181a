-- The log calls among marks, one behind the other.
use Rattle.std.proofs.Common.{◌≡◌, List, [], ◌∷◌, ◌++◌, refl, sym, ap, subst, ◌∙◌, append_assoc}
use Rattle.std.proofs.lemmas.List.{append-nil}
use Rattle.core_tree.specs.declared.program.Core.{Core}
use Rattle.core_marks.specs.Order.{IsInOrder}
use Rattle.core_marks.specs.Programs.{source_marks}
use Rattle.core_marks.specs.declared.mark.Mark.{Mark}
use Rattle.core_marks.specs.declared.mark.Site.{Site}
use Rattle.log_sites.specs.Sites.{own_sites, all_sites, AreSitesOf}

one_behind : (ms : List Mark) (m : Mark) → all_sites (ms ++ m ∷ []) ≡ all_sites ms ++ own_sites m
one_behind [] m = append-nil (own_sites m)
one_behind (k ∷ ms) m = ap (λ l. own_sites k ++ l) (one_behind ms m) ∙ sym (append_assoc (own_sites k) (all_sites ms) (own_sites m))

pub sites_more : (ms : List Mark) (m : Mark) (old now : List Site) → old ≡ all_sites ms → now ≡ old ++ own_sites m → now ≡ all_sites (ms ++ m ∷ [])
sites_more ms m old now p q = q ∙ ap (λ l. l ++ own_sites m) p ∙ sym (one_behind ms m)

pub sites_found : (core : Core) (source marks : List Mark) (sites : List Site) → source ≡ source_marks core → IsInOrder source marks
    → sites ≡ all_sites marks → AreSitesOf core sites
sites_found core source marks sites e order are = record {
  marks = marks;
  in_order = subst (λ (l : List Mark). IsInOrder l marks) e order;
  are = are;
}
