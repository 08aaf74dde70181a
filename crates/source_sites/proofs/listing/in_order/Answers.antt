use Rattle.std.proofs.Common.{◌≡◌, List, sym, subst, rules}
use Rattle.std.specs.List.Sorted.{IsPermutation, IsStableBy}
use Rattle.std.proofs.lemmas.List.Sorted.{answers_always}
use Rattle.source_sites.specs.declared.listing.Site.{Site}
use Rattle.source_sites.specs.Sites.{AreInOrder, comes_before}
use Rattle.source_sites.proofs.listing.in_order.Goals as goal

pub returns : goal.returns
returns c =
    let start = c.into_vec-items.ensures in
    let items = c.sort_by_key.new.self.items in
    subst (λ xs. AreInOrder c.args.sites xs) (sym c.from_vec.ensures) (record {
      same = subst (λ xs. IsPermutation xs items) start c.in_ok-sort_by_key.ensures.permutation;
      sorted = c.in_ok-sort_by_key.ensures.sorted (λ (x : Site). x.at) (answers_always _ _ _ (λ f a r g h. search rules));
      stable = subst (λ xs. IsStableBy comes_before xs items) start
          (c.sort_by_key.ensures.stable (λ (x : Site). x.at) (answers_always _ _ _ (λ f a r g h. search rules)));
    })
