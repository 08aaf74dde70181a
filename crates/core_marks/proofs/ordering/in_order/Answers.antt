use Rattle.std.proofs.Common.{◌≡◌, List, sym, subst, rules}
use Rattle.std.specs.List.Sorted.{IsPermutation, IsStableBy}
use Rattle.std.proofs.lemmas.List.Sorted.{answers_always}
use Rattle.core_marks.specs.Order as order
use Rattle.core_marks.proofs.ordering.in_order.Goals as goal

pub returns : goal.returns
returns c =
    let start = c.into_vec-items.ensures in
    let items = c.sort_by_key.new.self.items in
    subst (λ ms. order.IsInOrder c.args.marks ms) (sym c.from_vec.ensures) (record {
      same = subst (λ ms. IsPermutation ms items) start c.in_ok-sort_by_key.ensures.permutation;
      sorted = c.in_ok-sort_by_key.ensures.sorted order.rank_of (answers_always _ _ _ (λ f a r g h. search rules));
      stable = subst (λ ms. IsStableBy order.comes_before ms items) start
          (c.sort_by_key.ensures.stable order.rank_of (answers_always _ _ _ (λ f a r g h. search rules)));
    })
