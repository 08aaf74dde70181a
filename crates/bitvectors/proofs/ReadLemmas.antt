-- Values of roots and of what stands for them without reads.
use Rattle.std.proofs.Common.{◌≡◌, ◌++◌, ◌∷◌, [], List, sym, ◌∙◌, Some}
use Rattle.cnf_core.specs.Truth.{Valuation}
use Rattle.gates.specs.declared.bit.Bit.{Bit}
use Rattle.term_bank.specs.declared.sort.Sort.{Sort}
use Rattle.term_bank.specs.declared.sort.Node.{Node}
use Rattle.term_bank.specs.declared.shape.Shape.{Shape}
use Rattle.term_bank.specs.Images.{AreImages}
use Rattle.term_bank.specs.Shapes.{Each, IsNode}
use Rattle.term_bank.specs.Values.{Environment, Grows, Models, Values}
use Rattle.term_bank.proofs.BankLemmas.{node_grown}
use Rattle.term_bank.proofs.Worth.{each}
use Rattle.flat_reads.specs.Flats.{IsHonest}
use Rattle.flat_reads.specs.Flattened.{HasFlat}
use Rattle.bitvectors.specs.declared.blasting.Blasted.{Blasted}
use Rattle.bitvectors.specs.declared.more.More.{More}
use Rattle.bitvectors.specs.Amounts.{amount}
use Rattle.bitvectors.specs.Blasts.{HaveValues, IsBlasted, IsMore, joined}

same-sort : (s t : Sort) → Some s ≡ Some t → s ≡ t
same-sort s t e = cc

pub flat-nodes : (shapes : List Shape) (roots flat : List Node) → AreImages (HasFlat shapes) roots flat → Each (IsNode shapes) flat
flat-nodes shapes [] [] h = tt
flat-nodes shapes [] (n ∷ ns) h = absurd h
flat-nodes shapes (r ∷ rs) [] h = absurd h
flat-nodes shapes (r ∷ rs) (n ∷ ns) h = (h.0.stands, flat-nodes shapes rs ns h.1)

values-back : (shapes : List Shape) (v : Valuation) (e : Environment) (values : Values) (roots flat : List Node) (words : List (List Bit)) → Each (IsNode shapes) roots → AreImages (HasFlat shapes) roots flat → IsHonest e → Models shapes e values → HaveValues v values flat words → HaveValues v values roots words
values-back shapes v e values [] [] words n h honest models k = k
values-back shapes v e values [] (m ∷ ms) words n h honest models k = absurd h
values-back shapes v e values (r ∷ rs) [] words n h honest models k = absurd h
values-back shapes v e values (r ∷ rs) (m ∷ ms) [] n h honest models k = absurd k
values-back shapes v e values (r ∷ rs) (m ∷ ms) (w ∷ ws) n h honest models k =
    let s = same-sort m.sort r.sort (sym h.0.sort ∙ n.0.sorted) in
    (k.0 ∙ (λ i. amount (s i) (h.0.value e values honest models i)), values-back shapes v e values rs ms ws n.1 h.1 honest models k.1)

-- the values of some roots are those of others
moved : (shapes : List Shape) (xs ys : List Node) (b : Blasted) → ((v : Valuation) (e : Environment) (values : Values) → IsHonest e → Models shapes e values → HaveValues v values xs b.roots → HaveValues v values ys b.roots) → IsBlasted shapes xs b → IsBlasted shapes ys b
moved shapes xs ys b back h = record {
  models = λ e values honest models.
      let m = h.models e values honest models in
      record { model = m.model; holds = m.holds; given = m.given; are = back m.model e values honest models m.are };
  values = λ v e values holds o honest models. back v e values honest models (h.values v e values holds o honest models);
  words = h.words;
  bytes = h.bytes;
  words_alike = h.words_alike;
  bytes_alike = h.bytes_alike;
}

pub blasted-back : (shapes : List Shape) (roots flat : List Node) (blasted : Blasted) → Each (IsNode shapes) roots → AreImages (HasFlat shapes) roots flat → IsBlasted shapes flat blasted → IsBlasted shapes roots blasted
blasted-back shapes roots flat blasted n h b =
    moved shapes flat roots blasted (λ v e values honest models k. values-back shapes v e values roots flat blasted.roots n h honest models k) b

-- the same behind other roots
values-behind : (shapes : List Shape) (v : Valuation) (e : Environment) (values : Values) (rs roots flat : List Node) (words : List (List Bit)) → Each (IsNode shapes) roots → AreImages (HasFlat shapes) roots flat → IsHonest e → Models shapes e values → HaveValues v values (rs ++ flat) words → HaveValues v values (rs ++ roots) words
values-behind shapes v e values [] roots flat words n h honest models k = values-back shapes v e values roots flat words n h honest models k
values-behind shapes v e values (r ∷ rs) roots flat [] n h honest models k = k
values-behind shapes v e values (r ∷ rs) roots flat (w ∷ words) n h honest models k =
    (k.0, values-behind shapes v e values rs roots flat words n h honest models k.1)

pub more-back : (shapes : List Shape) (roots flat : List Node) (b : Blasted) (m : More) → Each (IsNode shapes) roots → AreImages (HasFlat shapes) roots flat → IsMore shapes flat b m → IsMore shapes roots b m
more-back shapes roots flat b m n h k = record {
  is = λ old rs g blasted.
      moved shapes (rs ++ flat) (rs ++ roots) (joined b m)
      (λ v e values honest models have. values-behind shapes v e values rs roots flat (joined b m).roots n h honest models have)
      (k.is old rs g blasted);
  kept = k.kept;
  extends = k.extends;
}

pub nodes-grown : (a b : List Shape) (nodes : List Node) → Grows a b → Each (IsNode a) nodes → Each (IsNode b) nodes
nodes-grown a b nodes g h = each (IsNode a) (IsNode b) nodes (λ r k. node_grown a b r g k) h
