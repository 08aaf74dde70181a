use Rattle.std.proofs.lemmas.Result.{IfOk-weaker}
use Rattle.core_declarations.proofs.pairing.with_part.Goals as goal

pub returns : goal.returns
returns c =
    IfOk-weaker c.and_pair.result _ _ (λ y is numbering n h t. record {
      pair = c.in_ok-pair.pair;
      is_pair = c.in_ok-pair.ensures numbering n h t;
      is = is;
    }) c.and_pair.ensures
