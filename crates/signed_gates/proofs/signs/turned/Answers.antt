use Rattle.std.proofs.Common.{◌∙◌, ◌++◌, ◌∷◌, [], ap}
use Rattle.signed_gates.proofs.NetLemmas.{turned-of}
use Rattle.signed_gates.proofs.signs.turned.Goals as goal

pub returns : goal.returns
returns c = turned-of c.args.gates.now c.args.width c.args.a.now c.split_at.result.0.now _ c.index-a-a.result c.negated.result c.requires.a c.requires.width c.index-a-a.is c.split_at.ensures.front c.negated.ensures (c.in_ok-push.ensures.ok ∙ ap (λ t. t ++ c.negated.result ∷ []) (c.in_ok-extend_from_slice.ensures.ok ∙ ap (λ t. t ++ c.split_at.result.0.now) c.no_bits-word.ensures))
