use Rattle.std.proofs.Common.{◌≡◌, take, map}
use Rattle.term_bank.specs.Images.{image_at}
use Rattle.term_bank.proofs.binding.images_of.Given as goal

abbrev pub invariant-loop-root : goal.invariant-loop-root
invariant-loop-root l = l.nodes ≡ map (image_at l.images) (take l.root-index l.roots)
