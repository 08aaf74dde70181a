use Rattle.std.proofs.Common.{◌≡◌, take, map}
use Rattle.term_bank.specs.Images.{image_at}
use Rattle.summary_compose.specs.Renaming.{other_number}
use Rattle.summary_compose.proofs.images.number_images.Given as goal

abbrev pub invariant-loop-number : goal.invariant-loop-number
invariant-loop-number l = l.all ≡ map (other_number (image_at l.initial.images)) (take l.number-index l.numbers)
