use Rattle.std.proofs.Common.{List, take}
use Rattle.term_bank.specs.declared.binding.Binding.{Binding}
use Rattle.term_bank.specs.declared.shape.Shape.{Shape}
use Rattle.term_bank.specs.Bindings.{HasImage}
use Rattle.term_bank.specs.Images.{AreImages, image_at}
use Rattle.summary_compose.specs.Renaming.{Pictures}
use Rattle.summary_compose.proofs.images.table_of.Given as goal

abbrev pub invariant-loop-index : goal.invariant-loop-index
invariant-loop-index l =
    (old new : List Shape) (put : Binding) → AreImages (HasImage old new put) l.roots l.nodes
    → Pictures old new put (image_at l.images) (take l.index l.roots)
