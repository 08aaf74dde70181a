-- Roots under which memory is read.
use Rattle.std.specs.Prelude.{List, Option, Some, None}
use Rattle.term_bank.specs.declared.sort.Node.{Node}
use Rattle.term_bank.specs.declared.shape.Shape.{Shape}
use Rattle.term_bank.specs.Images.{AreImages}
use Rattle.term_bank.specs.Shapes.{Each}
use Rattle.term_bank.specs.Under.{IsOnly}
use Rattle.flat_reads.specs.Flattened.{HasFlat}
use Rattle.bitvectors.specs.Signals.{is_plain}

-- Nodes without reads stand for the roots, and not plain shapes alone stand under them.
pub record IsNotPlain (shapes : List Shape) (roots : List Node) : Type 0 where
  pub flat : List Node
  pub images : AreImages (HasFlat shapes) roots flat
  pub not_plain : ¬ Each (λ r. IsOnly is_plain shapes r.index) flat

-- Nodes without reads stand for the roots, and plain shapes alone stand under them.
pub record ArePlainFor (shapes : List Shape) (roots flat : List Node) : Type 0 where
  pub images : AreImages (HasFlat shapes) roots flat
  pub plain : Each (λ r. IsOnly is_plain shapes r.index) flat

abbrev pub IfNone : {A : Type 0} → Option A → Type 0 → Type 0
IfNone None P = P
IfNone (Some x) P = Unit {0}
