use Rattle.term_bank.specs.Memories.{behind}
use Rattle.flat_reads.proofs.PartLemmas.{behind_added}
use Rattle.std.proofs.Common.{◌∷◌, [], refl}
use Rattle.plain_data.specs.declared.width.Width.TheVariants.{W64}
use Rattle.term_bank.specs.declared.shape.Shape.TheVariants.{Binary}
use Rattle.term_bank.specs.declared.shape.WordOperator.TheVariants as operator
use Rattle.term_bank.specs.Shapes.{word}
use Rattle.term_bank.specs.Values.{of_word}
use Rattle.term_bank.proofs.BankLemmas.{stays}
use Rattle.flat_reads.proofs.FlatLemmas.{gives_added, flat_first, flat_second}
use Rattle.flat_reads.proofs.parts.behind.Goals as goal

pub returns : goal.returns
returns c =
    let old = c.args.bank.now in
    let new = c.add.new.self in
    let e = c.add.ensures in
    let ps = (word W64 c.args.from ∷ (word W64 c.args.far ∷ [])) in
    gives_added old old new ps (Binary operator.Add W64 c.args.from c.args.far) (λ v. of_word (behind (v c.args.from).word (v c.args.far).word)) c.add.result stays e.grows e.bank e.node e.sort e.value e.over (record { plain = λ q. refl }) (flat_first new (word W64 c.args.from) (word W64 c.args.far ∷ []), (flat_second new (word W64 c.args.from) (word W64 c.args.far) [], tt)) (λ e v honest m. behind_added _ _)
