use Rattle.term_bank.specs.Memories.{distance}
use Rattle.flat_reads.proofs.PartLemmas.{distance_taken}
use Rattle.std.proofs.Common.{◌∷◌, [], refl}
use Rattle.plain_data.specs.declared.width.Width.TheVariants.{W64}
use Rattle.term_bank.specs.declared.shape.Shape.TheVariants.{Binary}
use Rattle.term_bank.specs.declared.shape.WordOperator.TheVariants as operator
use Rattle.term_bank.specs.Shapes.{word}
use Rattle.term_bank.specs.Values.{of_word}
use Rattle.term_bank.proofs.BankLemmas.{stays}
use Rattle.flat_reads.proofs.FlatLemmas.{gives_added, flat_first, flat_second}
use Rattle.flat_reads.proofs.parts.distance.Goals as goal

pub returns : goal.returns
returns c =
    let old = c.args.bank.now in
    let new = c.add.new.self in
    let e = c.add.ensures in
    let ps = (word W64 c.args.from ∷ (word W64 c.args.address ∷ [])) in
    gives_added old old new ps (Binary operator.Sub W64 c.args.address c.args.from) (λ v. of_word (distance (v c.args.from).word (v c.args.address).word)) c.add.result stays e.grows e.bank e.node e.sort e.value e.over (record { plain = λ q. refl }) (flat_second new (word W64 c.args.from) (word W64 c.args.address) [], (flat_first new (word W64 c.args.from) (word W64 c.args.address ∷ []), tt)) (λ e v honest m. distance_taken _ _)
