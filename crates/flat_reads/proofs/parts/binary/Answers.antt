use Rattle.term_bank.specs.Values.{result_of}
use Rattle.std.proofs.Common.{◌∷◌, [], refl}
use Rattle.term_bank.specs.declared.shape.Shape.TheVariants.{Binary}
use Rattle.term_bank.specs.Shapes.{word}
use Rattle.term_bank.specs.Values.{of_word}
use Rattle.term_bank.proofs.BankLemmas.{stays}
use Rattle.flat_reads.proofs.FlatLemmas.{gives_added, flat_first, flat_second}
use Rattle.flat_reads.proofs.parts.binary.Goals as goal

pub returns : goal.returns
returns c =
    let old = c.args.bank.now in
    let new = c.add.new.self in
    let e = c.add.ensures in
    let ps = (word c.args.width c.args.left ∷ (word c.args.width c.args.right ∷ [])) in
    gives_added old old new ps (Binary c.args.operator c.args.width c.args.left c.args.right) (λ v. of_word (result_of c.args.operator c.args.width (v c.args.left).word (v c.args.right).word)) c.add.result stays e.grows e.bank e.node e.sort e.value e.over (record { plain = λ q. refl }) (flat_first new (word c.args.width c.args.left) (word c.args.width c.args.right ∷ []), (flat_second new (word c.args.width c.args.left) (word c.args.width c.args.right) [], tt)) (λ e v honest m. refl)
