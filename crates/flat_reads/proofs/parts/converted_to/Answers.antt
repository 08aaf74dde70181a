use Rattle.term_bank.specs.Values.{converted}
use Rattle.std.proofs.Common.{◌∷◌, [], refl}
use Rattle.term_bank.specs.declared.shape.Shape.TheVariants.{Convert}
use Rattle.term_bank.specs.declared.shape.Extension.TheVariants as extension
use Rattle.term_bank.specs.Shapes.{word}
use Rattle.term_bank.specs.Values.{of_word}
use Rattle.term_bank.proofs.BankLemmas.{stays}
use Rattle.flat_reads.proofs.FlatLemmas.{gives_added, flat_first}
use Rattle.flat_reads.proofs.parts.converted_to.Goals as goal

pub returns : goal.returns
returns c =
    let old = c.args.bank.now in
    let new = c.add.new.self in
    let e = c.add.ensures in
    let ps = (word c.args.from c.args.operand ∷ []) in
    gives_added old old new ps (Convert extension.Zero c.args.from c.args.to c.args.operand) (λ v. of_word (converted extension.Zero c.args.from c.args.to (v c.args.operand).word)) c.add.result stays e.grows e.bank e.node e.sort e.value e.over (record { plain = λ q. refl }) (flat_first new (word c.args.from c.args.operand) [], tt) (λ e v honest m. refl)
