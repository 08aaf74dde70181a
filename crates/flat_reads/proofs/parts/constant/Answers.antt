use Rattle.std.proofs.Common.{[], refl}
use Rattle.term_bank.specs.declared.shape.Shape.TheVariants.{Constant}
use Rattle.term_bank.specs.Values.{of_word}
use Rattle.term_bank.proofs.BankLemmas.{stays}
use Rattle.flat_reads.proofs.FlatLemmas.{gives_added}
use Rattle.flat_reads.proofs.parts.constant.Goals as goal

pub returns : goal.returns
returns c =
    let old = c.args.bank.now in
    let new = c.add.new.self in
    let e = c.add.ensures in
    let ps = [] in
    gives_added old old new ps (Constant c.args.value c.args.width) (λ _. of_word c.args.value) c.add.result stays e.grows e.bank e.node e.sort e.value e.over (record { plain = λ q. refl }) tt (λ e v honest m. refl)
