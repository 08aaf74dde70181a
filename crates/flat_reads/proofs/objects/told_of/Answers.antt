use Rattle.std.proofs.Common.{◌∷◌, ap, refl, subst, sym, Some}
use Rattle.plain_data.specs.declared.width.Width.TheVariants.{W64}
use Rattle.term_bank.specs.declared.shape.Shape.TheVariants.{Flag}
use Rattle.term_bank.specs.Shapes.{word}
use Rattle.term_bank.specs.Values.{of_truth}
use Rattle.term_bank.proofs.BankLemmas.{stays}
use Rattle.flat_reads.specs.declared.objects.ObjectQuestion.TheVariants.{Kind}
use Rattle.flat_reads.specs.Objects.{operands, told}
use Rattle.flat_reads.proofs.FlatLemmas.{gives_added}
use Rattle.flat_reads.proofs.ToldLemmas.{TellsOf, tells_live, tells_size}
use Rattle.flat_reads.proofs.objects.told_of.Goals as goal

pub returns-in-Live : goal.returns-in-Live
returns-in-Live c = tells_live c.args.bank.now c.reached.new.bank c.args.kind c.args.size c.args.question c.in-Live.address c.in-Live.length c.reached.result c.in-Live.is c.reached.ensures

pub returns-in-Kind : goal.returns-in-Kind
returns-in-Kind c =
    let old = c.args.bank.now in
    let new = c.add.new.self in
    let e = c.add.ensures in
    let k = c.args.kind in
    let z = c.args.size in
    let q = Kind c.in-Kind.wanted _ in
    subst (TellsOf old new k z c.add.result) (sym c.in-Kind.is)
    (gives_added old old new (word W64 z ∷ operands q) (Flag c.is_kind.result) (λ v. told v q (Some (record { kind = k; size = (v z).word }))) c.add.result stays e.grows e.bank e.node e.sort e.value e.over (record { plain = λ q. refl }) tt (λ e v honest m. ap of_truth c.is_kind.ensures))

pub returns-in-Size : goal.returns-in-Size
returns-in-Size c = tells_size c.args.bank.now c.args.kind c.args.size c.args.question _ c.in-Size.is c.requires.bank c.requires.size
