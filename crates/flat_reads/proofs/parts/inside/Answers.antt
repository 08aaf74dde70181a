use Rattle.std.specs.Prelude.{nat_lt}
use Rattle.flat_reads.proofs.PartLemmas.{inside_tested}
use Rattle.std.proofs.Common.{◌∷◌, [], refl}
use Rattle.plain_data.specs.declared.width.Width.TheVariants.{W64}
use Rattle.term_bank.specs.declared.shape.Shape.TheVariants.{Test}
use Rattle.term_bank.specs.declared.shape.WordTest.TheVariants as test
use Rattle.term_bank.specs.Shapes.{word}
use Rattle.term_bank.specs.Values.{of_truth}
use Rattle.term_bank.proofs.BankLemmas.{stays}
use Rattle.flat_reads.proofs.FlatLemmas.{gives_added, flat_first, flat_second}
use Rattle.flat_reads.proofs.parts.inside.Goals as goal

pub returns : goal.returns
returns c =
    let old = c.args.bank.now in
    let new = c.add.new.self in
    let e = c.add.ensures in
    let ps = (word W64 c.args.far ∷ (word W64 c.args.length ∷ [])) in
    gives_added old old new ps (Test test.Below W64 c.args.far c.args.length) (λ v. of_truth (nat_lt (v c.args.far).word (v c.args.length).word)) c.add.result stays e.grows e.bank e.node e.sort e.value e.over (record { plain = λ q. refl }) (flat_first new (word W64 c.args.far) (word W64 c.args.length ∷ []), (flat_second new (word W64 c.args.far) (word W64 c.args.length) [], tt)) (λ e v honest m. inside_tested _ _)
