use Rattle.std.proofs.Common.{◌∷◌, []}
use Rattle.plain_data.specs.declared.width.Width.TheVariants.{W8, W64}
use Rattle.term_bank.specs.declared.sort.Sort.TheVariants.{Word}
use Rattle.term_bank.specs.Shapes.{word}
use Rattle.term_bank.specs.Values.{of_word}
use Rattle.term_bank.proofs.BankLemmas.{stays}
use Rattle.flat_reads.specs.Parts.{moved, octet_of}
use Rattle.flat_reads.proofs.FlatLemmas.{gives_through, flat_first, flat_second}
use Rattle.flat_reads.proofs.PartLemmas.{octet_more, octet_alone}
use Rattle.flat_reads.proofs.parts.octet.Goals as goal

pub returns-in-W8 : goal.returns-in-W8
returns-in-W8 c = octet_alone c.args.bank.now c.args.value c.args.width c.args.far.index c.requires.bank c.in-W8.is c.requires.value

pub returns-in_default : goal.returns-in_default
returns-in_default c =
    let w = c.args.width in
    let x = c.args.value in
    let d = c.args.far.index in
    let old = c.args.bank.now in
    let new = c.shifted_octet.new.bank in
    let ps = word w x ∷ (word W64 d ∷ []) in
    gives_through old old new ps ps (Word W8) (λ v. of_word (moved w (v x).word (v d).word)) (λ v. of_word (octet_of w (v x).word (v d).word)) c.shifted_octet.result stays c.shifted_octet.ensures
    (flat_first old (word w x) (word W64 d ∷ []), (flat_second old (word w x) (word W64 d) [], tt))
    (λ e v honest m. octet_more w (v x).word (v d).word c.in_default.not-W8)
