use Rattle.std.proofs.Common.{◌∷◌, []}
use Rattle.plain_data.specs.declared.width.Width.TheVariants.{W8}
use Rattle.term_bank.specs.declared.sort.Sort.TheVariants.{Word}
use Rattle.term_bank.specs.declared.shape.Extension.TheVariants as extension
use Rattle.term_bank.specs.Shapes.{word}
use Rattle.term_bank.specs.Values.{of_word, converted}
use Rattle.term_bank.proofs.BankLemmas.{stays}
use Rattle.flat_reads.proofs.FlatLemmas.{gives_through, flat_first}
use Rattle.flat_reads.proofs.WordLemmas.{widen_none, widen_worth}
use Rattle.flat_reads.proofs.words.widened.Goals as goal

pub returns-in-W8 : goal.returns-in-W8
returns-in-W8 c = widen_none c.args.bank.now c.args.width c.args.byte c.requires.bank c.in-W8.is c.requires.byte

pub returns-in_default : goal.returns-in_default
returns-in_default c =
    let old = c.args.bank.now in
    let new = c.converted_to.new.bank in
    let i = c.args.byte.index in
    let w = c.args.width in
    let e = c.converted_to.ensures in
    gives_through old old new (word W8 i ∷ []) (word W8 i ∷ []) (Word w) (λ v. of_word (converted extension.Zero W8 w (v i).word)) (λ v. of_word (v i).word) c.converted_to.result stays e (flat_first old (word W8 i) [], tt)
    (widen_worth old new w c.args.byte e.grows e.bank c.requires.byte)
