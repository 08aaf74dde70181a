use Rattle.std.proofs.Common.{◌≡◌, ◌∙◌, sym}
use Rattle.term_bank.specs.Shapes.{IsNode}
use Rattle.term_bank.specs.Values.{IsWorth}
use Rattle.term_bank.specs.Bindings.{HasWordOf}
use Rattle.term_bank.specs.declared.sort.Sort.TheVariants.{Word}
use Rattle.term_bank.specs.declared.shape.Extension.TheVariants.{Zero}
use Rattle.term_bank.specs.declared.shape.Shape.TheVariants.{Convert, Constant}
use Rattle.term_bank.proofs.Equality.{width_true}
use Rattle.term_bank.proofs.BindingLemmas.{if_ok, word_same, word_converted, word_none, no_words}
use Rattle.term_bank.proofs.bank.Bank.in_width.Goals as goal

pub returns-in-Word-clause-word : goal.returns-in-Word-clause-word
returns-in-Word-clause-word c =
    let same = rw c.in-Word.from-is at c.eq.ensures in
    word_same c.args.self.now c.args.node c.in-Word.from c.args.width c.requires.bank c.requires.node c.in-Word.is (width_true c.in-Word.from c.args.width (sym same ∙ c.if-eq.true))

pub returns-in-Word-2-clause-word : goal.returns-in-Word-2-clause-word
returns-in-Word-2-clause-word c =
    let shapes = c.add.new.self in
    if_ok (IsNode shapes) (λ n. n.sort ≡ Word c.args.width) (IsWorth shapes (Convert Zero c.in-Word-2.from c.args.width c.args.node.index)) (HasWordOf shapes c.args.node c.args.width) c.add.result c.add.ensures.node c.add.ensures.sort c.add.ensures.value
    (λ n is s h. word_converted shapes c.args.node c.in-Word-2.from c.args.width n is s h)

pub returns-in-Truth : goal.returns-in-Truth
returns-in-Truth c =
    let shapes = c.add-in-Truth.new.self in
    let e = c.add-in-Truth.ensures in
    record {
      word = if_ok (IsNode shapes) (λ n. n.sort ≡ Word c.args.width) (IsWorth shapes (Constant 0 c.args.width)) (HasWordOf shapes c.args.node c.args.width) c.add-in-Truth.result e.node e.sort e.value
          (λ n is s h. word_none c.args.self.now shapes c.args.node c.args.width n c.requires.bank c.requires.node e.grows (no_words c.args.node.sort c.in-Truth.is) is s h);
      grows = e.grows;
      bank = e.bank;
    }
