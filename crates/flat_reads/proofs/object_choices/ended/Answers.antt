use Rattle.std.proofs.Common.{◌∷◌, [], None}
use Rattle.plain_data.specs.declared.width.Width.TheVariants.{W64}
use Rattle.term_bank.specs.declared.sort.Sort.TheVariants.{Truth}
use Rattle.term_bank.specs.declared.shape.Shape.TheVariants.{Ended}
use Rattle.term_bank.specs.Shapes.{memory, word}
use Rattle.term_bank.proofs.BankLemmas.{weaken, grows_on, node_grown}
use Rattle.term_bank.proofs.TermLemmas.{term_grown}
use Rattle.flat_reads.specs.declared.choices.Found.TheVariants.{Known, Asked}
use Rattle.flat_reads.specs.Objects.{operands}
use Rattle.flat_reads.proofs.FlatLemmas.{flat_grown, flat_through, rest_flat}
use Rattle.flat_reads.proofs.ToldLemmas.{nodes_grown}
use Rattle.flat_reads.proofs.ObjectLemmas.{asked_found, asked_worth, choice_set, known_found, memory_flat, set_ended}
use Rattle.flat_reads.proofs.object_choices.ended.Goals as goal

pub asks_for-requires-clause-object : goal.asks_for-requires-clause-object
asks_for-requires-clause-object c = (c.requires.bank.well c.args.memory (Ended c.args.old c.args.object) c.requires.memory).each_part.1.0.stands

pub asked_object-no-requires-clause-memory : goal.asked_object-no-requires-clause-memory
asked_object-no-requires-clause-memory c = node_grown c.args.bank.now c.told_of_none.new.bank (memory c.args.old) (grows_on c.in_ok-condition.ensures.grows c.in_ok-yes.ensures.grows) ((c.requires.bank.well c.args.memory (Ended c.args.old c.args.object) c.requires.memory).each_part.0.stands)

pub asked_object-no-requires-clause-operands : goal.asked_object-no-requires-clause-operands
asked_object-no-requires-clause-operands c = nodes_grown c.args.bank.now c.told_of_none.new.bank (operands c.args.question) (grows_on c.in_ok-condition.ensures.grows c.in_ok-yes.ensures.grows) c.requires.operands

pub returns-clause-choice : goal.returns-clause-choice
returns-clause-choice c =
    let m = c.args.memory in
    let q = c.args.question in
    let old = c.args.old in
    let p = c.args.object in
    let shape = Ended old p in
    let s1 = c.asks_for.new.bank in
    let s2 = c.told_of_none.new.bank in
    let condition = c.in_ok-condition.condition in
    let yes_node = c.in_ok-yes.yes in
    let asked = c.asked_object-no.result in
    let e1 = c.in_ok-condition.ensures in
    let e2 = c.in_ok-yes.ensures in
    let grown = grows_on e1.grows e2.grows in
    let is = grown.kept m shape c.requires.memory in
    let ps = memory m ∷ operands q in
    let below = (c.requires.bank.well m shape c.requires.memory).each_part in
    let parts1 = memory_flat s1 m (operands q) shape (e1.grows.kept m shape c.requires.memory) in
    let parts2 = memory_flat s2 m (operands q) shape is in
    let f1 = flat_through s1 ps (word W64 p ∷ operands q) condition.index e1.flat (parts1.1.0, rest_flat s1 (memory m) (operands q)) in
    let f2 = flat_through s2 ps [] yes_node.index e2.flat tt in
    let rest = nodes_grown c.args.bank.now s2 (operands q) grown c.requires.operands in
    choice_set s2 m p old (λ v. None) q (record { condition = condition; yes = Known yes_node; no = Asked asked }) (set_ended s2 m old p is)
    (term_grown s1 s2 Truth condition e2.grows e1.node)
    (record { is = λ e v honest t. e1.value.is e v honest (weaken e2.grows t) })
    (flat_grown s1 s2 ps condition.index e2.grows f1)
    (known_found s2 m q yes_node e2.node f2)
    (asked_found s2 m old q asked c.asked_object-no.ensures rest below.0.before parts2.0)
    (λ e v honest t. e2.value.is e v honest t)
    (λ e v t. asked_worth s2 old q asked c.asked_object-no.ensures e v t)

pub returns-clause-grows : goal.returns-clause-grows
returns-clause-grows c = grows_on c.in_ok-condition.ensures.grows c.in_ok-yes.ensures.grows
