use Rattle.term_bank.specs.declared.shape.Shape.TheVariants.{InitialByte}
use Rattle.term_bank.proofs.BankLemmas.{grows_on}
use Rattle.flat_reads.proofs.TableLemmas.{byte_node, address_node, choice_well, agreement_made}
use Rattle.flat_reads.proofs.table.agreement.Goals as goal

pub add-requires : goal.add-requires
add-requires c = record { parts_stand = (address_node c.args.bank.now c.args.one c.requires.bank c.requires.one, (address_node c.args.bank.now c.args.other c.requires.bank c.requires.other, tt)); in_width = tt }

pub add-requires-2 : goal.add-requires-2
add-requires-2 c =
    let s = c.add.new.self in
    let g = c.in_ok-same.ensures.grows in
    let one = c.args.one in
    let other = c.args.other in
    record {
      parts_stand = (
        byte_node s one (g.kept one.byte (InitialByte one.row one.address) c.requires.one),
        (byte_node s other (g.kept other.byte (InitialByte other.row other.address) c.requires.other), tt),
      );
      in_width = tt;
    }

pub add-requires-4 : goal.add-requires-4
add-requires-4 c =
    let e1 = c.in_ok-same.ensures in
    let e2 = c.in_ok-bytes.ensures in
    let e3 = c.in_ok-yes.ensures in
    choice_well c.add.new.self c.add-2.new.self c.add-3.new.self c.args.one c.args.other c.in_ok-same.same c.in_ok-bytes.bytes c.in_ok-yes.yes (grows_on e2.grows e3.grows) e3.grows
    (record { stands = e1.node; sort = e1.sort; value = e1.value; over = e1.over }) (record { stands = e2.node; sort = e2.sort; value = e2.value; over = e2.over }) (record { stands = e3.node; sort = e3.sort; value = e3.value; over = e3.over })

pub returns-clause-node : goal.returns-clause-node
returns-clause-node c =
    let e1 = c.in_ok-same.ensures in
    let e2 = c.in_ok-bytes.ensures in
    let e3 = c.in_ok-yes.ensures in
    let e4 = c.add-4.ensures in
    let one = c.args.one in
    let other = c.args.other in
    agreement_made c.add.new.self c.add-2.new.self c.add-3.new.self c.add-4.new.self one other c.in_ok-same.same c.in_ok-bytes.bytes c.in_ok-yes.yes c.add-4.result e2.grows e3.grows e4.grows
    (e1.grows.kept one.byte (InitialByte one.row one.address) c.requires.one) (e1.grows.kept other.byte (InitialByte other.row other.address) c.requires.other)
    (record { stands = e1.node; sort = e1.sort; value = e1.value; over = e1.over }) (record { stands = e2.node; sort = e2.sort; value = e2.value; over = e2.over }) (record { stands = e3.node; sort = e3.sort; value = e3.value; over = e3.over })
    e4.node e4.sort e4.value e4.over

pub returns-clause-grows : goal.returns-clause-grows
returns-clause-grows c = grows_on c.in_ok-same.ensures.grows (grows_on c.in_ok-bytes.ensures.grows (grows_on c.in_ok-yes.ensures.grows c.add-4.ensures.grows))
