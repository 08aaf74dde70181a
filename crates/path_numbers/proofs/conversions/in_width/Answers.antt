use Rattle.std.proofs.Common.{rules, sym}
use denote.Enum.Bare.{same_true}
use Rattle.plain_data.specs.contracts.width.Width.{the_type}
use Rattle.path_numbers.proofs.Nodes.{in_same_width, in_other_width}
use Rattle.path_numbers.proofs.conversions.in_width.Goals as goal

pub returns-then-eq : goal.returns-then-eq
returns-then-eq c =
    in_same_width c.args.bank.now c.args.number c.args.width c.keeps_bank.ensures c.requires
    (same_true the_type (search rules) _ _ (sym c.if-eq.ensures))

pub returns : goal.returns
returns c =
    in_other_width c.args.bank.now c.convert.new.self c.args.number c.args.width c.in_ok-node.node (rw c.extension.ensures at c.in_ok-node.ensures)
