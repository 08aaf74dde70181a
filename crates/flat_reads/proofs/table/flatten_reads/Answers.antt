use Rattle.std.proofs.Common.{List, sym, subst}
use Rattle.term_bank.specs.declared.sort.Node.{Node}
use Rattle.term_bank.specs.Shapes.{Each, IsNode}
use Rattle.term_bank.specs.Under.{IsOnly}
use Rattle.flat_reads.specs.Flattened.{HasFlat}
use Rattle.flat_reads.specs.Tables.{IsTable, is_listed}
use Rattle.flat_reads.proofs.FlattenLemmas.{flat_grown}
use Rattle.flat_reads.proofs.TableLemmas.{no_rows, images_less, images_stand}
use Rattle.flat_reads.proofs.table.flatten_reads.Goals as goal

pub add_rows-requires-clause-nodes : goal.add_rows-requires-clause-nodes
add_rows-requires-clause-nodes c =
    let a = c.flat_roots.new.bank in
    subst (Each (IsNode a)) (sym c.as_slice.ensures) (images_stand a c.args.roots.now c.in_ok-flat.flat c.in_ok-flat.ensures.nodes)

pub add_rows-requires-clause-table : goal.add_rows-requires-clause-table
add_rows-requires-clause-table c = no_rows _ _ c.new-table.result c.new-constraints.result c.new-table.ensures c.new-constraints.ensures

pub returns-clause-flat : goal.returns-clause-flat
returns-clause-flat c =
    let a = c.flat_roots.new.bank in
    let b = c.add_rows.new.bank in
    let e = c.in_ok-add_rows.ensures in
    let table = c.add_rows.new.table in
    record {
      roots_are = images_less (HasFlat a) (HasFlat b) (flat_grown a b e.grows) c.args.roots.now c.in_ok-flat.flat c.in_ok-flat.ensures.nodes;
      table_is = subst (λ (ps : List Node). IsTable b ps table c.add_rows.new.constraints) c.as_slice.ensures e.table;
      listed = subst (λ (ps : List Node). Each (λ n. IsOnly (is_listed table) b n.index) ps) c.as_slice.ensures e.listed;
    }
