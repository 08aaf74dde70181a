use Rattle.input_tables.proofs.row.copied_rows.Goals as goal
