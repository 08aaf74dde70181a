use Rattle.unread_forms.proofs.forms.define_structures.Goals as goal

pub returns : goal.returns
returns c = rw (c.as_slice.ensures, c.tables.ensures, c.in_ok-program.ensures) at c.some_is_defined-defines.ensures
