use Rattle.path_forms.proofs.forms.local.Goals as goal

pub leaf-requires-clause-room : goal.leaf-requires-clause-room
leaf-requires-clause-room c = c.in-Some.ensures.within

pub returns-in_ok-leaf-in-Some : goal.returns-in_ok-leaf-in-Some
returns-in_ok-leaf-in-Some c = record { offset = c.in-Some.offset; place = c.in-Some.ensures; reach = c.in_ok-leaf-in-Some.ensures }
