use Rattle.c_declares.proofs.members.Laid.add_bits.Goals as goal

pub returns-in-Some : goal.returns-in-Some
returns-in-Some c = λ before scope.
    rw c.in-Some.is (rw (c.in_ok-next_member.ensures, c.in_ok-append.ensures.ok) at (c.add_name.ensures scope))
