use Rattle.plain_data.proofs.Tried.{of_found}
use Rattle.core_exprs.proofs.unary.unary.Goals as goal

pub returns-in-Address : goal.returns-in-Address
returns-in-Address c n p =
    rw (c.in-Address.is) (of_found c.args.x c.in_ok-x.x c.address_of.result _ _ c.branch-x.result
    c.branch-x.ensures c.in_ok-x.is (λ h. c.address_of.ensures n p h))

pub returns-in-Indirection : goal.returns-in-Indirection
returns-in-Indirection c n p =
    rw (c.in-Indirection.is) (of_found c.args.x c.in_ok-x.x c.indirection.result _ _ c.branch-x.result
    c.branch-x.ensures c.in_ok-x.is (λ h. c.indirection.ensures n p h))

pub returns-in-Plus : goal.returns-in-Plus
returns-in-Plus c n p =
    rw (c.in-Plus.is) (of_found c.args.x c.in_ok-x.x c.plus.result _ _ c.branch-x.result
    c.branch-x.ensures c.in_ok-x.is (λ h. c.plus.ensures n p h))

pub returns-in-Minus : goal.returns-in-Minus
returns-in-Minus c n p =
    rw (c.in-Minus.is) (of_found c.args.x c.in_ok-x.x c.minus.result _ _ c.branch-x.result
    c.branch-x.ensures c.in_ok-x.is (λ h. c.minus.ensures n p h))

pub returns-in-Complement : goal.returns-in-Complement
returns-in-Complement c n p =
    rw (c.in-Complement.is) (of_found c.args.x c.in_ok-x.x c.complement.result _ _ c.branch-x.result
    c.branch-x.ensures c.in_ok-x.is (λ h. c.complement.ensures n p h))

pub returns-in-Not : goal.returns-in-Not
returns-in-Not c n p =
    rw (c.in-Not.is) (of_found c.args.x c.in_ok-x.x c.not.result _ _ c.branch-x.result
    c.branch-x.ensures c.in_ok-x.is (λ h. c.not.ensures n p h))

pub returns-in-Increment : goal.returns-in-Increment
returns-in-Increment c n p =
    rw (c.in-Increment.is) (of_found c.args.x c.in_ok-x.x c.increment.result _ _ c.branch-x.result
    c.branch-x.ensures c.in_ok-x.is (λ h. c.increment.ensures n p h))

pub returns-in-Decrement : goal.returns-in-Decrement
returns-in-Decrement c n p =
    rw (c.in-Decrement.is) (of_found c.args.x c.in_ok-x.x c.decrement.result _ _ c.branch-x.result
    c.branch-x.ensures c.in_ok-x.is (λ h. c.decrement.ensures n p h))
