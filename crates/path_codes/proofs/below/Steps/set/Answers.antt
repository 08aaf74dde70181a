use Rattle.path_codes.proofs.below.Steps.set.Goals as goal

pub returns-in_ok-set-in-Value : goal.returns-in_ok-set-in-Value
returns-in_ok-set-in-Value g c =
    let walked = rw c.get.ensures at c.in_ok-set-in-Value.ensures in
    rw c.in-Value.is walked

pub returns-in_ok-set-in-Text : goal.returns-in_ok-set-in-Text
returns-in_ok-set-in-Text g c =
    let walked = rw c.as_slice.ensures at c.in_ok-set-in-Text.ensures in
    rw c.in-Text.is (walked c.args.frame.now)
