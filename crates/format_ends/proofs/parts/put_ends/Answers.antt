use Rattle.std.proofs.Common.{refl}
use Rattle.format_ends.proofs.PartLaws.{adds_read, still_known}
use Rattle.format_ends.proofs.parts.put_ends.Goals as goal

pub returns-in-Some-clause-adds : goal.returns-in-Some-clause-adds
returns-in-Some-clause-adds c =
    let a = c.args in
    adds_read a.c a.log.now a.from c.in-Some.ends.now a.out.now c.put_all.new.self c.requires.within
    (c.requires.known a.from c.in-Some.ends.now (c.in-Some.ensures c.in-Some.ends.now refl)) c.in_ok-put_all.ensures

pub returns-clause-adds : goal.returns-clause-adds
returns-clause-adds c =
    let a = c.args in
    adds_read a.c a.log.now a.from c.in_ok-ends.ends a.out.now c.put_all-2.new.self c.requires.within c.in_ok-ends.ensures c.in_ok-put_all-2.ensures

pub returns-clause-known : goal.returns-clause-known
returns-clause-known c =
    let a = c.args in
    still_known a.c a.log.now a.known.now c.keep.new.known a.from c.in_ok-ends.ends c.requires.known c.in_ok-ends.ensures c.keep.ensures
