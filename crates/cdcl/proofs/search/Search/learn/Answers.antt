use Rattle.std.proofs.Common.{length, sym, refl, subst, arith, ◌∙◌, ◌≤◌, ℕ}
use Rattle.proof_check.specs.Room.{variables_of}
use Rattle.cdcl.specs.declared.clauses.Clauses.{Clauses}
use Rattle.cdcl.specs.Searches.{ContainsNone}
use Rattle.cdcl.specs.Jumps.{IsJump}
use Rattle.cdcl.specs.Guards.{Guards}
use Rattle.cdcl.proofs.Lessons.{names-within}
use Rattle.cdcl.proofs.Asserting.{has-top, contains-none, jump-fits, jump-level, jump-below, guards-but}
use Rattle.cdcl.proofs.search.Search.learn.Goals as goal

pub go_back-requires-clause-searching : goal.go_back-requires-clause-searching
go_back-requires-clause-searching c = (length c.count_conflict.new.self.clauses.assumed, c.count_conflict.ensures.ready c.requires.ready)

pub go_back-requires-clause-guards : goal.go_back-requires-clause-guards
go_back-requires-clause-guards c =
    let e = c.count_conflict.ensures in
    let s = c.count_conflict.new.self in
    let P : ℕ → Type 0 = λ n. Guards (length s.clauses.given) n s in
    subst P (sym e.followed) (e.guards c.args.self.now.followed c.requires.guards)

pub go_back-requires-clause-below : goal.go_back-requires-clause-below
go_back-requires-clause-below c =
    let s = c.count_conflict.new.self in
    let e = c.count_conflict.ensures in
    let j : IsJump c.count_conflict.new.self.trail.entries.items c.count_conflict.new.self.trail.level c.in_ok-lesson.lesson.clause.items c.in_ok-lesson.lesson.level = rw (e.entries, e.level) (c.in_ok-lesson.ensures.jump refl c.requires.level (has-top c.args.self.now c.args.conflict c.requires.ready c.requires.guards.settled c.requires.level c.requires.conflict)) in
    let less = jump-below s.trail.entries.items s.trail.level c.in_ok-lesson.lesson.level c.in_ok-lesson.lesson.clause.items (omega (arith, e.level, c.requires.level)) j in
    omega (arith, less)

pub go_back-requires-clause-level : goal.go_back-requires-clause-level
go_back-requires-clause-level c =
    let s = c.count_conflict.new.self in
    let e = c.count_conflict.ensures in
    let j : IsJump c.count_conflict.new.self.trail.entries.items c.count_conflict.new.self.trail.level c.in_ok-lesson.lesson.clause.items c.in_ok-lesson.lesson.level = rw (e.entries, e.level) (c.in_ok-lesson.ensures.jump refl c.requires.level (has-top c.args.self.now c.args.conflict c.requires.ready c.requires.guards.settled c.requires.level c.requires.conflict)) in
    jump-level s.trail.entries.items s.trail.level c.in_ok-lesson.lesson.level c.in_ok-lesson.lesson.clause.items j

pub keep-requires-clause-ready : goal.keep-requires-clause-ready
keep-requires-clause-ready c = c.go_back.ensures.ready (λ one. c.count_conflict.ensures.ready c.requires.ready)

pub keep-requires-clause-valid : goal.keep-requires-clause-valid
keep-requires-clause-valid c = rw (c.go_back.ensures.clauses, c.count_conflict.ensures.clauses) c.in_ok-lesson.ensures.valid

pub keep-requires-clause-occurs : goal.keep-requires-clause-occurs
keep-requires-clause-occurs c = rw (c.go_back.ensures.clauses, c.count_conflict.ensures.clauses) (c.in_ok-lesson.ensures.occurs (variables_of c.args.self.now.clauses.given) (names-within c.args.self.now.clauses c.requires.ready.learnt))

pub keep-requires-clause-fresh : goal.keep-requires-clause-fresh
keep-requires-clause-fresh c =
    let s = c.args.self.now in
    let j = c.in_ok-lesson.ensures.jump refl c.requires.level (has-top s c.args.conflict c.requires.ready c.requires.guards.settled c.requires.level c.requires.conflict) in
    let P : Clauses → Type 0 = λ t. ContainsNone t c.in_ok-lesson.lesson.clause.items in
    subst P (sym (c.go_back.ensures.clauses ∙ c.count_conflict.ensures.clauses)) (contains-none s c.in_ok-lesson.lesson.clause.items c.in_ok-lesson.lesson.level c.requires.ready c.requires.guards.settled c.requires.level j)

pub keep-requires-clause-fits : goal.keep-requires-clause-fits
keep-requires-clause-fits c =
    let s = c.args.self.now in
    let j = c.in_ok-lesson.ensures.jump refl c.requires.level (has-top s c.args.conflict c.requires.ready c.requires.guards.settled c.requires.level c.requires.conflict) in
    rw (c.go_back.ensures.room, c.count_conflict.ensures.levels) (jump-fits s.trail.entries.items s.trail.level c.in_ok-lesson.lesson.level _ c.in_ok-lesson.lesson.clause.items c.requires.ready.trail.in_room j)

pub assert_last-requires-clause-guards : goal.assert_last-requires-clause-guards
assert_last-requires-clause-guards c =
    let s = c.count_conflict.new.self in
    let e = c.count_conflict.ensures in
    let ready = e.ready c.requires.ready in
    let two : 2 ≤ s.trail.level = omega (arith, e.level, c.requires.level) in
    let j : IsJump c.count_conflict.new.self.trail.entries.items c.count_conflict.new.self.trail.level c.in_ok-lesson.lesson.clause.items c.in_ok-lesson.lesson.level = rw (e.entries, e.level) (c.in_ok-lesson.ensures.jump refl c.requires.level (has-top c.args.self.now c.args.conflict c.requires.ready c.requires.guards.settled c.requires.level c.requires.conflict)) in
    let b = c.go_back.ensures in
    let k = c.in_ok-keep.ensures in
    rw c.deref-2.ensures.value (guards-but s c.go_back.new.self c.keep.new.self c.in_ok-lesson.lesson.clause.items c.in_ok-lesson.lesson.level ready (b.ready (λ one. ready)) two j b.cut b.level (b.whole (jump-below s.trail.entries.items s.trail.level c.in_ok-lesson.lesson.level c.in_ok-lesson.lesson.clause.items (omega (arith, two)) j)) b.guards k.rest k.names k.last k.more k.given)
