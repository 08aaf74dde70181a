use Rattle.std.proofs.Common.{◌≡◌, ◌<◌, ◌+◌, Some, length, ap, arith, vec_len, subst, take}
use Rattle.std.proofs.Math.ListN.{set}
use Rattle.cdcl.specs.declared.watching.Watch.{Watch}
use Rattle.cdcl.specs.Guards.{InTurn}
use Rattle.cdcl.proofs.Searching.{Goes-then, item-read}
use Rattle.cdcl.proofs.Turning.{FoundIn, after-stays, after-moves, after-conflict, turn-ends}
use Rattle.cdcl.proofs.search.Search.follow_list.Goals as goal
use Rattle.cdcl.proofs.search.Search.follow_list.Goals.{in-Stays, in-Moves, in-Conflict}

pub loop-next-preserved : goal.loop-next-preserved
loop-next-preserved c =
    let list = c.loop-next.list.items in
    let i = c.loop-next.invariant in
    let e = c.in_ok-watch.ensures in
    let within : c.loop-next.next < length list = omega (arith, i.size, c.loop-next.list.ok.0, c.loop-next-test.true) in
    let at = item-read list c.loop-next.next c.index-watch.result.now within c.index-watch.ensures in
    let done : InTurn c.args.falsified c.args.index c.match-branch-2.kept (c.loop-next.next + 1) c.match-branch-2.list.items c.match-branch-2.found c.attend.new.self × FoundIn c.match-branch-2.found c.attend.new.self =
    elim c.match-branch-2.branch [
      | in-Stays w ↦ rw (w.list-is, w.kept-is, w.found-is) (after-stays c.args.falsified c.args.index c.loop-next.kept c.loop-next.next list c.loop-next.found c.loop-next.self c.attend.new.self c.index-watch.result.now w.in-Stays.watch c.in_ok-watch.field-0 w.in-Stays.is e.attended i.turn e.goes e.ready i.kept at i.conflict)
      | in-Moves w ↦ rw (w.list-is, w.kept-is, w.found-is) (after-moves c.args.falsified c.args.index c.loop-next.kept c.loop-next.next list c.loop-next.found c.loop-next.self c.attend.new.self c.index-watch.result.now c.in_ok-watch.field-0 w.in-Moves.is e.attended i.turn e.goes at)
      | in-Conflict w ↦
          let again = item-read list c.loop-next.next w.index-watch-in-Conflict.result.now within w.index-watch-in-Conflict.ensures in
          let one : c.index-watch.result.now ≡ w.index-watch-in-Conflict.result.now = cc in
          let P : Watch → Type 0 = λ t. InTurn c.args.falsified c.args.index (c.loop-next.kept + 1) (c.loop-next.next + 1) (set list c.loop-next.kept t) (Some w.in-Conflict.id) c.attend.new.self × FoundIn (Some w.in-Conflict.id) c.attend.new.self in
          rw (w.list-is, w.kept-is, w.found-is) (subst P one (after-conflict c.args.falsified c.args.index c.loop-next.kept c.loop-next.next list c.loop-next.found c.loop-next.self c.attend.new.self c.index-watch.result.now w.in-Conflict.id c.in_ok-watch.field-0 w.in-Conflict.is e.attended i.turn e.goes e.ready i.kept at e.conflict))
    ] in
    record {
      ready = e.ready;
      goes = Goes-then c.args.self.now c.loop-next.self c.attend.new.self i.goes e.goes;
      kept = elim c.match-branch-2.branch [
        | in-Stays w ↦ omega (arith, w.kept-is, i.kept)
        | in-Moves w ↦ omega (arith, w.kept-is, i.kept)
        | in-Conflict w ↦ omega (arith, w.kept-is, i.kept)
      ];
      size = elim c.match-branch-2.branch [
        | in-Stays w ↦ rw w.list-is i.size
        | in-Moves w ↦ rw w.list-is i.size
        | in-Conflict w ↦ rw w.list-is i.size
      ];
      turn = done.0;
      conflict = done.1;
    }

pub returns-clause-turn : goal.returns-clause-turn
returns-clause-turn c =
    let list = c.loop-next.list.items in
    let i = c.loop-next.invariant in
    let ends = turn-ends c.args.falsified c.args.index c.loop-next.kept c.loop-next.next list c.loop-next.found c.loop-next.self (omega (arith, i.size, c.loop-next.list.ok.0, c.loop-next-test.false)) (omega (arith, i.size, i.kept, c.loop-next.list.ok.0, c.loop-next-test.false)) i.turn in
    let items = c.truncate.ensures.items in
    let size : vec_len c.truncate.new.self ≡ length (take c.loop-next.kept list) = omega (arith, c.truncate.new.self.ok.0, ap length items) in
    rw (size, items) ends
