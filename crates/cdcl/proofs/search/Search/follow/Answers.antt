use Rattle.std.proofs.Common.{◌*◌, ℕ, ap, vec_len, sym, ◌∙◌, subst}
use Rattle.cnf_core.specs.Literal.{negated}
use Rattle.cdcl.specs.Guards.{InTurn}
use Rattle.cdcl.proofs.Lists.{pair-same}
use Rattle.cdcl.proofs.Members.{negated-negated}
use Rattle.cdcl.proofs.Searching.{item-read}
use Rattle.cdcl.proofs.Turning.{turn-begins, turn-done, negation-within}
use Rattle.cdcl.proofs.search.Search.follow.Goals as goal

pub take_list-list-requires : goal.take_list-list-requires
take_list-list-requires c =
    let s = c.args.self.now in
    negation-within s c.args.index c.index.result.now c.negated-falsified.result (vec_len s.watches.lists) c.requires.ready (item-read s.trail.entries.items c.args.index c.index.result.now c.requires.within c.index.ensures) c.negated-falsified.ensures c.requires.guards.sound.lists

pub follow_list-requires-clause-turn : goal.follow_list-requires-clause-turn
follow_list-requires-clause-turn c =
    let s = c.args.self.now in
    let x = c.negated-falsified.result in
    let at = item-read s.trail.entries.items c.args.index c.index.result.now c.requires.within c.index.ensures in
    let lit = sym (ap negated c.negated-falsified.ensures ∙ negated-negated c.index.result.now.literal) in
    let t = c.take_list-list.ensures in
    rw t.list (turn-begins x c.args.index s c.take_list-list.new.self c.index.result.now c.requires.guards at lit t.here t.others t.sizes (λ id. pair-same s.watches c.take_list-list.new.self id t.given t.learnt))

pub put_list-requires : goal.put_list-requires
put_list-requires c =
    let s = c.args.self.now in
    let e = c.in_ok-found.ensures in
    negation-within s c.args.index c.index.result.now c.negated-falsified.result (vec_len c.follow_list.new.self.watches.lists) c.requires.ready (item-read s.trail.entries.items c.args.index c.index.result.now c.requires.within c.index.ensures) c.negated-falsified.ensures (e.turn.sound.lists ∙ ap (λ n. 2 * n) e.goes.room)

pub returns-clause-rest : goal.returns-clause-rest
returns-clause-rest c =
    let s = c.follow_list.new.self in
    let e = c.in_ok-found.ensures in
    let p = c.put_list.ensures in
    let P : ℕ → Type 0 = λ n. InTurn c.negated-falsified.result c.args.index n n c.follow_list.new.list.items c.in_ok-found.found s in
    turn-done c.negated-falsified.result c.args.index c.follow_list.new.list.items c.in_ok-found.found s c.put_list.new.self e.ready.trail.distinct (subst P c.follow_list.new.list.ok.0 e.turn) p.here p.others p.sizes (λ id. pair-same s.watches c.put_list.new.self id p.given p.learnt)
