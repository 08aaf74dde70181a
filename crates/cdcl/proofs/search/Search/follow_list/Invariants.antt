use Rattle.std.proofs.Common.{◌≡◌, ◌≤◌, vec_len}
use Rattle.cdcl.specs.Searches.{IsReady, Goes}
use Rattle.cdcl.specs.Trails.{IsConflict}
use Rattle.std.specs.Prelude.{IfSome}
use Rattle.cdcl.specs.Guards.{InTurn}
use Rattle.cdcl.proofs.search.Search.follow_list.Given as goal

abbrev pub invariant-loop-next : goal.invariant-loop-next
invariant-loop-next l = record {
  ready : IsReady l.self;
  goes : Goes l.fn.self l.self;
  kept : l.kept ≤ l.next;
  size : vec_len l.list ≡ l.next-end;
  turn : InTurn l.falsified l.fn.index l.kept l.next l.list.items l.found l.self;
  conflict : IfSome l.found (λ id. IsConflict 1 l.self.clauses l.self.trail.entries.items id);
}
