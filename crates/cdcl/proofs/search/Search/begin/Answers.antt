use Rattle.std.proofs.Common.{length, ap, sym, ◌∙◌, arith, subst, List, ◌≡◌, refl}
use Rattle.cnf_core.specs.Literal.{Literal}
use Rattle.cdcl.specs.declared.clauses.Clauses.{Clauses}
use Rattle.cdcl.specs.Fits.{Fits}
use Rattle.cdcl.proofs.Assuming.{numbered-wider}
use Rattle.cdcl.proofs.Resting.{Opens, opened-ready, opened-guards}
use Rattle.cdcl.proofs.search.Search.begin.Goals as goal

-- the clauses under the question's assumptions
abbrev under : Clauses → List Literal → Clauses
under clauses assumed = record { given = clauses.given; assumed = assumed; learnt = clauses.learnt }

opens : (c : goal.In_ok-widen) → Opens c.args.self.now c.widen.new.self (under c.args.self.now.clauses c.in_ok-self.field-0) c.room_from-room.result
opens c =
    let assumed : c.in_ok-self.field-0 ≡ c.args.assume.now = c.in_ok-self.ensures in
    let listed = ap length assumed in
    let P : List Literal → Type 0 = λ t. Fits c.room_from-room.result t in
    record {
      rest = c.requires;
      given = refl;
      learnt = refl;
      few = omega (arith, listed, c.len.ensures, c.len-else-assume-ge1073741824.ensures, c.if-len-ge2147483648.false, c.if-assume-ge1073741824.false, c.if-len-ge1073741823.false);
      least = omega (arith, c.len-2.ensures, c.room_for-least.ensures.least, c.room_from-room.ensures.least);
      fits = rw c.len-entered.ensures at c.room_from-room.ensures.fits;
      assumed = subst P (sym assumed) (λ l m. (numbered-wider c.room_for-least.result c.room_from-room.result c.args.assume.now c.room_from-room.ensures.least c.room_for-least.ensures.fits l m).1);
      widened = c.in_ok-widen.ensures.widened;
    }

pub returns-clause-ready : goal.returns-clause-ready
returns-clause-ready c = opened-ready c.args.self.now c.widen.new.self _ c.room_from-room.result (opens c)

pub returns-clause-entered : goal.returns-clause-entered
returns-clause-entered c =
    let given = ap (λ t. length t.given) c.widen.ensures.clauses in
    (omega (arith, given, c.len-entered.ensures, c.requires.given), rw c.len-entered.ensures (opened-guards c.args.self.now c.widen.new.self _ c.room_from-room.result (opens c)))

pub returns-clause-root : goal.returns-clause-root
returns-clause-root c = c.in_ok-widen.ensures.widened.level ∙ c.requires.root
