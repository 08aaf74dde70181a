use Rattle.std.proofs.Common.{Some, ap, ◌∙◌, sym, refl, arith}
use Rattle.std.specs.List.{slice_get}
use Rattle.cdcl.specs.declared.assigned.Entry.{Entry}
use Rattle.cdcl.specs.declared.clauses.ClauseId.TheVariants.{Assumed}
use Rattle.cdcl.specs.Known.{known}
use Rattle.cdcl.specs.Searches.{IsSearch}
use Rattle.cdcl.proofs.Assuming.{literal-read, known-stands, last-stands, held-next, assumed-conflict, assumed-reason}
use Rattle.cdcl.proofs.Searching.{assumed-next}
use Rattle.cdcl.proofs.Guarding.{guards-on}
use Rattle.cdcl.proofs.search.Search.assume_at.Goals as goal

pub returns-then-holds-clause-search : goal.returns-then-holds-clause-search
returns-then-holds-clause-search c = λ _.
    let s = c.requires.search in
    let a = c.index-as_slice-index.result in
    let at = literal-read c.args.self.now.clauses.assumed c.as_slice.result.now c.args.index a c.as_slice.ensures c.requires.index c.index-as_slice-index.is in
    record {
      learnt = s.learnt;
      trail = s.trail;
      fits = s.fits;
      learnt_fit = s.learnt_fit;
      begun = s.begun;
      assumed_fit = s.assumed_fit;
      holds = λ one. held-next c.args.index c.args.self.now.clauses.assumed c.args.self.now.trail.entries.items a (s.holds one) at
          (known-stands c.args.self.now.trail.entries.items c.args.self.now.trail.taken.items c.args.self.now.trail.level a s.trail.are_placed s.trail.have_levels (omega (arith, c.requires.level)) (sym c.holds.ensures ∙ c.if-holds.true));
    }

pub returns-then-holds-clause-searching : goal.returns-then-holds-clause-searching
returns-then-holds-clause-searching c = (c.args.index, c.requires.search)

pub returns-then-holds-2-clause-searching : goal.returns-then-holds-2-clause-searching
returns-then-holds-2-clause-searching c = (c.args.index, c.requires.search)

pub returns-then-holds-2-clause-conflict : goal.returns-then-holds-2-clause-conflict
returns-then-holds-2-clause-conflict c = λ _.
    let s = c.requires.search in
    let a = c.index-as_slice-index.result in
    let at = literal-read c.args.self.now.clauses.assumed c.as_slice.result.now c.args.index a c.as_slice.ensures c.requires.index c.index-as_slice-index.is in
    assumed-conflict c.args.self.now.clauses c.args.self.now.trail.entries.items c.args.self.now.trail.taken.items c.args.index a s.trail.are_placed at
    (ap (known c.args.self.now.trail.taken.items) (sym c.negated.ensures) ∙ sym c.holds-2.ensures ∙ c.if-holds-2.true)

pub take-requires-clause-room : goal.take-requires-clause-room
take-requires-clause-room c =
    c.requires.search.assumed_fit c.index-as_slice-index.result
    (c.args.index, literal-read c.args.self.now.clauses.assumed c.as_slice.result.now c.args.index c.index-as_slice-index.result c.as_slice.ensures c.requires.index c.index-as_slice-index.is)

taken : (c : goal.In_ok-take) → IsSearch c.args.index c.take.new.self
taken c =
    let a = c.index-as_slice-index.result in
    let e : Entry = record { literal = a; reason = Some (Assumed c.args.index); level = c.args.self.now.trail.level } in
    let at = literal-read c.args.self.now.clauses.assumed c.as_slice.result.now c.args.index a c.as_slice.ensures c.requires.index c.index-as_slice-index.is in
    c.in_ok-take.ensures.search c.args.index c.requires.search (assumed-next c.args.self.now c.args.index e c.requires.search.begun refl refl (assumed-reason c.args.self.now.clauses c.args.self.now.trail.entries.items c.args.index c.args.self.now.trail.level a at c.requires.level (Assumed c.args.index) refl))

pub returns-clause-searching : goal.returns-clause-searching
returns-clause-searching c = (c.args.index, taken c)

pub returns-clause-search : goal.returns-clause-search
returns-clause-search c = λ _.
    let a = c.index-as_slice-index.result in
    let e : Entry = record { literal = a; reason = Some (Assumed c.args.index); level = c.args.self.now.trail.level } in
    let at = literal-read c.args.self.now.clauses.assumed c.as_slice.result.now c.args.index a c.as_slice.ensures c.requires.index c.index-as_slice-index.is in
    let s = taken c in
    record {
      learnt = s.learnt;
      trail = s.trail;
      fits = s.fits;
      learnt_fit = s.learnt_fit;
      begun = s.begun;
      assumed_fit = s.assumed_fit;
      holds = λ one. held-next c.args.index c.take.new.self.clauses.assumed c.take.new.self.trail.entries.items a (s.holds one)
          (ap (λ t. slice_get t.assumed c.args.index) c.in_ok-take.ensures.clauses ∙ at)
          (last-stands c.args.self.now.trail.entries.items c.take.new.self.trail.entries.items e c.in_ok-take.ensures.entries (omega (arith, c.requires.level)));
    }

pub returns-clause-guards : goal.returns-clause-guards
returns-clause-guards c =
    let e = c.in_ok-take.ensures in
    guards-on c.args.self.now c.take.new.self (e.goes refl (λ none. absurd (cc))) e.watches c.requires.guards
