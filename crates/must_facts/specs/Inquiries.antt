-- What is asked of an accepted source and a log.
use Rattle.std.specs.Prelude.{◌≡◌, ◌+◌, ◌*◌, ℕ, Bool, List, []}
use Rattle.plain_data.specs.declared.bounds.Bounds.{Bounds}
use Rattle.plain_data.specs.declared.fact.Fact.{Fact}
use Rattle.plain_data.specs.declared.run.Run.{Run}
use Rattle.plain_data.specs.Worlds.{WorldTables}
use Rattle.c_means.specs.Units.{source_run, source_size}
use Rattle.core_tree.specs.declared.program.Core.{Core}
use Rattle.accepted.specs.declared.program.Accepted.{Accepted}
use Rattle.log_text.specs.Lines.{line_count}
use Rattle.log_expr.specs.declared.table.Entry.{Entry}
use Rattle.log_expr.specs.Tours.{tour_of}
use Rattle.program_facts.specs.Listing.{AreFactsOf}
use Rattle.query_core.specs.declared.query.Query.{Query}
use Rattle.query_core.specs.Claims.{IsQuery, with_kept}
use Rattle.must_facts.specs.declared.inquiry.Inquiry.{Inquiry}
use Rattle.must_facts.specs.declared.whole.Diagnosed.{Diagnosed}
use Rattle.must_facts.specs.declared.whole.Found.{Found}
use Rattle.must_facts.specs.Verdicts.{IsDiagnosis, Matter}

-- the run of the source in a world, within the bounds
abbrev pub run_in : Inquiry → WorldTables → Run
run_in x w = source_run x.program.now.externals x.program.now.profile w x.bounds.now

-- whatever steps the query keeps
abbrev pub matter_of : Inquiry → Query → Matter
matter_of x q = record { run = run_in x; log = x.log.now; query = with_kept q []; conflicts = x.conflicts }

-- the query is that of a program's runs along a log, within bounds, and of these facts
pub record RunsAlong (p : Core) (b : Bounds) (log : List ℕ) (fs : List Fact) (q : Query) : Type 0 where
  pub ends : List (List Entry)
  pub is : IsQuery (tour_of p log b ends) fs q

abbrev pub IsQueryOf : Inquiry → Query → Type 0
IsQueryOf x q = RunsAlong x.program.now.core x.bounds.now x.log.now x.facts.now q

-- what is found by a query: a diagnosis over it, and its clauses
pub record IsFound (x : Inquiry) (q : Query) (f : Found) : Type 0 where
  pub diagnosis : IsDiagnosis (matter_of x q) x.facts.now f.diagnosis
  pub run : f.run ≡ q.solver.clauses

-- ---- the whole

-- how many nodes the source unrolls to, once for each line of the log and once for its end
abbrev pub measure_of : Accepted → Bounds → List ℕ → ℕ
measure_of p b log = source_size p.externals p.profile b * (line_count log + 1)

-- the facts of the source along the log, and a diagnosis over a query of its runs, whose clauses are kept
pub record IsDiagnosed (p : Accepted) (b : Bounds) (log : List ℕ) (conflicts : ℕ) (by_line : Bool) (d : Diagnosed)
    : Type 0 where
  pub facts : AreFactsOf p.core log by_line d.facts
  pub query : Query
  pub runs : RunsAlong p.core b log d.facts.facts query
  pub run : d.run ≡ query.solver.clauses
  pub is : IsDiagnosis (record { run = λ w. source_run p.externals p.profile w b; log = log; query = with_kept query []; conflicts = conflicts })
      d.facts.facts d.diagnosis
