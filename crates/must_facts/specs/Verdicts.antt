-- What a diagnosis says of the runs of a program in all worlds.
use Rattle.std.specs.Prelude.{◌≤◌, ℕ, zero, suc, List, [], ◌∷◌, ◌++◌, length, take, max, slice_get, Option, Some, None}
use Rattle.std.specs.List.{All}
use Rattle.plain_data.specs.declared.fact.Fact.{Fact}
use Rattle.plain_data.specs.declared.run.Run.{Run}
use Rattle.plain_data.specs.Worlds.{WorldTables}
use Rattle.log_text.specs.Shown.{Fits, Holds}
use Rattle.proof_check.specs.Steps.{Step}
use Rattle.proof_check.specs.declared.steps.Trail.{Trail}
use Rattle.proof_check.specs.Refutations.{IsRefutation}
use Rattle.cdcl.specs.Stores.{KeepsMore}
use Rattle.query_core.specs.declared.query.Query.{Query}
use Rattle.query_core.specs.declared.target.Target.TheVariants.{Fits as Fitting, Having, Lacking}
use Rattle.query_core.specs.Claims.{claim}
use Rattle.query_core.specs.Replies.{Spends}
use Rattle.diagnoses.specs.declared.verdict.Open.{Open}
use Rattle.diagnoses.specs.declared.verdict.Open.TheVariants as side
use Rattle.diagnoses.specs.declared.verdict.Verdict.{Verdict}
use Rattle.diagnoses.specs.declared.verdict.Verdict.TheVariants.{Must, MustNot, May, Unknown}
use Rattle.diagnoses.specs.declared.diagnosis.Findings.{Findings}
use Rattle.diagnoses.specs.declared.diagnosis.Diagnosis.{Diagnosis}
use Rattle.diagnoses.specs.declared.diagnosis.Diagnosis.TheVariants.{Found, Nothing, Undecided}

-- the run of a program in each world, the log, the query over its runs, and how many conflicts a question may take
pub record Matter : Type 0 where
  pub run : WorldTables → Run
  pub log : List ℕ
  pub query : Query
  pub conflicts : ℕ

-- ---- in one world

abbrev pub FitsOn : Matter → WorldTables → Type 0
FitsOn m w = Fits m.log (m.run w)

abbrev pub HoldsOn : Matter → Fact → WorldTables → Type 0
HoldsOn m f w = Holds m.log (m.run w) f

abbrev pub FailsOn : Matter → Fact → WorldTables → Type 0
FailsOn m f w = HoldsOn m f w → ⊥

-- the world of a number, from 1 on
abbrev pub world_at : List WorldTables → ℕ → Option WorldTables
world_at ws zero = None
world_at ws (suc n) = slice_get ws n

-- there is a world, and P holds of it
abbrev pub OfWorld : (WorldTables → Type 0) → Option WorldTables → Type 0
OfWorld P None = ⊥
OfWorld P (Some w) = P w

-- ---- verdicts on the fact of a number

-- it holds on each run that fits
pub record IsMust (m : Matter) (k : ℕ) (f : Fact) (steps : List Step) : Type 0 where
  pub always : (w : WorldTables) → FitsOn m w → HoldsOn m f w
  pub refutes : IsRefutation (claim m.query (Lacking k)) steps

-- it holds on no run that fits
pub record IsMustNot (m : Matter) (k : ℕ) (f : Fact) (steps : List Step) : Type 0 where
  pub never : (w : WorldTables) → FitsOn m w → FailsOn m f w
  pub refutes : IsRefutation (claim m.query (Having k)) steps

-- of two worlds whose runs fit it holds on the run of the first, and not on that of the second
pub record IsMay (m : Matter) (ws : List WorldTables) (f : Fact) (having lacking : ℕ) : Type 0 where
  pub has : OfWorld (λ w. FitsOn m w × HoldsOn m f w) (world_at ws having)
  pub lacks : OfWorld (λ w. FitsOn m w × FailsOn m f w) (world_at ws lacking)

-- the world doesn't answer the question that is open
abbrev pub LeavesOpen : Matter → Fact → Open → WorldTables → Type 0
LeavesOpen m f side.Having w = FailsOn m f w
LeavesOpen m f side.Lacking w = HoldsOn m f w

-- None of so many worlds, the first of the list, answers the question, and neither did as many conflicts as were
-- allowed. They are as many as the greatest number of a world that an earlier verdict names, and one at least. The steps
-- that earlier questions spent stand among the trail's kept steps, so that no step serves two verdicts.
pub record IsUnknown (m : Matter) (ws : List WorldTables) (named : ℕ) (kept : List Step) (f : Fact) (o : Open) (known : ℕ)
    (trail : Trail) : Type 0 where
  pub some : 1 ≤ known
  pub within : known ≤ length ws
  pub enough : named ≤ known
  pub unanswered : All (λ w. LeavesOpen m f o w) (take known ws)
  pub spent : Spends m.query m.conflicts trail
  pub keeps : KeepsMore kept trail.kept

abbrev pub IsVerdict : Matter → List WorldTables → ℕ → List Step → ℕ → Fact → Verdict → Type 0
IsVerdict m ws named kept k f (Must steps) = IsMust m k f steps
IsVerdict m ws named kept k f (MustNot steps) = IsMustNot m k f steps
IsVerdict m ws named kept k f (May having lacking) = IsMay m ws f having lacking
IsVerdict m ws named kept k f (Unknown o known trail) = IsUnknown m ws named kept f o known trail

-- the greatest number of a world that is named, after one verdict more
abbrev pub named_after : ℕ → Verdict → ℕ
named_after named (May having lacking) = max named (max having lacking)
named_after named _ = named

-- the steps that stand among those that are kept, after one verdict more
abbrev pub kept_after : List Step → Verdict → List Step
kept_after kept (Unknown o known trail) = trail.kept ++ trail.steps
kept_after kept _ = kept

-- one for each fact, in order, from this number on
abbrev pub AreVerdicts : Matter → List WorldTables → ℕ → List Step → ℕ → List Fact → List Verdict → Type 0
AreVerdicts m ws named kept k [] [] = Unit {0}
AreVerdicts m ws named kept k [] (v ∷ vs) = ⊥
AreVerdicts m ws named kept k (f ∷ fs) [] = ⊥
AreVerdicts m ws named kept k (f ∷ fs) (v ∷ vs) =
    IsVerdict m ws named kept k f v × AreVerdicts m ws (named_after named v) (kept_after kept v) (suc k) fs vs

-- ---- diagnoses

-- a world at least, each of whose runs fits, and one verdict for each fact
pub record AreFindings (m : Matter) (fs : List Fact) (x : Findings) : Type 0 where
  pub some : 1 ≤ length x.worlds
  pub fit : All (λ w. FitsOn m w) x.worlds
  pub verdicts : AreVerdicts m x.worlds 0 [] 1 fs x.verdicts

-- no run fits
pub record IsNothing (m : Matter) (steps : List Step) : Type 0 where
  pub never : (w : WorldTables) → FitsOn m w → ⊥
  pub refutes : IsRefutation (claim m.query Fitting) steps

abbrev pub IsDiagnosis : Matter → List Fact → Diagnosis → Type 0
IsDiagnosis m fs (Found findings) = AreFindings m fs findings
IsDiagnosis m fs (Nothing steps) = IsNothing m steps
IsDiagnosis m fs (Undecided trail) = Spends m.query m.conflicts trail
