-- Worlds that are known while facts are weighed.
use Rattle.std.specs.Prelude.{◌≡◌, ◌≤◌, ◌++◌, ℕ, List, [], ◌∷◌, length, map, slice_get, zero, suc, Bool, true, false, not, Option, Some, None}
use Rattle.std.specs.List.{All}
use Rattle.plain_data.specs.declared.fact.Fact.{Fact}
use Rattle.plain_data.specs.declared.run.Run.{Run}
use Rattle.plain_data.specs.Worlds.{WorldTables}
use Rattle.log_text.specs.Shown.{Holds}
use Rattle.proof_check.specs.Steps.{Step}
use Rattle.cdcl.specs.Stores.{KeepsMore}
use Rattle.diagnoses.specs.declared.verdict.Verdict.{Verdict}
use Rattle.must_facts.specs.declared.known.Known.{Known}
use Rattle.must_facts.specs.Verdicts.{Matter, FitsOn, IsVerdict, AreVerdicts, kept_after}

-- at least one world, each with its run, which fits
pub record IsKnown (m : Matter) (x : Known) : Type 0 where
  pub some : 1 ≤ length x.worlds
  pub runs : x.runs ≡ map m.run x.worlds
  pub fit : All (λ w. FitsOn m w) x.worlds

-- more worlds are known
pub record Learns (old new : Known) : Type 0 where
  pub more : List WorldTables
  pub worlds : new.worlds ≡ old.worlds ++ more

-- The verdict on the fact of a number, over the worlds that are known behind it, where these steps are kept before and
-- behind it; whatever worlds are named before it were known before it, and whatever steps were spent were kept.
pub record Weighs (m : Matter) (k : ℕ) (f : Fact) (old new : Known) (before behind : List Step) (v : Verdict) : Type 0
  where
    pub known : IsKnown m new
    pub learns : Learns old new
    pub is : (named : ℕ) (kept : List Step) → named ≤ length old.worlds → KeepsMore kept before
        → IsVerdict m new.worlds named kept k f v
    pub stays : (kept : List Step) → KeepsMore kept before → KeepsMore (kept_after kept v) behind

-- ---- searching

-- the fact holds on the run, or doesn't
abbrev pub Answers : Bool → List ℕ → Fact → Run → Type 0
Answers true log f r = Holds log r f
Answers false log f r = Holds log r f → ⊥

-- the run at this index answers so
pub record AnswersAt (wanted : Bool) (log : List ℕ) (f : Fact) (rs : List Run) (i : ℕ) : Type 0 where
  pub run : Run
  pub at : slice_get rs i ≡ Some run
  pub answers : Answers wanted log f run

-- the index of one that answers so, or none does
abbrev pub Finds : Bool → List ℕ → Fact → List Run → Option ℕ → Type 0
Finds wanted log f rs None = All (Answers (not wanted) log f) rs
Finds wanted log f rs (Some i) = AnswersAt wanted log f rs i

-- the number of a known world whose run answers so, or no run does
abbrev pub FindsWorld : Bool → List ℕ → Fact → Known → Option ℕ → Type 0
FindsWorld wanted log f x None = All (Answers (not wanted) log f) x.runs
FindsWorld wanted log f x (Some zero) = ⊥
FindsWorld wanted log f x (Some (suc i)) = AnswersAt wanted log f x.runs i

-- ---- all facts

-- the steps that stand among those that are kept, after verdicts
abbrev pub kept_over : List Step → List Verdict → List Step
kept_over kept [] = kept
kept_over kept (v ∷ vs) = kept_over (kept_after kept v) vs

-- each fact has its verdict, over the worlds that are known in the end, where these steps are kept
pub record WeighsAll (m : Matter) (fs : List Fact) (x : Known) (behind : List Step) (vs : List Verdict) : Type 0 where
  pub known : IsKnown m x
  pub are : AreVerdicts m x.worlds 0 [] 1 fs vs
  pub stays : KeepsMore (kept_over [] vs) behind
