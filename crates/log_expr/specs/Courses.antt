-- Steps of a walk of code.
use Rattle.std.specs.Prelude.{◌≡◌, ◌++◌, ◌∷◌, [], ◌⊎◌, ℕ, List}
use Rattle.c_means.specs.declared.kind.Kind.{Kind}
use Rattle.c_means.specs.declared.kind.Kind.TheVariants as k
use Rattle.c_means.specs.Items.{past_continue}
use Rattle.log_expr.specs.declared.course.Aside.{Aside}
use Rattle.log_expr.specs.declared.course.Course.{Course}
use Rattle.log_expr.specs.declared.flow.Flow.{Flow}
use Rattle.log_expr.specs.Flows.{Arrives, unchanged, Wider}

-- ---- flows

abbrev pub only_running : List ℕ → Flow
only_running xs = record {
  running = xs;
  breaking = [];
  continuing = [];
  returning = [];
  going = [];
  choosing = [];
  ended = [];
}

abbrev pub only_choosing : List ℕ → Flow
only_choosing xs = record (only_running []) { choosing = xs }

abbrev pub but_running : Flow → Flow
but_running s = record s { running = [] }

-- a run that is running is of this kind
abbrev pub jumps : Kind → Kind → Kind
jumps to k.Running = to
jumps to kind = kind

-- where a run may stand at the end of a loop's body: in its next part, or out of the loop, where it stands behind
abbrev pub turned : List ℕ → Flow → Flow
turned next behind = record behind { running = next; breaking = behind.running }

-- ---- courses

-- what was set aside stays
pub record SetAsideStays (old now : Course) : Type 0 where
  pub passing : now.passing ≡ old.passing
  pub starts : now.starts ≡ old.starts
  pub outer : now.outer ≡ old.outer

-- only what passes what is walked may be more
pub record IsPassedMore (old now : Course) : Type 0 where
  pub passing : Arrives unchanged old.passing now.passing
  pub starts : now.starts ≡ old.starts
  pub outer : now.outer ≡ old.outer

-- the runs that are running enter, the others pass
pub record Enters (old now : Course) : Type 0 where
  pub at : now.at ≡ only_running old.at.running
  pub passing : now.passing ≡ but_running old.at
  pub starts : now.starts ≡ old.at.running
  pub outer : now.outer ≡ old.outer ++ record { passing = old.passing; starts = old.starts } ∷ []

-- what was walked is walked no more: those that passed it stand behind it too
pub record Leaves (old now : Course) : Type 0 where
  pub walked : Arrives unchanged old.at now.at
  pub passed : Arrives unchanged old.passing now.at
  pub restored : (front : List Aside) (last : Aside) → old.outer ≡ front ++ last ∷ []
      → (now.passing ≡ last.passing) × (now.starts ≡ last.starts) × (now.outer ≡ front)

-- those that were walked pass what is walked next
pub record Passes (old now : Course) : Type 0 where
  pub at : now.at ≡ old.at
  pub walked : Arrives unchanged old.at now.passing
  pub rest : IsPassedMore old now

-- the same, and what is walked next begins where this began
pub record BeginsAgain (old now : Course) : Type 0 where
  pub at : now.at ≡ only_running old.starts
  pub walked : Arrives unchanged old.at now.passing
  pub rest : IsPassedMore old now

-- at the end of a loop's body
pub record EndsBody (old now : Course) : Type 0 where
  pub at : now.at ≡ only_running now.at.running
  pub held : Arrives past_continue old.at (turned now.at.running now.passing)
  pub rest : IsPassedMore old now

-- another turn begins wherever one began or would begin next: so many are left, or none, where it begins nowhere else
pub record BeginsTurn (left : ℕ) (old now : Course) (left' : ℕ) : Type 0 where
  pub at : now.at ≡ only_running now.starts
  pub kept : Wider old.starts now.starts
  pub next : Wider old.at.running now.starts
  pub walked : Arrives unchanged (but_running old.at) now.passing
  pub passing : Arrives unchanged old.passing now.passing
  pub outer : now.outer ≡ old.outer
  pub again : (left' ≡ left) ⊎ ((left' ≡ 0) × Wider now.starts old.starts)
