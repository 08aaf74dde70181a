-- What is known of the function that finds the ends of calls, and what a walk of a part finds.
use Rattle.std.specs.Prelude.{◌≡◌, ◌<◌, ℕ, List, Some, Result, IfOk}
use Rattle.std.specs.declared.alloc.AllocError.{AllocError}
use Rattle.std.specs.declared.alloc.Global.{Global}
use denote.Ref.{Bor, MutBor}
use denote.Param.Members.{Shared}
use Rattle.core_tree.specs.Codes.{Item}
use Rattle.core_tree.specs.Values.{Value}
use Rattle.log_expr.specs.declared.flow.Flow.{Flow}
use Rattle.log_expr.specs.declared.table.Ends.{Ends}
use Rattle.log_expr.specs.declared.table.Entry.{Entry}
use Rattle.log_expr.specs.declared.table.EndTable.{EndTable}
use Rattle.log_expr.specs.declared.trail.Trail.{Trail}
use Rattle.core_tree.specs.declared.expr.Callee.{Callee}
use Rattle.log_expr.specs.Covers.{Whole, CoversValue, CoversValues, CoversCode, IsClosed}
use Rattle.log_expr.specs.Logs.{CallsEnd, CoversCallee}
use Rattle.log_expr.specs.Flows.{Wider}
use Rattle.log_expr.specs.Tables.{ends_at, known_at, Grows}

-- each entry stays, and the table stays closed
pub record Extends (w : Whole) (old now : List (List Entry)) : Type 0 where
  pub grows : Grows old now
  pub closed : IsClosed w old → IsClosed w now

-- where a function runs: the program, the turns of its loops, and how many levels are left for its calls
pub record Site : Type 0 where
  pub whole : Whole
  pub turns : ℕ
  pub left : ℕ

-- the ends of a call were found, and the table has them
pub record FoundEnds (x : Site) (old now : List (List Entry)) (f start : ℕ) (e : Ends) : Type 0 where
  pub extends_ : Extends x.whole old now
  pub there : ends_at now f x.left start ≡ Some e

abbrev pub Finder : Type 0 → Type 0 → Type 1
Finder L F = Shared F (Global × (Bor L × (ℕ × (ℕ × (MutBor EndTable × Unit {0})))))
    (Result Ends AllocError × (MutBor EndTable × Unit {0}))

-- it finds the ends of calls, where a level is left for them
pub record Finds {L K : Type 0} (site : L → Site) (k : Finder L K) (here : Bor L) (f : K) : Type 0 where
  pub callable : 0 < (site here.now).left → (alloc : Global) (g start : ℕ) (m : MutBor EndTable) → k.pre f (alloc, (here, (g, (start, (m, tt)))))
  pub finds : 0 < (site here.now).left → (alloc : Global) (g start : ℕ) (m n : MutBor EndTable) (r : Result Ends AllocError)
      → k.post f (alloc, (here, (g, (start, (m, tt))))) (r, (n, tt))
      → IfOk r (λ e. FoundEnds (site here.now) m.now n.now g start e)

-- what an expression was walked to, from these positions
pub record ReachesValue (x : Site) (old now : List (List Entry)) (v : Value ℕ) (from to ended ended' : List ℕ)
    : Type 0 where
  pub extends_ : Extends x.whole old now
  pub wider : Wider ended ended'
  pub covers : CoversValue x.whole x.turns (known_at now x.left) v from to ended'

-- what code was walked to
pub record ReachesCode (x : Site) (old now : List (List Entry)) (i : Item ℕ) (s u : Flow) : Type 0 where
  pub extends_ : Extends x.whole old now
  pub covers : CoversCode x.whole x.turns (known_at now x.left) i s u

-- what calls of one function were found to end at
pub record ReachesCalls (x : Site) (old now : List (List Entry)) (f : ℕ) (from to ended ended' : List ℕ) : Type 0 where
  pub extends_ : Extends x.whole old now
  pub wider : Wider ended ended'
  pub calls : CallsEnd (known_at now x.left) f from to ended'

-- what is called was found to end at
pub record ReachesCallee (x : Site) (old now : List (List Entry)) (c : Callee) (count : ℕ) (from to ended ended' : List ℕ)
    : Type 0 where
  pub extends_ : Extends x.whole old now
  pub wider : Wider ended ended'
  pub covers : CoversCallee x.whole x.turns (known_at now x.left) c count from to ended'

-- what arguments were walked to
pub record ReachesValues (x : Site) (old now : List (List Entry)) (vs : List (Value ℕ)) (from to ended ended' : List ℕ)
    : Type 0 where
  pub extends_ : Extends x.whole old now
  pub wider : Wider ended ended'
  pub covers : CoversValues x.whole x.turns (known_at now x.left) vs from to ended'

-- an expression was walked: nothing that was set aside was touched
pub record WalksValue (x : Site) (rows rows' : List (List Entry)) (v : Value ℕ) (old now : Trail) : Type 0 where
  pub aside : now.aside ≡ old.aside
  pub value : ReachesValue x rows rows' v old.at now.at old.ended now.ended

pub record WalksValues (x : Site) (rows rows' : List (List Entry)) (vs : List (Value ℕ)) (old now : Trail) : Type 0
  where
    pub aside : now.aside ≡ old.aside
    pub values : ReachesValues x rows rows' vs old.at now.at old.ended now.ended

pub record WalksCallee (x : Site) (rows rows' : List (List Entry)) (c : Callee) (count : ℕ) (old now : Trail) : Type 0
  where
    pub aside : now.aside ≡ old.aside
    pub callee : ReachesCallee x rows rows' c count old.at now.at old.ended now.ended
