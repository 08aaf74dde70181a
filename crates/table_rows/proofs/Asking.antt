-- Questions, one behind the other.
use Rattle.std.proofs.Common.{◌≡◌, ◌<◌, ◌≤◌, ℕ, suc, ℤ, List, length, refl, sym, ◌∙◌, subst, arith}
use Rattle.plain_data.specs.declared.fact.Fact.{Fact}
use Rattle.log_expr.specs.Tours.{Tour}
use Rattle.run_formula.specs.declared.watches.Watch.{Watch}
use Rattle.query_core.specs.declared.query.Query.{Query}
use Rattle.query_core.specs.declared.target.Target.{Target}
use Rattle.query_core.specs.declared.target.Target.TheVariants.{Fits, Having, Lacking, Other}
use Rattle.query_core.specs.Claims.{GoesOn, IsAbout, IsOfRun, IsQuery, IsWatched, KeepsFor, StaysFor}
use Rattle.query_core.proofs.QueryLemmas.{about-fact}
use Rattle.table_rows.specs.Asked.{IsAsked, IsKept}

-- a question that is no value's leaves the query as it was, but for the steps that are kept
pub goes-run : (x : Target) (old new : Query) → IsOfRun x → KeepsFor x old new → GoesOn old new
goes-run Fits old new run h = h
goes-run (Having k) old new run h = h
goes-run (Lacking k) old new run h = h
goes-run (Other k x) old new run h = absurd run

-- and what is asked for behind it without a search changes no more
pub stays-run : (x : Target) (a b c : Query) → IsOfRun x → KeepsFor x a b → StaysFor x b c → GoesOn a c
stays-run Fits a b c run g h = subst (λ q. GoesOn a q) (sym h) g
stays-run (Having k) a b c run g h = subst (λ q. GoesOn a q) (sym h) g
stays-run (Lacking k) a b c run g h = subst (λ q. GoesOn a q) (sym h) g
stays-run (Other k x) a b c run g h = absurd run

-- the steps that are kept change nothing that may be asked
pub about-goes : (x : Target) (old new : Query) → GoesOn old new → IsAbout old x → IsAbout new x
about-goes Fits old new g h = h
about-goes (Having k) old new g h = subst (λ q. IsAbout q (Having k)) (sym g.same) h
about-goes (Lacking k) old new g h = subst (λ q. IsAbout q (Lacking k)) (sym g.same) h
about-goes (Other k x) old new g h = subst (λ q. IsAbout q (Other k x)) (sym g.same) h

pub asked-goes : (fs : List Fact) (ws : List Watch) (old new : Query) → GoesOn old new → IsAsked fs ws old → IsAsked fs ws new
asked-goes fs ws old new g h = record {
  whole = g.whole h.whole;
  facts = λ k one within.
      (about-goes (Having k) old new g (h.facts k one within).0, about-goes (Lacking k) old new g (h.facts k one within).1);
  watches = subst (λ q. q.formula.watches ≡ ws) (sym g.same) h.watches;
}

pub kept-other : (k : ℕ) (x : ℤ) (old new : Query) → KeepsFor (Other k x) old new → IsKept old new
kept-other k x old new h = record { whole = h.whole; watches = h.watches }

pub kept-self : (q : Query) → IsKept q q
kept-self q = record { whole = λ h. h; watches = refl }

pub kept-on : (a b c : Query) → IsKept a b → IsKept b c → IsKept a c
kept-on a b c h k = record { whole = λ w. k.whole (h.whole w); watches = k.watches ∙ h.watches }

pub watched-kept : (old new : Query) (k : ℕ) → IsKept old new → IsWatched old k → IsWatched new k
watched-kept old new k h is = subst (λ ws. (1 ≤ k) × (k ≤ length ws)) (sym h.watches) is

pub asked-is : (t : Tour) (fs : List Fact) (ws : List Watch) (q : Query) → IsQuery t fs q → q.formula.watches ≡ ws → IsAsked fs ws q
asked-is t fs ws q h is = record { whole = h.whole; facts = λ k one within. about-fact t fs q k h one within; watches = is }

pub watched-at : (ws : List Watch) (q : Query) (i k : ℕ) → q.formula.watches ≡ ws → i < length ws → k ≡ suc i → IsWatched q k
watched-at ws q i k is less at =
    subst (λ xs. (1 ≤ k) × (k ≤ length xs)) (sym is) (omega (arith, at), omega (arith, at, less))
