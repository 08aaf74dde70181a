-- The variables that are watched, one at a time.
use Rattle.std.proofs.Common.{◌≡◌, ◌<◌, ◌≤◌, ◌+◌, ◌++◌, ◌∷◌, [], ℕ, zero, suc, List, cond, length, get_or, drop, nat_eq, refl, sym, ap, ◌∙◌, append-nil, append_assoc, arith}
use Rattle.std.proofs.Math.Seq.{drop-cons}
use Rattle.plain_data.specs.declared.fact.Fact.{Fact}
use Rattle.plain_data.specs.declared.fact.Watched.{Watched}
use Rattle.run_formula.specs.declared.watches.Watch.{Watch}
use Rattle.run_formula.specs.Watched.{fact_of, watch_at, watches, watches_behind}

-- one more was put
pub watch-more : (fs : List Fact) (last next : ℕ) (ws : List Watched) (i : ℕ) (d : Watched) (place next2 : ℕ) (x : Watch) (all more : List Watch)
    → i < length ws → place ≡ cond (nat_eq (get_or ws i d).fact last) next 0 → x ≡ watch_at (fact_of fs (get_or ws i d).fact) place → next2 ≡ place + 1
    → more ≡ all ++ x ∷ [] → all ++ watches_behind fs last next (drop i ws) ≡ watches fs ws
    → more ++ watches_behind fs (get_or ws i d).fact next2 (drop (i + 1) ws) ≡ watches fs ws
watch-more fs last next ws i d place next2 x all more less is_place is_x is_next is_more h =
    ap (λ s. s ++ watches_behind fs w.fact next2 (drop (i + 1) ws)) is_more
    ∙ append_assoc all (x ∷ []) (watches_behind fs w.fact next2 (drop (i + 1) ws))
    ∙ (λ j. all ++ (put j ∷ watches_behind fs w.fact (count j) (drop (i + 1) ws)))
    ∙ ap (λ s. all ++ watches_behind fs last next s) (sym there) ∙ h
  where
    w : Watched
    w = get_or ws i d

    behind : suc i ≡ i + 1
    behind = omega arith

    there : drop i ws ≡ w ∷ drop (i + 1) ws
    there = drop-cons ws i d less ∙ ap (λ n. w ∷ drop n ws) behind

    put : x ≡ watch_at (fact_of fs w.fact) (cond (nat_eq w.fact last) next 0)
    put = is_x ∙ ap (watch_at (fact_of fs w.fact)) is_place

    count : next2 ≡ cond (nat_eq w.fact last) next 0 + 1
    count = is_next ∙ ap (λ n. n + 1) is_place

past : (ws : List Watched) (i : ℕ) → length ws ≤ i → drop i ws ≡ []
past [] zero h = refl
past [] (suc i) h = refl
past (w ∷ ws) zero h = absurd (omega (arith, h))
past (w ∷ ws) (suc i) h = past ws i (omega (arith, h))

pub watch-ends : (fs : List Fact) (last next : ℕ) (ws : List Watched) (i : ℕ) (all : List Watch) → length ws ≤ i
    → all ++ watches_behind fs last next (drop i ws) ≡ watches fs ws → all ≡ watches fs ws
watch-ends fs last next ws i all h k =
    sym (append-nil all) ∙ ap (λ s. all ++ watches_behind fs last next s) (sym (past ws i h)) ∙ k
