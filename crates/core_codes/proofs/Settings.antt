-- What initializers set: none, and one object behind the other.
use Rattle.std.proofs.Common.{◌≡◌, List, [], ◌∷◌, ◌++◌, refl, sym, ap, ap₂, ◌∙◌, subst}
use Rattle.c_means.specs.Items.{Lasting}
use Rattle.core_tree.specs.declared.program.LastingSetting.{LastingSetting}
use Rattle.elaborate.specs.Means.{Numbering}
use Rattle.core_programs.specs.Programs.{AllSettings, no_calls, joined}
use Rattle.core_codes.specs.Settings.{AreAllSet}

pub grouped : {A : Type 0} (xs ys zs : List A) → xs ++ (ys ++ zs) ≡ (xs ++ ys) ++ zs
grouped [] ys zs = refl
grouped (x ∷ xs) ys zs = ap (λ l. x ∷ l) (grouped xs ys zs)

pub none_behind : {A : Type 0} (xs : List A) → xs ++ [] ≡ xs
none_behind [] = refl
none_behind (x ∷ xs) = ap (λ l. x ∷ l) (none_behind xs)

joined_both : (xss yss : List (List LastingSetting)) → joined (xss ++ yss) ≡ joined xss ++ joined yss
joined_both [] yss = refl
joined_both (xs ∷ xss) yss =
    ap (λ l. xs ++ l) (joined_both xss yss) ∙ grouped xs (joined xss) (joined yss)

all_both : (numbering : Numbering) (xss yss : List (List LastingSetting)) (ls ms : List Lasting)
    → AllSettings numbering xss ls → AllSettings numbering yss ms → AllSettings numbering (xss ++ yss) (ls ++ ms)
all_both numbering [] yss [] ms h g = g
all_both numbering [] yss (l ∷ ls) ms h g = absurd h
all_both numbering (xs ∷ xss) yss [] ms h g = absurd h
all_both numbering (xs ∷ xss) yss (l ∷ ls) ms h g = (h.0, all_both numbering xss yss ls ms h.1 g)

module _ (numbering : Numbering) where
  -- nothing lives throughout the run
  pub none_set : AreAllSet numbering [] []
  none_set = record { each = []; all = refl; set = tt }

  pub none_set_of : (ls : List Lasting) → ls ≡ [] → AreAllSet numbering [] ls
  none_set_of ls none = subst (AreAllSet numbering []) (sym none) none_set

  -- one behind the other
  pub both_set : (xs ys : List LastingSetting) (ls ms : List Lasting) → AreAllSet numbering xs ls
      → AreAllSet numbering ys ms → AreAllSet numbering (xs ++ ys) (ls ++ ms)
  both_set xs ys ls ms h g = record {
    each = h.each ++ g.each;
    all = ap₂ (λ (xs ys : List LastingSetting). xs ++ ys) h.all g.all ∙ sym (joined_both h.each g.each);
    set = all_both (no_calls numbering.place numbering.identity) h.each g.each ls ms h.set g.set;
  }

  -- nothing behind
  pub set_alone : (xs : List LastingSetting) (ls : List Lasting) → AreAllSet numbering xs ls
      → AreAllSet numbering xs (ls ++ [])
  set_alone xs ls h = subst (AreAllSet numbering xs) (sym (none_behind ls)) h

  -- what a `for` begins with, and its body
  pub loop_set : (xs ys : List LastingSetting) (first test body step : List Lasting) → test ≡ [] → step ≡ []
      → AreAllSet numbering xs first → AreAllSet numbering ys body
      → AreAllSet numbering (xs ++ ys) (first ++ (test ++ (body ++ step)))
  loop_set xs ys first test body step no_test no_step h g =
      both_set xs ys first (test ++ (body ++ step)) h
      (subst (λ ts. AreAllSet numbering ys (ts ++ (body ++ step))) (sym no_test)
      (subst (λ us. AreAllSet numbering ys (body ++ us)) (sym no_step) (set_alone ys body g)))
