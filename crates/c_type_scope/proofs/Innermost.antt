-- What the innermost block declares, where blocks are kept with the innermost last.
use Rattle.std.proofs.Common.{◌≡◌, refl, ap, sym, subst, ◌∙◌, ℕ, suc, ◌-◌, ◌<◌, List, [], ◌∷◌, ◌++◌, length, take, set, get_or, reverse, arith, Option}
use Rattle.std.proofs.Math.Seq.{take-suc}
use Rattle.std.proofs.Math.ListN.{length-take}
use Rattle.std.proofs.lemmas.List.{reverse-append, take_all}
use Rattle.c_language.specs.declared.scope.Linked.{Linked}
use Rattle.c_language.specs.Scopes.{Name, Block, Scope, innermost, with_innermost}
use Rattle.c_language.specs.declared.tables.Tables.{Tables}

set_last : {A : Type 0} (xs : List A) (x y : A) → set (xs ++ x ∷ []) (length xs) y ≡ xs ++ y ∷ []
set_last [] x y = refl
set_last {A} (a ∷ as') x y = ap (λ (r : List A). a ∷ r) (set_last as' x y)

cut_last : {A : Type 0} (xs : List A) (n : ℕ) (d : A) → length xs ≡ suc n → xs ≡ take n xs ++ get_or xs n d ∷ []
cut_last xs n d e = sym (take_all (suc n) xs (omega arith)) ∙ take-suc xs n d (omega arith)

module _ (file : Block) (linked : List Linked) (function : Option Name) (tables : Tables) (f : Block → Block) where
  abbrev over : List Block → Scope
  over blocks = record { file = file; blocks = reverse blocks; linked = linked; function = function; tables = tables }

  -- the last of the blocks in place of another
  wanted : List Block → ℕ → Block → Type 0
  wanted blocks n new = over (set blocks n new) ≡ with_innermost (f (innermost (over blocks))) (over blocks)

  behind : (front : List Block) (block new : Block) → new ≡ f block → wanted (front ++ block ∷ []) (length front) new
  unfolding wanted
  behind front block new made = rw (set_last front block new, reverse-append, reverse-append, made) refl

  pub replaced : (blocks : List Block) (count : ℕ) (block new : Block) → 0 < count → length blocks ≡ count
      → block ≡ get_or blocks (count - 1) block → new ≡ f block
      → over (set blocks (count - 1) new) ≡ with_innermost (f (innermost (over blocks))) (over blocks)
  unfolding wanted
  replaced blocks count block new positive long is made =
      let front : List Block = take (count - 1) blocks in
      let cut : blocks ≡ front ++ block ∷ [] =
      cut_last blocks (count - 1) block (omega arith) ∙ ap (λ (x : Block). front ++ x ∷ []) (sym is) in
      let n : length front ≡ count - 1 = length-take (count - 1) blocks ∙ omega arith in
      subst (λ (xs : List Block). wanted xs (count - 1) new) (sym cut)
      (subst (λ (k : ℕ). wanted (front ++ block ∷ []) k new) n (behind front block new made))
