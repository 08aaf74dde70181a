-- Cores one behind the other.
use Rattle.std.proofs.Common.{◌≡◌, ℕ, ◌+◌, List, [], ◌∷◌, ◌++◌, map, Some, refl, sym, ap, ap₂, ◌∙◌, subst, arith}
use Rattle.std.specs.Prelude.{Option, None}
use Rattle.c_means.specs.Parts.{State, Env}
use Rattle.c_means.specs.Parts as c
use Rattle.c_means.specs.Items.{Made}
use Rattle.c_means.specs.Items as runs
use Rattle.core_tree.specs.declared.code.Code.{Code}
use Rattle.core_tree.specs.States.{Output, Done, Level, Measures, Acts as CoreActs, onward}
use Rattle.core_tree.specs.Codes.{Item, code, in_turn, followed}
use Rattle.elaborate.specs.Means.{Numbering, Like, Acts, IsCodeOf, as_done}
use Rattle.elaborate.proofs.Codes.{and_items}
use Rattle.code_forms.specs.Contents.{AreCodesOf}

nothing_behind : (n : ℕ) → n + 0 ≡ n
nothing_behind n = grind arith

pub nothing_before : (n : ℕ) → n ≡ 0 + n
nothing_before n = grind arith

grouped : (a b c : ℕ) → (a + b) + c ≡ a + (b + c)
grouped a b c = grind arith

joined_alone : (ms : List Made) → ms ++ [] ≡ ms
joined_alone [] = refl
joined_alone (m ∷ ms) = ap (λ ns. m ∷ ns) (joined_alone ms)

joined_in_turn : (ms ns os : List Made) → (ms ++ ns) ++ os ≡ ms ++ (ns ++ os)
joined_in_turn [] ns os = refl
joined_in_turn (m ∷ ms) ns os = ap (λ l. m ∷ l) (joined_in_turn ms ns os)

-- ---- items of the core that do the same

record Alike (x y : Item Output) : Type 0 where
  pub size : (m : Measures) → x.needs.size m ≡ y.needs.size m
  pub room : (m : Measures) → x.needs.room m ≡ y.needs.room m
  pub objects : (m : Measures) (base : ℕ) → x.objects m base ≡ y.objects m base
  pub runs : (k : Level Output) (env : Env) (base : ℕ) (d : Done Output) → x.run k env base d ≡ y.run k env base d

turned : {x y : Item Output} → Alike x y → Alike y x
turned a = record {
  size = λ m. sym (a.size m);
  room = λ m. sym (a.room m);
  objects = λ m base. sym (a.objects m base);
  runs = λ k env base d. sym (a.runs k env base d);
}

onward_alone : (o : Option (Done Output)) → onward o (λ d. Some d) ≡ o
onward_alone None = refl
onward_alone (Some d) = refl

onward_in_turn : (o : Option (Done Output)) (f g : Done Output → Option (Done Output)) → onward (onward o f) g
    ≡ onward o (λ d. onward (f d) g)
onward_in_turn None f g = refl
onward_in_turn (Some d) f g = refl

alike_alone : (x : Code) → Alike (in_turn (map code (x ∷ []))) (code x)
alike_alone x = record {
  size = λ m. nothing_behind ((code {O = Output} x).needs.size m);
  room = λ m. nothing_behind ((code {O = Output} x).needs.room m);
  objects = λ m base. joined_alone ((code {O = Output} x).objects m base);
  runs = λ k env base d. onward_alone ((code x).run k env base d);
}

-- those behind an item, regrouped
alike_behind : (x y z w : Item Output) → Alike w (followed y z) → Alike (followed x w) (followed (followed x y) z)
alike_behind x y z w h = record {
  size = λ m. ap (λ n. x.needs.size m + n) (h.size m)
      ∙ sym (grouped (x.needs.size m) (y.needs.size m) (z.needs.size m));
  room = λ m. ap (λ n. x.needs.room m + n) (h.room m)
      ∙ sym (grouped (x.needs.room m) (y.needs.room m) (z.needs.room m));
  objects = λ m base. ap (λ ns. x.objects m base ++ ns) (h.objects m (base + x.needs.room m))
      ∙ ap (λ n. x.objects m base ++ (y.objects m (base + x.needs.room m) ++ z.objects m n))
      (grouped base (x.needs.room m) (y.needs.room m))
      ∙ sym (joined_in_turn (x.objects m base) (y.objects m (base + x.needs.room m))
      (z.objects m (base + (x.needs.room m + y.needs.room m))));
  runs = λ k env base d. behind k env base d (x.run k env base d);
}
  where
    behind : (k : Level Output) (env : Env) (base : ℕ) (d : Done Output) (o : Option (Done Output))
        → onward o (w.run k env (base + x.needs.room k.measures))
        ≡ onward (onward o (y.run k env (base + x.needs.room k.measures)))
        (z.run k env (base + (x.needs.room k.measures + y.needs.room k.measures)))
    behind k env base d None = refl
    behind k env base d (Some e) = h.runs k env (base + x.needs.room k.measures) e
        ∙ ap (λ n. onward (y.run k env (base + x.needs.room k.measures) e) (z.run k env n))
        (grouped base (x.needs.room k.measures) (y.needs.room k.measures))

alike_nothing : (z : Item Output) → Alike z (followed (in_turn []) z)
alike_nothing z = record {
  size = λ m. nothing_before (z.needs.size m);
  room = λ m. nothing_before (z.needs.room m);
  objects = λ m base. ap (z.objects m) (sym (nothing_behind base));
  runs = λ k env base d. ap (λ n. z.run k env n d) (sym (nothing_behind base));
}

alike_joined : (xs ys : List Code) → Alike (in_turn (map code (xs ++ ys)))
    (followed (in_turn (map code xs)) (in_turn (map code ys)))
alike_joined [] ys = alike_nothing (in_turn (map code ys))
alike_joined (x ∷ xs) ys = alike_behind (code x) (in_turn (map code xs)) (in_turn (map code ys))
    (in_turn (map code (xs ++ ys))) (alike_joined xs ys)

module _ (numbering : Numbering) where
  as_alike : (x y : Item Output) (i : runs.Item) → Alike x y → Acts numbering y i → Acts numbering x i
  as_alike x y i a h = record {
    size = λ l k like. a.size k.measures ∙ h.size l k like;
    room = λ l k like. a.room k.measures ∙ h.room l k like;
    objects = λ l k like base. a.objects k.measures base ∙ h.objects l k like base;
    runs = λ l k like env base d. a.runs k env base (as_done d) ∙ h.runs l k like env base d;
  }

  -- one item
  pub alone_codes : (x : Code) (i : runs.Item) → IsCodeOf numbering x i → AreCodesOf numbering (x ∷ []) i
  alone_codes x i h = as_alike (in_turn (map code (x ∷ []))) (code x) i (alike_alone x) h

  pub only_code : (x : Code) (i : runs.Item) → AreCodesOf numbering (x ∷ []) i → IsCodeOf numbering x i
  only_code x i h = as_alike (code x) (in_turn (map code (x ∷ []))) i (turned (alike_alone x)) h

  -- items behind others
  pub joined_codes : (xs ys : List Code) (i j : runs.Item) → AreCodesOf numbering xs i → AreCodesOf numbering ys j
      → AreCodesOf numbering (xs ++ ys) (runs.followed i j)
  joined_codes xs ys i j h g = as_alike (in_turn (map code (xs ++ ys)))
      (followed (in_turn (map code xs)) (in_turn (map code ys))) (runs.followed i j) (alike_joined xs ys)
      (and_items numbering (in_turn (map code xs)) (in_turn (map code ys)) i j h g)

  -- one more
  pub and_code : (xs : List Code) (y : Code) (i j : runs.Item) → AreCodesOf numbering xs i → IsCodeOf numbering y j
      → AreCodesOf numbering (xs ++ y ∷ []) (runs.followed i j)
  and_code xs y i j h g = joined_codes xs (y ∷ []) i j h (alone_codes y j g)
