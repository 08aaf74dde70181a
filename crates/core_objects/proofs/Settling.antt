-- What is set before the program starts is what the initializer of an object that lives throughout the run does.
use Rattle.std.proofs.Common.{◌≡◌, ℕ, ◌+◌, Bool, List, [], ◌∷◌, ◌++◌, map, Option, Some, None, refl, sym, ap, ◌∙◌}
use Rattle.std.proofs.Common.{arith}
use Rattle.c_store.specs.Store.{start}
use Rattle.c_means.specs.Parts.{State}
use Rattle.c_means.specs.Parts as c
use Rattle.c_language.specs.declared.scope.Entry.{Entry}
use Rattle.c_means.specs.Initials as initials
use Rattle.c_means.specs.Items as runs
use Rattle.c_means.specs.Statements.{no_env, lasting_object}
use Rattle.core_tree.specs.declared.code.Setting.{Setting}
use Rattle.core_tree.specs.States.{Output, Done, Arrow, Level, onward, running, where_running}
use Rattle.core_tree.specs.Codes as codes
use Rattle.core_tree.specs.Programs as core
use Rattle.elaborate.specs.Means.{Numbering, Like, as_done}
use Rattle.elaborate.proofs.Codes.{running_same}
use Rattle.core_programs.specs.Programs.{AreSettings}
use Rattle.core_programs.specs.Quiet.{IsQuiet}
use Rattle.core_programs.proofs.Quiet.{lasting_quiet}
use Rattle.core_objects.specs.Begun.{bare}
use Rattle.core_objects.specs.Given.{IsGiven, lasting_setting}

-- ---- arrows that do the same

onward_same : (o : Option (Done Output)) (f g : Arrow Output) → ((d : Done Output) → f d ≡ g d) → onward o f ≡ onward o g
onward_same None f g h = refl
onward_same (Some d) f g h = h d

running_alike : (f g : Arrow Output) (d : Done Output) → f d ≡ g d → running f d ≡ running g d
running_alike f g d h = ap (λ o. where_running d.kind o (Some d)) h

-- ---- no place is taken

none_first : (a b : ℕ) → a + b ≡ 0 → 0 + a ≡ 0
none_first a b h = omega (arith, h)

none_second : (a b : ℕ) → a + b ≡ 0 → b ≡ 0
none_second a b h = omega (arith, h)

-- so each is set from the first place on
pub set_alike : (place : ℕ) (xs : List Setting) (l : Level Output) → (codes.all_needs Output xs).room l.measures ≡ 0
    → (d : Done Output)
    → codes.sets_all xs (start place) l no_env 0 d ≡ core.sets_all (map (lasting_setting place) xs) l d
set_alike place [] l h d = refl
set_alike place (x ∷ xs) l h d =
    let first = (codes.setting_needs Output x).room l.measures in
    let others = (codes.all_needs Output xs).room l.measures in
    ap (λ n. onward (codes.sets x (start place) l no_env 0 d) (running (codes.sets_all xs (start place) l no_env n)))
    (none_first first others h)
    ∙ onward_same (codes.sets x (start place) l no_env 0 d) (running (codes.sets_all xs (start place) l no_env 0))
    (running (core.sets_all (map (lasting_setting place) xs) l))
    (λ r. running_alike (codes.sets_all xs (start place) l no_env 0)
    (core.sets_all (map (lasting_setting place) xs) l) r (set_alike place xs l (none_second first others h) r))

-- one more
pub set_more : (place : ℕ) (xs : List Setting) (x : Setting)
    → map (lasting_setting place) (xs ++ x ∷ []) ≡ map (lasting_setting place) xs ++ lasting_setting place x ∷ []
set_more place [] x = refl
set_more place (y ∷ xs) x = ap (λ ys. lasting_setting place y ∷ ys) (set_more place xs x)

-- ---- an object that lives throughout the run

module _ (numbering : Numbering) (en : Entry) (xs : List Setting) (x : initials.Initial)
    (h : IsGiven (bare numbering) xs x) (quiet : IsQuiet x) where
  set_here : (at n : ℕ) (defined : Bool) (l : c.Level) (k : Level Output) → Like (bare numbering) l k → (d : State)
      → running (codes.sets_all xs (start (numbering.place en.at)) k no_env 0) (as_done d)
      ≡ Some (as_done (runs.running ((lasting_object at en n defined x).set l) d))
  set_here at n defined l k like d =
      running_same (codes.sets_all xs (start (numbering.place en.at)) k no_env 0)
      ((lasting_object at en n defined x).set l) d
      (h.runs l k like (start (numbering.place en.at)) no_env 0 d
      ∙ ap (λ (f : ℕ → ℕ). Some (as_done (x.run (start (f en.at)) l no_env 0 d))) (sym like.static_places))

  pub settled : (at n : ℕ) (defined : Bool)
      → AreSettings (bare numbering) (map (lasting_setting (numbering.place en.at)) xs)
      (lasting_object at en n defined x)
  settled at n defined = record {
    set = λ l k last like d.
        sym (running_alike (codes.sets_all xs (start (numbering.place en.at)) k no_env 0)
        (core.sets_all (map (lasting_setting (numbering.place en.at)) xs) k) (as_done d)
        (set_alike (numbering.place en.at) xs k (h.room l k like ∙ quiet.room l k last) (as_done d)))
        ∙ set_here at n defined l k like d;
    prints = lasting_quiet at en n defined x quiet;
  }
