-- Items one behind the other, settings one behind the other, and parts that may be missing.
use Rattle.std.proofs.Common.{◌≡◌, ℕ, ◌+◌, Bool, true, false, List, [], ◌∷◌, Option, Some, None, refl, sym, ap, ◌∙◌}
use Rattle.std.proofs.Common.{arith, map, option_map}
use Rattle.c_means.specs.Parts.{Env}
use Rattle.core_tree.specs.declared.code.Code.{Code}
use Rattle.core_tree.specs.declared.code.Setting.{Setting as Part}
use Rattle.core_tree.specs.States.{Output, Done, onward, running}
use Rattle.core_tree.specs.Codes.{code, sets, sets_all, setting_needs}
use Rattle.core_running.specs.Below.{code_room}
use Rattle.core_running.specs.Settings.{Setting, level}
use Rattle.code_steps.specs.Blocks.{item_of}
use Rattle.code_steps.specs.Rooms.{setting_room}

module _ (s : Setting) (env : Env) where
  -- one item was run, and the others do what is left
  pub item_on : (base next : ℕ) (c : Code) (cs : List Code) (d e : Done Output) → next ≡ base + code_room s c
      → (code c).run (level s) env base d ≡ Some e
      → (item_of cs).run (level s) env next e ≡ (item_of (c ∷ cs)).run (level s) env base d
  item_on base next c cs d e is ran =
      ap (λ n. (item_of cs).run (level s) env n e) is
      ∙ sym (ap (λ o. onward o ((item_of cs).run (level s) env (base + code_room s c))) ran)

  -- one setting was done, and the others do what is left where the run is running
  pub setting_on : (base next a : ℕ) (x : Part) (xs : List Part) (d e : Done Output) → next ≡ base + setting_room s x
      → sets x a (level s) env base d ≡ Some e
      → sets_all (x ∷ xs) a (level s) env base d ≡ running (sets_all xs a (level s) env next) e
  setting_on base next a x xs d e is ran =
      ap (λ o. onward o (running (sets_all xs a (level s) env (base + setting_room s x)))) ran
      ∙ ap (λ n. running (sets_all xs a (level s) env n) e) (sym is)
