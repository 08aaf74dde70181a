-- A block is run with its objects.
use Rattle.std.proofs.Common.{◌≡◌, ℕ, ◌+◌, List, [], ◌∷◌, ◌++◌, Option, Some, refl, sym, ap, ap₂, ◌∙◌}
use Rattle.std.proofs.Common.{append_assoc, append-nil}
use Rattle.c_means.specs.Parts.{Env}
use Rattle.c_means.specs.Items.{Made, known}
use Rattle.core_tree.specs.declared.code.Code.{Code}
use Rattle.core_tree.specs.States.{Output, Done, plain, born, dead, onward}
use Rattle.core_tree.specs.Codes.{Item, code, lived}
use Rattle.core_running.specs.Below.{code_room}
use Rattle.core_running.specs.Settings.{Setting, level}
use Rattle.code_steps.specs.declared.objects.Birth.{Birth}
use Rattle.code_steps.specs.Blocks.{made, made_all, objects_of, item_of}

module _ (s : Setting) where
  -- a block, with its objects
  pub lived_by : (x : Item Output) (env : Env) (base : ℕ) (all : List Birth) (d e f g : Done Output)
      → made_all all ≡ objects_of s x base → e ≡ born plain (made_all all) d
      → x.run (level s) (known (made_all all) env) base e ≡ Some f → g ≡ dead (made_all all) f
      → lived x (level s) env base d ≡ Some g
  lived_by x env base all d e f g is bore ran died =
      let whole : List Made → Option (Done Output) = λ ms. onward
      (x.run (level s) (known ms env) base (born plain ms d)) (λ r. Some (dead ms r)) in
      ap whole (sym is)
      ∙ ap (λ e. onward (x.run (level s) (known (made_all all) env) base e) (λ r. Some (dead (made_all all) r))) (sym bore)
      ∙ ap (λ o. onward o (λ r. Some (dead (made_all all) r))) ran ∙ ap Some (sym died)
