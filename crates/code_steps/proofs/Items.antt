-- What each kind of code is as an item of its block.
use Rattle.std.proofs.Common.{◌≡◌, ℕ, ℤ, Bool, List, [], Option, Some, None, sym, ap, ◌∙◌}
use Rattle.std.specs.Prelude.{map, option_map}
use Rattle.c_language.specs.Scopes.{Name}
use Rattle.c_means.specs.Items.{at_label, at_case, at_default}
use Rattle.core_tree.specs.declared.types.WordType.{WordType}
use Rattle.core_tree.specs.declared.expr.Expr.{Expr}
use Rattle.core_tree.specs.declared.code.Setting.{Setting as Part}
use Rattle.core_tree.specs.declared.code.Code.{Code}
use Rattle.core_tree.specs.declared.code.Code.TheVariants as tree
use Rattle.core_tree.specs.States.{Output}
use Rattle.core_tree.specs.Values.{value}
use Rattle.core_tree.specs.Codes as form
use Rattle.core_tree.specs.Codes.{Item, code}
use Rattle.core_tree.proofs.Equations as eq
use Rattle.c_means.specs.declared.kind.Kind.TheVariants as k

it : Code → Item Output
it c = code c

-- each part is what its holder answers
module _ (c : Code) where
  pub is-Nothing : (b : Bool) → c ≡ tree.Nothing b → code {O = Output} c ≡ form.empty b
  unfolding it
  is-Nothing b h = ap it h ∙ eq.does-Nothing b

  pub is-Value : (b : Bool) (e e' : Expr) → c ≡ tree.Value b e → e' ≡ e
      → code {O = Output} c ≡ form.evaluated b (value e')
  unfolding it
  is-Value b e e' h i = ap it h ∙ eq.does-Value b e ∙ ap (λ e. form.evaluated b (value e)) (sym i)

  pub is-Declare : (at n : ℕ) (b : Bool) (xs xs' : List Part) → c ≡ tree.Declare at n b xs → xs' ≡ xs
      → code {O = Output} c ≡ form.declared at n b xs'
  unfolding it
  is-Declare at n b xs xs' h i = ap it h ∙ eq.does-Declare at n b xs ∙ ap (form.declared at n b) (sym i)

  pub is-Static : (b : Bool) (es : List Expr) → c ≡ tree.Static b es
      → code {O = Output} c ≡ record { needs = form.static_needs Output b es; objects = form.no_objects; run = form.passes }
  unfolding it
  is-Static b es h = ap it h ∙ eq.does-Static b es

  pub is-Block : (b : Bool) (cs cs' : List Code) → c ≡ tree.Block b cs → cs' ≡ cs
      → code {O = Output} c ≡ form.block b (map code cs')
  unfolding it
  is-Block b cs cs' h i = ap it h ∙ eq.does-Block b cs ∙ ap (λ cs. form.block b (map code cs)) (sym i)

  pub is-Label : (name name' : Name) (x x' : Code) → c ≡ tree.Label name x → name' ≡ name → x' ≡ x
      → code {O = Output} c ≡ form.arrived (at_label name') form.no_more (code x')
  unfolding it
  is-Label name name' x x' h j i =
      ap it h ∙ eq.does-Label name x ∙ ap (λ x. form.arrived (at_label name) form.no_more (code x)) (sym i)
      ∙ ap (λ name. form.arrived (at_label name) form.no_more (code x')) (sym j)

  pub is-Case : (z : ℤ) (e : Expr) (x x' : Code) → c ≡ tree.Case z e x → x' ≡ x
      → code {O = Output} c ≡ form.arrived (at_case (Some z)) (form.node_size Output e) (code x')
  unfolding it
  is-Case z e x x' h i =
      ap it h ∙ eq.does-Case z e x
      ∙ ap (λ x. form.arrived (at_case (Some z)) (form.node_size Output e) (code x)) (sym i)

  pub is-Default : (x x' : Code) → c ≡ tree.Default x → x' ≡ x
      → code {O = Output} c ≡ form.arrived at_default form.no_more (code x')
  unfolding it
  is-Default x x' h i =
      ap it h ∙ eq.does-Default x ∙ ap (λ x. form.arrived at_default form.no_more (code x)) (sym i)

  pub is-If : (at : ℕ) (e e' : Expr) (x x' y y' : Code) → c ≡ tree.If at e x y → e' ≡ e → x' ≡ x → y' ≡ y
      → code {O = Output} c ≡ form.if_of at (value e') (code x') (code y')
  unfolding it
  is-If at e e' x x' y y' h i j k =
      ap it h ∙ eq.does-If at e x y ∙ ap (λ e. form.if_of at (value e) (code x) (code y)) (sym i)
      ∙ ap (λ x. form.if_of at (value e') (code x) (code y)) (sym j)
      ∙ ap (λ y. form.if_of at (value e') (code x') (code y)) (sym k)

  pub is-Switch : (at : ℕ) (word : WordType) (zs zs' : List ℤ) (e e' : Expr) (b : Bool) (cs cs' : List Code)
      → c ≡ tree.Switch at word zs e b cs → zs' ≡ zs → e' ≡ e → cs' ≡ cs
      → code {O = Output} c ≡ form.switch_of at word zs' (value e') b (map code cs')
  unfolding it
  is-Switch at word zs zs' e e' b cs cs' h i j k =
      ap it h ∙ eq.does-Switch at word zs e b cs
      ∙ ap (λ zs. form.switch_of at word zs (value e) b (map code cs)) (sym i)
      ∙ ap (λ e. form.switch_of at word zs' (value e) b (map code cs)) (sym j)
      ∙ ap (λ cs. form.switch_of at word zs' (value e') b (map code cs)) (sym k)

  pub is-Loop : (at : ℕ) (test step : Option Expr) (x x' : Code) → c ≡ tree.Loop at test step x → x' ≡ x
      → code {O = Output} c ≡ form.looped at (option_map value test) (option_map value step) (code x')
  unfolding it
  is-Loop at test step x x' h i =
      ap it h ∙ eq.does-Loop at test step x
      ∙ ap (λ x. form.looped at (option_map value test) (option_map value step) (code x)) (sym i)

  pub is-Repeat : (at : ℕ) (test test' : Expr) (x x' : Code) → c ≡ tree.Repeat at test x → test' ≡ test → x' ≡ x
      → code {O = Output} c ≡ form.repeated at (code x') (value test')
  unfolding it
  is-Repeat at test test' x x' h j i =
      ap it h ∙ eq.does-Repeat at test x ∙ ap (λ x. form.repeated at (code x) (value test)) (sym i)
      ∙ ap (λ test. form.repeated at (code x') (value test)) (sym j)

  pub is-Goto : (name : Name) → c ≡ tree.Goto name → code {O = Output} c ≡ form.jump (k.Going name)
  unfolding it
  is-Goto name h = ap it h ∙ eq.does-Goto name

  pub is-Continue : c ≡ tree.Continue → code {O = Output} c ≡ form.jump k.Continuing
  unfolding it
  is-Continue h = ap it h ∙ eq.does-Continue

  pub is-Break : c ≡ tree.Break → code {O = Output} c ≡ form.jump k.Breaking
  unfolding it
  is-Break h = ap it h ∙ eq.does-Break

  pub is-Return : (e : Option Expr) → c ≡ tree.Return e
      → code {O = Output} c ≡ form.return_of (option_map value e)
  unfolding it
  is-Return e h = ap it h ∙ eq.does-Return e
