-- The objects that code gives to its block, and a block that is run with them.
use Rattle.std.proofs.Common.{◌≡◌, ℕ, suc, ◌+◌, arith, List, [], ◌∷◌, ◌++◌, Option, Some, None, option_map, refl, sym, ap, ap₂, ◌∙◌}
use Rattle.std.proofs.Common.{append_assoc, append-nil}
use Rattle.c_means.specs.Parts.{Env}
use Rattle.c_means.specs.Items.{Made, known}
use Rattle.core_tree.specs.declared.code.Code.{Code}
use Rattle.core_tree.specs.declared.program.Parameter.{Parameter}
use Rattle.core_tree.specs.Numbers.{size_of}
use Rattle.core_tree.specs.Programs.{frame}
use Rattle.core_tree.specs.States.{Output, Done, plain, born, dead, onward}
use Rattle.core_tree.specs.declared.expr.Expr.{Expr}
use Rattle.core_tree.specs.Values.{value}
use Rattle.core_tree.specs.Codes.{Item, code, lived, return_of}
use Rattle.core_running.specs.Below.{code_room}
use Rattle.core_running.specs.Settings.{Setting, level}
use Rattle.code_steps.specs.declared.objects.Birth.{Birth}
use Rattle.code_steps.specs.Blocks.{made, made_all, objects_of, item_of}

pub made_push : (xs : List Birth) (x : Birth) → made_all (xs ++ x ∷ []) ≡ made_all xs ++ made x ∷ []
made_push [] x = refl
made_push (y ∷ xs) x = ap (λ ms. made y ∷ ms) (made_push xs x)

-- nothing is added
pub add_none : (all : List Birth) (ms : List Made) → ms ≡ [] → made_all all ≡ made_all all ++ ms
add_none all ms h = sym (append-nil (made_all all)) ∙ ap (λ ms. made_all all ++ ms) (sym h)

-- one object is added
pub add_one : (all new : List Birth) (x : Birth) (ms : List Made) → new ≡ all ++ x ∷ [] → ms ≡ made x ∷ []
    → made_all new ≡ made_all all ++ ms
add_one all new x ms h is =
    ap made_all h ∙ made_push all x ∙ ap (λ ms. made_all all ++ ms) (sym is)

-- what a part adds
pub add_part : (all new : List Birth) (ms ns : List Made) → made_all new ≡ made_all all ++ ns → ms ≡ ns
    → made_all new ≡ made_all all ++ ms
add_part all new ms ns h is = h ∙ ap (λ ms. made_all all ++ ms) (sym is)

-- the object of a parameter, and of the others
pub add_parameter : (all some new : List Birth) (p : Parameter) (ps : List Parameter) (x : Birth) (base next : ℕ)
    → x.at ≡ p.at → x.place ≡ base → x.size ≡ size_of p.stored → next ≡ base + 1 → some ≡ all ++ x ∷ []
    → made_all new ≡ made_all some ++ frame next ps → made_all new ≡ made_all all ++ frame base (p ∷ ps)
add_parameter all some new p ps x base next at place size is first rest =
    let here : ℕ → ℕ → ℕ → Made = λ at place size. record { at = at; place = place; size = size } in
    let one : made x ≡ here p.at base (size_of p.stored) =
    ap (λ n. here n x.place x.size) at ∙ ap (λ n. here p.at n x.size) place ∙ ap (here p.at base) size in
    let behind : next ≡ suc base = is ∙ omega arith in
    rest ∙ ap (λ xs. made_all xs ++ frame next ps) first ∙ ap (λ ms. ms ++ frame next ps) (made_push all x)
    ∙ append_assoc (made_all all) (made x ∷ []) (frame next ps)
    ∙ ap (λ m. made_all all ++ m ∷ frame next ps) one
    ∙ ap (λ n. made_all all ++ here p.at base (size_of p.stored) ∷ frame n ps) behind

pub return_gives : (s : Setting) (e : Option Expr) (base : ℕ) → objects_of s (return_of (option_map value e)) base ≡ []
return_gives s None base = refl
return_gives s (Some e) base = refl

module _ (s : Setting) where
  pub none_in : (c : Code) (cs : List Code) (base : ℕ) → objects_of s (code c) base ≡ []
      → objects_of s (item_of cs) (base + code_room s c) ≡ [] → objects_of s (item_of (c ∷ cs)) base ≡ []
  none_in c cs base h k = ap₂ (λ ms ns. ms ++ ns) h k

  -- the others give none
  pub add_first : (all new : List Birth) (c : Code) (cs : List Code) (base : ℕ)
      → made_all new ≡ made_all all ++ objects_of s (code c) base
      → objects_of s (item_of cs) (base + code_room s c) ≡ []
      → made_all new ≡ made_all all ++ objects_of s (item_of (c ∷ cs)) base
  add_first all new c cs base h none =
      h ∙ ap (λ ms. made_all all ++ ms) (sym (append-nil (objects_of s (code c) base))
      ∙ ap (λ ms. objects_of s (code c) base ++ ms) (sym none))

  pub add_both : (all some new : List Birth) (c : Code) (cs : List Code) (base next : ℕ)
      → next ≡ base + code_room s c
      → made_all some ≡ made_all all ++ objects_of s (code c) base
      → made_all new ≡ made_all some ++ objects_of s (item_of cs) next
      → made_all new ≡ made_all all ++ objects_of s (item_of (c ∷ cs)) base
  add_both all some new c cs base next is h k =
      k ∙ ap₂ (λ ms n. ms ++ objects_of s (item_of cs) n) h is
      ∙ append_assoc (made_all all) (objects_of s (code c) base) (objects_of s (item_of cs) (base + code_room s c))
