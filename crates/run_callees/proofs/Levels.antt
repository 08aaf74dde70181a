-- Log calls ask nothing of a level but the world.
use Rattle.std.proofs.Common.{◌≡◌, ◌+◌, ◌%◌, ◌^◌, ℕ, ℤ, negsuc, cond, List, [], ◌∷◌, ◌++◌, drop}
use Rattle.std.proofs.Common.{Option, Some, refl, ap, ap₂, ◌∙◌, sym}
use Rattle.plain_data.specs.Worlds.{WorldTables}
use Rattle.printf_text.specs.declared.piece.Arg.{Arg}
use Rattle.printf_text.specs.declared.piece.Arg.TheVariants as arg
use Rattle.printf_text.specs.declared.piece.Form.{Form}
use Rattle.printf_text.specs.declared.piece.Form.TheVariants as form
use Rattle.printf_text.specs.declared.piece.Piece.{Piece}
use Rattle.printf_text.specs.declared.piece.Piece.TheVariants as piece
use Rattle.printf_text.specs.Texts.{size_of}
use Rattle.c_language.specs.Integers.{is_zero}
use Rattle.c_store.specs.Store.{Store}
use Rattle.c_means.specs.Parts.{Env}
use Rattle.c_means.specs.Calls.{shown_number, before_args, pointer_places, pointers_in}
use Rattle.c_means.specs.Units.{world_of}
use Rattle.core_tree.specs.declared.expr.Callee.{Callee}
use Rattle.core_tree.specs.declared.expr.Callee.TheVariants as callee
use Rattle.core_tree.specs.declared.expr.Watched.{Watched}
use Rattle.core_tree.specs.declared.types.ValueType.{ValueType}
use Rattle.core_tree.specs.declared.types.WordType.{WordType}
use Rattle.core_tree.specs.Callees.{Spoken, spoken, star_args, behind_star, first_value, formed_arg, arguments_of}
use Rattle.core_tree.specs.Callees.{prints, seen_all, log_call, called}
use Rattle.core_tree.specs.States.{Output, Done, Level, plain, entered, meets}
use Rattle.core_running.specs.Settings.{Setting, level}
use Rattle.run_callees.specs.Levels.{level_of}

formed_alike : (l k : Level Output) (f : Form) (z : ℤ) (x : Spoken) (p : ℕ) (s : Store) → l.world ≡ k.world
    → formed_arg l f z x p s ≡ formed_arg k f z x p s
formed_alike l k form.Text z x p s world = refl
formed_alike l k form.Pointer z x p s world =
    ap (λ w. Some (cond (is_zero x.value) arg.Null (arg.Shown (shown_number (w.word p % 2 ^ 64))))) world
formed_alike l k form.Char z x p s world = refl
formed_alike l k (form.Signed w) z x p s world = refl
formed_alike l k (form.Unsigned radix w) z x p s world = refl

arguments_alike : (l k : Level Output) (ps : List Piece) (xs : List Spoken) (p : ℕ) (s : Store) → l.world ≡ k.world
    → arguments_of l ps xs p s ≡ arguments_of k ps xs p s
arguments_alike l k [] xs p s world = refl
arguments_alike l k (piece.Literal bytes ∷ ps) xs p s world = arguments_alike l k ps xs p s world
arguments_alike l k (piece.Converted c ∷ ps) xs p s world =
    let ys : List Spoken = behind_star c.width xs in
    let zs : List Spoken = behind_star c.precision ys in
    let z : ℤ = size_of (negsuc 0) c.precision (star_args c.precision ys) in
    ap₂ (λ a more. before_args (star_args c.width xs ++ star_args c.precision ys) a more)
    (formed_alike l k c.form z (first_value zs) p s world)
    (arguments_alike l k ps (drop 1 zs) (p + pointer_places c.form) s world)

log_alike : (l k : Level Output) (at : ℕ) (t : ValueType) (ps : List Piece) (before : ℕ) (ts : List WordType)
    (ws : List Watched) (env : Env) (vs : List ℤ) (base : ℕ) (d : Done Output) → l.taking ≡ k.taking
    → l.world ≡ k.world → log_call l at t ps before ts ws env vs base d ≡ log_call k at t ps before ts ws env vs base d
log_alike l k at t ps before ts ws env vs base d taking world =
    let args : Option (List Arg) = arguments_of l ps (drop before (spoken ts vs)) (base + 4) d.store in
    ap (λ y. prints y at t ps (seen_all env d.store ws) args (meets y (base + 4) (pointers_in ps) d)) taking
    ∙ ap (λ more. prints k.taking at t ps (seen_all env d.store ws) more (meets k.taking (base + 4) (pointers_in ps) d))
    (arguments_alike l k ps (drop before (spoken ts vs)) (base + 4) d.store world)

-- a callee that is a log call
pub logged : (x : Setting) (w : WorldTables) (c : Callee) (at : ℕ) (t : ValueType) (env : Env) (vs : List ℤ)
    (base : ℕ) (s : Store) (o : Output) (d e : Done Output) (ps : List Piece) (before : ℕ) (ts us : List WordType)
    (ws ys : List Watched) → x.world ≡ world_of w → c ≡ callee.Log ps before ts ws → us ≡ ts → ys ≡ ws
    → d ≡ entered plain s o → log_call (level_of w) at t ps before us ys env vs base d ≡ Some e
    → called (level x) c at t env vs base s o ≡ Some e
logged x w c at t env vs base s o d e ps before ts us ws ys world is types shown begins runs =
    ap (λ k. called (level x) k at t env vs base s o) is
    ∙ ap (log_call (level x) at t ps before ts ws env vs base) (sym begins)
    ∙ log_alike (level x) (level_of w) at t ps before ts ws env vs base d refl world
    ∙ ap₂ (λ a b. log_call (level_of w) at t ps before a b env vs base d) (sym types) (sym shown) ∙ runs
