-- Arguments of a format, piece by piece.
use Rattle.std.proofs.Common.{◌≡◌, ◌+◌, ℕ, ℤ, negsuc, List, ◌∷◌, ◌++◌, drop, Option, refl}
use Rattle.c_means.specs.Calls.{before_args, pointer_places}
use Rattle.c_store.specs.Store.{Store}
use Rattle.printf_text.specs.declared.piece.Arg.{Arg}
use Rattle.printf_text.specs.declared.piece.Conversion.{Conversion}
use Rattle.printf_text.specs.declared.piece.Piece.{Piece}
use Rattle.printf_text.specs.declared.piece.Piece.TheVariants as piece
use Rattle.printf_text.specs.Texts.{size_of}
use Rattle.core_tree.specs.Callees.{Spoken, star_args, behind_star, first_value, formed_arg, arguments_of}
use Rattle.core_tree.specs.States.{Output, Level}

pub formed_on : (l : Level Output) (c : Conversion) (first : Piece) (ps all : List Piece) (xs ys zs us : List Spoken)
    (p q : ℕ) (s : Store) (width precision : List Arg) (z : ℤ) (formed : Option Arg) (more args : Option (List Arg))
    → all ≡ first ∷ ps → first ≡ piece.Converted c
    → width ≡ star_args c.width xs → ys ≡ behind_star c.width xs → precision ≡ star_args c.precision ys
    → z ≡ size_of (negsuc 0) c.precision (star_args c.precision ys) → zs ≡ behind_star c.precision ys
    → formed ≡ formed_arg l c.form z (first_value zs) p s → us ≡ drop 1 zs → q ≡ p + pointer_places c.form
    → more ≡ arguments_of l ps us q s
    → args ≡ before_args (width ++ precision) formed more → args ≡ arguments_of l all xs p s
formed_on l c first ps all xs ys zs us p q s width precision z formed more args every converted w y r n v f u next m is =
    rw (every, converted, is, f, m, u, next, w, r, n, v, y) refl
