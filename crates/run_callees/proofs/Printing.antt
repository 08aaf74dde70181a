-- Pieces that are taken one by one are printed as one text.
use Rattle.std.proofs.Common.{◌≡◌, ◌+◌, ◌-◌, ℕ, zero, suc, ℤ, pos, List, [], ◌∷◌, ◌++◌, length, drop, Option, Some, None}
use Rattle.std.proofs.Common.{refl, sym, ap, ap₂, ◌∙◌, arith, append_assoc}
use Rattle.std.proofs.lemmas.List.{length-append, append-nil}
use Rattle.plain_data.specs.declared.run.Happening.TheVariants.{Print}
use Rattle.printf_text.specs.declared.piece.Arg.{Arg}
use Rattle.printf_text.specs.declared.piece.Piece.{Piece}
use Rattle.printf_text.specs.Texts.{piece_text, piece_kinds, text_of}
use Rattle.core_tree.specs.declared.types.ValueType.{ValueType}
use Rattle.plain_data.specs.Worlds.{WorldTables}
use Rattle.plain_data.specs.declared.run.Finish.TheVariants.{Stopped}
use Rattle.plain_data.specs.declared.run.Undefined.TheVariants.{Dereference}
use Rattle.c_means.specs.Parts.{Env}
use Rattle.c_means.specs.Calls.{pointers_in}
use Rattle.core_tree.specs.declared.expr.Watched.{Watched}
use Rattle.core_tree.specs.declared.types.WordType.{WordType}
use Rattle.core_tree.specs.Callees.{says_all, print_noted, printed, prints, answers_int, arguments_of, spoken}
use Rattle.core_tree.specs.Callees.{seen_all, log_call}
use Rattle.run_callees.specs.Levels.{level_of}
use Rattle.core_tree.specs.States.{Output, Done, plain, printing, note, meets, finished}
use Rattle.run_callees.specs.Printing.{with_out, print_text}

abbrev with_bytes : ℕ → List ℕ → List ℕ → Output
with_bytes n bytes met = record { count = n; printed = bytes; met = met }

no_bytes : (o : Output) → o ≡ printing [] o
no_bytes o =
    let count : o.count ≡ o.count + 0 = omega arith in
    ap₂ (λ n bytes. with_bytes n bytes o.met) count (sym (append-nil o.printed))

both : (a b : List ℕ) (o : Output) → printing b (printing a o) ≡ printing (a ++ b) o
both a b o =
    let all : length (a ++ b) ≡ length a + length b = length-append a b in
    let count : (o.count + length a) + length b ≡ o.count + length (a ++ b) = omega (arith, all) in
    ap₂ (λ n bytes. with_bytes n bytes o.met) count (append_assoc o.printed a b)

pub says_printed : (ps : List Piece) (xs : List Arg) (o : Output)
    → says_all plain ps xs o ≡ Some (printing (text_of ps xs) o)
says_printed [] xs o = ap Some (no_bytes o)
says_printed (p ∷ ps) xs o =
    says_printed ps (drop (length (piece_kinds p)) xs) (printing (piece_text p xs) o)
    ∙ ap Some (both (piece_text p xs) (text_of ps (drop (length (piece_kinds p)) xs)) o)

-- ---- the event of a print

pub noted_none : (at n : ℕ) (shown : List ℤ) (d : Done Output) → n ≡ 0 → d ≡ print_noted plain at n shown d
noted_none at zero shown d is = refl
noted_none at (suc n) shown d is = absurd (omega (arith, is))

pub noted_some : (at n : ℕ) (shown : List ℤ) (d e : Done Output) → (n ≡ 0 → ⊥)
    → e ≡ note plain (Print at n shown) d → e ≡ print_noted plain at n shown d
noted_some at zero shown d e is noted = absurd (is refl)
noted_some at (suc n) shown d e is noted = noted

noted_out : (at n : ℕ) (shown : List ℤ) (d : Done Output) → (print_noted plain at n shown d).out ≡ d.out
noted_out at zero shown d = refl
noted_out at (suc n) shown d = refl

-- ---- the whole call

counted : (at : ℕ) (t : ValueType) (shown : List ℤ) (bytes : List ℕ) (d : Done Output)
    → printed plain at t shown d (Some (printing bytes d.out))
    ≡ Some (answers_int t (pos (length bytes)) (with_out (printing bytes d.out) (print_noted plain at (length bytes) shown d)))
counted at t shown bytes d =
    let n : (d.out.count + length bytes) - d.out.count ≡ length bytes = omega arith in
    ap (λ n. Some (answers_int t (pos n) (with_out (printing bytes d.out) (print_noted plain at n shown d)))) n

text_printed : (at : ℕ) (t : ValueType) (ps : List Piece) (shown : List ℤ) (xs : List Arg) (d : Done Output)
    → prints plain at t ps shown (Some xs) d ≡ Some (print_text at t shown (text_of ps xs) d)
text_printed at t ps shown xs d =
    let bytes : List ℕ = text_of ps xs in
    ap (printed plain at t shown d) (says_printed ps xs d.out) ∙ counted at t shown bytes d
    ∙ ap (λ o. Some (answers_int t (pos (length bytes)) (with_out (printing bytes o)
    (print_noted plain at (length bytes) shown d)))) (sym (noted_out at (length bytes) shown d))

pub call_printed : (w : WorldTables) (at : ℕ) (t : ValueType) (ps : List Piece) (before : ℕ) (ts : List WordType)
    (ws : List Watched) (env : Env) (vs : List ℤ) (base : ℕ) (d b c e : Done Output) (shown : List ℤ) (xs : List Arg)
    (args : Option (List Arg))
    → args ≡ arguments_of (level_of w) ps (drop before (spoken ts vs)) (base + 4) d.store
    → shown ≡ seen_all env d.store ws → b ≡ d → c ≡ meets plain (base + 4) (pointers_in ps) b → args ≡ Some xs
    → e ≡ print_text at t shown (text_of ps xs) c → log_call (level_of w) at t ps before ts ws env vs base d ≡ Some e
call_printed w at t ps before ts ws env vs base d b c e shown xs args formed seen same met is said =
    let met_there : meets plain (base + 4) (pointers_in ps) d ≡ c =
    ap (meets plain (base + 4) (pointers_in ps)) (sym same) ∙ sym met in
    ap (λ z. prints plain at t ps (seen_all env d.store ws) z (meets plain (base + 4) (pointers_in ps) d))
    (sym formed ∙ is)
    ∙ ap₂ (λ y z. prints plain at t ps y (Some xs) z) (sym seen) met_there
    ∙ text_printed at t ps shown xs c ∙ ap Some (sym said)

pub call_stopped : (w : WorldTables) (at : ℕ) (t : ValueType) (ps : List Piece) (before : ℕ) (ts : List WordType)
    (ws : List Watched) (env : Env) (vs : List ℤ) (base : ℕ) (d b c e : Done Output) (args : Option (List Arg))
    → args ≡ arguments_of (level_of w) ps (drop before (spoken ts vs)) (base + 4) d.store
    → b ≡ d → c ≡ meets plain (base + 4) (pointers_in ps) b → args ≡ None
    → e ≡ finished (Stopped Dereference at) c → log_call (level_of w) at t ps before ts ws env vs base d ≡ Some e
call_stopped w at t ps before ts ws env vs base d b c e args formed same met is ended =
    let met_there : meets plain (base + 4) (pointers_in ps) d ≡ c =
    ap (meets plain (base + 4) (pointers_in ps)) (sym same) ∙ sym met in
    ap (λ z. prints plain at t ps (seen_all env d.store ws) z (meets plain (base + 4) (pointers_in ps) d))
    (sym formed ∙ is)
    ∙ ap (λ z. Some (finished (Stopped Dereference at) z)) met_there ∙ ap Some (sym ended)
