-- One piece of a division, and the rest.
use Rattle.std.proofs.Common.{◌≡◌, ℕ, zero, suc, ◌+◌, ◌-◌, ◌<◌, ◌≤◌, Bool, List, [], ◌∷◌, ◌++◌, length, take, drop}
use Rattle.std.proofs.Common.{Option, Ok, Err, refl, ap, sym, ◌∙◌, arith, append_assoc}
use Rattle.c_lexer.specs.Class.{Text}
use Rattle.c_lexer.specs.Piece.{piece_at}
use Rattle.c_lexer.specs.Division.{Element, divide, fresh_after}
use Rattle.c_lexer.specs.Fault.{Refused}
use Rattle.c_lexer.specs.Meaning.{Meaning}
use Rattle.c_lexer.specs.Attributes.{keep}
use Rattle.c_lexer.specs.Collected.{collected}
use Rattle.c_lexer.specs.Reading.{Reading, followed_by, given, named_by, token_at, place_at}
use Rattle.c_lexer.specs.Walks.{completed}
use Rattle.c_lexer.specs.declared.attribute.Collected.{Collected}
use Rattle.c_lexer.specs.declared.fault.LexFault.{LexFault}
use Rattle.c_lexer.specs.declared.fault.LexFault.TheVariants as fault
use Rattle.c_language.specs.declared.token.Spot.{Spot}
use Rattle.c_language.specs.declared.token.Token.{Token}
use Rattle.c_language.specs.declared.token.TokenKind.{TokenKind}

divide-drop : (n : ℕ) (fresh : Bool) (text : Text) → divide n fresh text ≡ divide 0 fresh (drop n text)
divide-drop zero fresh text = refl
divide-drop (suc n) fresh [] = refl
divide-drop (suc n) fresh (b ∷ text) = divide-drop n fresh text

drop-cons : (n b : ℕ) (text : Text) → 1 ≤ n → drop (n - 1) text ≡ drop n (b ∷ text)
drop-cons zero b text h = absurd (omega arith)
drop-cons (suc n) b text h = let e : suc n - 1 ≡ n = omega arith in ap (λ k. drop k text) e

-- the pieces after the first
pub divide_rest : (n b : ℕ) (text : Text) (fresh : Bool) → 1 ≤ n →
    divide (n - 1) fresh text ≡ divide 0 fresh (drop n (b ∷ text))
divide_rest n b text fresh long = divide-drop (n - 1) fresh text ∙ ap (divide 0 fresh) (drop-cons n b text long)

-- the first piece, and the division of the rest
pub divide_next : (fresh : Bool) (text : Text) → 0 < length text → 1 ≤ (piece_at fresh text).1 →
    divide 0 fresh text
    ≡ ((piece_at fresh text).0, take (piece_at fresh text).1 text)
    ∷ divide 0 (fresh_after fresh (piece_at fresh text).0) (drop (piece_at fresh text).1 text)
divide_next fresh [] some long = absurd (omega arith)
divide_next fresh (b ∷ text) some long =
    let p = piece_at fresh (b ∷ text) in
    let next = fresh_after fresh p.0 in
    ap (λ es. (p.0, take p.1 (b ∷ text)) ∷ es)
    (divide-drop (p.1 - 1) next text ∙ ap (divide 0 next) (drop-cons p.1 b text long))

-- a fault in the first piece is the fault of all
pub refused_first : (files : List Text) (c : Collected) (file at : ℕ) (s : Spot) (e : Element) (m : Meaning)
    (more : Reading) (f : LexFault) → Refused m f →
    Refused (completed files c (followed_by (given file at s e m) more)) f
refused_first files c file at s e m more fault.Memory is = tt
refused_first files c file at s e m more (fault.BadByte o) is =
    ap (λ n. completed files c (followed_by (given file at s e n) more)) is
refused_first files c file at s e m more (fault.OpenText o) is =
    ap (λ n. completed files c (followed_by (given file at s e n) more)) is
refused_first files c file at s e m more (fault.WideNumber o) is =
    ap (λ n. completed files c (followed_by (given file at s e n) more)) is
refused_first files c file at s e m more (fault.BadConstant o) is =
    ap (λ n. completed files c (followed_by (given file at s e n) more)) is
refused_first files c file at s e m more (fault.BadDirective o) is =
    ap (λ n. completed files c (followed_by (given file at s e n) more)) is

-- what the first piece gives stands with what came so far
pub completed_more : (files : List Text) (c d : Collected) (file at : ℕ) (s : Spot) (e : Element)
    (kind : Option TokenKind) (more : Reading) →
    ((rest : List Token) → collected d (keep rest)
    ≡ collected c (keep (token_at (place_at file s) at (at + length e.1) kind ++ rest))) →
    completed files c (followed_by (given file at s e (Ok kind)) more) ≡ completed (files ++ named_by e) d more
completed_more files c d file at s e kind (Err f) h = refl
completed_more files c d file at s e kind (Ok t) h =
    ap (λ fs. Ok (record {
      files = fs;
      tokens =
          collected c (keep (token_at (place_at file s) at (at + length e.1) kind ++ t.tokens));
    }))
    (sym (append_assoc files (named_by e) t.files))
    ∙ ap (λ ts. Ok (record { files = (files ++ named_by e) ++ t.files; tokens = ts })) (sym (h t.tokens))
