-- What is meant so far, and what the rest of a literal means.
use Rattle.std.proofs.Common.{◌≡◌, ℕ, zero, suc, ◌+◌, ◌-◌, ◌≤◌, [], ◌∷◌, ◌++◌, drop, length, Some, None, Result, Ok}
use Rattle.std.proofs.Common.{Err, refl, ap, sym, ◌∙◌, append_assoc, arith}
use Rattle.c_lexer.specs.Class.{Text}
use Rattle.c_lexer.specs.Literal.{unit, unescape, from_unit, before}
use Rattle.c_lexer.specs.declared.fault.LexFault.{LexFault}
use Rattle.c_lexer.specs.declared.fault.LexFault.TheVariants as fault

abbrev pub after : Text → Result Text LexFault → Result Text LexFault
after meant (Ok more) = Ok (meant ++ more)
after meant (Err f) = Err f

unescape-drop : (n at : ℕ) (text : Text) → n ≤ length text → unescape n at text ≡ unescape 0 (at + n) (drop n text)
unescape-drop zero at text h = ap (λ a. unescape 0 a text) (omega arith)
unescape-drop (suc n) at [] h = absurd (omega arith)
unescape-drop (suc n) at (b ∷ text) h = unescape-drop n (at + 1) text (omega arith)
    ∙ ap (λ a. unescape 0 a (drop n text)) (omega arith)

drop-cons : (n b : ℕ) (text : Text) → 1 ≤ n → drop (n - 1) text ≡ drop n (b ∷ text)
drop-cons zero b text h = absurd (omega arith)
drop-cons (suc n) b text h = let e : suc n - 1 ≡ n = omega arith in ap (λ k. drop k text) e

after-before : (meant : Text) (b : ℕ) (r : Result Text LexFault) → after meant (before b r) ≡ after (meant ++ b ∷ []) r
after-before meant b (Ok more) = ap Ok (sym (append_assoc meant (b ∷ []) more))
after-before meant b (Err f) = refl

-- a unit more is meant
pub unit_more : (meant : Text) (at : ℕ) (text : Text) (value len : ℕ) → 1 ≤ length text →
    unit text ≡ Some (value, len) → 1 ≤ len → len ≤ length text →
    after meant (unescape 0 at text) ≡ after (meant ++ value ∷ []) (unescape 0 (at + len) (drop len text))
unit_more meant at [] value len some is low high = absurd (omega arith)
unit_more meant at (b ∷ text) value len some is low high =
    let step : unescape (len - 1) (at + 1) text ≡ unescape 0 (at + len) (drop len (b ∷ text)) =
    unescape-drop (len - 1) (at + 1) text (omega arith) ∙ ap (λ a. unescape 0 a (drop (len - 1) text)) (omega arith)
    ∙ ap (unescape 0 (at + len)) (drop-cons len b text low) in
    ap (λ u. after meant (from_unit u at (λ left. unescape left (at + 1) text))) is
    ∙ after-before meant value (unescape (len - 1) (at + 1) text)
    ∙ ap (after (meant ++ value ∷ [])) step

-- a bad escape
pub unit_bad : (meant : Text) (at : ℕ) (text : Text) → 1 ≤ length text → unit text ≡ None →
    after meant (unescape 0 at text) ≡ Err (fault.BadConstant at)
unit_bad meant at [] some is = absurd (omega arith)
unit_bad meant at (b ∷ text) some is = ap (λ u. after meant (from_unit u at (λ left. unescape left (at + 1) text))) is
