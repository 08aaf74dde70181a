-- What a lexer has and what is left make the whole.
use Rattle.std.proofs.Common.{◌≡◌, ℕ, ◌+◌, ◌-◌, ◌<◌, ◌≤◌, false, cond, nat_lt, List, [], ◌∷◌, ◌++◌, length, take, drop}
use Rattle.std.proofs.Common.{reverse, Option, Ok, Err, refl, ap, sym, ◌∙◌, arith, append-nil, length-append}
use Rattle.std.proofs.lemmas.List.{nil_from_length}
use Rattle.std.proofs.lemmas.Bool.{le-ltb, lt-ltb}
use Rattle.c_lexer.specs.Class.{Text}
use Rattle.c_lexer.specs.Piece.{piece_at}
use Rattle.c_lexer.specs.Division.{Element, divide, fresh_after}
use Rattle.c_lexer.specs.Fault.{Refused}
use Rattle.c_lexer.specs.Meaning.{meaning}
use Rattle.c_lexer.specs.Attributes.{Kept, keep}
use Rattle.c_lexer.specs.Collected.{collected, joined, after_last}
use Rattle.c_lexer.specs.Places.{spot_after, spot_in, moved}
use Rattle.c_lexer.specs.Reading.{Reading, read, followed_by, finished, given, named_by, token_at, place_at}
use Rattle.c_lexer.specs.Walks.{completed, whole, IsNext, spot_of}
use Rattle.c_lexer.specs.declared.attribute.Collected.{Collected}
use Rattle.c_lexer.specs.declared.fault.LexFault.{LexFault}
use Rattle.c_lexer.specs.declared.lexer.Lexer.{Lexer}
use Rattle.c_lexer.specs.declared.piece.Lexeme.{Lexeme}
use Rattle.c_language.specs.declared.token.Token.{Token}
use Rattle.c_language.specs.declared.token.TokenKind.{TokenKind}
use Rattle.c_lexer.specs.declared.walk.Walk.{Walk}
use Rattle.c_lexer.proofs.Attributes.{no_group, joined-open}
use Rattle.c_lexer.proofs.Divisions.{divide_next, refused_first, completed_more}

-- ---- the beginning and the end

none_so_far : (c : Collected) → c.tokens.items ≡ [] → c.open_groups.items ≡ [] → c.after_word ≡ false → (k : Kept) →
    collected c k ≡ k.here
none_so_far c tokens groups word k =
    ap (λ flag. after_last flag c.tokens.items (reverse c.open_groups.items) k.group k) word
    ∙ ap (λ ts. joined ts (reverse c.open_groups.items) k.here k.closers) tokens
    ∙ ap (λ ws. joined [] (reverse ws) k.here k.closers) groups

pub at_first : (name : Text) (c : Collected) → c.tokens.items ≡ [] → c.open_groups.items ≡ [] → c.after_word ≡ false →
    (r : Reading) → completed (name ∷ []) c r ≡ finished name r
at_first name c tokens groups word (Err f) = refl
at_first name c tokens groups word (Ok t) =
    ap (λ ts. Ok (record { files = name ∷ t.files; tokens = ts })) (none_so_far c tokens groups word (keep t.tokens))

all_so_far : (c : Collected) → collected c (keep []) ≡ c.tokens.items
all_so_far c =
    no_group c.after_word c.tokens.items (reverse c.open_groups.items) (keep [])
    ∙ joined-open c.tokens.items (reverse c.open_groups.items) []
    ∙ append-nil c.tokens.items

pub at_last : (l : Lexer) → length l.walk.rest.now ≡ 0 →
    whole l ≡ Ok (record { files = l.files.items; tokens = l.collected.tokens.items })
at_last l ended =
    ap (λ bytes. completed l.files.items l.collected
    (read (length l.files.items - 1) l.walk.at (spot_of l.walk.here) (divide 0 l.walk.fresh bytes)))
    (nil_from_length l.walk.rest.now ended)
    ∙ ap (λ fs. Ok (record { files = fs; tokens = collected l.collected (keep []) })) (append-nil l.files.items)
    ∙ ap (λ ts. Ok (record { files = l.files.items; tokens = ts })) (all_so_far l.collected)

-- ---- a step

module _ (old : Walk) (lexeme : Lexeme) (bytes : Text) (new : Walk) (some : 0 < length old.rest.now)
    (next : IsNext old lexeme bytes new) where
  divided : divide 0 old.fresh old.rest.now ≡ (lexeme, bytes) ∷ divide 0 new.fresh new.rest.now
  divided =
      let p = piece_at old.fresh old.rest.now in
      divide_next old.fresh old.rest.now some next.some
      ∙ ap (λ l. (l, take p.1 old.rest.now) ∷ divide 0 (fresh_after old.fresh l) (drop p.1 old.rest.now))
      (sym next.lexeme_is)
      ∙ ap (λ bs. (lexeme, bs) ∷ divide 0 (fresh_after old.fresh lexeme) (drop p.1 old.rest.now)) (sym next.bytes_are)
      ∙ ap (λ f. (lexeme, bytes) ∷ divide 0 f (drop p.1 old.rest.now)) (sym next.fresh_is)
      ∙ ap (λ r. (lexeme, bytes) ∷ divide 0 new.fresh r) (sym next.rest_is)

  -- the place so many bytes on, by this piece or by those after it
  pub spot_step : (at : ℕ) →
      spot_in (spot_of old.here) (divide 0 old.fresh old.rest.now) at
      ≡ cond (nat_lt at (length bytes)) (moved (spot_of old.here) (take at bytes))
      (spot_in (spot_of new.here) (divide 0 new.fresh new.rest.now) (at - length bytes))
  spot_step at =
      ap (λ es. spot_in (spot_of old.here) es at) divided
      ∙ ap (λ s. cond (nat_lt at (length bytes)) (moved (spot_of old.here) (take at bytes))
      (spot_in s (divide 0 new.fresh new.rest.now) (at - length bytes))) (sym next.here_is)

module _ (old : Lexer) (lexeme : Lexeme) (bytes : Text) (walk : Walk) (some : 0 < length old.walk.rest.now)
    (next : IsNext old.walk lexeme bytes walk) where
  -- what the piece gives, and what the rest gives
  unfolded : whole old
      ≡ completed old.files.items old.collected
      (followed_by (given (length old.files.items - 1) old.walk.at (spot_of old.walk.here) (lexeme, bytes)
      (meaning old.walk.at (lexeme, bytes)))
      (read (length old.files.items - 1 + length (named_by (lexeme, bytes))) (old.walk.at + length bytes)
      (spot_after (spot_of old.walk.here) (lexeme, bytes)) (divide 0 walk.fresh walk.rest.now)))
  unfolded = ap (λ es. completed old.files.items old.collected
      (read (length old.files.items - 1) old.walk.at (spot_of old.walk.here) es))
      (divided old.walk lexeme bytes walk some next)

  pub take_refused : (f : LexFault) → Refused (meaning old.walk.at (lexeme, bytes)) f → Refused (whole old) f
  take_refused f is =
      rw unfolded
      (refused_first old.files.items old.collected (length old.files.items - 1) old.walk.at (spot_of old.walk.here)
      (lexeme, bytes) (meaning old.walk.at (lexeme, bytes))
      (read (length old.files.items - 1 + length (named_by (lexeme, bytes))) (old.walk.at + length bytes)
      (spot_after (spot_of old.walk.here) (lexeme, bytes)) (divide 0 walk.fresh walk.rest.now)) f is)

  pub take_whole : (new : Lexer) → new.walk ≡ walk → 1 ≤ length old.files.items → (kind : Option TokenKind) →
      meaning old.walk.at (lexeme, bytes) ≡ Ok kind →
      new.files.items ≡ old.files.items ++ named_by (lexeme, bytes) →
      ((rest : List Token) → collected new.collected (keep rest)
      ≡ collected old.collected (keep
      (token_at (place_at (length old.files.items - 1) (spot_of old.walk.here)) old.walk.at walk.at kind ++ rest))) →
      whole new ≡ whole old
  take_whole new moves_to many kind means names tokens =
      let e : Element = (lexeme, bytes) in
      let count : length (old.files.items ++ named_by e) - 1 ≡ length old.files.items - 1 + length (named_by e) =
      omega (arith, length-append old.files.items (named_by e)) in
      let more = λ (w : Walk). read (length old.files.items - 1 + length (named_by e)) w.at (spot_of w.here)
      (divide 0 w.fresh w.rest.now) in
      let held : (rest : List Token) →
      collected new.collected (keep rest)
      ≡ collected old.collected (keep
      (token_at (place_at (length old.files.items - 1) (spot_of old.walk.here)) old.walk.at
      (old.walk.at + length bytes) kind ++ rest))
      = λ rest. tokens rest ∙ ap (λ end.
      collected old.collected (keep (token_at
      (place_at (length old.files.items - 1) (spot_of old.walk.here)) old.walk.at end kind ++ rest))) next.at_is in
      ap (λ fs. completed fs new.collected
      (read (length fs - 1) new.walk.at (spot_of new.walk.here) (divide 0 new.walk.fresh new.walk.rest.now))) names
      ∙ ap (λ n. completed (old.files.items ++ named_by e) new.collected
      (read n new.walk.at (spot_of new.walk.here) (divide 0 new.walk.fresh new.walk.rest.now))) count
      ∙ ap (λ w. completed (old.files.items ++ named_by e) new.collected (more w)) moves_to
      ∙ sym (completed_more old.files.items old.collected new.collected (length old.files.items - 1) old.walk.at
      (spot_of old.walk.here) e kind (more walk) held)
      ∙ ap (λ m. completed old.files.items old.collected
      (followed_by (given (length old.files.items - 1) old.walk.at (spot_of old.walk.here) e m) (more walk)))
      (sym means)
      ∙ ap (λ a. completed old.files.items old.collected
      (followed_by (given (length old.files.items - 1) old.walk.at (spot_of old.walk.here) e (meaning old.walk.at e))
      (read (length old.files.items - 1 + length (named_by e)) a (spot_of walk.here)
      (divide 0 walk.fresh walk.rest.now)))) next.at_is
      ∙ ap (λ s. completed old.files.items old.collected
      (followed_by (given (length old.files.items - 1) old.walk.at (spot_of old.walk.here) e (meaning old.walk.at e))
      (read (length old.files.items - 1 + length (named_by e)) (old.walk.at + length bytes) s
      (divide 0 walk.fresh walk.rest.now)))) next.here_is
      ∙ sym unfolded

-- the place so many bytes on, after this piece
pub spot_past : (old : Walk) (lexeme : Lexeme) (bytes : Text) (new : Walk) → 0 < length old.rest.now →
    IsNext old lexeme bytes new → (at : ℕ) → length bytes ≤ at →
    spot_in (spot_of old.here) (divide 0 old.fresh old.rest.now) at
    ≡ spot_in (spot_of new.here) (divide 0 new.fresh new.rest.now) (at - length bytes)
spot_past old lexeme bytes new some next at past =
    spot_step old lexeme bytes new some next at
    ∙ ap (λ b. cond b (moved (spot_of old.here) (take at bytes))
    (spot_in (spot_of new.here) (divide 0 new.fresh new.rest.now) (at - length bytes))) (le-ltb at (length bytes) past)

-- the place so many bytes on, within this piece
pub spot_within : (old : Walk) (lexeme : Lexeme) (bytes : Text) (new : Walk) → 0 < length old.rest.now →
    IsNext old lexeme bytes new → (at : ℕ) → at < length bytes →
    spot_in (spot_of old.here) (divide 0 old.fresh old.rest.now) at ≡ moved (spot_of old.here) (take at bytes)
spot_within old lexeme bytes new some next at within =
    spot_step old lexeme bytes new some next at
    ∙ ap (λ b. cond b (moved (spot_of old.here) (take at bytes))
    (spot_in (spot_of new.here) (divide 0 new.fresh new.rest.now) (at - length bytes)))
    (lt-ltb at (length bytes) within)
