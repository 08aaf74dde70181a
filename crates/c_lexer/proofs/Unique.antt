-- A text has one division, and it is the one that is read.
use Rattle.std.proofs.Common.{◌≡◌, ◌≢◌, ℕ, zero, suc, ◌+◌, ◌-◌, ◌<◌, ◌≤◌, Bool, true, false, List, [], ◌∷◌, length}
use Rattle.std.proofs.Common.{take, drop, Ok, Err, refl, ap, sym, subst, ◌∙◌, inl, inr, arith, length-append}
use Rattle.std.proofs.Common.{length-drop}
use Rattle.std.specs.Result.{IfOk, IfErr}
use Rattle.std.proofs.lemmas.List.{take_at, drop_at}
use Rattle.c_lexer.specs.Class.{Text}
use Rattle.c_lexer.specs.Piece.{Piece, piece_at}
use Rattle.c_lexer.specs.Division.{Element, divide, fresh_after}
use Rattle.c_lexer.specs.Places.{beginning, spot_after}
use Rattle.c_lexer.specs.Meaning.{meaning}
use Rattle.c_lexer.specs.Reading.{Reading, Spells, read, finished, followed_by, given, named_by, lexed}
use Rattle.c_lexer.specs.Spelling.{Begins, IsLongest, Divides}
use Rattle.c_lexer.specs.Fault.{Answers, Refused}
use Rattle.c_lexer.specs.declared.fault.LexFault.{LexFault}
use Rattle.c_lexer.specs.declared.fault.LexFault.TheVariants as fault
use Rattle.c_lexer.specs.declared.piece.Lexeme.{Lexeme}
use Rattle.c_lexer.specs.declared.piece.Lexeme.TheVariants as lexeme
use Rattle.c_language.specs.declared.token.Spot.{Spot}
use Rattle.c_language.specs.declared.token.Tokens.{Tokens}
use Rattle.c_lexer.proofs.Fronts.{is_stray, Front, sound}
use Rattle.c_lexer.proofs.Covers.{Covers, covers}
use Rattle.c_lexer.proofs.Divisions.{divide_next, divide_rest}
use Rattle.c_lexer.proofs.Marks.{mark}

-- ---- one piece

pub begins_plain : (fresh : Bool) (kind : Lexeme) (bytes rest : Text) → Begins fresh kind bytes rest →
    is_stray kind ≡ false
begins_plain fresh lexeme.Blank bytes rest b = refl
begins_plain fresh lexeme.Newline bytes rest b = refl
begins_plain fresh lexeme.Comment bytes rest b = refl
begins_plain fresh (lexeme.Marker line from to) bytes rest b = refl
begins_plain fresh lexeme.Ignored bytes rest b = refl
begins_plain fresh lexeme.Word bytes rest b = refl
begins_plain fresh lexeme.Number bytes rest b = refl
begins_plain fresh lexeme.Character bytes rest b = refl
begins_plain fresh lexeme.Text bytes rest b = refl
begins_plain fresh lexeme.WideCharacter bytes rest b = refl
begins_plain fresh lexeme.WideText bytes rest b = refl
begins_plain fresh (lexeme.Punctuator p) bytes rest b = refl
begins_plain fresh (lexeme.Stray s) bytes rest b = absurd b

begins_some : (fresh : Bool) (kind : Lexeme) (rest : Text) → Begins fresh kind [] rest → ⊥
begins_some fresh lexeme.Blank rest b = b.0 refl
begins_some fresh lexeme.Newline rest b = cc
begins_some fresh lexeme.Comment rest (inl (body, unclosed, star, is)) = cc
begins_some fresh lexeme.Comment rest (inr (more, all, is)) = cc
begins_some fresh (lexeme.Marker line from to) rest (first, (more, all, is, says)) = cc
begins_some fresh lexeme.Ignored rest (first, (more, all, inl x)) = let is = x.0 in cc
begins_some fresh lexeme.Ignored rest (first, (more, all, inr x)) = let is = x.0 in cc
begins_some fresh lexeme.Word rest b = absurd b.0
begins_some fresh lexeme.Number rest b = absurd b
begins_some fresh lexeme.Character rest (body, is_body, is) = cc
begins_some fresh lexeme.Text rest (body, is_body, is) = cc
begins_some fresh lexeme.WideCharacter rest (more, quoted, is) = cc
begins_some fresh lexeme.WideText rest (more, quoted, is) = cc
begins_some fresh (lexeme.Punctuator p) rest b = absurd (omega (arith, (mark [] p b.0).some))
begins_some fresh (lexeme.Stray s) rest b = absurd b

pub begins_long : (fresh : Bool) (kind : Lexeme) (bytes rest : Text) → Begins fresh kind bytes rest → 1 ≤ length bytes
begins_long fresh kind [] rest b = absurd (begins_some fresh kind rest b)
begins_long fresh kind (x ∷ bytes) rest b = omega arith

covered : (kind : Lexeme) (len : ℕ) (p : Piece) → Covers kind len p → len ≤ p.1
covered kind len p (inl c) = omega (arith, c.1)
covered kind len p (inr c) = omega (arith, c.1)

-- the piece at a place is the longest that begins there
pub piece_longest : (fresh : Bool) (text : Text) (f : Front fresh text (piece_at fresh text)) →
    IsLongest fresh text (piece_at fresh text).0 f.bytes f.rest
piece_longest fresh text f = record {
  splits = f.text_is;
  begins = f.begins;
  longest = λ other more less h b.
      let c = covers fresh other more less b in
      let long = covered other (length more) (piece_at fresh text)
      (subst (λ t. Covers other (length more) (piece_at fresh t)) (sym h) c) in
      omega (arith, long, f.long);
}

-- and no other is
pub record IsPiece (fresh : Bool) (text : Text) (kind : Lexeme) (bytes rest : Text) : Type 0 where
  pub kind_is : kind ≡ (piece_at fresh text).0
  pub bytes_are : bytes ≡ take (piece_at fresh text).1 text
  pub rest_is : rest ≡ drop (piece_at fresh text).1 text
  pub some : 1 ≤ (piece_at fresh text).1

pub longest_piece : (fresh : Bool) (text : Text) (kind : Lexeme) (bytes rest : Text) →
    IsLongest fresh text kind bytes rest → (0 < length text) × IsPiece fresh text kind bytes rest
longest_piece fresh text kind bytes rest is = (
  nonempty,
  by_cover (subst (λ t. Covers kind (length bytes) (piece_at fresh t)) (sym is.splits)
      (covers fresh kind bytes rest is.begins)),
) where
  long : 1 ≤ length bytes
  long = begins_long fresh kind bytes rest is.begins

  nonempty : 0 < length text
  nonempty = omega (arith, long, ap length is.splits, length-append bytes rest)

  by_cover : Covers kind (length bytes) (piece_at fresh text) → IsPiece fresh text kind bytes rest
  by_cover (inl c) = record {
    kind_is = c.0;
    bytes_are = sym (ap (take (piece_at fresh text).1) is.splits ∙ take_at bytes rest (piece_at fresh text).1 c.1);
    rest_is = sym (ap (drop (piece_at fresh text).1) is.splits ∙ drop_at bytes rest (piece_at fresh text).1 c.1);
    some = omega (arith, long, c.1);
  }
  by_cover (inr c) =
      let f = sound fresh text nonempty c.0 in
      absurd (omega (arith, c.1, f.long, is.longest (piece_at fresh text).0 f.bytes f.rest f.text_is f.begins))

-- ---- the whole

-- each division is this one
pub only : (fresh : Bool) (text : Text) (es : List Element) → Divides fresh text es → es ≡ divide 0 fresh text
only fresh text [] d = sym (ap (divide 0 fresh) d)
only fresh text (e ∷ es) (rest, is, d) =
    let p = piece_at fresh text in
    let l = longest_piece fresh text e.0 e.1 rest is in
    let k = l.1 in
    ap (λ n. (n, e.1) ∷ es) k.kind_is
    ∙ ap (λ b. (p.0, b) ∷ es) k.bytes_are
    ∙ ap (λ r. (p.0, take p.1 text) ∷ r) (only (fresh_after fresh e.0) rest es d)
    ∙ ap (λ n. (p.0, take p.1 text) ∷ divide 0 (fresh_after fresh n) rest) k.kind_is
    ∙ ap (λ r. (p.0, take p.1 text) ∷ divide 0 (fresh_after fresh p.0) r) k.rest_is
    ∙ sym (divide_next fresh text l.0 k.some)

record BothOk (r more : Reading) : Type 0 where
  first : Tokens
  first_is : r ≡ Ok first
  second : Tokens
  second_is : more ≡ Ok second

both_ok : (r more : Reading) (t : Tokens) → followed_by r more ≡ Ok t → BothOk r more
both_ok (Err f) more t h = absurd cc
both_ok (Ok a) (Err f) t h = absurd cc
both_ok (Ok a) (Ok b) t h = record { first = a; first_is = refl; second = b; second_is = refl }

given_plain : (file at : ℕ) (s : Spot) (kind : Lexeme) (bytes : Text) (t : Tokens) →
    given file at s (kind, bytes) (meaning at (kind, bytes)) ≡ Ok t → is_stray kind ≡ false
unfolding meaning
given_plain file at s lexeme.Blank bytes t h = refl
given_plain file at s lexeme.Newline bytes t h = refl
given_plain file at s lexeme.Comment bytes t h = refl
given_plain file at s (lexeme.Marker line from to) bytes t h = refl
given_plain file at s lexeme.Ignored bytes t h = refl
given_plain file at s lexeme.Word bytes t h = refl
given_plain file at s lexeme.Number bytes t h = refl
given_plain file at s lexeme.Character bytes t h = refl
given_plain file at s lexeme.Text bytes t h = refl
given_plain file at s lexeme.WideCharacter bytes t h = refl
given_plain file at s lexeme.WideText bytes t h = refl
given_plain file at s (lexeme.Punctuator p) bytes t h = refl
given_plain file at s (lexeme.Stray x) bytes t h = absurd cc

-- what is read divides
exists : (limit : ℕ) (fresh : Bool) (text : Text) (file at : ℕ) (s : Spot) (t : Tokens) → length text ≤ limit →
    read file at s (divide 0 fresh text) ≡ Ok t → Divides fresh text (divide 0 fresh text)
exists limit fresh [] file at s t short h = refl
exists zero fresh (b ∷ text) file at s t short h = absurd (omega arith)
exists (suc limit) fresh (b ∷ text) file at s t short h =
    let whole : Text = b ∷ text in
    let p = piece_at fresh whole in
    let first : Element = (p.0, take p.1 whole) in
    let some : 0 < length whole = omega arith in
    let ok = both_ok (given file at s first (meaning at first))
    (read (file + length (named_by first)) (at + length first.1) (spot_after s first)
    (divide (p.1 - 1) (fresh_after fresh p.0) text)) t h in
    let f = sound fresh whole some (given_plain file at s p.0 (take p.1 whole) ok.first ok.first_is) in
    let long : 1 ≤ p.1 = omega (arith, begins_long fresh p.0 f.bytes f.rest f.begins, f.long) in
    let bytes_are : f.bytes ≡ take p.1 whole = sym (ap (take p.1) f.text_is ∙ take_at f.bytes f.rest p.1 f.long) in
    let rest_is : f.rest ≡ drop p.1 whole = sym (ap (drop p.1) f.text_is ∙ drop_at f.bytes f.rest p.1 f.long) in
    let next = divide_next fresh whole some long in
    let is : IsLongest fresh whole p.0 (take p.1 whole) (drop p.1 whole)
    = subst (λ r. IsLongest fresh whole p.0 (take p.1 whole) r) rest_is
    (subst (λ bs. IsLongest fresh whole p.0 bs f.rest) bytes_are (piece_longest fresh whole f)) in
    let left : read (file + length (named_by first)) (at + length first.1) (spot_after s first)
    (divide 0 (fresh_after fresh p.0) (drop p.1 whole)) ≡ Ok ok.second
    = ap (read (file + length (named_by first)) (at + length first.1) (spot_after s first))
    (sym (divide_rest (p.1) b text (fresh_after fresh p.0) long)) ∙ ok.second_is in
    subst (Divides fresh whole) (sym next) (
      drop p.1 whole,
      is,
      exists limit (fresh_after fresh p.0) (drop p.1 whole) (file + length (named_by first)) (at + length first.1)
          (spot_after s first) ok.second
          (omega (arith, length-drop p.1 whole)) left,
    )

finished_ok : (name : Text) (r : Reading) (t : Tokens) → finished name r ≡ Ok t → (u : Tokens) × (r ≡ Ok u)
finished_ok name (Err f) t h = absurd cc
finished_ok name (Ok u) t h = (u, refl)

-- what lexes is spelled
pub spells_lexed : (name bytes : Text) (tokens : Tokens) → lexed name bytes ≡ Ok tokens → Spells name bytes tokens
unfolding lexed
spells_lexed name bytes tokens h =
    let u = finished_ok name (read 0 0 (beginning name) (divide 0 true bytes)) tokens h in
    record {
      division = divide 0 true bytes;
      divides =
          exists (length bytes) true bytes 0 0 (beginning name) u.0 (omega arith) u.1;
      reads = h;
    }

-- and what is spelled lexes
pub lexed_spells : (name bytes : Text) (tokens : Tokens) → Spells name bytes tokens → lexed name bytes ≡ Ok tokens
unfolding lexed
lexed_spells name bytes tokens s =
    ap (λ es. finished name (read 0 0 (beginning name) es)) (sym (only true bytes s.division s.divides)) ∙ s.reads

-- ---- what is answered

pub answer_spelled : (name bytes : Text) (r : Reading) → Answers (λ tokens. tokens) (lexed name bytes) r →
    IfOk r (λ tokens. Spells name bytes tokens)
answer_spelled name bytes (Ok tokens) h = spells_lexed name bytes tokens h
answer_spelled name bytes (Err f) h = tt

refused_none : (meant : Reading) (f : LexFault) → Refused meant f → f ≢ fault.Memory → (t : Tokens) → meant ≡ Ok t → ⊥
refused_none meant fault.Memory h other t is = other refl
refused_none meant (fault.BadByte at) h other t is = cc
refused_none meant (fault.OpenText at) h other t is = cc
refused_none meant (fault.WideNumber at) h other t is = cc
refused_none meant (fault.BadConstant at) h other t is = cc
refused_none meant (fault.BadDirective at) h other t is = cc

pub answer_refused : (name bytes : Text) (r : Reading) → Answers (λ tokens. tokens) (lexed name bytes) r →
    IfErr r (λ f. f ≢ fault.Memory → (tokens : Tokens) → Spells name bytes tokens → ⊥)
answer_refused name bytes (Ok tokens) h = tt
answer_refused name bytes (Err f) h = λ other tokens s.
    refused_none (lexed name bytes) f h other tokens (lexed_spells name bytes tokens s)

pub one_division : (bytes : Text) (one other : List Element) → Divides true bytes one → Divides true bytes other →
    one ≡ other
one_division bytes one other d e = only true bytes one d ∙ sym (only true bytes other e)
