-- A text that is refused has one first fault.
use Rattle.std.proofs.Common.{◌≡◌, ◌≢◌, ℕ, zero, suc, ◌+◌, ◌-◌, ◌<◌, ◌≤◌, Bool, true, false, List, [], ◌∷◌, length}
use Rattle.std.proofs.Common.{take, drop, Ok, Err, IsOk, refl, ap, sym, subst, ◌∙◌, inl, inr, arith, length-drop}
use Rattle.std.specs.Result.{IfErr}
use Rattle.std.proofs.lemmas.Bool.{false≢true}
use Rattle.std.proofs.lemmas.List.{take_at, drop_at}
use Rattle.c_lexer.specs.Class.{Text}
use Rattle.c_lexer.specs.Piece.{piece_at}
use Rattle.c_lexer.specs.Division.{Element, divide, fresh_after}
use Rattle.c_lexer.specs.Fault.{Answers, Refused}
use Rattle.c_lexer.specs.Places.{beginning, spot_after}
use Rattle.c_lexer.specs.Meaning.{Meaning, meaning, stray_fault}
use Rattle.c_lexer.specs.Reading.{Reading, read, finished, followed_by, given, named_by, lexed, FaultAfter}
use Rattle.c_lexer.specs.Reading.{IsFirstFault}
use Rattle.c_lexer.specs.Spelling.{IsLongest, IsStray, stray_at}
use Rattle.c_lexer.specs.declared.fault.LexFault.{LexFault}
use Rattle.c_lexer.specs.declared.fault.LexFault.TheVariants as fault
use Rattle.c_lexer.specs.declared.piece.Lexeme.{Lexeme}
use Rattle.c_lexer.specs.declared.piece.Lexeme.TheVariants as lexeme
use Rattle.c_lexer.specs.declared.piece.Stray.{Stray}
use Rattle.c_language.specs.declared.token.Spot.{Spot}
use Rattle.c_language.specs.declared.token.Tokens.{Tokens}
use Rattle.c_lexer.proofs.Fronts.{is_stray, sound}
use Rattle.c_lexer.proofs.Covers.{Covers, covers}
use Rattle.c_lexer.proofs.Divisions.{divide_next, divide_rest}
use Rattle.c_lexer.proofs.Strays.{reason}
use Rattle.c_lexer.proofs.Unique.{begins_plain, begins_long, piece_longest, longest_piece}

stray_is : (kind : Lexeme) → is_stray kind ≡ true → (s : Stray) × (kind ≡ lexeme.Stray s)
stray_is (lexeme.Stray s) h = (s, refl)
stray_is lexeme.Blank h = absurd (false≢true h)
stray_is lexeme.Newline h = absurd (false≢true h)
stray_is lexeme.Comment h = absurd (false≢true h)
stray_is (lexeme.Marker line from to) h = absurd (false≢true h)
stray_is lexeme.Ignored h = absurd (false≢true h)
stray_is lexeme.Word h = absurd (false≢true h)
stray_is lexeme.Number h = absurd (false≢true h)
stray_is lexeme.Character h = absurd (false≢true h)
stray_is lexeme.Text h = absurd (false≢true h)
stray_is lexeme.WideCharacter h = absurd (false≢true h)
stray_is lexeme.WideText h = absurd (false≢true h)
stray_is (lexeme.Punctuator p) h = absurd (false≢true h)

-- where the piece is none, nothing begins
nothing : (fresh : Bool) (text : Text) → is_stray (piece_at fresh text).0 ≡ true → IsStray fresh text
nothing fresh text stray kind bytes rest h b =
    by_cover (subst (λ t. Covers kind (length bytes) (piece_at fresh t)) (sym h) (covers fresh kind bytes rest b)) where
      by_cover : Covers kind (length bytes) (piece_at fresh text) → ⊥
      by_cover (inl c) = false≢true (sym (begins_plain fresh kind bytes rest b) ∙ ap is_stray c.0 ∙ stray)
      by_cover (inr c) = false≢true (sym c.0 ∙ stray)

-- the division begins with the longest piece
divided : (fresh : Bool) (text : Text) (kind : Lexeme) (bytes rest : Text) → IsLongest fresh text kind bytes rest →
    divide 0 fresh text ≡ (kind, bytes) ∷ divide 0 (fresh_after fresh kind) rest
divided fresh text kind bytes rest is =
    let p = piece_at fresh text in
    let l = longest_piece fresh text kind bytes rest is in
    let k = l.1 in
    divide_next fresh text l.0 k.some
    ∙ ap (λ n. (n, take p.1 text) ∷ divide 0 (fresh_after fresh n) (drop p.1 text)) (sym k.kind_is)
    ∙ ap (λ b. (kind, b) ∷ divide 0 (fresh_after fresh kind) (drop p.1 text)) (sym k.bytes_are)
    ∙ ap (λ r. (kind, bytes) ∷ divide 0 (fresh_after fresh kind) r) (sym k.rest_is)

-- the longest piece, where one begins
record Longest (fresh : Bool) (text : Text) : Type 0 where
  some : 1 ≤ (piece_at fresh text).1
  is : IsLongest fresh text (piece_at fresh text).0 (take (piece_at fresh text).1 text)
      (drop (piece_at fresh text).1 text)

longest_at : (fresh : Bool) (text : Text) → 0 < length text → is_stray (piece_at fresh text).0 ≡ false →
    Longest fresh text
longest_at fresh text nonempty plain =
    let p = piece_at fresh text in
    let f = sound fresh text nonempty plain in
    let bytes_are : f.bytes ≡ take p.1 text = sym (ap (take p.1) f.text_is ∙ take_at f.bytes f.rest p.1 f.long) in
    let rest_is : f.rest ≡ drop p.1 text = sym (ap (drop p.1) f.text_is ∙ drop_at f.bytes f.rest p.1 f.long) in
    record {
      some = omega (arith, begins_long fresh p.0 f.bytes f.rest f.begins, f.long);
      is = subst (λ r. IsLongest fresh text p.0 (take p.1 text) r) rest_is
          (subst (λ bs. IsLongest fresh text p.0 bs f.rest) bytes_are (piece_longest fresh text f));
    }

-- ---- what is refused has a first fault

record Fault (fresh : Bool) (at : ℕ) (text : Text) (f : LexFault) : Type 0 where
  before : List Element
  stands : FaultAfter before fresh at text f

stray_meaning : (file at : ℕ) (s : Spot) (x : Stray) (bytes : Text) (more : Reading) (f : LexFault) →
    followed_by (given file at s (lexeme.Stray x, bytes) (meaning at (lexeme.Stray x, bytes))) more ≡ Err f →
    f ≡ stray_fault at x
unfolding meaning
stray_meaning file at s x bytes more f h = cc

more_refused : (t : Tokens) (more : Reading) (f : LexFault) → followed_by (Ok t) more ≡ Err f → more ≡ Err f
more_refused t (Err g) f h = h
more_refused t (Ok u) f h = absurd cc

module _ (fresh : Bool) (text : Text) (file at : ℕ) (s : Spot) (f : LexFault) (nonempty : 0 < length text) where
  by_stray : is_stray (piece_at fresh text).0 ≡ true → (more : Reading) →
      followed_by (given file at s ((piece_at fresh text).0, take (piece_at fresh text).1 text)
      (meaning at ((piece_at fresh text).0, take (piece_at fresh text).1 text))) more ≡ Err f → Fault fresh at text f
  by_stray stray more h =
      let x = stray_is (piece_at fresh text).0 stray in
      let bytes = take (piece_at fresh text).1 text in
      let is = stray_meaning file at s x.0 bytes more f
      (subst (λ k. followed_by (given file at s (k, bytes) (meaning at (k, bytes))) more ≡ Err f) x.1 h) in
      let why : stray_at fresh text ≡ x.0 = reason fresh text nonempty x.0 x.1 in
      let some : text ≢ [] = λ e. absurd (omega (arith, ap length e)) in
      record { before = []; stands = inl (some, nothing fresh text stray, is ∙ ap (stray_fault at) (sym why)) }

  by_meaning : Longest fresh text → (m : Meaning) →
      meaning at ((piece_at fresh text).0, take (piece_at fresh text).1 text) ≡ m → (more : Reading) →
      followed_by (given file at s ((piece_at fresh text).0, take (piece_at fresh text).1 text) m) more ≡ Err f →
      (more ≡ Err f → Fault (fresh_after fresh (piece_at fresh text).0)
      (at + length (take (piece_at fresh text).1 text)) (drop (piece_at fresh text).1 text) f) → Fault fresh at text f
  by_meaning l (Err g) is more h next =
      let same : g ≡ f = cc in
      record {
        before = [];
        stands =
            inr (
              (piece_at fresh text).0,
              take (piece_at fresh text).1 text,
              drop (piece_at fresh text).1 text,
              l.is,
              is
                  ∙ ap Err same,
            );
      }
  by_meaning l (Ok k) is more h next =
      let n = next (more_refused _ more f h) in
      record {
        before = ((piece_at fresh text).0, take (piece_at fresh text).1 text) ∷ n.before;
        stands = (drop (piece_at fresh text).1 text, l.is, subst IsOk (sym is) refl, n.stands);
      }

first_fault : (limit : ℕ) (fresh : Bool) (text : Text) (file at : ℕ) (s : Spot) (f : LexFault) → length text ≤ limit →
    read file at s (divide 0 fresh text) ≡ Err f → Fault fresh at text f
first_fault limit fresh [] file at s f short h = absurd cc
first_fault zero fresh (b ∷ text) file at s f short h = absurd (omega arith)
first_fault (suc limit) fresh (b ∷ text) file at s f short h =
    let p = piece_at fresh (b ∷ text) in
    let e : Element = (p.0, take p.1 (b ∷ text)) in
    by_kind
    (λ long more. first_fault limit (fresh_after fresh p.0) (drop p.1 (b ∷ text)) (file + length (named_by e))
    (at + length e.1) (spot_after s e) f (omega (arith, length-drop p.1 (b ∷ text), long)) more)
    (is_stray p.0) refl where
      by_kind : (1 ≤ (piece_at fresh (b ∷ text)).1 →
          read (file + length (named_by ((piece_at fresh (b ∷ text)).0, take (piece_at fresh (b ∷ text)).1 (b ∷ text))))
          (at + length (take (piece_at fresh (b ∷ text)).1 (b ∷ text)))
          (spot_after s ((piece_at fresh (b ∷ text)).0, take (piece_at fresh (b ∷ text)).1 (b ∷ text)))
          (divide 0 (fresh_after fresh (piece_at fresh (b ∷ text)).0) (drop (piece_at fresh (b ∷ text)).1 (b ∷ text)))
          ≡ Err f →
          Fault (fresh_after fresh (piece_at fresh (b ∷ text)).0)
          (at + length (take (piece_at fresh (b ∷ text)).1 (b ∷ text)))
          (drop (piece_at fresh (b ∷ text)).1 (b ∷ text)) f) →
          (stray : Bool) → is_stray (piece_at fresh (b ∷ text)).0 ≡ stray → Fault fresh at (b ∷ text) f
      by_kind next true is =
          let p = piece_at fresh (b ∷ text) in
          let e : Element = (p.0, take p.1 (b ∷ text)) in
          by_stray fresh (b ∷ text) file at s f (omega arith) is
          (read (file + length (named_by e)) (at + length e.1) (spot_after s e)
          (divide (p.1 - 1) (fresh_after fresh p.0) text)) h
      by_kind next false is =
          let p = piece_at fresh (b ∷ text) in
          let e : Element = (p.0, take p.1 (b ∷ text)) in
          let l = longest_at fresh (b ∷ text) (omega arith) is in
          by_meaning fresh (b ∷ text) file at s f (omega arith) l (meaning at e) refl
          (read (file + length (named_by e)) (at + length e.1) (spot_after s e)
          (divide (p.1 - 1) (fresh_after fresh p.0) text)) h
          (λ more. next l.some (ap (read (file + length (named_by e)) (at + length e.1) (spot_after s e))
          (sym (divide_rest p.1 b text (fresh_after fresh p.0) l.some)) ∙ more))

-- ---- and a first fault refuses

stray_read : (fresh : Bool) (text : Text) (file at : ℕ) (s : Spot) → 0 < length text → IsStray fresh text →
    read file at s (divide 0 fresh text) ≡ Err (stray_fault at (stray_at fresh text))
unfolding meaning
stray_read fresh [] file at s some none = absurd (omega arith)
stray_read fresh (b ∷ text) file at s some none = by_kind (is_stray (piece_at fresh (b ∷ text)).0) refl where
  by_kind : (stray : Bool) → is_stray (piece_at fresh (b ∷ text)).0 ≡ stray →
      read file at s (divide 0 fresh (b ∷ text)) ≡ Err (stray_fault at (stray_at fresh (b ∷ text)))
  by_kind true is =
      let p = piece_at fresh (b ∷ text) in
      let x = stray_is p.0 is in
      ap (λ k. read file at s ((k, take p.1 (b ∷ text)) ∷ divide (p.1 - 1) (fresh_after fresh k) text)) x.1
      ∙ ap (λ r. Err (stray_fault at r)) (sym (reason fresh (b ∷ text) some x.0 x.1))
  by_kind false is =
      let f = sound fresh (b ∷ text) some is in
      absurd (none (piece_at fresh (b ∷ text)).0 f.bytes f.rest f.text_is f.begins)

meant_read : (file at : ℕ) (s : Spot) (e : Element) (es : List Element) (f : LexFault) → meaning at e ≡ Err f →
    read file at s (e ∷ es) ≡ Err f
meant_read file at s e es f h =
    ap (λ m. followed_by (given file at s e m)
    (read (file + length (named_by e)) (at + length e.1) (spot_after s e) es)) h

later_read : (file at : ℕ) (s : Spot) (e : Element) (es : List Element) (f : LexFault) (m : Meaning) →
    meaning at e ≡ m → IsOk m →
    read (file + length (named_by e)) (at + length e.1) (spot_after s e) es ≡ Err f → read file at s (e ∷ es) ≡ Err f
later_read file at s e es f (Ok k) h ok more =
    ap (λ n. followed_by (given file at s e n)
    (read (file + length (named_by e)) (at + length e.1) (spot_after s e) es)) h
    ∙ ap (followed_by (given file at s e (Ok k))) more
later_read file at s e es f (Err g) h ok more = absurd (false≢true ok)

fault_read : (es : List Element) (fresh : Bool) (text : Text) (file at : ℕ) (s : Spot) (f : LexFault) →
    FaultAfter es fresh at text f → read file at s (divide 0 fresh text) ≡ Err f
fault_read [] fresh [] file at s f (inl (some, none, is)) = absurd (some refl)
fault_read [] fresh (b ∷ text) file at s f (inl (some, none, is)) =
    stray_read fresh (b ∷ text) file at s (omega arith) none ∙ ap Err (sym is)
fault_read [] fresh text file at s f (inr (kind, bytes, rest, is, m)) =
    ap (read file at s) (divided fresh text kind bytes rest is)
    ∙ meant_read file at s (kind, bytes) (divide 0 (fresh_after fresh kind) rest) f m
fault_read (e ∷ es) fresh text file at s f (rest, is, ok, more) =
    ap (read file at s) (divided fresh text e.0 e.1 rest is)
    ∙ later_read file at s e (divide 0 (fresh_after fresh e.0) rest) f (meaning at e) refl ok
    (fault_read es (fresh_after fresh e.0) rest (file + length (named_by e)) (at + length e.1) (spot_after s e) f more)

-- ---- of a whole source

finished_err : (name : Text) (r : Reading) (f : LexFault) → finished name r ≡ Err f → r ≡ Err f
finished_err name (Err g) f h = h
finished_err name (Ok u) f h = absurd cc

first_of : (name bytes : Text) (f : LexFault) → lexed name bytes ≡ Err f → IsFirstFault bytes f
unfolding lexed
first_of name bytes f h =
    let x = first_fault (length bytes) true bytes 0 0 (beginning name) f (omega arith)
    (finished_err name (read 0 0 (beginning name) (divide 0 true bytes)) f h) in
    record { before = x.before; stands = x.stands }

pub fault_lexed : (name bytes : Text) (f : LexFault) → IsFirstFault bytes f → lexed name bytes ≡ Err f
unfolding lexed
fault_lexed name bytes f is = ap (finished name) (fault_read is.before true bytes 0 0 (beginning name) f is.stands)

refused_first : (name bytes : Text) (f : LexFault) → Refused (lexed name bytes) f → f ≢ fault.Memory →
    IsFirstFault bytes f
refused_first name bytes fault.Memory h other = absurd (other refl)
refused_first name bytes (fault.BadByte at) h other = first_of name bytes (fault.BadByte at) h
refused_first name bytes (fault.OpenText at) h other = first_of name bytes (fault.OpenText at) h
refused_first name bytes (fault.WideNumber at) h other = first_of name bytes (fault.WideNumber at) h
refused_first name bytes (fault.BadConstant at) h other = first_of name bytes (fault.BadConstant at) h
refused_first name bytes (fault.BadDirective at) h other = first_of name bytes (fault.BadDirective at) h

pub answer_first : (name bytes : Text) (r : Reading) → Answers (λ tokens. tokens) (lexed name bytes) r →
    IfErr r (λ f. f ≢ fault.Memory → IsFirstFault bytes f)
answer_first name bytes (Ok tokens) h = tt
answer_first name bytes (Err f) h = refused_first name bytes f h
