-- What a line says, and the line that says so.
use Rattle.std.proofs.Common.{◌≡◌, ℕ, ◌+◌, ◌-◌, ◌*◌, ◌≤◌, min, ◌==◌, ◌&&◌, Bool, true, false, cond, nat_le, [], ◌∷◌, Some, None, refl, subst, arith}
use Rattle.std.specs.Str.{bytes_eq}
use Rattle.std.specs.Char.{is_ascii_digit}
use Rattle.std.proofs.lemmas.Slice.Eq.{bytes_eq-Decides}
use Rattle.std.proofs.lemmas.Bool.Decides.{nat_tests}
use Rattle.cert_text.specs.Lines.{Text}
use Rattle.cert_text.specs.WorldTexts.{head_line, end_line, word_line, byte_line}
use Rattle.cert_text.specs.WorldSteps.{entry_with, entry_after, entry_in, spells, is_word, is_byte, entry_said, said_by}
use Rattle.cert_text.specs.declared.entry.Entry.{Entry}
use Rattle.cert_text.specs.declared.saying.Said.{Said}
use Rattle.cert_text.specs.declared.saying.Said.TheVariants.{Head, Word, Byte, End}
use Rattle.cert_text.proofs.EntryLemmas.{entry-in_line}

pub same_bytes : (xs ys : Text) → bytes_eq xs ys ≡ true → xs ≡ ys
same_bytes xs ys h = (bytes_eq-Decides xs ys).0 h

bytes_same : (xs : Text) → bytes_eq xs xs ≡ true
bytes_same xs = (bytes_eq-Decides xs xs).1 refl

pub both : (a b : Bool) → (a && b) ≡ true → (a ≡ true) × (b ≡ true)
both true b h = (refl, h)
both false b h = absurd cc

at_least : (a b : ℕ) → nat_le a b ≡ true → a ≤ b
at_least a b h = grind (arith, nat_tests)

is_least : (a b : ℕ) → a ≤ b → nat_le a b ≡ true
is_least a b h = grind (arith, nat_tests)

-- ---- the line

abbrev pub said_line : Said → Text
said_line Head = head_line
said_line (Word place value) = word_line (place, value)
said_line (Byte address value) = byte_line (address, value)
said_line End = end_line

abbrev pub InSaid : Said → Type 0
InSaid (Word place value) = (1 ≤ place) × (place ≤ 4294967295) × (1 ≤ value) × (value ≤ 18446744073709551615)
InSaid (Byte address value) = (address ≤ 18446744073709551615) × (1 ≤ value) × (value ≤ 255)
InSaid _ = Unit {0}

-- ---- the numbers that are read are words

record AreWords (entry : Entry) : Type 0 where
  key : entry.key ≤ 18446744073709551615
  value : entry.value ≤ 18446744073709551615

words_with : (entry : Entry) (byte : ℕ) → AreWords entry → AreWords (entry_with entry byte)
words_with entry byte h = by (byte == 32) (is_ascii_digit byte)
  where
    by : (s d : Bool) → AreWords (cond s (record { key = entry.value; value = 0 }) (cond d (record entry { value = min (entry.value * 10 + (byte - 48)) 18446744073709551615 }) entry))
    by true d = record { key = h.value; value = omega arith }
    by false true = record { key = h.key; value = omega arith }
    by false false = h

words_after : (entry : Entry) (bytes : Text) → AreWords entry → AreWords (entry_after entry bytes)
words_after entry [] h = h
words_after entry (b ∷ bytes) h = words_after (entry_with entry b) bytes (words_with entry b h)

words_in : (line : Text) → AreWords (entry_in line)
words_in line = words_after (record { key = 0; value = 0 }) line (record { key = omega arith; value = omega arith })

-- ---- from what is said to the line

abbrev Says : Text → Said → Type 0
Says line said = (line ≡ said_line said) × InSaid said

entry_back : (entry : Entry) (line : Text) (said : Said) → AreWords entry → entry_said entry line ≡ Some said → Says line said
unfolding entry_said
entry_back entry line said words h = by (spells 119 entry line) refl (is_word entry) refl (spells 98 entry line) refl (is_byte entry) refl h
  where
    by : (sw : Bool) → spells 119 entry line ≡ sw → (w : Bool) → is_word entry ≡ w → (sb : Bool) → spells 98 entry line ≡ sb → (b : Bool) → is_byte entry ≡ b
        → cond sw (cond w (Some (Word entry.key entry.value)) None) (cond sb (cond b (Some (Byte entry.key entry.value)) None) None) ≡ Some said → Says line said
    by true es true ew sb eb b e h =
        let rest = both (nat_le 1 entry.key && nat_le entry.key 4294967295) (nat_le 1 entry.value) ew in
        let key = both (nat_le 1 entry.key) (nat_le entry.key 4294967295) rest.0 in
        let is : Word entry.key entry.value ≡ said = cc in
        subst (Says line) is (same_bytes line (word_line (entry.key, entry.value)) es, (at_least 1 entry.key key.0, at_least entry.key 4294967295 key.1, at_least 1 entry.value rest.1, words.value))
    by true es false ew sb eb b e h = absurd cc
    by false es w ew true eb true e h =
        let parts = both (nat_le 1 entry.value) (nat_le entry.value 255) e in
        let is : Byte entry.key entry.value ≡ said = cc in
        subst (Says line) is (same_bytes line (byte_line (entry.key, entry.value)) eb, (words.key, at_least 1 entry.value parts.0, at_least entry.value 255 parts.1))
    by false es w ew true eb false e h = absurd cc
    by false es w ew false eb b e h = absurd cc

pub said_back : (line : Text) (said : Said) → said_by line ≡ Some said → Says line said
unfolding said_by
said_back line said h = by (bytes_eq line head_line) refl (bytes_eq line end_line) refl h
  where
    by : (a : Bool) → bytes_eq line head_line ≡ a → (b : Bool) → bytes_eq line end_line ≡ b
        → cond a (Some Head) (cond b (Some End) (entry_said (entry_in line) line)) ≡ Some said → Says line said
    by true ea b eb h = let is : Head ≡ said = cc in subst (Says line) is (same_bytes line head_line ea, tt)
    by false ea true eb h = let is : End ≡ said = cc in subst (Says line) is (same_bytes line end_line eb, tt)
    by false ea false eb h = entry_back (entry_in line) line said (words_in line) h

-- ---- from the line to what it says

entry_word : (p v : ℕ) → (1 ≤ p) × (p ≤ 4294967295) × (1 ≤ v) × (v ≤ 18446744073709551615) → entry_said (entry_in (word_line (p, v))) (word_line (p, v)) ≡ Some (Word p v)
unfolding entry_said
entry_word p v h =
    let is : entry_in (word_line (p, v)) ≡ record { key = p; value = v } = entry-in_line 119 p v refl refl (omega arith) (omega arith) in
    rw (is, bytes_same (word_line (p, v)), is_least 1 p h.0, is_least p 4294967295 h.1, is_least 1 v h.2) refl

entry_byte : (a v : ℕ) → (a ≤ 18446744073709551615) × (1 ≤ v) × (v ≤ 255) → entry_said (entry_in (byte_line (a, v))) (byte_line (a, v)) ≡ Some (Byte a v)
unfolding entry_said
entry_byte a v h =
    let is : entry_in (byte_line (a, v)) ≡ record { key = a; value = v } = entry-in_line 98 a v refl refl (omega arith) (omega arith) in
    rw (is, bytes_same (byte_line (a, v)), is_least 1 v h.1, is_least v 255 h.2) refl

pub said_forth : (said : Said) → InSaid said → said_by (said_line said) ≡ Some said
unfolding said_by
said_forth Head h = refl
said_forth (Word p v) h = entry_word p v h
said_forth (Byte a v) h = entry_byte a v h
said_forth End h = refl
