-- One word more.
use Rattle.std.proofs.Common.{◌≡◌, Bool, true, false, cond, Option, Some, refl, ap, ◌∙◌}
use Rattle.std.specs.Option.{IfSome}
use Rattle.c_lexer.specs.Class.{Text}
use Rattle.c_lexer.specs.Meaning.{word_kind, meant_kind}
use Rattle.c_lexer.specs.declared.words.Meant.{Meant}

-- what is known of the words before and of the one that is put in
pub known_more : (b : Bool) (text bytes : Text) (meant : Meant) (old : Option Meant) → (b ≡ true → text ≡ bytes) →
    meant_kind meant ≡ word_kind text →
    IfSome old (λ m. meant_kind m ≡ word_kind bytes) →
    IfSome (cond b (Some meant) old) (λ m. meant_kind m ≡ word_kind bytes)
known_more true text bytes meant old same new before = new ∙ ap word_kind (same refl)
known_more false text bytes meant old same new before = before
