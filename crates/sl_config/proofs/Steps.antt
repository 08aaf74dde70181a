-- Words, one after the other.
use Rattle.std.proofs.Common.{◌≡◌, ℕ, ◌+◌, ◌<◌, ◌≤◌, List, ◌∷◌, [], map, String, string_bytes, length, drop, get_or, Ok, Err, sym, ap, ◌∙◌}
use Rattle.std.specs.declared.alloc.Global.{Global}
use Rattle.std.proofs.lemmas.List.{drop_more, drop_all}
use Rattle.sl_config.specs.Generated.{Text}
use Rattle.sl_config.specs.Words.{Answer, on_ok, with_word, with_words, value_after}
use Rattle.sl_config.specs.declared.job.Command.{Command}
use Rattle.sl_config.specs.declared.job.WordsFault.{WordsFault}
use Rattle.sl_config.specs.declared.job.WordsFault.TheVariants.{Memory}
use Rattle.sl_config.specs.declared.given.Given.{Given}

abbrev refused : Answer
refused = Err Memory

pub step : (command : Command) (given : Given) (words : List (String Global)) (word : String Global) (i : ℕ) (whole : Answer) → i < length words → word ≡ get_or words i word
    → with_words command given (map string_bytes (drop i words)) ≡ whole
    → on_ok (with_word command given (string_bytes word)) (λ next. with_words command next (map string_bytes (drop (i + 1) words))) ≡ whole
unfolding with_words
step command given words word i whole h e is =
    ap (λ w. on_ok (with_word command given (string_bytes w)) (λ next. with_words command next (map string_bytes (drop (i + 1) words)))) e
    ∙ ap (λ ws. with_words command given (map string_bytes ws)) (sym (drop_more words i word h)) ∙ is

pub step_ok : (command : Command) (given next : Given) (words : List (String Global)) (word : String Global) (i : ℕ) (whole : Answer) → i < length words → word ≡ get_or words i word
    → Ok next ≡ with_word command given (string_bytes word)
    → with_words command given (map string_bytes (drop i words)) ≡ whole → with_words command next (map string_bytes (drop (i + 1) words)) ≡ whole
step_ok command given next words word i whole h e ok is =
    ap (λ a. on_ok a (λ n. with_words command n (map string_bytes (drop (i + 1) words)))) ok ∙ step command given words word i whole h e is

pub step_err : (command : Command) (given : Given) (fault : WordsFault) (words : List (String Global)) (word : String Global) (i : ℕ) (whole : Answer) → i < length words → word ≡ get_or words i word
    → Err fault ≡ with_word command given (string_bytes word)
    → with_words command given (map string_bytes (drop i words)) ≡ whole → Err fault ≡ whole
step_err command given fault words word i whole h e err is =
    ap (λ a. on_ok a (λ n. with_words command n (map string_bytes (drop (i + 1) words)))) err ∙ step command given words word i whole h e is

pub steps_end : (command : Command) (given : Given) (words : List (String Global)) (i : ℕ) (whole : Answer) → length words ≤ i → with_words command given (map string_bytes (drop i words)) ≡ whole → Ok given ≡ whole
unfolding with_words
steps_end command given words i whole h is = ap (λ ws. with_words command given (map string_bytes ws)) (sym (drop_all i words h)) ∙ is

-- ---- numbers

pub value_more : (value value' : ℕ) (word : Text) (i byte whole : ℕ) → i < length word → byte ≡ get_or word i 0 → value' ≡ value_after value (byte ∷ [])
    → value_after value (drop i word) ≡ whole → value_after value' (drop (i + 1) word) ≡ whole
value_more value value' word i byte whole h eb ev is =
    ap (λ v. value_after v (drop (i + 1) word)) (ev ∙ ap (λ b. value_after value (b ∷ [])) eb) ∙ ap (value_after value) (sym (drop_more word i 0 h)) ∙ is

pub value_end : (value : ℕ) (word : Text) (i whole : ℕ) → length word ≤ i → value_after value (drop i word) ≡ whole → value ≡ whole
value_end value word i whole h is = ap (value_after value) (sym (drop_all i word h)) ∙ is

-- a word that was refused
pub step_fail : (command : Command) (given : Given) (words : List (String Global)) (word : String Global) (i : ℕ) (whole r : Answer) (fault f : WordsFault) → r ≡ Err fault → fault ≡ f
    → ((Err f ≡ refused → ⊥) → Err f ≡ with_word command given (string_bytes word)) → i < length words → word ≡ get_or words i word
    → with_words command given (map string_bytes (drop i words)) ≡ whole → (r ≡ refused → ⊥) → r ≡ whole
step_fail command given words word i whole r fault f er ef is h e so m =
    er ∙ ap Err ef ∙ step_err command given f words word i whole h e (is (λ g. m (er ∙ ap Err ef ∙ g))) so
