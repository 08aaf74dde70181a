-- Which first lines name another version.
use Rattle.std.proofs.lemmas.List.{append_cancel_left, append_cancel_right}
use Rattle.std.proofs.lemmas.Slice.Eq.{bytes_eq-Decides}
use Rattle.std.specs.Prelude.{codes}
use Rattle.std.specs.Str.{bytes_eq}
use Rattle.std.proofs.Common.{◌≡◌, ◌≢◌, Bool, true, false, not, refl, ℕ, [], ◌∷◌, ◌++◌, take, sym, ap, subst, ◌∙◌, arith}
use Rattle.cert_text.specs.Lines.{Text, lines_of, line_len}
use Rattle.cert_text.specs.WorldTexts.{is_numeral, IsOtherVersion, NamesOtherVersion}
use Rattle.cert_text.proofs.LineLemmas.{lines-first}

empty : (n : ℕ) → take {A = ℕ} n [] ≡ []
empty n = grind arith

pub first_names : (bytes : Text) (n : ℕ) → n ≡ line_len bytes
    → (IsOtherVersion (take n bytes) → NamesOtherVersion (lines_of bytes)) × (NamesOtherVersion (lines_of bytes) → IsOtherVersion (take n bytes))
first_names [] n e = (λ o. none o, λ h. absurd h)
  where
    none : IsOtherVersion (take n []) → ⊥
    none o = let is = sym (empty n) ∙ o.same in cc
first_names (b ∷ bytes) n e =
    let first = lines-first (b ∷ bytes) (omega arith) in (
      λ o. subst NamesOtherVersion (sym first) (subst (λ k. IsOtherVersion (take k (b ∷ bytes))) e o),
      λ h. subst (λ k. IsOtherVersion (take k (b ∷ bytes))) (sym e) (subst NamesOtherVersion first h),
    )

pub other_is : (line tail number : Text) (different : Bool) → line ≡ codes "sherlog world " ++ tail → tail ≡ number ++ 10 ∷ [] → is_numeral number ≡ true
    → different ≡ not (bytes_eq number (49 ∷ [])) → (different ≡ true → IsOtherVersion line) × (IsOtherVersion line → different ≡ true)
other_is line tail number different front end numeral is = (there, back)
  where
    there : different ≡ true → IsOtherVersion line
    there h = record {
      number = number;
      numeral = numeral;
      other = λ e. let same : bytes_eq number (49 ∷ []) ≡ true = (bytes_eq-Decides number (49 ∷ [])).1 e in absurd (let p : not true ≡ true = ap not (sym same) ∙ sym is ∙ h in cc);
      same = front ∙ ap (λ t. codes "sherlog world " ++ t) end;
    }

    back : IsOtherVersion line → different ≡ true
    back o =
        let tails = append_cancel_left (codes "sherlog world ") (o.number ++ 10 ∷ []) tail (sym o.same ∙ front) in
        let numbers = append_cancel_right o.number number (10 ∷ []) (tails ∙ end) in
        is ∙ by (bytes_eq number (49 ∷ [])) refl (λ e. o.other (numbers ∙ e))
      where
        by : (t : Bool) → bytes_eq number (49 ∷ []) ≡ t → (number ≢ 49 ∷ []) → not t ≡ true
        by true e ne = absurd (ne ((bytes_eq-Decides number (49 ∷ [])).0 e))
        by false e ne = refl
