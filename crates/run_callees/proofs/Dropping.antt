-- Arguments taken from the front.
use Rattle.std.proofs.Common.{◌≡◌, ◌<◌, ℕ, zero, suc, ℤ, List, [], ◌∷◌, map, length, drop, refl, sym, ap, ap₂, ◌∙◌, arith}
use Rattle.std.proofs.lemmas.List.{drop-map}
use Rattle.c_machine.specs.declared.value.Value.{Value}
use Rattle.c_machine.specs.Worth.{worth}
use Rattle.core_tree.specs.declared.types.WordType.{WordType}
use Rattle.core_tree.specs.Callees.{spoken}

none_spoken : (ts : List WordType) → spoken ts [] ≡ []
none_spoken [] = refl
none_spoken (t ∷ ts) = refl

dropped : (n : ℕ) (ts : List WordType) (vs : List ℤ) → spoken (drop n ts) (drop n vs) ≡ drop n (spoken ts vs)
dropped zero ts vs = refl
dropped (suc n) [] vs = refl
dropped (suc n) (t ∷ ts) [] = none_spoken (drop n ts)
dropped (suc n) (t ∷ ts) (v ∷ vs) = dropped n ts vs

-- nothing stands behind more than there is
none_left : (n : ℕ) (ts : List WordType) (vs : List ℤ) → length vs < n → drop n (spoken ts vs) ≡ []
none_left zero ts vs more = absurd (omega (arith, more))
none_left (suc n) [] vs more = refl
none_left (suc n) (t ∷ ts) [] more = refl
none_left (suc n) (t ∷ ts) (v ∷ vs) more =
    let one : suc (length vs) < suc n = more in
    none_left n ts vs (omega (arith, one))

none_typed : (n : ℕ) (ts : List WordType) (vs : List ℤ) → length ts < n → drop n (spoken ts vs) ≡ []
none_typed zero ts vs more = absurd (omega (arith, more))
none_typed (suc n) [] vs more = refl
none_typed (suc n) (t ∷ ts) [] more = refl
none_typed (suc n) (t ∷ ts) (v ∷ vs) more =
    let one : suc (length ts) < suc n = more in
    none_typed n ts vs (omega (arith, one))

length_map : (vs : List Value) → length (map worth vs) ≡ length vs
length_map [] = refl
length_map (v ∷ vs) = ap suc (length_map vs)

pub behind_values : (n : ℕ) (ts us : List WordType) (vs ws : List Value) → us ≡ drop n ts → ws ≡ drop n vs
    → spoken us (map worth ws) ≡ drop n (spoken ts (map worth vs))
behind_values n ts us vs ws types values =
    ap₂ (λ x y. spoken x (map worth y)) types values ∙ ap (spoken (drop n ts)) (sym (drop-map worth n vs))
    ∙ dropped n ts (map worth vs)

pub few_types : (n : ℕ) (ts us : List WordType) (vs ws : List Value) → length ts < n → us ≡ []
    → spoken us (map worth ws) ≡ drop n (spoken ts (map worth vs))
few_types n ts us vs ws few none =
    ap (λ x. spoken x (map worth ws)) none ∙ sym (none_typed n ts (map worth vs) few)

pub few_values : (n : ℕ) (ts us : List WordType) (vs ws : List Value) → length vs < n → us ≡ []
    → spoken us (map worth ws) ≡ drop n (spoken ts (map worth vs))
few_values n ts us vs ws few none =
    let all : length (map worth vs) ≡ length vs = length_map vs in
    ap (λ x. spoken x (map worth ws)) none ∙ sym (none_left n ts (map worth vs) (omega (arith, few, all)))
