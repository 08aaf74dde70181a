-- Where a name is declared, from the innermost block outwards.
use Rattle.std.proofs.Common.{◌≡◌, refl, ap, sym, subst, ◌∙◌, ℕ, suc, ◌-◌, ◌<◌, ◌≤◌, List, [], ◌∷◌, ◌++◌, length, take, set, get_or, reverse, map, Bool, true, false, cond, arith, Option, Some, None}
use Rattle.std.specs.Prelude.{option_map, unwrap_or}
use Rattle.std.specs.List.{find}
use Rattle.std.proofs.Math.Seq.{take-suc}
use Rattle.std.proofs.Math.ListN.{length-take}
use Rattle.std.proofs.lemmas.List.{reverse-append, take_all}
use Rattle.c_grammar.specs.Parts.{Name, Bound, Frame, same_name, or_else, is_type_in, is_type_among}
use Rattle.c_scope.specs.Local.{Level, over, frame_of, found, declared_at}

-- what the rest of the blocks says where a block says nothing
abbrev pub settled : Option Bool → Bool → Bool
settled o rest = unwrap_or o rest

abbrev pub found_by : Bool → Bound → Option Bound → Option Bool
found_by same b rest = option_map (λ (x : Bound). x.is_type) (cond same (Some b) rest)

pub is_type_in_found : (name : Name) (names : Frame) (rest : Bool) → is_type_in name names rest ≡ settled (found name names) rest
is_type_in_found name [] rest = refl
is_type_in_found name (b ∷ bs) rest = by_same (same_name name b.name) b.is_type (is_type_in_found name bs rest) where
  by_same : (same is_type : Bool) → is_type_in name bs rest ≡ settled (found name bs) rest
      → or_else same is_type (is_type_in name bs rest) ≡ settled (found_by same (record { name = b.name; is_type = is_type }) (find (λ (x : Bound). same_name name x.name) bs)) rest
  by_same true is_type e = refl
  by_same false is_type e = e

abbrev pub first : Name → Frame → Option Bound
first name names = find (λ (x : Bound). same_name name x.name) names

some_first : (name : Name) (b : Bound) (bs file : Frame) (t : Bool) (same : Bool)
    → (found name bs ≡ Some t → found name (bs ++ file) ≡ Some t)
    → found_by same b (first name bs) ≡ Some t → found_by same b (first name (bs ++ file)) ≡ Some t
some_first name b bs file t true rest e = e
some_first name b bs file t false rest e = rest e

none_first : (name : Name) (b : Bound) (bs file : Frame) (same : Bool)
    → (found name bs ≡ None → found name (bs ++ file) ≡ found name file)
    → found_by same b (first name bs) ≡ None → found_by same b (first name (bs ++ file)) ≡ found name file
none_first name b bs file true rest e = absurd (some e) where
  some : ◌≡◌ {A = Option Bool} (Some b.is_type) None → ⊥
  some e = (cc)
none_first name b bs file false rest e = rest e

pub found_some : (name : Name) (names file : Frame) (t : Bool) → found name names ≡ Some t → found name (names ++ file) ≡ Some t
found_some name [] file t e = absurd (none e) where
  none : ◌≡◌ {A = Option Bool} None (Some t) → ⊥
  none e = (cc)
found_some name (b ∷ bs) file t e = some_first name b bs file t (same_name name b.name) (λ r. found_some name bs file t r) e

pub found_none : (name : Name) (names file : Frame) → found name names ≡ None → found name (names ++ file) ≡ found name file
found_none name [] file e = refl
found_none name (b ∷ bs) file e = none_first name b bs file (same_name name b.name) (λ r. found_none name bs file r) e

-- a block with the names of the file, or without them
pub found_over : (name : Name) (over_file : Bool) (names file : Frame) (t : Bool) → found name names ≡ Some t → found name (over over_file file names) ≡ Some t
found_over name true names file t e = found_some name names file t e
found_over name false names file t e = e

pub found_under : (name : Name) (over_file : Bool) (names file : Frame) → over_file ≡ true → found name names ≡ None
    → found name (over over_file file names) ≡ found name file
found_under name true names file is e = found_none name names file e
found_under name false names file is e = absurd (wrong is) where
  wrong : false ≡ true → ⊥
  wrong e = (cc)

module _ (name : Name) (file : Frame) (levels : List Level) where
  -- what the blocks say, the outermost of them alone
  abbrev pub among : ℕ → Bool
  among i = is_type_among name (map (frame_of file) (reverse (take i levels)))

  turn : (j : ℕ) (level : Level) → j < length levels → level ≡ get_or levels j level
      → among (suc j) ≡ settled (found name (frame_of file level)) (among j)
  turn j level below is = rw (take-suc levels j level, reverse-append, ← is) (is_type_in_found name (frame_of file level) (among j))

  pub among_turn : (i : ℕ) (level : Level) → 0 < i → i ≤ length levels → level ≡ get_or levels (i - 1) level
      → among i ≡ settled (found name (frame_of file level)) (among (i - 1))
  among_turn i level positive within is =
      let e : i ≡ suc (i - 1) = omega arith in
      subst (λ (n : ℕ). among n ≡ settled (found name (frame_of file level)) (among (i - 1))) (sym e) (turn (i - 1) level (omega arith) is)

-- the last of a list in place of another
set_last : {A : Type 0} (xs : List A) (x y : A) → set (xs ++ x ∷ []) (length xs) y ≡ xs ++ y ∷ []
set_last [] x y = refl
set_last {A} (a ∷ as') x y = ap (λ (r : List A). a ∷ r) (set_last as' x y)

cut_last : {A : Type 0} (xs : List A) (n : ℕ) (d : A) → length xs ≡ suc n → xs ≡ take n xs ++ get_or xs n d ∷ []
cut_last xs n d e = sym (take_all (suc n) xs (omega arith)) ∙ take-suc xs n d (omega arith)

declared_last : (b : Bound) (levels : List Level) (n : ℕ) (level : Level) → length levels ≡ suc n → level ≡ get_or levels n level
    → reverse (set levels n (record level { names = b ∷ level.names })) ≡ declared_at b (reverse levels)
declared_last b levels n level e is =
    let front : List Level = take n levels in
    let cut : levels ≡ front ++ level ∷ [] = cut_last levels n level e ∙ ap (λ (x : Level). front ++ x ∷ []) (sym is) in
    let long : length front ≡ n = length-take n levels ∙ omega arith in
    let wanted : List Level → ℕ → Type 0 = λ (xs : List Level) (k : ℕ). reverse (set xs k (record level { names = b ∷ level.names })) ≡ declared_at b (reverse xs) in
    subst (λ (xs : List Level). wanted xs n) (sym cut) (subst (λ (k : ℕ). wanted (front ++ level ∷ []) k) long
    (rw (set_last front level (record level { names = b ∷ level.names }), reverse-append, reverse-append) refl))

pub declared_in_last : (b : Bound) (levels : List Level) (count : ℕ) (level new : Level) → 0 < count → length levels ≡ count
    → level ≡ get_or levels (count - 1) level → new ≡ record level { names = b ∷ level.names }
    → reverse (set levels (count - 1) new) ≡ declared_at b (reverse levels)
declared_in_last b levels count level new positive e is made = rw made (declared_last b levels (count - 1) level (omega arith) is)
