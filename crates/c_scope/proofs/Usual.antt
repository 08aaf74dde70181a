-- Where only the outermost block may have the names of the file besides.
use Rattle.std.proofs.Common.{◌≡◌, refl, ap, sym, subst, ◌∙◌, ◌<◌, List, [], ◌∷◌, ◌++◌, length, set, get_or, reverse, map, Bool, true, false, arith, Option, Some, None, ◌↔◌}
use Rattle.std.specs.Prelude.{IfSome, IsSomeAnd}
use Rattle.std.proofs.lemmas.List.{reverse-append, length-reverse}
use Rattle.c_grammar.specs.Parts.{Name, Bound, Frame, same_name, or_else, is_type_in, is_type_among}
use Rattle.c_scope.specs.Local.{Level, over, frame_of, found, declared_at}
use Rattle.c_scope.specs.Known.{flat, Knows, OutermostAlone, IsUsual}
use Rattle.c_scope.specs.declared.known.Known.{Known}
use Rattle.c_scope.proofs.Found.{settled, is_type_in_found}

-- ---- a name is declared

alone_declared : (b : Bound) (in_file : Bool) (levels : List Level) → OutermostAlone in_file levels → OutermostAlone in_file (declared_at b levels)
alone_declared b in_file [] alone = alone
alone_declared b in_file (l ∷ []) alone = alone
alone_declared b in_file (l ∷ m ∷ ls) alone = alone

flat_declared : (b : Bound) (levels : List Level) → 0 < length levels → flat (declared_at b levels) ≡ b ∷ flat levels
flat_declared b [] some = absurd (omega (arith, some))
flat_declared b (l ∷ ls) some = refl

pub usual_declared : (b : Bound) (in_file : Option Bool) (levels more : List Level) (before after : Known) → 0 < length levels
    → ((outer : Frame) → Knows before outer → Knows after (b ∷ outer)) → reverse more ≡ declared_at b (reverse levels)
    → IfSome in_file (IsUsual before (reverse levels)) → IfSome in_file (IsUsual after (reverse more))
usual_declared b None levels more before after some notes is usual = tt
usual_declared b (Some in_file) levels more before after some notes is usual =
    rw is (
      alone_declared b in_file (reverse levels) usual.0,
      subst (λ (names : Frame). Knows after names) (sym (flat_declared b (reverse levels) (rw length-reverse some))) (notes (flat (reverse levels)) usual.1),
    )

-- ---- a block is entered, is left

pub usual_entered : (level : Level) (over_file is_first : Bool) (old new : Option Bool) (levels more : List Level) (before after : Known)
    → IfSome new (λ after. IsSomeAnd old (λ before. (level : Level) (levels : List Level) → level.over_file ≡ over_file → (is_first ≡ true → levels ≡ []) → OutermostAlone before levels → OutermostAlone after (level ∷ levels)))
    → level.over_file ≡ over_file → (is_first ≡ true → reverse levels ≡ []) → ((outer : Frame) → Knows before outer → Knows after (level.names ++ outer))
    → more ≡ levels ++ level ∷ [] → IfSome old (IsUsual before (reverse levels)) → IfSome new (IsUsual after (reverse more))
usual_entered level over_file is_first old None levels more before after goes is first notes grows usual = tt
usual_entered level over_file is_first None (Some new) levels more before after goes is first notes grows usual = absurd goes
usual_entered level over_file is_first (Some old) (Some new) levels more before after goes is first notes grows usual =
    rw (grows, reverse-append) (goes level (reverse levels) is first usual.0, notes (flat (reverse levels)) usual.1)

pub usual_left : (level : Level) (was_last : Bool) (old new : Option Bool) (levels rest : List Level) (before after : Known)
    → IfSome new (λ after. IsSomeAnd old (λ before. (level : Level) (levels : List Level) → ((was_last ≡ true) ↔ (levels ≡ [])) → OutermostAlone before (level ∷ levels) → OutermostAlone after levels))
    → ((was_last ≡ true) ↔ (reverse rest ≡ [])) → ((outer : Frame) → Knows before (level.names ++ outer) → Knows after outer)
    → levels ≡ rest ++ level ∷ [] → IfSome old (IsUsual before (reverse levels)) → IfSome new (IsUsual after (reverse rest))
usual_left level was_last old None levels rest before after goes last undoes shrinks usual = tt
usual_left level was_last None (Some new) levels rest before after goes last undoes shrinks usual = absurd goes
usual_left level was_last (Some old) (Some new) levels rest before after goes last undoes shrinks usual =
    let was : IsUsual before (level ∷ reverse rest) old =
    subst (λ (ls : List Level). IsUsual before ls old) (ap reverse shrinks ∙ reverse-append rest (level ∷ [])) usual in
    (goes level (reverse rest) last was.0, undoes (flat (reverse rest)) was.1)

-- ---- the one block loses its names

one_usual : (l level new : Level) (in_file : Bool) (before after : Known) → level ≡ l → new ≡ record level { names = [] }
    → ((outer : Frame) → Knows before (level.names ++ outer) → Knows after outer) → IsUsual before (l ∷ []) in_file → IsUsual after (new ∷ []) in_file
one_usual l level new in_file before after is made undoes usual = (
  ap (λ (x : Level). x.over_file) (made) ∙ ap (λ (x : Level). x.over_file) is ∙ usual.0,
  subst (λ (x : Level). Knows after (x.names ++ [])) (sym made) (undoes [] (subst (λ (x : Level). Knows before (x.names ++ [])) (sym is) usual.1)),
)

pub usual_moved : (in_file : Option Bool) (levels : List Level) (level new : Level) (before after : Known) → length levels ≡ 1 → level ≡ get_or levels 0 level
    → new ≡ record level { names = [] } → ((outer : Frame) → Knows before (level.names ++ outer) → Knows after outer)
    → IfSome in_file (IsUsual before (reverse levels)) → IfSome in_file (IsUsual after (reverse (set levels 0 new)))
usual_moved None levels level new before after one is made undoes usual = tt
usual_moved (Some in_file) [] level new before after one is made undoes usual = absurd (omega (arith, one))
usual_moved (Some in_file) (l ∷ []) level new before after one is made undoes usual = one_usual l level new in_file before after is made undoes usual
usual_moved (Some in_file) (l ∷ m ∷ ls) level new before after one is made undoes usual = absurd (omega (arith, one))

-- ---- what a name is

in_append : (name : Name) (names more : Frame) (rest : Bool) → is_type_in name (names ++ more) rest ≡ is_type_in name names (is_type_in name more rest)
in_append name [] more rest = refl
in_append name (b ∷ bs) more rest = ap (λ (r : Bool). or_else (same_name name b.name) b.is_type r) (in_append name bs more rest)

-- what the file says of a name that no block declares
abbrev pub behind : Bool → Name → Frame → Bool
behind true name file = is_type_in name file false
behind false name file = false

one_among : (name : Name) (file names : Frame) (in_file : Bool) → is_type_in name (over in_file file names) false ≡ is_type_in name (names ++ []) (behind in_file name file)
one_among name file names true = in_append name names file false ∙ sym (in_append name names [] (is_type_in name file false))
one_among name file names false = sym (in_append name names [] false)

pub usual_among : (name : Name) (file : Frame) (in_file : Bool) (levels : List Level) → OutermostAlone in_file levels
    → is_type_among name (map (frame_of file) levels) ≡ is_type_in name (flat levels) (behind in_file name file)
usual_among name file in_file [] alone = ap (λ (b : Bool). behind b name file) (sym alone)
usual_among name file in_file (l ∷ []) alone =
    ap (λ (b : Bool). is_type_in name (over b file l.names) false) alone ∙ one_among name file l.names in_file
usual_among name file in_file (l ∷ m ∷ ls) alone =
    ap (λ (b : Bool). is_type_in name (over b file l.names) (is_type_among name (map (frame_of file) (m ∷ ls)))) alone.0
    ∙ ap (λ (r : Bool). is_type_in name l.names r) (usual_among name file in_file (m ∷ ls) alone.1)
    ∙ sym (in_append name l.names (flat (m ∷ ls)) (behind in_file name file))

pub usual_is : (name : Name) (file : Frame) (in_file : Bool) (levels : List Level) (o : Option Bool) → OutermostAlone in_file levels → o ≡ found name (flat levels)
    → is_type_among name (map (frame_of file) levels) ≡ settled o (behind in_file name file)
usual_is name file in_file levels o alone is =
    usual_among name file in_file levels alone ∙ is_type_in_found name (flat levels) (behind in_file name file)
    ∙ ap (λ (o : Option Bool). settled o (behind in_file name file)) (sym is)
