-- How many parameters a function of the prelude has, by its name and type: as it is told of calls.
use Rattle.std.proofs.Common.{◌≡◌, ℕ, Bool, true, false, cond, List, [], ◌∷◌, length, Option, Some, None, refl, sym, ap, ◌∙◌}
use Rattle.std.specs.Prelude.{option_map}
use Rattle.std.specs.Cmp.Lexicographic.{bytes_decides}
use Rattle.std.specs.Str.{bytes_eq}
use Rattle.c_language.specs.Scopes.{Name}
use Rattle.c_means.specs.Prelude.{prelude_functions}
use Rattle.c_means.specs.Programs.{Function, function_named}
use Rattle.c_means.specs.Rules.{Taking, declared_taking, same_taking}
use Rattle.c_means.specs.Runs.{prelude_if}
use Rattle.c_notes.specs.CallsTold.{prelude_count}
use Rattle.c_prelude.specs.Heads.{Head, head_of, head_named}
use Rattle.c_prelude.specs.Heads as heads
use Rattle.c_prelude.proofs.Heads.{prelude_head}

both_ways : (b c : Bool) → (b ≡ true → c ≡ true) → (c ≡ true → b ≡ true) → b ≡ c
both_ways true c h k = sym (h refl)
both_ways false true h k = k refl
both_ways false false h k = refl

flip : (x y : Name) → bytes_eq x y ≡ bytes_eq y x
flip x y =
    both_ways (bytes_eq x y) (bytes_eq y x) (λ e. (bytes_decides y x).1 (sym ((bytes_decides x y).0 e)))
    (λ e. (bytes_decides x y).1 (sym ((bytes_decides y x).0 e)))

-- ---- by its head

abbrev head_if : Option Taking → Option Head → Option ℕ
head_if t None = None
head_if t (Some h) = cond (same_taking t h.taking) (Some h.parameters) None

abbrev count : Function → ℕ
count f = length f.parameters

if_taken : (b : Bool) (f : Function) → option_map count (cond b (Some f) None) ≡ cond b (Some (count f)) None
if_taken true f = refl
if_taken false f = refl

taken : (t : Option Taking) (o : Option Function) →
    option_map count (prelude_if t o) ≡ head_if t (option_map head_of o)
taken t None = refl
taken t (Some f) = if_taken (same_taking t (declared_taking f.inside.tables f.means)) f

next : (t : Option Taking) (h : Head) (name : Name) (o : Option Head) (n : Option ℕ) → head_if t o ≡ n →
    head_if t (cond (bytes_eq h.name name) (Some h) o) ≡ cond (bytes_eq name h.name) (head_if t (Some h)) n
next t h name o n rest =
    by (bytes_eq h.name name) ∙ ap (λ b. cond b (head_if t (Some h)) n) (flip h.name name)
  where
    by : (b : Bool) → head_if t (cond b (Some h) o) ≡ cond b (head_if t (Some h)) n
    by true = refl
    by false = rest

counts : (t : Option Taking) (name : Name) → head_if t (head_named heads.heads name) ≡ prelude_count t name
counts t name =
    next t heads.strlen name _ _ (next t heads.strcmp name _ _ (next t heads.strncmp name _ _
    (next t heads.strchr name _ _ (next t heads.strcpy name _ _ (next t heads.strcat name _ _
    (next t heads.memset name _ _ (next t heads.memcpy name _ _ (next t heads.atoi name _ _ refl))))))))

pub prelude_counts : (t : Option Taking) (name : Name) →
    option_map count (prelude_if t (function_named prelude_functions name)) ≡ prelude_count t name
prelude_counts t name =
    taken t (function_named prelude_functions name) ∙ ap (head_if t) (prelude_head name) ∙ counts t name
