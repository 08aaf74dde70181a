-- Two levels on which functions below a bound do the same: what calls of such functions do, and all calls by rule.
use Rattle.std.proofs.Common.{◌≡◌, ℕ, ◌+◌, ℤ, negsuc, Bool, true, false, List, [], ◌∷◌, ◌++◌, drop}
use Rattle.std.proofs.Common.{Option, Some, None, refl, ap, ap₂, ◌∙◌}
use Rattle.std.proofs.Math.Path.{fun_ext}
use Rattle.std.specs.Prelude.{nat_lt}
use Rattle.printf_text.specs.declared.piece.Arg.{Arg}
use Rattle.printf_text.specs.declared.piece.Form.{Form}
use Rattle.printf_text.specs.declared.piece.Form.TheVariants as form
use Rattle.printf_text.specs.declared.piece.Piece.{Piece}
use Rattle.printf_text.specs.declared.piece.Piece.TheVariants as piece
use Rattle.printf_text.specs.Texts.{size_of as size_in}
use Rattle.c_store.specs.Store.{Store}
use Rattle.c_means.specs.Parts.{Env, World, Limits}
use Rattle.c_means.specs.Values.{address}
use Rattle.c_means.specs.Calls.{before_args, pointers_in, pointer_places}
use Rattle.core_tree.specs.declared.expr.Callee.{Callee}
use Rattle.core_tree.specs.declared.expr.Callee.TheVariants as callee
use Rattle.core_tree.specs.declared.expr.Fill.{Fill}
use Rattle.core_tree.specs.declared.expr.OutsideAnswer.{OutsideAnswer}
use Rattle.core_tree.specs.declared.expr.OutsideAnswer.TheVariants as answer
use Rattle.core_tree.specs.declared.expr.Pointee.TheVariants as pointee
use Rattle.core_tree.specs.declared.types.ValueType.{ValueType}
use Rattle.core_tree.specs.States.{Taking, Done, Outcome, Calls, Level, entered, meets, returned}
use Rattle.core_tree.specs.Callees.{Spoken, arguments_of, formed_arg, behind_star, star_args, first_value, spoken}
use Rattle.core_tree.specs.Callees.{prints, seen_all, filled, filled_by, fill_count, value_or_zero}
use Rattle.core_tree.specs.Callees.{outside_answer, outside_call, body_call, callee_size, callee_room}
use Rattle.core_tree.specs.Values.{acting}
use Rattle.core_prefix.specs.Calls.{callee_below}

pub ap₃ : {A B C D : Type 0} (f : A → B → C → D) {a a' : A} {b b' : B} {c c' : C}
    → a ≡ a' → b ≡ b' → c ≡ c' → f a b c ≡ f a' b' c'
ap₃ f {a' = a'} {b = b} {b' = b'} {c = c} p q r = ap (λ x. f x b c) p ∙ ap₂ (λ y z. f a' y z) q r

-- ---- two levels

-- What two functions run in that differ in what calls do, unroll to and take, but not where a function below the bound
-- is called.
pub record Levels (O : Type 0) (n : ℕ) : Type 0 where
  pub turns : ℕ
  pub taking : Taking O
  pub world : World
  pub limits : Limits
  pub size : ℕ → ℕ
  pub size_other : ℕ → ℕ
  pub room : ℕ → ℕ
  pub room_other : ℕ → ℕ
  pub call : Option (Calls O)
  pub call_other : Option (Calls O)
  pub sizes : (f : ℕ) → nat_lt f n ≡ true → size f ≡ size_other f
  pub rooms : (f : ℕ) → nat_lt f n ≡ true → room f ≡ room_other f
  pub calls : (f : ℕ) → nat_lt f n ≡ true → (at : ℕ)
      → body_call call taking at f ≡ body_call call_other taking at f

abbrev pub one : {O : Type 0} {n : ℕ} → Levels O n → Level O
one p = record {
  measures = record { turns = p.turns; size = p.size; room = p.room };
  taking = p.taking;
  world = p.world;
  limits = p.limits;
  call = p.call;
}

abbrev pub other : {O : Type 0} {n : ℕ} → Levels O n → Level O
other p = record {
  measures = record { turns = p.turns; size = p.size_other; room = p.room_other };
  taking = p.taking;
  world = p.world;
  limits = p.limits;
  call = p.call_other;
}

-- ---- what a call does at a level

pub record Doing (O : Type 0) : Type 0 where
  pub size : ℕ
  pub room : ℕ
  pub run : Env → List ℤ → ℕ → Done O → Outcome O (Option ℤ)

abbrev pub doing : {O : Type 0} → Level O → Callee → ℕ → ValueType → Doing O
doing l c at type = record {
  size = callee_size c l.measures;
  room = callee_room c l.measures;
  run = λ env vs base d. acting c at type l env vs base d;
}

module _ {O : Type 0} {n : ℕ} (p : Levels O n) where
  -- ---- texts

  formed_agrees : (f : Form) (precision : ℤ) (x : Spoken) (q : ℕ) (s : Store)
      → formed_arg (one p) f precision x q s ≡ formed_arg (other p) f precision x q s
  formed_agrees form.Text precision x q s = refl
  formed_agrees form.Pointer precision x q s = refl
  formed_agrees form.Char precision x q s = refl
  formed_agrees (form.Signed w) precision x q s = refl
  formed_agrees (form.Unsigned radix w) precision x q s = refl

  arguments_agree : (ps : List Piece) (xs : List Spoken) (q : ℕ) (s : Store)
      → arguments_of (one p) ps xs q s ≡ arguments_of (other p) ps xs q s
  arguments_agree [] xs q s = refl
  arguments_agree (piece.Literal bytes ∷ ps) xs q s = arguments_agree ps xs q s
  arguments_agree (piece.Converted c ∷ ps) xs q s =
      let ys = behind_star c.width xs in
      let zs = behind_star c.precision ys in
      ap₂ (before_args (star_args c.width xs ++ star_args c.precision ys))
      (formed_agrees c.form (size_in (negsuc 0) c.precision (star_args c.precision ys)) (first_value zs) q s)
      (arguments_agree ps (drop 1 zs) (q + pointer_places c.form) s)

  arguments_same : (ps : List Piece) → arguments_of (one p) ps ≡ arguments_of (other p) ps
  arguments_same ps = fun_ext (λ xs. fun_ext (λ q. fun_ext (λ s. arguments_agree ps xs q s)))

  -- ---- functions outside

  answer_agrees : (type : ValueType) (x : OutsideAnswer)
      → outside_answer (one p) type x ≡ outside_answer (other p) type x
  answer_agrees type answer.Nothing = refl
  answer_agrees type answer.Number = refl
  answer_agrees type (answer.Pointer never_null pointee.Text) = refl
  answer_agrees type (answer.Pointer never_null (pointee.Bytes size)) = refl

  filled_agrees : (counts : Bool) (at : ℕ) (type : ValueType) (x : OutsideAnswer)
      → filled_by counts (one p) at type x ≡ filled_by counts (other p) at type x
  filled_agrees false at type x =
      ap {B = ℕ → ℕ → ℕ → Done O → Done O}
      (λ (f : ℕ → Done O → Done O) q a m d. filled (one p) at q a m (f q) (meets p.taking (q + 1) 2 d))
      (answer_agrees type x)
  filled_agrees true at type x = refl

  outside_agrees : (at : ℕ) (type : ValueType) (x : OutsideAnswer) (fill : Option Fill)
      → outside_call (one p) at type x fill ≡ outside_call (other p) at type x fill
  outside_agrees at type x None =
      ap {B = List ℤ → ℕ → Done O → Done O} (λ (f : ℕ → Done O → Done O) vs q d. f q d) (answer_agrees type x)
  outside_agrees at type x (Some f) =
      ap {B = List ℤ → ℕ → Done O → Done O}
      (λ (g : ℕ → ℕ → ℕ → Done O → Done O) vs q d. g q (address (value_or_zero vs f.buffer))
      (fill_count (one p) q (address (value_or_zero vs f.length))) d) (filled_agrees f.counts at type x)

  -- ---- all calls

  pub callee_agrees : (c : Callee) (at : ℕ) (type : ValueType) → callee_below n c ≡ true
      → doing (one p) c at type ≡ doing (other p) c at type
  callee_agrees (callee.Body f) at type below =
      ap₃ (λ s r (g : List ℤ → ℕ → Store → O → Option (Done O)). record {
        size = s;
        room = r;
        run = λ env vs base d. returned p.taking d (g vs base d.store d.out);
      }) (p.sizes f below) (p.rooms f below) (p.calls f below at)
  callee_agrees (callee.Log ps before ts watched) at type below =
      ap (λ (g : List Spoken → ℕ → Store → Option (List Arg)). record {
        size = 0;
        room = 4 + pointers_in ps;
        run = λ env vs base d.
            let e = entered p.taking d.store d.out in
            returned p.taking d (prints p.taking at type ps (seen_all env e.store watched)
            (g (drop before (spoken ts vs)) (base + 4) e.store) (meets p.taking (base + 4) (pointers_in ps) e));
      }) (arguments_same ps)
  callee_agrees (callee.Identity i) at type below = refl
  callee_agrees callee.Exit at type below = refl
  callee_agrees callee.Abort at type below = refl
  callee_agrees callee.Malloc at type below = refl
  callee_agrees callee.Calloc at type below = refl
  callee_agrees callee.Free at type below = refl
  callee_agrees (callee.Outside x fill) at type below =
      ap (λ (g : List ℤ → ℕ → Done O → Done O). record {
        size = 0;
        room = 4;
        run = λ env vs base d. returned p.taking d (Some (g vs base (entered p.taking d.store d.out)));
      }) (outside_agrees at type x fill)
