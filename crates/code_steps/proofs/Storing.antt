-- What the machine's leaf operations do, as the core has it.
use Rattle.std.proofs.Common.{◌≡◌, ℕ, ℤ, Bool, true, false, Ok, Err, Result, refl, sym, ap, subst, ◌∙◌}
use Rattle.std.specs.Prelude.{is_err}
use Rattle.plain_data.specs.declared.width.Width.{Width}
use Rattle.c_language.specs.declared.class.Class.{Class}
use Rattle.c_language.specs.declared.class.Class.TheVariants as class
use Rattle.c_language.specs.declared.ctype.IntegerKind.{IntegerKind}
use Rattle.c_language.specs.declared.ctype.IntegerKind.TheVariants as k
use Rattle.c_language.specs.Integers.{is_bool, converted, bytes_of}
use Rattle.c_store.specs.Store.{write}
use Rattle.c_means.specs.Parts.{State, Outcome, with_store}
use Rattle.c_means.specs.Values as values
use Rattle.c_means.specs.Objects.{put_as}
use Rattle.c_machine.specs.declared.halt.Halt.{Halt}
use Rattle.c_machine.specs.declared.value.Value.{Value}
use Rattle.c_machine.specs.States.{RunsWorth}
use Rattle.c_machine.specs.Worth.{worth}
use Rattle.core_tree.specs.declared.types.ValueType.{ValueType}
use Rattle.core_tree.specs.declared.types.ValueType.TheVariants as v
use Rattle.core_tree.specs.declared.types.WordType.{WordType}
use Rattle.core_tree.specs.Numbers as core
use Rattle.core_tree.specs.Memory.{stored}
use Rattle.elaborate.specs.Means.{as_done, SameType}
use Rattle.elaborate.specs.Types.{word_type, integer_type}
use Rattle.elaborate.proofs.Numbers.{wrapped_same}
use Rattle.elaborate.proofs.Objects.{same_integer}
use Rattle.code_steps.specs.Stores.{StoresAs}

from_same : (c : Class) (n : ℕ) (t : ValueType) → SameType c n t → StoresAs c n t
from_same c n t h = record { size = h.size; bytes = h.bytes; converted = h.converted }

no_bool : (kind : IntegerKind) → is_bool kind ≡ false → integer_type kind ≡ v.Word (word_type kind)
no_bool k.Bool h = absurd cc
no_bool k.Char h = refl
no_bool k.SignedChar h = refl
no_bool k.UnsignedChar h = refl
no_bool k.Short h = refl
no_bool k.UnsignedShort h = refl
no_bool k.Int h = refl
no_bool k.UnsignedInt h = refl
no_bool k.Long h = refl
no_bool k.UnsignedLong h = refl
no_bool k.LongLong h = refl
no_bool k.UnsignedLongLong h = refl

pub stores_void : StoresAs class.Void 0 v.Void
stores_void = record { size = refl; bytes = λ z. refl; converted = λ z. refl }

pub stores_truth : StoresAs (class.Integer k.Bool) 1 v.Truth
stores_truth = from_same _ _ _ (same_integer k.Bool)

pub stores_word : (kind : IntegerKind) (t : WordType) → word_type kind ≡ t → is_bool kind ≡ false
    → StoresAs (class.Integer kind) (bytes_of kind) (v.Word t)
stores_word kind t is h =
    let same : integer_type kind ≡ v.Word t = no_bool kind h ∙ ap v.Word is in
    subst (λ t. StoresAs (class.Integer kind) (bytes_of kind) t) same
    (from_same (class.Integer kind) (bytes_of kind) (integer_type kind) (same_integer kind))

pub stores_pointer : StoresAs class.Pointer 8 v.Pointer
stores_pointer = record { size = refl; bytes = λ z. refl; converted = λ z. refl }

pub stores_block : (n : ℕ) → StoresAs (class.Aggregate 0) n (v.Block n)
stores_block n = record { size = refl; bytes = λ z. refl; converted = λ z. refl }

pub wrapped_by : (kind : IntegerKind) (t : WordType) (z : ℤ) → word_type kind ≡ t → is_bool kind ≡ false
    → converted kind z ≡ core.wrapped t z
wrapped_by kind t z is h = sym (wrapped_same kind h z) ∙ ap (λ t. core.wrapped t z) is

-- a value that was put into an object that is there was stored
pub put_stores : (c : Class) (n : ℕ) (t : ValueType) (a : ℕ) (z y : ℤ) (d e : State) → StoresAs c n t
    → put_as c n 0 0 true a (values.converted_to c z) d ≡ Ok (y, e) → as_done e ≡ stored t a z (as_done d)
put_stores c n t a z y d e h is =
    let whole : ℕ → ℕ → State = λ m w. with_store (write m a w d.store) d in
    let there : whole n (values.bytes_of_value c (values.converted_to c z)) ≡ e = ap left_of is in
    sym (ap as_done there)
    ∙ ap (λ x. as_done (whole n (values.bytes_of_value c x))) (sym (h.converted z))
    ∙ ap (λ w. as_done (whole n w)) (sym (h.bytes (core.converted_to t z)))
    ∙ ap (λ m. as_done (whole m (core.bytes_of_value t (core.converted_to t z)))) (sym h.size)
  where
    left_of : Outcome ℤ → State
    left_of (Ok x) = x.1
    left_of (Err x) = x

pub put_ok : (c : Class) (n : ℕ) (t : ValueType) (a : ℕ) (z : ℤ) (r : Result Value Halt) (d e : State)
    → StoresAs c n t → is_err r ≡ false
    → RunsWorth r e (put_as c n 0 0 true a (values.converted_to c z) d) → as_done e ≡ stored t a z (as_done d)
put_ok c n t a z (Ok v) d e h ok ran = put_stores c n t a z (worth v) d e h ran
put_ok c n t a z (Err x) d e h ok ran = absurd cc
