-- Questions for an object of a memory: whether bytes are of it while it lives, and of which kind and size it is.
use Rattle.std.specs.Prelude.{◌≡◌, ◌<◌, ◌≤◌, ◌+◌, ◌%◌, ◌^◌, ℕ, List, [], ◌∷◌, Option, cond, nat_eq, false}
use Rattle.plain_data.specs.Words.{bits}
use Rattle.plain_data.specs.declared.width.Width.TheVariants.{W64}
use Rattle.c_store.specs.declared.object.Object.{Object}
use Rattle.c_store.specs.Store.{object_of, offset_of, size_in}
use Rattle.c_store.specs.Access.{reaches}
use Rattle.term_bank.specs.Memories.{has_kind}
use Rattle.term_bank.specs.declared.sort.Sort.{Sort}
use Rattle.term_bank.specs.declared.sort.Sort.TheVariants.{Truth, Word}
use Rattle.term_bank.specs.declared.sort.Node.{Node}
use Rattle.term_bank.specs.declared.shape.Shape.{Shape}
use Rattle.term_bank.specs.declared.shape.Shape.TheVariants.{ObjectSize, IsLive, HasKind}
use Rattle.term_bank.specs.Shapes.{IsNode, memory, word}
use Rattle.term_bank.specs.Under.{IsUnder}
use Rattle.term_bank.specs.Values.{Environment, Worth, Values, Models, of_truth, of_word}
use Rattle.flat_reads.specs.declared.objects.ObjectQuestion.{ObjectQuestion}
use Rattle.flat_reads.specs.declared.objects.ObjectQuestion.TheVariants.{Live, Kind, Size}

-- the question as a shape, of a memory
abbrev pub asked_of : ℕ → ObjectQuestion → Shape
asked_of m (Live a n) = IsLive m a n
asked_of m (Kind k p) = HasKind k m p
asked_of m (Size p) = ObjectSize m p

-- its parts beside the memory
abbrev pub operands : ObjectQuestion → List Node
operands (Live a n) = word W64 a ∷ (word W64 n ∷ [])
operands (Kind k p) = word W64 p ∷ []
operands (Size p) = word W64 p ∷ []

abbrev pub sort_in : ObjectQuestion → Sort
sort_in (Live a n) = Truth
sort_in (Kind k p) = Truth
sort_in (Size p) = Word W64

-- the number of the object that it asks for
abbrev pub object_in : Values → ObjectQuestion → ℕ
object_in v (Live a n) = object_of (v a).word
object_in v (Kind k p) = (v p).word
object_in v (Size p) = (v p).word

-- what it is worth, by the live object of that number, if there is one
abbrev pub told : Values → ObjectQuestion → Option Object → Worth
told v (Live a n) o = of_truth (reaches o (offset_of (v a).word + (v n).word))
told v (Kind k p) o = of_truth (has_kind k o)
told v (Size p) o = of_word (size_in o % 2 ^ bits W64)

-- in every environment the question asks for the object of this number
pub record IsNumbered (shapes : List Shape) (question : ObjectQuestion) (number : ℕ) : Type 0 where
  pub is : (e : Environment) (v : Values) → Models shapes e v → object_in v question ≡ number

-- in every environment the question asks for an object of another number than the node's
pub record AsksOther (shapes : List Shape) (question : ObjectQuestion) (object : ℕ) : Type 0 where
  pub other : (e : Environment) (v : Values) → Models shapes e v → nat_eq (object_in v question) (v object).word ≡ false

-- two memories have the same object where the question asks for one
pub record HasSameObject (shapes : List Shape) (question : ObjectQuestion) (one other : ℕ) : Type 0 where
  pub same : (e : Environment) (v : Values) → Models shapes e v → (v one).store.objects (object_in v question) ≡ (v other).store.objects (object_in v question)

-- an earlier memory that has the same object where the question asks for one
pub record IsEarlier (shapes : List Shape) (question : ObjectQuestion) (now before : ℕ) : Type 0 where
  pub smaller : before < now
  pub stands : IsNode shapes (memory before)
  pub same : HasSameObject shapes question now before
  pub under : IsUnder shapes now before

-- the question, asked of a memory that isn't later and has the same object
pub record AsksObject (shapes : List Shape) (m : ℕ) (question : ObjectQuestion) (asked : Shape) : Type 0 where
  pub seen : ℕ
  pub is : asked ≡ asked_of seen question
  pub stands : IsNode shapes (memory seen)
  pub most : seen ≤ m
  pub same : HasSameObject shapes question m seen
  pub under : IsUnder shapes m seen

-- what a memory has: another object, or none, of one number
pub record IsSet (shapes : List Shape) (m p old : ℕ) (o : Values → Option Object) : Type 0 where
  pub is : (e : Environment) (v : Values) → Models shapes e v → (i : ℕ) → (v m).store.objects i ≡ cond (nat_eq i (v p).word) (o v) ((v old).store.objects i)
