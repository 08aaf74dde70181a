-- What a question leads to. A question is a shape whose value is asked for.
use Rattle.std.specs.Prelude.{◌≡◌, ◌<◌, ◌≤◌, ℕ, List, cond}
use Rattle.plain_data.specs.declared.width.Width.TheVariants.{W8}
use Rattle.term_bank.specs.Memories.{lay}
use Rattle.term_bank.specs.Under.{IsUnder}
use Rattle.mem_terms.specs.Reads.{ReadsAlike}
use Rattle.term_bank.specs.declared.sort.Sort.{Sort}
use Rattle.term_bank.specs.declared.sort.Sort.TheVariants.{Truth}
use Rattle.term_bank.specs.declared.sort.Node.{Node}
use Rattle.term_bank.specs.declared.shape.Shape.{Shape}
use Rattle.term_bank.specs.declared.shape.Shape.TheVariants.{Read, ObjectSize, IsLive, HasKind}
use Rattle.term_bank.specs.Shapes.{Each, IsNode, IsWell, memory, parts, sort_of}
use Rattle.term_bank.specs.Values.{Environment, Worth, Values, Models, worth}
use Rattle.term_bank.specs.Terms.{IsTerm}
use Rattle.flat_reads.specs.declared.choices.Found.{Found}
use Rattle.flat_reads.specs.declared.choices.Found.TheVariants.{Known, Asked}
use Rattle.flat_reads.specs.declared.choices.Choice.{Choice}
use Rattle.flat_reads.specs.Flats.{IsHonest, IsFlatOver}

-- the memory that a question asks
abbrev pub rank : Shape → ℕ
rank (Read w m a) = m
rank (ObjectSize m p) = m
rank (IsLive m a n) = m
rank (HasKind k m p) = m
rank _ = 0

abbrev pub found_worth : Environment → Values → Found → Worth
found_worth e v (Known n) = v n.index
found_worth e v (Asked s) = worth e v s

-- a question: it asks for a byte of a memory, or for an object
abbrev pub IsQuestion : Shape → Type 0
IsQuestion (Read W8 m a) = Unit {0}
IsQuestion (ObjectSize m p) = Unit {0}
IsQuestion (IsLive m a n) = Unit {0}
IsQuestion (HasKind k m p) = Unit {0}
IsQuestion _ = ⊥

-- a question that may be asked, of an earlier memory
pub record IsAsked (shapes : List Shape) (most : ℕ) (s : Sort) (ps : List Node) (question : Shape) : Type 0 where
  pub well : IsWell shapes question
  pub asks : IsQuestion question
  pub sort : sort_of question ≡ s
  pub less : rank question < most
  pub flat : Each (λ p. IsFlatOver shapes ps p.index) (parts question)

pub record IsKnown (shapes : List Shape) (s : Sort) (ps : List Node) (node : Node) : Type 0 where
  pub term : IsTerm shapes s node
  pub flat : IsFlatOver shapes ps node.index

abbrev pub IsFound : List Shape → ℕ → Sort → List Node → Found → Type 0
IsFound shapes most s ps (Known n) = IsKnown shapes s ps n
IsFound shapes most s ps (Asked q) = IsAsked shapes most s ps q

-- in every honest environment the question's value is that of one of two, by the condition
pub record IsChoice (shapes : List Shape) (question : Shape) (choice : Choice) : Type 0 where
  pub condition : IsTerm shapes Truth choice.condition
  pub flat : IsFlatOver shapes (parts question) choice.condition.index
  pub yes : IsFound shapes (rank question) (sort_of question) (parts question) choice.yes
  pub no : IsFound shapes (rank question) (sort_of question) (parts question) choice.no
  pub value : (e : Environment) (v : Values) → IsHonest e → Models shapes e v → worth e v question ≡ cond (v choice.condition.index).truth (found_worth e v choice.yes) (found_worth e v choice.no)

-- the question's value is that of what was found
pub record Leads (shapes : List Shape) (question : Shape) (found : Found) : Type 0 where
  pub found_stands : IsFound shapes (rank question) (sort_of question) (parts question) found
  pub value : (e : Environment) (v : Values) → IsHonest e → Models shapes e v → worth e v question ≡ found_worth e v found

-- the question for the byte of a memory at an address, asked of an earlier memory that has the same byte there
pub record Asks (shapes : List Shape) (m : ℕ) (a : Node) (found : Found) : Type 0 where
  pub seen : ℕ
  pub is : found ≡ Asked (Read W8 seen a.index)
  pub stands : IsNode shapes (memory seen)
  pub most : seen ≤ m
  pub under : IsUnder shapes m seen
  pub alike : ReadsAlike shapes 1 a m seen

-- what a memory has: other bytes at so many addresses
pub record IsLaid (shapes : List Shape) (m to old : ℕ) (n : Values → ℕ) (f : Values → ℕ → ℕ) : Type 0 where
  pub is : (e : Environment) (v : Values) → Models shapes e v → (v m).store ≡ lay (v to).word (n v) (f v) (v old).store
