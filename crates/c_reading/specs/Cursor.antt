-- What the functions of the parser say of their cursor.
use Rattle.std.specs.Prelude.{◌≡◌, List, [], ◌∷◌, ◌++◌, drop, false, Option, Some, None, Result, Ok, Err}
use denote.Ref.{Bor}
use Rattle.c_language.specs.declared.token.Token.{Token}
use Rattle.c_language.specs.declared.token.TokenKind.{TokenKind}
use Rattle.c_grammar.specs.Parts.{Frame, Scope, State}
use Rattle.c_grammar.specs.Reading.{Reading, ◌>>=◌, begins_by}
use Rattle.c_scope.specs.Local.{scope_of}
use Rattle.c_reading.specs.declared.cursor.Cursor.{Cursor}
use Rattle.c_reading.specs.declared.cursor.Source.{Source}
use Rattle.c_reading.specs.declared.fault.ParseFault.{ParseFault}
use Rattle.c_reading.specs.declared.fault.ParseFault.TheVariants as fault

-- the tokens that are left, and the names in scope
abbrev pub state_of : List Token → Frame → Cursor → State
state_of tokens file c = (drop c.position tokens, scope_of file c.names)

abbrev pub source_of : Bor (List Token) → Bor Frame → Source
source_of tokens file = record { tokens = tokens; file = file }

abbrev pub here : Source → Cursor → State
here source c = state_of source.tokens.now source.file.now c

abbrev pub Fails : {Y : Type 0} → ParseFault → Option Y → Type 0
Fails fault.Memory read = Unit {0}
Fails (fault.Syntax at) read = read ≡ None
Fails (fault.TooDeep at) read = read ≡ None

-- what a function returned, seen by view, is what reading gives, unless memory ran out
abbrev pub Gives : {X Y : Type 0} → (X → Y) → Result X ParseFault → Option Y → Type 0
Gives view (Ok x) read = read ≡ Some (view x)
Gives view (Err e) read = Fails e read

-- the first token, if it is wanted, and the state behind it
abbrev pub taken_by : {A : Type 0} → (TokenKind → Option A) → List Token → Scope → Option (A × State)
taken_by wanted [] scope = None
taken_by wanted (t ∷ rest) scope = wanted t.kind >>= (λ a. Some (a, (rest, scope)))

-- a wanted token was taken, if there is one, and else nothing
abbrev pub Takes : {A : Type 0} → (TokenKind → Option A) → Option A → State → State → Type 0
Takes wanted None s z = (begins_by wanted s.0 ≡ false) × (s ≡ z)
Takes wanted (Some a) s z = taken_by wanted s.0 s.1 ≡ Some (a, z)

-- what was read of a list, with these before it
abbrev pub behind : {A B : Type 0} → List A → Reading (List A × B) → Reading (List A × B)
behind front read = read >>= (λ x. Some ((front ++ x.0.0, x.0.1), x.1))

-- the same of a list whose end says no more
abbrev pub after : {A : Type 0} → List A → Reading (List A) → Reading (List A)
after front read = read >>= (λ x. Some (front ++ x.0, x.1))
