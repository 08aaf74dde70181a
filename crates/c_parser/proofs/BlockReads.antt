-- A block as a function's body.
use Rattle.std.proofs.Common.{◌≡◌, ℕ, List, [], ◌∷◌, Bool, Some, None, refl, sym, ap, ◌∙◌}
use Rattle.c_language.specs.declared.token.Token.{Token}
use Rattle.c_language.specs.declared.unit.Stmt.{Stmt}
use Rattle.c_language.specs.declared.unit.Body.{Body}
use Rattle.c_language.specs.declared.unit.Body.TheVariants as body
use Rattle.c_grammar.specs.Parts.{Scope}
use Rattle.c_grammar.specs.Reading.{Reading}
use Rattle.c_grammar.specs.UnitReading.{is_end}
use Rattle.c_reading.specs.declared.fault.ParseFault.{ParseFault}
use Rattle.c_reading.specs.declared.fault.ParseFault.TheVariants as fault
use Rattle.c_reading.specs.Cursor.{Fails, Gives}
use Rattle.c_parser.specs.Bodies.{body_of, found_by, unread_by}

by_end : (at : ℕ) (x : Stmt) (ts : List Token) (scope : Scope)
    → found_by (is_end ts) x at ≡ body_of at (Some (x, (ts, scope)))
unfolding body_of
by_end at x [] scope = refl
by_end at x (t ∷ ts) scope = refl

pub found_gives : (at : ℕ) (is_whole : Bool) (x : Stmt) (ts : List Token) (scope : Scope) (read : Reading Stmt)
    → is_whole ≡ is_end ts → read ≡ Some (x, (ts, scope)) → found_by is_whole x at ≡ body_of at read
found_gives at is_whole x ts scope read whole is = ap (λ b. found_by b x at) whole ∙ by_end at x ts scope
    ∙ ap (body_of at) (sym is)

unread_none : (at : ℕ) (read : Reading Stmt) → read ≡ None → body_of at read ≡ body.Unread at
unfolding body_of
unread_none at read none = rw none refl

pub unread_gives : (at : ℕ) (f : ParseFault) (read : Reading Stmt) → Fails f read
    → Gives (λ (b : Body). b) (unread_by f at) (Some (body_of at read))
unread_gives at fault.Memory read fails = tt
unread_gives at (fault.Syntax p) read fails = ap Some (unread_none at read fails)
unread_gives at (fault.TooDeep p) read fails = ap Some (unread_none at read fails)
