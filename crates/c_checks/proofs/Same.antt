-- The lists of broken rules that the contracts speak of are those that `c_means` has of its items and sites.
use Rattle.std.proofs.Common.{◌≡◌, ℕ, ◌++◌, length, Some, None, refl}
use Rattle.c_language.specs.Scopes.{Name}
use Rattle.c_language.specs.Typing.{told_of}
use Rattle.c_means.specs.Parts.{Site}
use Rattle.c_means.specs.declared.profile.FillFunction.{FillFunction}
use Rattle.c_means.specs.declared.profile.LogText.{LogText}
use Rattle.c_means.specs.declared.profile.LogText.TheVariants as log_
use Rattle.c_means.specs.Notes.{Noted}
use Rattle.c_means.specs.Items.{Code, Context}
use Rattle.c_means.specs.Programs.{Function}
use Rattle.c_means.specs.Statements as statements
use Rattle.c_means.specs.Checks as checks
use Rattle.c_checks.specs.Rules as rules
use Rattle.c_checks.specs.Calls as calls

-- ---- statements

pub condition : (at : ℕ) (x : Noted) →
    rules.condition_breaches at x.part.typed ≡ statements.condition_breaches at x
condition at x = refl

pub switch : (at : ℕ) (x : Noted) → rules.switch_breaches at x.part.typed ≡ statements.switch_breaches at x
switch at x = refl

pub compared : (x : Noted) → rules.switch_kind x.part.typed ≡ statements.switch_kind x
compared x = refl

pub case : (at : ℕ) (x : Noted) (c : Context) →
    rules.case_breaches at (told_of x.part.typed) c.chooses ≡ statements.case_breaches at x c
case at x c = refl

pub bare_return : (at : ℕ) (c : Context) →
    rules.bare_return_breaches at c.result ≡ (statements.return_of at None c).breaches
bare_return at c = refl

pub value_return : (at : ℕ) (x : Noted) (c : Context) →
    rules.return_value_breaches at c.result x.part.typed ≡ (statements.value_return at x c).breaches
value_return at x c = refl

pub goto : (at : ℕ) (name : Name) (c : Context) →
    rules.goto_breaches at name c.labels ≡ (statements.goto_of at name c).breaches
goto at name c = refl

pub labeled : (at : ℕ) (name : Name) (body : Code) (c : Context) →
    rules.label_breaches at name c.every ++ (body.here c).breaches
    ≡ ((statements.labeled at name body).here c).breaches
labeled at name body c = refl

pub default : (at : ℕ) (body : Code) (c : Context) →
    rules.default_breaches at c.chooses ++ (body.here c).breaches
    ≡ ((statements.default_labeled at body).here c).breaches
default at body c = refl

-- ---- calls

pub identity : (i : ℕ) (g : Site) → calls.identity_breaches g.at g.types i ≡ checks.identity_breaches i g
identity i g = refl

pub body : (f : Function) (g : Site) →
    calls.body_breaches g.at g.types (length f.parameters) ≡ checks.body_breaches f g
body f g = refl

pub fill : (f : FillFunction) (g : Site) →
    calls.fill_breaches g.at g.types f.buffer f.length ≡ checks.fill_breaches (Some f) g
fill f g = refl

pub log : (text : LogText) (g : Site) → calls.log_breaches g.at g.texts g.types text ≡ checks.log_breaches text g
log (log_.Format i newline) g = refl
log (log_.Text format) g = refl
