-- A part of a form that was taken as a value.
use Rattle.std.proofs.Common.{◌≡◌, Result, IfOk, IsOkAnd}
use Rattle.plain_data.proofs.Tried.{of_one}
use Rattle.std.specs.declared.alloc.AllocError.{AllocError}
use Rattle.c_language.specs.declared.expr.Expr.{Expr}
use Rattle.c_language.specs.Scopes.{Scope}
use Rattle.c_language.specs.Typing.{used_told}
use Rattle.c_means.specs.declared.profile.Profile.{Profile}
use Rattle.c_notes.specs.declared.notes.NotedExpr.{NotedExpr}
use Rattle.c_notes.specs.Relations.{IsNoted}
use Rattle.c_notes.proofs.EachForm.{of-child}

-- a part that was taken as a value, with what was found of it before
pub record WasValued (p : Profile) (e : Expr) (s : Scope) (u : NotedExpr) (s1 : Scope) : Type 0 where
  pub part : NotedExpr
  pub noted : IsNoted p e s part s1
  pub is : u ≡ record part { told = used_told s1.tables part.told }

pub valued : (p : Profile) (e e' : Expr) (s s1 : Scope) (x u : Result NotedExpr AllocError) →
    IfOk x (λ v. IsNoted p e s v s1) → e ≡ e' →
    IfOk u (λ w. IsOkAnd x (λ v. w ≡ record v { told = used_told s1.tables v.told })) →
    IfOk u (λ w. WasValued p e' s w s1)
valued p e e' s s1 x u found same said =
    of_one x u (λ v. IsNoted p e s v s1) (λ w v. w ≡ record v { told = used_told s1.tables v.told })
    (λ w. WasValued p e' s w s1) found said (λ v w h is. record {
      part = v;
      noted = of-child s h same;
      is = is;
    })
