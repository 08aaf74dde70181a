use Rattle.std.proofs.Common.{◌≡◌, ◌<◌, ◌∙◌, ◌++◌, ◌∷◌, [], length, get_or, set, refl, ap, sym, subst}
use Rattle.log_expr.specs.declared.table.Entry.{Entry}
use Rattle.log_expr.specs.Tables.{ends_at, Puts}
use Rattle.log_expr.proofs.TableLaws.{puts, puts_after, any_default}
use Rattle.log_expr.proofs.table.EndTable.put.Goals as goal

pub returns : goal.returns
returns c =
    let a = c.args in
    let rows = c.self.inside.rows.items in
    let x : Entry = record { function = a.function; depth = a.depth; ends = a.ends } in
    let within : a.start < length rows = subst (λ l. a.start < length l) (sym c.self.view_is) c.in_ok-reach.ensures.within in
    let row : c.index_mut-row.result.now ≡ get_or rows a.start [] = c.index_mut-row.ensures.value ∙ any_default rows a.start c.index_mut-row.result.now [] within in
    puts_after a.self.now rows (set rows a.start c.push.new.self) a.function a.depth a.start a.ends
    (λ g d i. ap (λ l. ends_at l g d i) c.self.view_is ∙ c.in_ok-reach.ensures.same g d i)
    (subst (λ r. Puts a.function a.depth a.start a.ends rows (set rows a.start r)) (sym (c.in_ok-push.ensures.ok ∙ ap (λ r. r ++ x ∷ []) row))
    (puts rows a.function a.depth a.start x within refl refl
    (ap (λ l. ends_at l a.function a.depth a.start) c.self.view_is ∙ c.in_ok-reach.ensures.same a.function a.depth a.start ∙ c.requires)))
