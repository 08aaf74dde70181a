use Rattle.std.proofs.Common.{◌∙◌, ◌∷◌, ℕ, [], get_or, ap, sym, take}
use Rattle.std.proofs.lemmas.List.{get_or_default, take_all}
use Rattle.plain_data.specs.declared.fact.Fact.TheVariants as fact
use Rattle.program_facts.specs.Entries.{Entry, with_all}
use Rattle.program_facts.specs.Prints.{print_entries}
use Rattle.program_facts.proofs.Gathering.{behind, mapped_more}
use Rattle.program_facts.proofs.prints.put_line_prints.Goals as goal

pub lines-preserved : goal.lines-preserved
lines-preserved c =
    let at = c.args.at in
    let shown = c.args.shown.now in
    let lines = c.args.lines.now in
    let i = c.lines.line-index in
    let line = get_or lines i 0 in
    let entry : ℕ → Entry = λ n. record { fact = fact.Print at n; shown = shown } in
    behind c.args.out.now (print_entries at shown (take i lines)) (entry line ∷ []) c.lines.out c.put_print.new.out c.lines.invariant c.in_ok-put_print.ensures
    ∙ ap (with_all c.args.out.now) (sym (mapped_more entry lines i line c.lines-test.true (get_or_default lines i 0 line c.lines-test.true)))

pub returns : goal.returns
returns c =
    c.lines.invariant ∙ ap (λ ls. with_all c.args.out.now (print_entries c.args.at c.args.shown.now ls)) (take_all c.lines.line-index c.args.lines.now c.lines-test.false)
