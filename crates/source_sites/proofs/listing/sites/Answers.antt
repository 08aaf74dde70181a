use Rattle.std.proofs.Common.{List, ap, subst, ◌∙◌}
use Rattle.std.proofs.lemmas.Result.{IfOk-weaker}
use Rattle.c_item_notes.specs.Levels.{judged}
use Rattle.c_program_notes.specs.declared.whole.Overview.{Overview}
use Rattle.source_sites.specs.declared.listing.Site.{Site}
use Rattle.source_sites.specs.Sites.{AreInOrder, noted_in}
use Rattle.source_sites.proofs.Noted.{sites_are}
use Rattle.source_sites.proofs.listing.sites.Goals as goal

pub returns : goal.returns
returns c =
    IfOk-weaker c.in_order.result _ _ (λ ordered h. subst (λ (xs : List Site). AreInOrder xs ordered)
    (c.in_ok-found.ensures ∙ ap noted_in c.as_slice.ensures ∙ ap (λ (o : Overview). noted_in o.reached) c.requires
    ∙ sites_are (judged c.args.source.now)) h) c.in_order.ensures
