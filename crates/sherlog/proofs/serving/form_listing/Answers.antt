use Rattle.std.proofs.lemmas.Result.{err_from_is_err_and}
use Rattle.sherlog.proofs.Outputs.{listing_formed, not_formed}
use Rattle.sherlog.proofs.serving.form_listing.Goals as goal

pub returns-in_err-sites : goal.returns-in_err-sites
returns-in_err-sites g c =
    let p = err_from_is_err_and c.from_residual-in_err-sites.result c.from_residual-in_err-sites.ensures.1 in
    rw p.1 (not_formed _ _ _ c.in_ok-config.field-0 _ _ c.in_ok-config.ensures
    (rw c.as_slice.ensures at c.in_err-sites.ensures).refused p.2)

pub returns : goal.returns
returns g c =
    listing_formed _ _ _ c.in_ok-config.field-0 c.in_ok-sites.sites c.written.result c.requires c.in_ok-config.ensures
    (rw c.as_slice.ensures at c.in_ok-sites.ensures)
    (rw c.written.ensures.text (rw (c.get.ensures, c.as_slice-2.ensures) at c.in_ok-text.ensures))
    c.written.ensures.end c.written.ensures.status
