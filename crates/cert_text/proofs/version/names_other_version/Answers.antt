use Rattle.cert_text.proofs.VersionLemmas.{first_names}
use Rattle.cert_text.proofs.version.names_other_version.Goals as goal

pub returns : goal.returns
returns c =
    let both = first_names c.args.bytes.now c.line_len.result c.line_len.ensures.value in
    (λ h. both.0 (c.is_other_version.ensures.0 h), λ h. c.is_other_version.ensures.1 (both.1 h))
