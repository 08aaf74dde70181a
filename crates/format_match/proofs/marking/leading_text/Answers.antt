use Rattle.std.proofs.Common.{◌≡◌, ◌-◌, ◌+◌, length, arith}
use Rattle.format_match.specs.Beginning.{Leads}
use Rattle.format_match.specs.Spelled.{plain_text}
use Rattle.printf_text.specs.declared.piece.Piece.TheVariants.{Converted}
use Rattle.format_match.proofs.Markings.{from_all}
use Rattle.format_match.proofs.Onwards.{leads_within}
use Rattle.format_match.proofs.PlainTexts.{text_set}
use Rattle.format_match.proofs.marking.leading_text.Goals as goal

pub positions-init : goal.positions-init
positions-init c = record {
  within = omega arith;
  vec = c.in_ok-before.ensures.vec;
  are = λ flags. record { len = c.in_ok-before.ensures.len; are = λ y h l. absurd (omega (arith, h, l)) };
}

pub text_leads-leads-requires : goal.text_leads-leads-requires
text_leads-leads-requires c = omega (arith, c.positions.invariant.vec, c.positions.invariant.within, c.as_slice.ensures.len, c.positions-test.true)

pub index_mut-requires : goal.index_mut-requires
index_mut-requires c = omega (arith, c.positions.invariant.vec, c.positions.invariant.within, c.positions-test.true)

pub positions-preserved : goal.positions-preserved
positions-preserved c =
    let at = c.positions.at in
    let k = at - 1 in
    let next : at ≡ k + 1 = omega (arith, c.positions-test.true) in
    record {
      within = omega (arith, c.positions.invariant.within);
      vec = c.positions.invariant.vec;
      are = λ flags. text_set flags c.args.log.now (λ j. omega (arith, c.type_inv.log j)) c.args.marks.now c.positions.before.items c.as_slice.result.now at k c.text_leads-leads.result next
          c.positions.invariant.within c.as_slice.ensures.value c.text_leads-leads.ensures (c.positions.invariant.are flags);
    }

pub returns : goal.returns
returns c = λ flags.
    from_all (λ y. Leads (Converted (plain_text flags)) c.args.log.now c.args.marks.now 0 y) c.positions.at (length c.args.log.now + 1) c.positions.before.items (omega (arith, c.positions-test.false)) (c.positions.invariant.are flags)
    (λ y l. omega (arith, leads_within (Converted (plain_text flags)) c.args.log.now c.args.marks.now 0 y l))
