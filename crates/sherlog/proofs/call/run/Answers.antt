use Rattle.std.proofs.Common.{◌∙◌, Some, inl, inr, map, string_bytes, sym}
use Rattle.sherlog.specs.Inputs.{asked_in}
use Rattle.sherlog.proofs.Calls.{answer_of, asked_for, asked_nothing, no_fault, no_usage, no_want, none_of, not_asked, not_refused, refusals_of, whole}
use Rattle.sherlog.proofs.Deciding.{none_answered}
use Rattle.sherlog.proofs.call.run.Goals as goal

pub returns-in-Err-Usage-clause-usage : goal.returns-in-Err-Usage-clause-usage
returns-in-Err-Usage-clause-usage g c =
    λ e. asked_nothing (map string_bytes c.args.words.now) c.in-Err-Usage.field-0 c.in-Err-Usage.ensures c.in-Err-Usage.field-0-is

pub returns-in_default-clause-usage : goal.returns-in_default-clause-usage
returns-in_default-clause-usage g c =
    λ e. asked_for (map string_bytes c.args.words.now) c.in-Ok.job c.request_of.result c.in-Ok.ensures c.request_of.ensures
    ∙ none_of c.request_of.result c.in_default.not-Some

pub returns-in-Err-Usage-clause-no_program : goal.returns-in-Err-Usage-clause-no_program
returns-in-Err-Usage-clause-no_program g c =
    rw (asked_nothing (map string_bytes c.args.words.now) c.in-Err-Usage.field-0 c.in-Err-Usage.ensures
    c.in-Err-Usage.field-0-is) tt

pub returns-in-Err-Usage-clause-complete : goal.returns-in-Err-Usage-clause-complete
returns-in-Err-Usage-clause-complete g c =
    rw (asked_nothing (map string_bytes c.args.words.now) c.in-Err-Usage.field-0 c.in-Err-Usage.ensures
    c.in-Err-Usage.field-0-is) tt

pub returns-in_default-clause-no_program : goal.returns-in_default-clause-no_program
returns-in_default-clause-no_program g c =
    rw (asked_for (map string_bytes c.args.words.now) c.in-Ok.job c.request_of.result c.in-Ok.ensures
    c.request_of.ensures ∙ none_of c.request_of.result c.in_default.not-Some) tt

pub returns-in_default-clause-complete : goal.returns-in_default-clause-complete
returns-in_default-clause-complete g c =
    rw (asked_for (map string_bytes c.args.words.now) c.in-Ok.job c.request_of.result c.in-Ok.ensures
    c.request_of.ensures ∙ none_of c.request_of.result c.in_default.not-Some) tt

pub returns-in-Ok-serve-clause-answered : goal.returns-in-Ok-serve-clause-answered
returns-in-Ok-serve-clause-answered g c =
    let asks = asked_for (map string_bytes c.args.words.now) c.in-Ok.job (Some c.in-Some.request) c.in-Ok.ensures
    c.in-Some.ensures in
    λ e. rw asks c.in-Ok-serve.ensures.answered

pub returns-in-Ok-serve-clause-usage : goal.returns-in-Ok-serve-clause-usage
returns-in-Ok-serve-clause-usage g c =
    let is = answer_of (asked_in c.in-Some.request) _ c.in-Ok-serve.status _ _ _ _ _ c.in-Ok-serve.ensures.answered in
    λ e. absurd (no_usage _ is e)

pub returns-in-Ok-serve-clause-usage_line : goal.returns-in-Ok-serve-clause-usage_line
returns-in-Ok-serve-clause-usage_line g c =
    let is = answer_of (asked_in c.in-Some.request) _ c.in-Ok-serve.status _ _ _ _ _ c.in-Ok-serve.ensures.answered in
    λ e. absurd (no_usage _ is e)

pub returns-in-Ok-serve-clause-unserved : goal.returns-in-Ok-serve-clause-unserved
returns-in-Ok-serve-clause-unserved g c =
    let asks = asked_for (map string_bytes c.args.words.now) c.in-Ok.job (Some c.in-Some.request) c.in-Ok.ensures
    c.in-Some.ensures in
    λ none. absurd (not_asked _ (sym asks ∙ none))

pub returns-in-Ok-serve-clause-refused : goal.returns-in-Ok-serve-clause-refused
returns-in-Ok-serve-clause-refused g c =
    let is = answer_of (asked_in c.in-Some.request) _ c.in-Ok-serve.status _ _ _ _ _ c.in-Ok-serve.ensures.answered in
    λ r. absurd (not_refused _ is r)

pub returns-in-Ok-serve-clause-memory : goal.returns-in-Ok-serve-clause-memory
returns-in-Ok-serve-clause-memory g c =
    let is = answer_of (asked_in c.in-Some.request) _ c.in-Ok-serve.status _ _ _ _ _ c.in-Ok-serve.ensures.answered in
    λ e. absurd (no_want _ is e)

pub returns-in-Ok-serve-clause-memory_line : goal.returns-in-Ok-serve-clause-memory_line
returns-in-Ok-serve-clause-memory_line g c =
    let is = answer_of (asked_in c.in-Some.request) _ c.in-Ok-serve.status _ _ _ _ _ c.in-Ok-serve.ensures.answered in
    λ e. absurd (no_want _ is e)

pub returns-in-Ok-serve-clause-statuses : goal.returns-in-Ok-serve-clause-statuses
returns-in-Ok-serve-clause-statuses g c =
    let is = answer_of (asked_in c.in-Some.request) _ c.in-Ok-serve.status _ _ _ _ _ c.in-Ok-serve.ensures.answered in
    inl is

pub returns-in-Ok-serve-clause-decided : goal.returns-in-Ok-serve-clause-decided
returns-in-Ok-serve-clause-decided g c =
    let asks = asked_for (map string_bytes c.args.words.now) c.in-Ok.job (Some c.in-Some.request) c.in-Ok.ensures
    c.in-Some.ensures in
    let is = answer_of (asked_in c.in-Some.request) _ c.in-Ok-serve.status _ _ _ _ _ c.in-Ok-serve.ensures.answered in
    rw asks (λ well. no_fault _ is)

pub returns-in-Ok-serve-clause-no_program : goal.returns-in-Ok-serve-clause-no_program
returns-in-Ok-serve-clause-no_program g c =
    let asks = asked_for (map string_bytes c.args.words.now) c.in-Ok.job (Some c.in-Some.request) c.in-Ok.ensures
    c.in-Some.ensures in
    rw asks (λ u. absurd (none_answered (asked_in c.in-Some.request) (g.H.Shelf.state c.args.shelf.now)
    (g.H.Shelf.state c.serve.new.shelf) c.in-Ok-serve.status _ _ _ _ _ u c.in-Ok-serve.ensures.answered))

pub returns-in-Ok-serve-clause-complete : goal.returns-in-Ok-serve-clause-complete
returns-in-Ok-serve-clause-complete g c =
    let asks = asked_for (map string_bytes c.args.words.now) c.in-Ok.job (Some c.in-Some.request) c.in-Ok.ensures
    c.in-Some.ensures in
    let is = answer_of (asked_in c.in-Some.request) _ c.in-Ok-serve.status _ _ _ _ _ c.in-Ok-serve.ensures.answered in
    rw asks (λ a. inl is)

pub returns-clause-unserved : goal.returns-clause-unserved
returns-clause-unserved g c =
    let asks = asked_for (map string_bytes c.args.words.now) c.in-Ok.job (Some c.in-Some.request) c.in-Ok.ensures
    c.in-Some.ensures in
    λ none. absurd (not_asked _ (sym asks ∙ none))

pub returns-clause-refused : goal.returns-clause-refused
returns-clause-refused g c =
    let asks = asked_for (map string_bytes c.args.words.now) c.in-Ok.job (Some c.in-Some.request) c.in-Ok.ensures
    c.in-Some.ensures in
    let all = refusals_of (asked_in c.in-Some.request) (g.H.Shelf.state c.args.shelf.now)
    (g.H.Shelf.state c.serve.new.shelf)
    (g.O.Sink.state c.args.out.now) (g.O.Sink.state c.serve.new.out) (g.E.Sink.state c.args.err.now)
    (g.E.Sink.state c.serve.new.err) (g.E.Sink.state c.tell_refusal.new.err) c.in-Err.refusal c.tell_refusal.result
    c.in-Err.ensures.refused c.in-Err.ensures.untold c.tell_refusal.ensures in
    λ is. rw asks (all.refused is)

pub returns-clause-memory : goal.returns-clause-memory
returns-clause-memory g c =
    let all = refusals_of (asked_in c.in-Some.request) (g.H.Shelf.state c.args.shelf.now)
    (g.H.Shelf.state c.serve.new.shelf)
    (g.O.Sink.state c.args.out.now) (g.O.Sink.state c.serve.new.out) (g.E.Sink.state c.args.err.now)
    (g.E.Sink.state c.serve.new.err) (g.E.Sink.state c.tell_refusal.new.err) c.in-Err.refusal c.tell_refusal.result
    c.in-Err.ensures.refused c.in-Err.ensures.untold c.tell_refusal.ensures in
    all.memory

pub returns-clause-memory_line : goal.returns-clause-memory_line
returns-clause-memory_line g c =
    let all = refusals_of (asked_in c.in-Some.request) (g.H.Shelf.state c.args.shelf.now)
    (g.H.Shelf.state c.serve.new.shelf)
    (g.O.Sink.state c.args.out.now) (g.O.Sink.state c.serve.new.out) (g.E.Sink.state c.args.err.now)
    (g.E.Sink.state c.serve.new.err) (g.E.Sink.state c.tell_refusal.new.err) c.in-Err.refusal c.tell_refusal.result
    c.in-Err.ensures.refused c.in-Err.ensures.untold c.tell_refusal.ensures in
    all.memory_line

pub returns-clause-decided : goal.returns-clause-decided
returns-clause-decided g c =
    let asks = asked_for (map string_bytes c.args.words.now) c.in-Ok.job (Some c.in-Some.request) c.in-Ok.ensures
    c.in-Some.ensures in
    let all = refusals_of (asked_in c.in-Some.request) (g.H.Shelf.state c.args.shelf.now)
    (g.H.Shelf.state c.serve.new.shelf)
    (g.O.Sink.state c.args.out.now) (g.O.Sink.state c.serve.new.out) (g.E.Sink.state c.args.err.now)
    (g.E.Sink.state c.serve.new.err) (g.E.Sink.state c.tell_refusal.new.err) c.in-Err.refusal c.tell_refusal.result
    c.in-Err.ensures.refused c.in-Err.ensures.untold c.tell_refusal.ensures in
    rw asks (λ well. all.decided well)

pub returns-clause-no_program : goal.returns-clause-no_program
returns-clause-no_program g c =
    let asks = asked_for (map string_bytes c.args.words.now) c.in-Ok.job (Some c.in-Some.request) c.in-Ok.ensures
    c.in-Some.ensures in
    let all = refusals_of (asked_in c.in-Some.request) (g.H.Shelf.state c.args.shelf.now)
    (g.H.Shelf.state c.serve.new.shelf)
    (g.O.Sink.state c.args.out.now) (g.O.Sink.state c.serve.new.out) (g.E.Sink.state c.args.err.now)
    (g.E.Sink.state c.serve.new.err) (g.E.Sink.state c.tell_refusal.new.err) c.in-Err.refusal c.tell_refusal.result
    c.in-Err.ensures.refused c.in-Err.ensures.untold c.tell_refusal.ensures in
    rw asks (λ u. all.no_program u)

pub returns-clause-complete : goal.returns-clause-complete
returns-clause-complete g c =
    let asks = asked_for (map string_bytes c.args.words.now) c.in-Ok.job (Some c.in-Some.request) c.in-Ok.ensures
    c.in-Some.ensures in
    let all = refusals_of (asked_in c.in-Some.request) (g.H.Shelf.state c.args.shelf.now)
    (g.H.Shelf.state c.serve.new.shelf)
    (g.O.Sink.state c.args.out.now) (g.O.Sink.state c.serve.new.out) (g.E.Sink.state c.args.err.now)
    (g.E.Sink.state c.serve.new.err) (g.E.Sink.state c.tell_refusal.new.err) c.in-Err.refusal c.tell_refusal.result
    c.in-Err.ensures.refused c.in-Err.ensures.untold c.tell_refusal.ensures in
    rw asks (λ a. whole c.tell_refusal.result (all.complete a))

pub returns-clause-statuses : goal.returns-clause-statuses
returns-clause-statuses g c =
    let all = refusals_of (asked_in c.in-Some.request) (g.H.Shelf.state c.args.shelf.now)
    (g.H.Shelf.state c.serve.new.shelf)
    (g.O.Sink.state c.args.out.now) (g.O.Sink.state c.serve.new.out) (g.E.Sink.state c.args.err.now)
    (g.E.Sink.state c.serve.new.err) (g.E.Sink.state c.tell_refusal.new.err) c.in-Err.refusal c.tell_refusal.result
    c.in-Err.ensures.refused c.in-Err.ensures.untold c.tell_refusal.ensures in
    inr (inr all.kinds)
