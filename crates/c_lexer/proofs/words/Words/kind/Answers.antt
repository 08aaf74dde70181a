use Rattle.std.proofs.Common.{◌≡◌, Some, sym, subst}
use Rattle.std.specs.Option.{IfSome}
use Rattle.std.specs.Result.{IfOk}
use Rattle.std.specs.Str.{bytes_eq}
use Rattle.std.specs.HashMap.{get_by}
use Rattle.std.proofs.lemmas.Map.Text.{hash_map_updates_str}
use Rattle.std.proofs.lemmas.Slice.Eq.{bytes_eq-Decides}
use Rattle.c_lexer.specs.Meaning.{word_kind, meant_kind}
use Rattle.c_lexer.proofs.Known.{known_more}
use Rattle.c_lexer.proofs.words.Words.kind.Goals as goal

pub returns-in-Some-clause-value : goal.returns-in-Some-clause-value
returns-in-Some-clause-value c =
    let text = c.args.text.now in
    let known : meant_kind c.in-Some.meant.now ≡ word_kind text =
    subst (λ o. IfSome o (λ m. meant_kind m ≡ word_kind text)) (sym c.in-Some.ensures.value) (c.requires.right text) in
    subst (λ kind. IfOk c.kind_of.result (λ k. k ≡ kind)) known c.kind_of.ensures.value

pub returns-clause-right : goal.returns-clause-right
returns-clause-right c =
    let text = c.args.text.now in
    λ bytes.
    rw (hash_map_updates_str text c.args.self.now.seen c.insert.new.self
    (Some c.in_ok-meant.meant) c.in_ok-insert.ensures.updates bytes)
    (known_more (bytes_eq text bytes) text bytes c.in_ok-meant.meant
    (get_by (λ key. bytes_eq bytes key.now) c.args.self.now.seen)
    (bytes_eq-Decides text bytes).0 c.in_ok-meant.ensures.value (c.requires.right bytes))
