use Rattle.std.proofs.Common.{◌≡◌, Some, None, true, false, lit<, rules}
use Rattle.std.proofs.lemmas.Bool.{both_ways}
use Rattle.std.proofs.lemmas.Str.Pattern.{split_after}
use Rattle.audit_commands.specs.Senders.{is_sender_name as sender_name}
use Rattle.audit_commands.proofs.SenderLemmas.{no_equals}
use Rattle.audit_commands.proofs.sender.sender_of.Goals as goal

pub returns-in_default-clause-none : goal.returns-in_default-clause-none
returns-in_default-clause-none c =
    λ name path e n. split_after 61 c.args.word.now name path None c.in_default.ensures.cases (lit< tt) e (no_equals name n)

pub returns-then-not-is_sender_name-clause-none : goal.returns-then-not-is_sender_name-clause-none
returns-then-not-is_sender_name-clause-none c = λ name path e n.
    let s = split_after 61 c.args.word.now name path (Some (c.in-Some.name, c.in-Some.path)) c.in-Some.ensures.cases
    (lit< tt) e (no_equals name n) in
    let is : sender_name c.in-Some.name.now ≡ true = rw s.0 n in
    let no : sender_name c.in-Some.name.now ≡ false =
    search (rules, c.if-not-is_sender_name.ensures, c.is_sender_name.ensures, c.as_bytes.ensures.value) in
    both_ways (sender_name c.in-Some.name.now) no is
