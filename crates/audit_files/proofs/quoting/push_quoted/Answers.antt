use Rattle.std.proofs.Common.{◌≡◌, [], drop}
use Rattle.std.proofs.lemmas.List.{drop_all}
use Rattle.audit_files.proofs.QuotedRows.{between_quotes, escaped-next}
use Rattle.audit_files.proofs.quoting.push_quoted.Goals as goal

pub loop-byte-preserved : goal.loop-byte-preserved
loop-byte-preserved c = rw c.in_ok-push_escaped.ensures
    (escaped-next _ c.args.field.now _ c.loop-byte.byte-index c.loop-byte-test.true c.loop-byte.invariant)

pub returns : goal.returns
returns c =
    let ended : drop c.loop-byte.byte-index c.args.field.now ≡ [] =
    drop_all c.loop-byte.byte-index c.args.field.now c.loop-byte-test.false in
    rw c.in_ok-push-2.ensures.items (between_quotes c.args.text.now.items c.args.field.now c.loop-byte.text.items
    (rw (ended, c.in_ok-push.ensures.items) at c.loop-byte.invariant))
