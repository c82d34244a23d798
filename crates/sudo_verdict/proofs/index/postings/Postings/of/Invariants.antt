use Rattle.std.proofs.Common.{◌<◌, length}
use Rattle.sudo_verdict.specs.Postings.{Covers}
use Rattle.sudo_verdict.proofs.index.postings.Postings.of.Given as goal

-- the entries so far are posted
abbrev pub invariant-loop-rule : goal.invariant-loop-rule
invariant-loop-rule l = record {
  users : 0 < length l.all.users.rows.rows.items;
  commands : 0 < length l.all.commands.rows.rows.items;
  covers : Covers l.checked l.rule l.all.users.rows.rows.items l.all.commands.rows.rows.items;
}
