use Rattle.std.proofs.Common.{ap, sym, ◌∙◌, arith, length, refl}
use Rattle.std.specs.Prelude.{slice_get}
use Rattle.std.proofs.lemmas.Option.{slice_get_read}
use Rattle.sudo_grammar.specs.declared.policy.Entry.{Entry}
use Rattle.sudo_grammar.specs.declared.policy.Policy.{Policy}
use Rattle.sudo_verdict.specs.Body.Resolved.{body_resolves}
use Rattle.sudo_verdict.proofs.RuleLists.{bodies_resolve}
use Rattle.sudo_verdict.proofs.SkippedEntries.{all-at}
use Rattle.sudo_verdict.proofs.Silent.{covers-more}
use Rattle.sudo_verdict.proofs.index.postings.Postings.of.Goals as goal

pub post_entry-requires-clause-resolves : goal.post_entry-requires-clause-resolves
post_entry-requires-clause-resolves c =
    let policy = c.policy.ensures.value in
    let same = c.as_slice-entries.ensures ∙ ap (λ (p : Policy). p.entries) policy in
    let there = slice_get_read c.as_slice-entries.result.now (length c.as_slice-entries.result.now) c.loop-rule.rule
    c.index-entries-rule.result refl c.loop-rule-test.true c.index-entries-rule.is in
    all-at (λ (e : Entry). body_resolves c.args.checked.now e.body) c.args.checked.now.entries c.loop-rule.rule c.index-entries-rule.result
    (bodies_resolve c.args.checked.now c.policy.ensures.sound) (ap (λ l. slice_get l c.loop-rule.rule) (sym same) ∙ there)

pub loop-rule-preserved : goal.loop-rule-preserved
loop-rule-preserved c =
    let policy = c.policy.ensures.value in
    let same = c.as_slice-entries.ensures ∙ ap (λ (p : Policy). p.entries) policy in
    let there = slice_get_read c.as_slice-entries.result.now (length c.as_slice-entries.result.now) c.loop-rule.rule
    c.index-entries-rule.result refl c.loop-rule-test.true c.index-entries-rule.is in
    let users = c.post_entry.ensures.users in
    let commands = c.post_entry.ensures.commands in
    record {
      users = omega (arith, users, c.loop-rule.invariant.users);
      commands = omega (arith, commands, c.loop-rule.invariant.commands);
      covers =
          covers-more c.args.checked.now c.loop-rule.rule c.loop-rule.all.users.rows.rows.items c.post_entry.new.self.users.rows.rows.items
          c.loop-rule.all.commands.rows.rows.items c.post_entry.new.self.commands.rows.rows.items c.index-entries-rule.result
          c.loop-rule.invariant.covers c.post_entry.ensures.users_grow c.post_entry.ensures.commands_grow
          (ap (λ l. slice_get l c.loop-rule.rule) (sym same) ∙ there) c.in_ok-post_entry.ensures.covers;
    }
