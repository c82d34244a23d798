use Rattle.std.proofs.Common.{◌≡◌, ◌∙◌, [], ◌∷◌}
use Rattle.std.specs.Prelude.{None}
use Rattle.sudo_grammar.specs.declared.kind.Kind.TheVariants as kind
use Rattle.sudo_grammar.specs.declared.policy.CommandSpec.{CommandSpec}
use Rattle.sudo_policy.specs.Body.Resolving.{command_resolves}
use Rattle.sudo_verdict.specs.Decided.{list_decision}
use Rattle.sudo_verdict.proofs.Lasts.{back_rest}
use Rattle.sudo_verdict.proofs.Misses.{grows-on}
use Rattle.sudo_verdict.proofs.Silent.{silent-old, each-more}
use Rattle.sudo_verdict.proofs.index.postings.Posting.post_commands.Goals as goal

pub loop-spec-preserved : goal.loop-spec-preserved
loop-spec-preserved c =
    let is = c.in-Some.ensures.cases.0 in
    let p = c.args.checked.now in
    record {
      count = c.post_member.ensures.count ∙ c.loop-spec.invariant.count;
      grows = grows-on c.args.self.now.rows.rows.items c.loop-spec.self.rows.rows.items
          c.post_member.new.self.rows.rows.items c.loop-spec.invariant.grows c.post_member.ensures.grows;
      resolve = back_rest (command_resolves p) c.loop-spec.left.now c.in-Some.rest.now c.in-Some.spec.now is c.loop-spec.invariant.resolve;
      silent = λ test s rest.
          c.loop-spec.invariant.silent test
          (silent-old c.loop-spec.self.rows.rows.items c.post_member.new.self.rows.rows.items c.args.rule test
          c.post_member.ensures.grows s)
          (each-more (λ (spec : CommandSpec). list_decision kind.Cmnd p (spec.command ∷ []) test ≡ None)
          c.loop-spec.left.now c.in-Some.rest.now c.in-Some.spec.now is rest
          (c.in_ok-post_member.ensures.covers test s));
    }
