use Rattle.std.proofs.Common.{◌≡◌, ◌<◌, ◌∙◌, List, ap, append-nil, get_or, length, refl, subst, sym, true, flat_map, arith}
use Rattle.std.specs.List.{list_all}
use Rattle.std.proofs.lemmas.Bool.{and_parts}
use Rattle.sudo_grammar.specs.declared.kind.Kind.TheVariants as kind
use Rattle.sudo_grammar.specs.declared.policy.CommandSpec.{CommandSpec}
use Rattle.sudo_policy.specs.Resolving.{resolves}
use Rattle.sudo_policy.specs.Body.Resolving.{command_resolves}
use Rattle.sudo_verdict.specs.Tagged.{runas_before}
use Rattle.review_roots.specs.Blocks.{block_rows}
use Rattle.review_roots.proofs.BlockLemmas.{command-resolved, in-force-more, in-force-resolves, section-all, section-more}
use Rattle.review_roots.proofs.blocks.push_section.Goals as goal

pub loop-spec-init : goal.loop-spec-init
unfolding runas_before
loop-spec-init c = record {
  in_force = (refl, c.tags_before_end.ensures);
  rows = sym (append-nil (flat_map block_rows c.args.blocks.now.items));
  resolve = λ old. old;
}

pub push_command-requires : goal.push_command-requires
push_command-requires c =
    let p = c.args.checked.now in
    let commands = c.args.section.now.commands in
    let same = c.as_slice-spec-items.ensures in
    let at = c.loop-spec.spec-index in
    let spec = c.spec-item.result in
    let less : at < length commands = subst (λ (cs : List CommandSpec). at < length cs) same c.loop-spec-test.true in
    let is : spec ≡ get_or commands at spec = c.spec-item.is ∙ ap (λ (cs : List CommandSpec). get_or cs at spec) same in
    record {
      command = command-resolved p commands at spec less is
          (and_parts (resolves kind.Host p c.args.section.now.hosts) (list_all (command_resolves p) commands) c.requires.section).1;
    }

pub loop-spec-preserved : goal.loop-spec-preserved
loop-spec-preserved c =
    let p = c.args.checked.now in
    let h = c.args.head in
    let s = c.args.section.now in
    let same = c.as_slice-spec-items.ensures in
    let at = c.loop-spec.spec-index in
    let spec = c.spec-item.result in
    let f = c.in_force_at-in_force.result in
    let less : at < length s.commands = subst (λ (cs : List CommandSpec). at < length cs) same c.loop-spec-test.true in
    let is : spec ≡ get_or s.commands at spec = c.spec-item.is ∙ ap (λ (cs : List CommandSpec). get_or cs at spec) same in
    let hosts : resolves kind.Host p h.hosts.now ≡ true = ap (resolves kind.Host p) c.requires.hosts
    ∙ (and_parts (resolves kind.Host p s.hosts) (list_all (command_resolves p) s.commands) c.requires.section).0 in
    let all = (and_parts (resolves kind.Host p s.hosts) (list_all (command_resolves p) s.commands) c.requires.section).1 in
    let in_force = in-force-more s.commands at spec c.loop-spec.in_force f less is c.loop-spec.invariant.in_force
    c.in_force_at-in_force.ensures in
    record {
      in_force = in_force;
      rows = section-more p h f s at spec (flat_map block_rows c.args.blocks.now.items) (flat_map block_rows c.loop-spec.blocks.items)
          (flat_map block_rows c.push_command.new.blocks.items) c.requires.hosts c.requires.marks less is in_force
          c.loop-spec.invariant.rows c.in_ok-push_command.ensures.rows;
      resolve = λ old. c.in_ok-push_command.ensures.resolve (in-force-resolves p h f s.commands at in_force all c.requires.users hosts)
          (c.loop-spec.invariant.resolve old);
    }

pub returns-clause-rows : goal.returns-clause-rows
returns-clause-rows c =
    section-all c.args.checked.now c.args.head c.args.section.now c.loop-spec.spec-index (flat_map block_rows c.args.blocks.now.items)
    (flat_map block_rows c.loop-spec.blocks.items)
    (let same = ap length c.as_slice-spec-items.ensures in omega (arith, same, c.loop-spec-test.false)) c.loop-spec.invariant.rows
