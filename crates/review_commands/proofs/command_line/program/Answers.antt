use Rattle.std.proofs.Common.{◌≡◌, ◌∙◌, ap, codes, false, Result, Ok, Err, IfOk, IsOkAnd}
use Rattle.std.specs.declared.alloc.AllocError.{AllocError}
use Rattle.clap.specs.Words.{AddsSubcommand, App, app_of, with_subcommand}
use Rattle.clap.specs.declared.builder.command.Command.{Command}
use Rattle.clap.specs.declared.builder.command.Command.TheViews.{out-Command}
use Rattle.review_commands.specs.Words.{cautions_app, compare_app, expand_app, grants_app, judging_app, named_app, paths_app}
use Rattle.review_commands.specs.Words.{policy_app, roots_app, who_app}
use Rattle.review_commands.proofs.command_line.program.Goals as goal

-- a command to which a subcommand is added
added :
    (r s : Result Command AllocError) (old : Command) (old_app sub_app : App) → app_of old ≡ old_app
    → IfOk s (λ sub. app_of sub ≡ sub_app) →
    IfOk s (λ sub. (out-Command sub).has_globals ≡ false) → IfOk r (λ new. IsOkAnd s (λ sub. AddsSubcommand old sub new)) →
    IfOk r (λ new. app_of new ≡ with_subcommand old_app sub_app.top)
added (Err refused) s old old_app sub_app is sub_is local adds = tt
added (Ok new) (Ok sub) old old_app sub_app is sub_is local adds =
    adds.shape local ∙ ap (λ (a : App). with_subcommand a (app_of sub).top) is ∙ ap (λ (a : App). with_subcommand old_app a.top) sub_is
added (Ok new) (Err refused) old old_app sub_app is sub_is local adds = absurd adds

pub returns : goal.returns
returns c =
    let check = added (Ok c.in_ok-with_check.with_check) c.check.result c.named.result named_app (policy_app (codes "check"))
    c.named.ensures.app c.check.ensures.app c.check.ensures.local c.in_ok-with_check.ensures in
    let expand = added (Ok c.in_ok-with_expand.with_expand) c.expand.result c.in_ok-with_check.with_check _ expand_app check
    c.expand.ensures.app c.expand.ensures.local c.in_ok-with_expand.ensures in
    let cautions = added (Ok c.in_ok-with_cautions.with_cautions) c.cautions.result c.in_ok-with_expand.with_expand _ cautions_app expand
    c.cautions.ensures.app c.cautions.ensures.local c.in_ok-with_cautions.ensures in
    let report = added (Ok c.in_ok-with_report.with_report) c.report.result c.in_ok-with_cautions.with_cautions _
    (judging_app (codes "report")) cautions c.report.ensures.app c.report.ensures.local c.in_ok-with_report.ensures in
    let grants = added (Ok c.in_ok-with_grants.with_grants) c.grants.result c.in_ok-with_report.with_report _ grants_app report
    c.grants.ensures.app c.grants.ensures.local c.in_ok-with_grants.ensures in
    let who = added (Ok c.in_ok-with_who.with_who) c.who.result c.in_ok-with_grants.with_grants _ who_app grants
    c.who.ensures.app c.who.ensures.local c.in_ok-with_who.ensures in
    let roots = added (Ok c.in_ok-with_roots.with_roots) c.roots.result c.in_ok-with_who.with_who _ roots_app who
    c.roots.ensures.app c.roots.ensures.local c.in_ok-with_roots.ensures in
    let subjects = added (Ok c.in_ok-with_subjects.with_subjects) c.subjects.result c.in_ok-with_roots.with_roots _
    (paths_app (codes "subjects")) roots c.subjects.ensures.app c.subjects.ensures.local c.in_ok-with_subjects.ensures in
    let rules = added (Ok c.in_ok-with_rules.with_rules) c.rules.result c.in_ok-with_subjects.with_subjects _
    (judging_app (codes "rules")) subjects c.rules.ensures.app c.rules.ensures.local c.in_ok-with_rules.ensures in
    record {
      app = added c.with_subcommand-10.result c.compare.result c.in_ok-with_rules.with_rules _ compare_app rules
          c.compare.ensures.app c.compare.ensures.local c.with_subcommand-10.ensures;
    }
