use Rattle.std.proofs.Common.{◌≡◌, ◌∙◌, ap, false, Result, Ok, Err, IfOk, IsOkAnd}
use Rattle.std.specs.declared.alloc.AllocError.{AllocError}
use Rattle.clap.specs.Words.{AddsSubcommand, App, app_of, with_subcommand}
use Rattle.clap.specs.declared.builder.command.Command.{Command}
use Rattle.clap.specs.declared.builder.command.Command.TheViews.{out-Command}
use Rattle.audit_commands.specs.Words.{audit_app, check_app, expand_app, named_app}
use Rattle.audit_commands.proofs.command_line.program.Goals as goal

-- a command to which a subcommand is added
added :
    (r s : Result Command AllocError) (old : Command) (old_app sub_app : App) → app_of old ≡ old_app
    → IfOk s (λ sub. app_of sub ≡ sub_app) →
    IfOk s (λ sub. (out-Command sub).has_globals ≡ false) → IfOk r (λ new. IsOkAnd s (λ sub. AddsSubcommand old sub new)) →
    IfOk r (λ new. app_of new ≡ with_subcommand old_app sub_app.top)
added (Err refused) s old old_app sub_app is sub_is local adds = tt
added (Ok new) (Ok sub) old old_app sub_app is sub_is local adds =
    adds.shape local ∙ ap (λ (a : App). with_subcommand a (app_of sub).top) is ∙ ap (λ (a : App). with_subcommand old_app a.top) sub_is
added (Ok new) (Err refused) old old_app sub_app is sub_is local adds = absurd adds

pub returns : goal.returns
returns c =
    let checks = added (Ok c.in_ok-checks.checks) c.check.result c.named.result named_app check_app
    c.named.ensures.app c.check.ensures.app c.check.ensures.local c.in_ok-checks.ensures in
    let expands = added (Ok c.in_ok-expands.expands) c.expand.result c.in_ok-checks.checks _ expand_app checks
    c.expand.ensures.app c.expand.ensures.local c.in_ok-expands.ensures in
    record {
      app = added c.with_subcommand-3.result c.audit.result c.in_ok-expands.expands _ audit_app expands
          c.audit.ensures.app c.audit.ensures.local c.with_subcommand-3.ensures;
    }
