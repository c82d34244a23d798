use Rattle.std.proofs.Common.{sym, subst}
use Rattle.run_base.specs.Holding.{AreHeld}
use Rattle.run_base.proofs.HeldSupplies.{held-push}
use Rattle.run_base.proofs.loading.read_one.Goals as goal

pub returns-in-Ok-clause-held : goal.returns-in-Ok-clause-held
returns-in-Ok-clause-held g c =
    let held = g.F.Files.held c.args.files.now in
    subst (λ files. AreHeld (g.F.Files.held files) c.push.new.self.items) (sym c.fetch.ensures.same)
    (subst (AreHeld held) (sym c.in_ok-push-in-Ok.ensures.items)
    (held-push held c.args.supplies.now.items c.in-Ok.supply c.requires c.in-Ok.ensures.held))
