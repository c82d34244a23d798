use Rattle.std.proofs.Common.{not, sym, ◌∙◌, ap}
use Rattle.std.specs.Prelude.{option_copied}
use Rattle.sudo_verdict.specs.Body.NumberSets.{set_has}
use Rattle.sudo_verdict.proofs.KeyLaws.{passes_command}
use Rattle.sudo_verdict.proofs.decision.AsCommandSubject.misses.Goals as goal

pub returns-in-Some : goal.returns-in-Some
returns-in-Some c absent p kind a is =
    let words = c.in-Some.number_set.now.words in
    passes_command (λ n. not (set_has words n)) c.args.self.now.command.now c.args.self.now.arguments.now a c.in-Command.number
    (c.args.self.now.covers c.in-Some.number_set.now (ap option_copied c.in-Some.is))
    (ap not (sym c.has.ensures) ∙ absent) (is.command c.in-Command.number c.in-Command.is)
