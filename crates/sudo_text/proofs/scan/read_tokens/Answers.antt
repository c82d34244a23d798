use Rattle.std.specs.Prelude.{Ok, Err}
use Rattle.sudo_text.proofs.NoFault.{only_of}
use Rattle.sudo_text.proofs.scan.read_tokens.Goals as goal

pub returns-in-Ok-clause-only : goal.returns-in-Ok-clause-only
returns-in-Ok-clause-only c =
    only_of {X = Unit {0}} (λ _. c.all_tokens.new.tokens.items) c.args.line.now (Ok tt) c.in-Ok.ensures.tokens tt

pub returns-in-Err-clause-only : goal.returns-in-Err-clause-only
returns-in-Err-clause-only c =
    only_of {X = Unit {0}} (λ _. c.clear-in-Err.new.self.items) c.args.line.now (Err c.in-Err.fault) tt c.in-Err.ensures.fault
