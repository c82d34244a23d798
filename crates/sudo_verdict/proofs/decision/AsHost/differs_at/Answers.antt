use Rattle.std.proofs.Common.{sym, ◌∙◌, ap, suc, refl, arith}
use Rattle.std.specs.Prelude.{◌==◌, option_copied}
use Rattle.sudo_text.proofs.Beginnings.{not_true}
use Rattle.sudo_verdict.proofs.KeyLaws.{passes_literal, none_before}
use Rattle.sudo_verdict.proofs.decision.AsHost.differs_at.Goals as goal

pub returns-in-Some : goal.returns-in-Some
returns-in-Some c other p kind a is =
    let host = c.args.self.now.host.now in
    let before = c.if-index-self.false in
    passes_literal host a c.args.index c.args.byte c.in-Some.own.now (sym c.get.ensures ∙ ap option_copied c.in-Some.is)
    (none_before host.name (suc c.args.index) c.args.self.now.short_length (omega (arith, before)) c.args.self.now.known)
    (ap (λ x. x == c.args.byte) (sym c.to_ascii_lowercase.ensures.value) ∙ not_true (c.to_ascii_lowercase.result == c.args.byte) other)
    (is.literal c.args.index c.args.byte refl)
