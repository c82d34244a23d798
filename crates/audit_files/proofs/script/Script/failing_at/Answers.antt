use Rattle.std.proofs.Common.{true, drop, refl, sym, ap, ◌∙◌}
use Rattle.std.proofs.lemmas.List.{take_rest}
use Rattle.audit_files.specs.Script.{step_of}
use Rattle.audit_files.proofs.script.Script.failing_at.Goals as goal
use Rattle.audit_files.proofs.script.Script.failing_at.Goals.{in-Some, in_default}
use Rattle.audit_files.proofs.FailingReads.{cut_short, not_cut}

pub returns-clause-ahead : goal.returns-clause-ahead
returns-clause-ahead c =
    elim c.match-given_before.branch [
      | in-Some w ↦ ap (λ s. record { bytes = drop s.1.0 s.0.items; fails = s.1.1.0 }) w.self-is
          ∙ (ap (λ xs. record { bytes = drop c.args.self.at xs; fails = true }) w.truncate.ensures.items
          ∙ cut_short c.args.call (step_of c.args.self) c.args.self.at w.in-Some.given c.args.self.text.items c.args.self.fails
          (sym w.in-Some.is ∙ (c.given_before.ensures
          ∙ rw (c.max.ensures, take_rest c.deref.result.now c.args.self.at, c.deref.ensures.value) refl)))
      | in_default w ↦ ap (λ s. record { bytes = drop s.1.0 s.0.items; fails = s.1.1.0 }) w.self-is
          ∙ not_cut c.args.call (step_of c.args.self) c.args.self.at c.args.self.text.items c.args.self.fails
          (sym w.in_default.is ∙ (c.given_before.ensures
          ∙ rw (c.max.ensures, take_rest c.deref.result.now c.args.self.at, c.deref.ensures.value) refl))
    ]
