use Rattle.std.proofs.Common.{◌≡◌, Some, option_copied, sym, ◌∙◌, ap, subst, ◌++◌, map, List, false}
use Rattle.sudo_grammar.specs.declared.kind.Signed.{Signed}
use Rattle.sudo_policy.specs.Definitions.{in_force}
use Rattle.sudo_policy.specs.Written.{negated_if, written_form, IsWrittenOut}
use Rattle.sudo_policy.proofs.Laws.{is_written, negated_never}
use Rattle.sudo_policy.proofs.expansion.expand.Goals as goal

pub returns-clause-written : goal.returns-clause-written
returns-clause-written c =
    let p = c.args.checked.now in
    let ms = c.in-Some.members.now in
    let known : in_force c.args.kind p c.args.name.now ≡ Some ms = sym c.definition.ensures.value ∙ ap option_copied c.in-Some.is in
    let all = is_written c.args.kind p ms c.in-Some.ensures.resolves in
    let same : written_form c.args.kind p ms ≡ c.write_out.new.atoms.items =
    sym (negated_never (written_form c.args.kind p ms))
    ∙ ap (λ (xs : List Signed). xs ++ map (negated_if false) (written_form c.args.kind p ms)) (sym c.new-atoms.ensures.items)
    ∙ sym c.in_ok-write_out.ensures in
    (ms, known, subst (IsWrittenOut c.args.kind p ms) same all)
