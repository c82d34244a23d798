use Rattle.std.proofs.Common.{◌≡◌, ◌+◌, Some, None, List, [], ◌∷◌, ◌++◌, map, drop, option_copied, arith, sym, ◌∙◌, ap, subst}
use Rattle.std.specs.Prelude.{Vec}
use Rattle.std.specs.declared.alloc.Global.{Global}
use Rattle.sudo_grammar.specs.declared.kind.Signed.{Signed}
use Rattle.sudo_policy.specs.Definitions.{in_force, alias_named}
use Rattle.sudo_policy.specs.Written.{differ, is_negated, negated_if, written_form}
use Rattle.sudo_policy.proofs.WritingLemmas.{Along, Along-split, Along-alone, Along-alias, Along-end, opened}
use Rattle.sudo_policy.proofs.WritingLemmas.{never_undefined, definition_from}
use Rattle.sudo_policy.proofs.expansion.+write_out.Goals as goal
use Rattle.sudo_policy.proofs.expansion.+write_out.Goals.{in-Some+in-Some-definition+in_ok-write_out-in-Some-definition}
use Rattle.sudo_policy.proofs.expansion.+write_out.Goals.{in-None+in_ok-atom_copied-in-None+in_ok-push-in-None}

pub write_out-requires : goal.write_out-requires
write_out-requires t c =
    let m = c.member-item.result in
    let p = c.args.checked.now in
    let along = Along-split c.args.kind p c.args.negate c.args.atoms.now.items c.loop-member.atoms.items
    c.args.members.now c.loop-member.member-index m c.loop-member.invariant c.loop-member-test.true c.member-item.is in
    let named : alias_named m.atom ≡ Some c.in-Some.name.now = sym c.alias_name.ensures ∙ ap option_copied c.in-Some.is in
    let known : in_force c.args.kind p c.in-Some.name.now ≡ Some c.in-Some-definition.definition.now =
    sym c.definition.ensures.value ∙ ap option_copied c.in-Some-definition.is in
    let open_m = opened c.args.kind p m (drop (c.loop-member.member-index + 1) c.args.members.now) along.resolves_rest
    c.in-Some-definition.definition.now (definition_from c.args.kind p m _ _ named known) in
    let a = open_m.lower in
    let b = along.lower in
    (omega (arith, a, b), open_m.inner)

pub unreachable-requires : goal.unreachable-requires
unreachable-requires t c =
    let m = c.member-item.result in
    let p = c.args.checked.now in
    let along = Along-split c.args.kind p c.args.negate c.args.atoms.now.items c.loop-member.atoms.items
    c.args.members.now c.loop-member.member-index m c.loop-member.invariant c.loop-member-test.true c.member-item.is in
    let named : alias_named m.atom ≡ Some c.in-Some.name.now = sym c.alias_name.ensures ∙ ap option_copied c.in-Some.is in
    let none : in_force c.args.kind p c.in-Some.name.now ≡ None = sym c.definition.ensures.value
    ∙ ap option_copied c.in-None-definition.is in
    never_undefined c.args.kind p m (drop (c.loop-member.member-index + 1) c.args.members.now) along.resolves_rest _ named none

pub loop-member-preserved : goal.loop-member-preserved
loop-member-preserved t c =
    let m = c.member-item.result in
    let p = c.args.checked.now in
    let start = c.args.atoms.now.items in
    let ms = c.args.members.now in
    let rest = drop (c.loop-member.member-index + 1) ms in
    let along = Along-split c.args.kind p c.args.negate start c.loop-member.atoms.items ms c.loop-member.member-index
    m c.loop-member.invariant c.loop-member-test.true c.member-item.is in
    elim c.match-alias_name.branch [
      | in-Some+in-Some-definition+in_ok-write_out-in-Some-definition w ↦
          (let named : alias_named m.atom ≡ Some w.in-Some.name.now = sym c.alias_name.ensures ∙ ap option_copied w.in-Some.is in
          let known : in_force c.args.kind p w.in-Some.name.now ≡ Some w.in-Some-definition.definition.now =
          sym w.definition.ensures.value ∙ ap option_copied w.in-Some-definition.is in
          let open_m = opened c.args.kind p m rest along.resolves_rest w.in-Some-definition.definition.now
          (definition_from c.args.kind p m _ _ named known) in
          let sign : c.differ-negated.result ≡ differ c.args.negate (is_negated m) = c.differ-negated.ensures
          ∙ ap (differ c.args.negate) c.is_negated.ensures in
          let grows : c.match-alias_name.atoms.items ≡ c.loop-member.atoms.items
          ++ map (negated_if (differ c.args.negate (is_negated m))) (written_form c.args.kind p w.in-Some-definition.definition.now) =
          ap (λ (v : Vec Signed Global). v.items) w.atoms-is ∙ w.in_ok-write_out-in-Some-definition.ensures
          ∙ ap (λ b. c.loop-member.atoms.items ++ map (negated_if b)
          (written_form c.args.kind p w.in-Some-definition.definition.now)) sign in
          subst (λ (done : List Signed). Along c.args.kind p c.args.negate start done ms rest) (sym grows)
          (Along-alias c.args.kind p c.args.negate start c.loop-member.atoms.items ms m rest along
          w.in-Some-definition.definition.now open_m))
      | in-None+in_ok-atom_copied-in-None+in_ok-push-in-None w ↦
          (let no_alias : alias_named m.atom ≡ None = sym c.alias_name.ensures ∙ ap option_copied w.in-None.is in
          let sign : c.differ-negated.result ≡ differ c.args.negate (is_negated m) = c.differ-negated.ensures
          ∙ ap (differ c.args.negate) c.is_negated.ensures in
          let grows : c.match-alias_name.atoms.items ≡ c.loop-member.atoms.items
          ++ record { negated = differ c.args.negate (is_negated m); atom = m.atom } ∷ [] =
          ap (λ (v : Vec Signed Global). v.items) w.atoms-is ∙ w.in_ok-push-in-None.ensures.items
          ∙ ap (λ b. c.loop-member.atoms.items ++ record { negated = b; atom = w.in_ok-atom_copied-in-None.field-0 } ∷ []) sign
          ∙ ap (λ a. c.loop-member.atoms.items ++ record { negated = differ c.args.negate (is_negated m); atom = a }
          ∷ []) w.in_ok-atom_copied-in-None.ensures in
          subst (λ (done : List Signed). Along c.args.kind p c.args.negate start done ms rest) (sym grows)
          (Along-alone c.args.kind p c.args.negate start c.loop-member.atoms.items ms m rest along no_alias))
    ]

pub returns : goal.returns
returns t c = Along-end c.args.kind c.args.checked.now c.args.negate c.args.atoms.now.items c.loop-member.atoms.items
    c.args.members.now c.loop-member.member-index c.loop-member.invariant c.loop-member-test.false
