-- The contracts of `check` and `expand` from those of their parts.
use Rattle.std.proofs.Common.{◌≡◌, ◌≤◌, ℕ, Bool, true, false, List, Option, refl, arith}
use Rattle.std.specs.Prelude.{if◌then◌else◌}
use Rattle.sudo_policy.specs.Found.{has_error}
use Rattle.sudo_grammar.specs.declared.kind.Kind.{Kind}
use Rattle.sudo_grammar.specs.declared.policy.Policy.{Policy}
use Rattle.run_base.specs.Endings.{Prints, WriterStates}
use Rattle.run_base.specs.Holding.{Holdings}
use Rattle.run_base.specs.Loading.{IsChecked, PassesCheck}
use Rattle.audit_commands.specs.Examining.{IsExamined}
use Rattle.audit_commands.specs.Expanding.{IsExpanded, IsNotExpanded}
use Rattle.audit_commands.specs.Body.Expanding.{IsNotExpandedOf}
use Rattle.audit_commands.specs.declared.fault.ExpansionFault.{ExpansionFault}
use Rattle.audit_commands.specs.declared.fault.ExpansionFault.TheVariants as faults

none_of : (b : Bool) (status : ℕ) → status ≡ (if b then 1 else 0) → status ≡ 0 → b ≡ false
none_of true status s e =
    let one : status ≡ 1 = s in
    absurd (omega (arith, one, e))
none_of false status s e = refl

pub fine_of : (held : Holdings) (path : List ℕ) (status : ℕ) (out err : WriterStates)
    → Prints (IsExamined held path) status out err → status ≡ 0 → PassesCheck held path
fine_of held path status out err prints e =
    let x = prints.good in (
      x.policy,
      record {
        loaded = x.loaded;
        passes = record {
          found = x.found;
          are = x.are;
          none = none_of (has_error x.found) status x.status_is e;
        };
      },
    )

most_of : (b : Bool) (status : ℕ) → status ≡ (if b then 1 else 0) → status ≤ 4
most_of true status s =
    let one : status ≡ 1 = s in
    omega (arith, one)
most_of false status s =
    let zero : status ≡ 0 = s in
    omega (arith, zero)

pub examined_most : (held : Holdings) (path text : List ℕ) (status : ℕ) → IsExamined held path text status → status ≤ 4
examined_most held path text status x = most_of (has_error x.found) status x.status_is

pub expanded_most : (held : Holdings) (path : List ℕ) (kind : Kind) (name text : List ℕ) (status : ℕ)
    → IsExpanded held path kind name text status → status ≤ 4
expanded_most held path kind name text status x =
    let zero = x.0 in
    omega (arith, zero)

pub no_alias : (held : Holdings) (path : List ℕ) (kind : Kind) (name : List ℕ) (policy : Policy)
    (fault : ExpansionFault) → IsChecked held path policy → IsNotExpandedOf policy kind name fault → IsNotExpanded held path kind name fault
no_alias held path kind name policy (faults.NoSuchAlias alias) is h = (h.0, (policy, is, h.1))
no_alias held path kind name policy faults.Memory is h = tt
no_alias held path kind name policy (faults.Policy fault) is h = absurd h
