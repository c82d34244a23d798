-- Words that ask for no command.
use Rattle.std.proofs.Common.{◌≡◌, ◌∙◌, get_or, arith, List, Option, Some, None, codes, sym, ap}
use Rattle.std.specs.Prelude.{◌≢◌}
use Rattle.clap.specs.Words.{Row, Text, first_of}
use Rattle.sudo_grammar.specs.declared.kind.Kind.{Kind}
use Rattle.audit_commands.specs.declared.request.Asked.TheVariants.{Check, Expand, Audit}
use Rattle.audit_commands.specs.Words.{AsksNothing, kind_word}
use Rattle.run_base.specs.Arguments.{HasNoWorkers}

expand_is_check : codes "expand" ≡ codes "check" → ⊥
expand_is_check e = absurd cc

expand_is_audit : codes "expand" ≡ codes "audit" → ⊥
expand_is_audit e = absurd cc

audit_is_check : codes "audit" ≡ codes "check" → ⊥
audit_is_check e = let first : 97 ≡ 99 = ap (λ l. get_or l 0 0) e in absurd (omega (arith, first))

none_there : (o : Option Text) (text : Text) → o ≡ None → o ≡ Some text → ⊥
none_there o text none there = cc

pub no_name : (name : Text) (rows : List Row) → name ≢ codes "check" → name ≢ codes "expand" → name ≢ codes "audit"
    → AsksNothing (name, rows)
no_name name rows check expand audit (Check file) stated fit = check stated.0
no_name name rows check expand audit (Expand file kind alias) stated fit = expand stated.0
no_name name rows check expand audit (Audit file users hosts workers senders) stated fit = audit stated.0

pub check_without_file : (rows : List Row) → first_of (codes "file") rows ≡ None → AsksNothing (codes "check", rows)
check_without_file rows none (Check file) stated fit = none_there _ _ none stated.1
check_without_file rows none (Expand file kind alias) stated fit = expand_is_check (sym stated.0)
check_without_file rows none (Audit file users hosts workers senders) stated fit = audit_is_check (sym stated.0)

pub expand_without_file : (rows : List Row) → first_of (codes "file") rows ≡ None → AsksNothing (codes "expand", rows)
expand_without_file rows none (Check file) stated fit = expand_is_check stated.0
expand_without_file rows none (Expand file kind alias) stated fit = none_there _ _ none stated.1
expand_without_file rows none (Audit file users hosts workers senders) stated fit = expand_is_audit stated.0

pub expand_without_kind : (rows : List Row) → first_of (codes "kind") rows ≡ None → AsksNothing (codes "expand", rows)
expand_without_kind rows none (Check file) stated fit = expand_is_check stated.0
expand_without_kind rows none (Expand file kind alias) stated fit = none_there _ _ none stated.2
expand_without_kind rows none (Audit file users hosts workers senders) stated fit = expand_is_audit stated.0

pub expand_without_name : (rows : List Row) → first_of (codes "name") rows ≡ None → AsksNothing (codes "expand", rows)
expand_without_name rows none (Check file) stated fit = expand_is_check stated.0
expand_without_name rows none (Expand file kind alias) stated fit = none_there _ _ none stated.3
expand_without_name rows none (Audit file users hosts workers senders) stated fit = expand_is_audit stated.0

-- KIND is invalid: its word names no kind of alias
pub expand_of_bad_kind : (rows : List Row) (word : Text) → first_of (codes "kind") rows ≡ Some word
    → ((kind : Kind) → word ≢ kind_word kind) → AsksNothing (codes "expand", rows)
expand_of_bad_kind rows word is bad (Check file) stated fit = expand_is_check stated.0
expand_of_bad_kind rows word is bad (Expand file kind alias) stated fit =
    let same : Some word ≡ Some (kind_word kind) = sym is ∙ stated.2 in bad kind (let e : word ≡ kind_word kind = cc in e)
expand_of_bad_kind rows word is bad (Audit file users hosts workers senders) stated fit = expand_is_audit stated.0

pub audit_without_file : (rows : List Row) → first_of (codes "file") rows ≡ None → AsksNothing (codes "audit", rows)
audit_without_file rows none (Check file) stated fit = audit_is_check stated.0
audit_without_file rows none (Expand file kind alias) stated fit = expand_is_audit (sym stated.0)
audit_without_file rows none (Audit file users hosts workers senders) stated fit = none_there _ _ none stated.1

pub audit_without_users : (rows : List Row) → first_of (codes "users") rows ≡ None → AsksNothing (codes "audit", rows)
audit_without_users rows none (Check file) stated fit = audit_is_check stated.0
audit_without_users rows none (Expand file kind alias) stated fit = expand_is_audit (sym stated.0)
audit_without_users rows none (Audit file users hosts workers senders) stated fit = none_there _ _ none stated.2

pub audit_without_hosts : (rows : List Row) → first_of (codes "hosts") rows ≡ None → AsksNothing (codes "audit", rows)
audit_without_hosts rows none (Check file) stated fit = audit_is_check stated.0
audit_without_hosts rows none (Expand file kind alias) stated fit = expand_is_audit (sym stated.0)
audit_without_hosts rows none (Audit file users hosts workers senders) stated fit = none_there _ _ none stated.3

pub audit_without_workers : (rows : List Row) → HasNoWorkers rows → AsksNothing (codes "audit", rows)
audit_without_workers rows none (Check file) stated fit = audit_is_check stated.0
audit_without_workers rows none (Expand file kind alias) stated fit = expand_is_audit (sym stated.0)
audit_without_workers rows none (Audit file users hosts workers senders) stated fit = none workers stated.4 fit.0 fit.1
