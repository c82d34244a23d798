use Rattle.std.proofs.Common.{◌≡◌, ◌++◌, ◌∷◌, [], ◌∙◌, List, ℕ, ap, option_copied, sym, true}
use Rattle.csv.specs.Writing.{default_writer, fields_text}
use Rattle.sudo_base.proofs.Options.{on_ok}
use Rattle.review_grants.specs.Body.Heads.{section_head, section_rows}
use Rattle.review_grants.specs.GrantRows.{hosts_text, is_for_host}
use Rattle.review_grants.proofs.GrantSteps.{host-rows}
use Rattle.review_grants.proofs.rows.push_for_host.Goals as goal

pub returns : goal.returns
returns c =
    let p = c.args.table.checked.now in
    let d = c.args.table.directory.now in
    let m = option_copied c.args.table.scope.host in
    let on : is_for_host p m c.args.section.now.hosts ≡ true =
    sym (ap (is_for_host p m) c.as_slice-hosts.ensures) ∙ sym c.if-not-is_on.ensures in
    let own : c.push_one.new.text.items ≡ section_head p d c.args.head.now c.args.section.now.hosts =
    c.in_ok-push_one.ensures
    ∙ ap (λ (t : List ℕ). t ++ fields_text default_writer (c.deref.result.now ∷ []))
    (c.in_ok-extend_from_slice.ensures.items ∙ ap (λ (t : List ℕ). t ++ c.args.head.now) c.new-own.ensures.items)
    ∙ ap (λ (t : List ℕ). c.args.head.now ++ fields_text default_writer (t ∷ []))
    (c.deref.ensures.value ∙ c.in_ok-allowed.ensures ∙ ap (hosts_text p d) c.as_slice-hosts.ensures) in
    on_ok c.push_section.result (λ h. host-rows p d m c.args.head.now c.args.depends.now _ c.args.section.now c.args.text.now.items _ on own
    (h ∙ ap (λ (t : List ℕ). c.args.text.now.items ++ section_rows p t c.args.depends.now c.as_slice.result.now) c.deref-2.ensures.value
    ∙ ap (λ (cs : List _). c.args.text.now.items ++ section_rows p c.push_one.new.text.items c.args.depends.now cs) c.as_slice.ensures))
    c.push_section.ensures
