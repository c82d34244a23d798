use Rattle.std.proofs.Common.{◌≡◌, ◌∙◌, ℕ, List, Option, ap, option_copied, sym}
use Rattle.std.specs.Prelude.{filter}
use Rattle.sudo_match.specs.declared.people.Group.{Group}
use Rattle.sudo_match.specs.declared.people.Person.{Person}
use Rattle.sudo_verdict.specs.Questions.{Question, question_as}
use Rattle.review_compare.specs.Cells.{Decider}
use Rattle.review_compare.specs.Differences.{known_at}
use Rattle.review_compare.specs.Body.AskClasses.{changed_by}
use Rattle.review_compare.specs.Body.Chosen.{chosen, host_at, runas_at}
use Rattle.review_compare.specs.Body.Near.{near_of}
use Rattle.review_compare.specs.Body.Progress.{ask_of}
use Rattle.review_compare.proofs.AskLemmas.{near-stood}
use Rattle.review_compare.proofs.NearLemmas.{parts-chosen}
use Rattle.review_compare.proofs.ask_class.allowing.Goals as goal

pub returns : goal.returns
returns c =
    let p = c.args.pair.now in
    let d = p.directory.now in
    let u = c.args.person.now in
    let first = c.args.machine.now in
    let l = c.args.listed.now in
    let t = known_at d.people c.args.ask.target in
    let g = known_at p.groups.now c.args.ask.group in
    let by : Option Person → Option Group → Question = λ t g. question_as d u first t g in
    let asked : by (option_copied c.person_at.result) (option_copied c.group_at.result) ≡ ask_of p u first c.args.ask =
    ap (λ (t : Option Person). by t (option_copied c.group_at.result)) c.person_at.ensures
    ∙ ap (λ (g : Option Group). by t g) c.group_at.ensures in
    let old_at : Question → List ℕ → List ℕ = λ q is. filter (runas_at p.old.checked.now p.old.blocks.items q) is in
    let new_at : Question → List ℕ → List ℕ = λ q is. filter (runas_at p.new.checked.now p.new.blocks.items q) is in
    let old = c.in_ok-old.ensures ∙ ap (old_at (by (option_copied c.person_at.result) (option_copied c.group_at.result)))
    c.deref.ensures.value ∙ ap (λ (q : Question). old_at q l.old.items) asked in
    let new = c.in_ok-new.ensures ∙ ap (new_at (by (option_copied c.person_at.result) (option_copied c.group_at.result)))
    c.deref-3.ensures.value ∙ ap (λ (q : Question). new_at q l.new.items) asked in
    record {
      old = λ m.
          ap (λ (ds : List Decider). near_of (changed_by p) ds)
          (near-stood p.old.checked.now p.old.blocks.items d u first m t g p.near.old.items l.old.items c.requires.listed.old
          c.requires.listed.old_each
          ∙ ap (λ (is : List ℕ). chosen p.old.blocks.items (filter (host_at p.old.checked.now p.old.blocks.items m) is)) (sym old))
          ∙ parts-chosen (changed_by p) p.old.blocks.items p.parts.old.items p.old_parts
          (filter (host_at p.old.checked.now p.old.blocks.items m) c.in_ok-old.old.items);
      new = λ m.
          ap (λ (ds : List Decider). near_of (changed_by p) ds)
          (near-stood p.new.checked.now p.new.blocks.items d u first m t g p.near.new.items l.new.items c.requires.listed.new
          c.requires.listed.new_each
          ∙ ap (λ (is : List ℕ). chosen p.new.blocks.items (filter (host_at p.new.checked.now p.new.blocks.items m) is)) (sym new))
          ∙ parts-chosen (changed_by p) p.new.blocks.items p.parts.new.items p.new_parts
          (filter (host_at p.new.checked.now p.new.blocks.items m) c.in_ok-new.new.items);
    }
