use Rattle.std.proofs.Common.{◌≡◌, Bool, IsTrue, length}
use Rattle.std.specs.List.{list_all}
use Rattle.sudo_grammar.specs.declared.kind.Atom.{Atom}
use Rattle.sudo_policy.specs.Body.Resolving.{section_resolves}
use Rattle.sudo_verdict.specs.Body.Postings.{Grows}
use Rattle.sudo_verdict.specs.Body.Silence.{IsSilent, SectionsSilent}
use Rattle.sudo_verdict.proofs.index.postings.Posting.post_sections.Given as goal

-- where the sections left are silent, all are
abbrev pub invariant-loop-section : goal.invariant-loop-section
invariant-loop-section l = record {
  count : length l.self.rows.rows.items ≡ length l.initial.self.rows.rows.items;
  grows : Grows l.initial.self.rows.rows.items l.self.rows.rows.items;
  resolve : IsTrue (list_all (section_resolves l.checked) l.left);
  silent : (test : Atom → Bool) → IsSilent l.self.rows.rows.items l.rule test → SectionsSilent l.checked test l.left
      → SectionsSilent l.checked test l.sections;
}

abbrev pub decreases-loop-section : goal.decreases-loop-section
decreases-loop-section l = length l.left
