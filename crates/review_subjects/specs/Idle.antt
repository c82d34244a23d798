-- What it means that a rule reaches nobody: no request of a known user on a known host can be granted or refused by it.
-- sudoers(5), "User Specification".
use Rattle.std.specs.Prelude.{◌≡◌, false, List, Ok, None}
use Rattle.std.specs.List.{list_any}
use Rattle.sudo_text.specs.declared.line.Place.{Place}
use Rattle.sudo_grammar.specs.declared.kind.Member.{Member}
use Rattle.sudo_grammar.specs.declared.policy.EntryBody.TheVariants.{Rule}
use Rattle.sudo_grammar.specs.declared.policy.Policy.{Policy}
use Rattle.sudo_grammar.specs.declared.policy.Section.{Section}
use Rattle.sudo_match.specs.declared.request.Request.{Request}
use Rattle.sudo_match.specs.KnownRows.{KnownRows, directory_fault}
use Rattle.sudo_verdict.specs.Grants.{applies, body_grants}
use Rattle.sudo_verdict.specs.Questions.{Question, question_of}
use Rattle.review_subjects.specs.Reach.{rule_reaches}

-- the rows of the directory have no fault, and the rule reaches nobody: none of its grants applies to a request all of whose
-- names are known
abbrev pub IdleRulesNeverApply : Type 0
IdleRulesNeverApply =
    (p : Policy) (d : KnownRows) (place : Place) (users : List Member) (sections : List Section)
    → directory_fault d.people d.machines ≡ None → rule_reaches p d users sections ≡ false
    → (r : Request) (q : Question) → question_of d r ≡ Ok q
    → list_any (applies p q) (body_grants p place (Rule users sections)) ≡ false
