-- When two policies say the same to every command of a user on a host, as one target.
use Rattle.std.specs.Prelude.{◌≡◌, ℕ, Bool, true, false, ◌&&◌, if◌then◌else◌, List, [], ◌∷◌, map, Option, Some, None}
use Rattle.sudo_grammar.specs.declared.kind.Atom.{Atom}
use Rattle.sudo_grammar.specs.declared.policy.Policy.{Policy}
use Rattle.sudo_match.specs.declared.request.Tags.{Tags}
use Rattle.sudo_match.specs.declared.request.Verdict.{Verdict}
use Rattle.sudo_match.specs.declared.request.Verdict.TheVariants.{Allow, Deny}
use Rattle.sudo_verdict.specs.Tagged.{tags_given}
use Rattle.sudo_verdict.specs.Values.{is_all}
use Rattle.sudo_verdict.specs.Questions.{Question}
use Rattle.sudo_verdict.specs.Grants.{Grant}
use Rattle.sudo_verdict.specs.Verdicts.{verdict_on}
use Rattle.review_grants.specs.Targets.{target_rows, with_command}
use Rattle.review_compare.specs.Agreement.{Ruling, agree}
use Rattle.review_compare.specs.Covering.{tests_by}

-- what a verdict says without its place: leave with tags, a refusal, or nothing
abbrev pub said : Verdict → Option (Option Tags)
said (Allow place tags) = Some (Some tags)
said (Deny place) = Some None
said _ = None

-- a row as a ruling on its atom
abbrev pub ruling_of : Grant → Ruling Atom (Option Tags)
ruling_of g = record { atom = g.atom; answer = if g.negated then None else Some (tags_given (is_all g.atom) g.tags) }

abbrev pub rulings : Policy → Question → List (Ruling Atom (Option Tags))
rulings p q = map ruling_of (target_rows p q)

-- ---- Answers that are the same

abbrev pub same_choice : Option Bool → Option Bool → Bool
same_choice None None = true
same_choice (Some true) (Some true) = true
same_choice (Some false) (Some false) = true
same_choice _ _ = false

abbrev pub same_choices : List (Option Bool) → List (Option Bool) → Bool
same_choices [] [] = true
same_choices (c ∷ cs) (d ∷ ds) = same_choice c d && same_choices cs ds
same_choices _ _ = false

abbrev pub same_answer : Option Tags → Option Tags → Bool
same_answer None None = true
same_answer (Some t) (Some u) = same_choices t.choices u.choices
same_answer _ _ = false

-- the rows of one policy for one question agree with those of another for another, so both say the same to every command
abbrev pub PoliciesAgree : Type 0
PoliciesAgree =
    (old new : Policy) (q r : Question) → agree (tests_by same_answer) (rulings old q) (rulings new r) ≡ true →
    (command arguments : List ℕ) → said (verdict_on old (with_command q command arguments)) ≡ said (verdict_on new
    (with_command r command arguments))
