-- Cases as the program holds them; only proofs of bodies need these definitions.
use Rattle.std.specs.Prelude.{Bool, true, [], Option, option_copied}
use Rattle.sudo_grammar.specs.declared.policy.Policy.{Policy}
use Rattle.sudo_match.specs.KnownRows.{KnownRows}
use Rattle.sudo_match.specs.declared.request.Tags.{Tags}
use Rattle.sudo_match.specs.declared.request.Verdict.{Verdict}
use Rattle.sudo_match.specs.declared.request.Verdict.TheVariants.{Allow, Deny}
use Rattle.sudo_verdict.specs.Questions.{Question, question_as}
use Rattle.sudo_verdict.specs.declared.listing.Asker.{Asker}
use Rattle.review_grants.specs.Depends.{is_unmarked, marks_at}
use Rattle.review_compare.specs.declared.cases.Cases.{Cases as Held}
use Rattle.review_compare.specs.Cases.{Cases}
use Rattle.review_compare.specs.Body.Shown.{all_shown}

abbrev pub shown_cases : Held → Cases
shown_cases k = record { otherwise = k.otherwise; noted = all_shown k.noted.items }

-- nothing depends
abbrev pub settled : Option (Option Tags) → Cases
settled said = record { otherwise = said; noted = [] }

-- what is asked by the asker, without a command
abbrev pub asked_by : KnownRows → Asker → Question
asked_by d a = question_as d a.user.now a.host.now (option_copied a.target) (option_copied a.group)

-- grants at the place of a verdict depend on nothing
abbrev pub is_unnoted_at : Policy → Verdict → Bool
is_unnoted_at p (Allow at tags) = is_unmarked (marks_at p at)
is_unnoted_at p (Deny at) = is_unmarked (marks_at p at)
is_unnoted_at p _ = true
