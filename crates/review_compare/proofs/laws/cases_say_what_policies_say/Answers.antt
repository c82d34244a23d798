use Rattle.review_compare.proofs.CaseLemmas.{cases_said, same_cases_say_same}
use Rattle.review_compare.proofs.NoteLemmas.{unnoted_cases_hold}
use Rattle.review_compare.proofs.laws.cases_say_what_policies_say.Goals as goal

pub returns : goal.returns
returns c = record { said = cases_said; same = same_cases_say_same; unnoted = unnoted_cases_hold }
