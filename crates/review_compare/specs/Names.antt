-- The words of the table of a comparison.
use Rattle.std.specs.Prelude.{ℕ, List, codes}
use Rattle.review_compare.specs.declared.answer.Answer.{Answer}
use Rattle.review_compare.specs.declared.answer.Answer.TheVariants as answer

abbrev pub answer_name : Answer → List ℕ
answer_name answer.Gained = codes "gained"
answer_name answer.Lost = codes "lost"
answer_name answer.Other = codes "other"
