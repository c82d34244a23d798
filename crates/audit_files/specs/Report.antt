-- The text of a report.
use Rattle.std.specs.Prelude.{ℕ, Bool, List, [], ◌∷◌, ◌++◌, codes, decimal, flat_map, fold, zip, Option, Some, None}
use Rattle.csv.specs.Writing.{default_writer, row_text}
use Rattle.audit_files.specs.Places.{place_text}
use Rattle.audit_collect.specs.declared.arrival.Answer.{Answer}
use Rattle.audit_collect.specs.declared.report.Report.{Report}
use Rattle.audit_collect.specs.declared.report.SenderReport.{SenderReport}
use Rattle.sudo_grammar.specs.declared.tag.Tag.{Tag}
use Rattle.sudo_grammar.specs.declared.tag.TagPair.{TagPair}
use Rattle.sudo_grammar.specs.Tags.{pairs, tag_name}
use Rattle.sudo_match.specs.declared.request.Tags.{Tags}
use Rattle.sudo_match.specs.declared.request.Verdict.{Verdict}
use Rattle.sudo_match.specs.declared.request.Verdict.TheVariants.{Allow, Deny, NoMatch, Unknown}
use Rattle.sudo_match.specs.declared.request.What.{What}
use Rattle.sudo_match.specs.declared.request.What.TheVariants as what

-- a line of the report, as `csv` writes a record
abbrev pub line : List (List ℕ) → List ℕ
line fields = row_text default_writer fields

-- the first record: the names of the columns
abbrev pub header : List (List ℕ)
header = codes "sender" ∷ codes "number" ∷ codes "verdict" ∷ codes "line" ∷ codes "tags" ∷ []

-- the word for the name that is unknown
abbrev pub unknown_word : What → List ℕ
unknown_word what.User = codes "unknown-user"
unknown_word what.Host = codes "unknown-host"
unknown_word what.Target = codes "unknown-target"
unknown_word what.Group = codes "unknown-group"

-- the word for a verdict
abbrev pub verdict_word : Verdict → List ℕ
verdict_word (Allow place tags) = codes "allow"
verdict_word (Deny place) = codes "deny"
verdict_word NoMatch = codes "nomatch"
verdict_word (Unknown w) = unknown_word w

-- the place of the grant that decided, for `allow` and `deny` alone
abbrev pub verdict_place : List (List ℕ) → Verdict → List ℕ
verdict_place files (Allow place tags) = place_text files place
verdict_place files (Deny place) = place_text files place
verdict_place files NoMatch = []
verdict_place files (Unknown w) = []

-- a tag's name at the end of those so far, after a space unless it is the first
abbrev pub with_tag_name : List ℕ → Tag → List ℕ
with_tag_name [] tag = tag_name tag
with_tag_name (b ∷ before) tag = (b ∷ before) ++ 32 ∷ tag_name tag

-- with the tag of a pair, if a choice is made
abbrev pub with_tag : List ℕ → TagPair × Option Bool → List ℕ
with_tag before (p, Some on) = with_tag_name before (record { pair = p; on = on })
with_tag before (p, None) = before

-- the tags that are set, in the order of the pairs, one space apart
abbrev pub tags_text : Tags → List ℕ
tags_text t = fold with_tag [] (zip pairs t.choices)

-- the tags of a grant, for `allow` alone
abbrev pub verdict_tags : Verdict → List ℕ
verdict_tags (Allow place tags) = tags_text tags
verdict_tags _ = []

-- the fields of an answer's record
abbrev pub answer_fields : List (List ℕ) → List ℕ → Answer → List (List ℕ)
answer_fields files sender a = sender ∷ decimal a.request.number ∷ verdict_word a.verdict
    ∷ verdict_place files a.verdict ∷ verdict_tags a.verdict ∷ []

-- one record for each answer of a sender, in order
abbrev pub sender_text : List (List ℕ) → SenderReport → List ℕ
sender_text files s = flat_map (λ a. line (answer_fields files s.name a)) s.answers

-- the header, and each sender's records, in the order of the roster; `files` are the files of the
-- policy
abbrev pub report_text : List (List ℕ) → Report → List ℕ
report_text files r = line header ++ flat_map (sender_text files) r.senders
