-- Lists that were scanned for marks: definitions that only proofs need.
use Rattle.sudo_policy.specs.Definitions.{MemberList, list_view}
use Rattle.review_cautions.specs.declared.scanned.ScannedList.{ScannedList}

-- the list as a policy has it
abbrev pub scanned_view : ScannedList → MemberList
scanned_view s = list_view s.list
