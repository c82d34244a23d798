-- The words for the kinds of subjects, and for what is wrong with them.
use Rattle.std.specs.Prelude.{ℕ, List, codes}
use Rattle.review_subjects.specs.declared.kind.SubjectKind.{SubjectKind}
use Rattle.review_subjects.specs.declared.kind.SubjectKind.TheVariants.{User, Uid, Group, Gid, Host, Address, Network, Rule, Alias}
use Rattle.review_subjects.specs.declared.kind.SubjectFault.{SubjectFault}
use Rattle.review_subjects.specs.declared.kind.SubjectFault.TheVariants.{Unknown, ReachesNobody}

-- the name of a kind
abbrev pub kind_name : SubjectKind → List ℕ
kind_name User = codes "user"
kind_name Uid = codes "uid"
kind_name Group = codes "group"
kind_name Gid = codes "gid"
kind_name Host = codes "host"
kind_name Address = codes "address"
kind_name Network = codes "network"
kind_name Rule = codes "rule"
kind_name Alias = codes "alias"

-- the words for what is wrong
abbrev pub fault_name : SubjectFault → List ℕ
fault_name Unknown = codes "unknown"
fault_name ReachesNobody = codes "reaches nobody"
