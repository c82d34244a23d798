-- The lists that decide, of which none are kept where all lists do: definitions that only proofs need.
use Rattle.std.specs.Prelude.{List, Option, None, Some, Vec, map}
use Rattle.std.specs.declared.alloc.Global.{Global}
use Rattle.sudo_policy.specs.Definitions.{MemberList}
use Rattle.review_cautions.specs.declared.scanned.ScannedList.{ScannedList}
use Rattle.review_cautions.specs.declared.marked.MarkedLists.{MarkedLists}
use Rattle.review_cautions.specs.declared.looked.LookedLists.{LookedLists}
use Rattle.review_cautions.specs.Body.Looking.{scanned_view}

-- the lists that are kept, and all if none are
abbrev pub lists_left : Option (Vec ScannedList Global) → List MemberList → List MemberList
lists_left None all = all
lists_left (Some left) all = map scanned_view left.items

-- the same of lists with the marked ones of them
abbrev pub marked_left : Option MarkedLists → List MemberList → List MemberList
marked_left None all = all
marked_left (Some left) all = map scanned_view left.lists.items

-- the lists that decide
abbrev pub deciding : LookedLists → List MemberList
deciding looked = marked_left looked.left (map scanned_view looked.all.lists.items)
