-- What contracts see of the rows that the program holds, and their agreement pair by pair; only proofs of bodies use these.
use Rattle.std.specs.Prelude.{◌≡◌, Bool, false, ◌||◌, List, map, option_map, Option, Some, None}
use Rattle.std.specs.List.{Contains, list_any}
use Rattle.review_compare.specs.declared.compared.Compared.{Compared}
use Rattle.review_compare.specs.declared.compared.Compared.TheVariants as compared
use Rattle.review_compare.specs.declared.ruling.Overlap.{Overlap}
use Rattle.review_compare.specs.declared.ruling.Ruled.{Ruled}
use Rattle.review_compare.specs.declared.witness.Witness.{Witness}
use Rattle.review_compare.specs.Witnesses.{IsWitness}
use Rattle.review_compare.specs.Compared.{same_answer}
use Rattle.sudo_match.specs.declared.request.Tags.{Tags}
use Rattle.review_compare.specs.Agreement.{Ruling}
use Rattle.review_compare.specs.Cells.{Decider, covers_where, lined_of, ruling_by}
use Rattle.review_compare.specs.Lines.{Lined}
use Rattle.review_compare.specs.Unsettled.{IsNotedBeside, IsOpen, IsWay, StandsFor, named}
use Rattle.review_compare.specs.Simply.{disjoint_simply}

abbrev pub shown : Ruled → Decider
shown r = record { place = r.place; answer = r.answer; before = r.before.now; atom = r.shape.now.atom }

abbrev pub all_shown : List Ruled → List Decider
all_shown rs = map shown rs

-- the row, if there is one
abbrev pub shown_if : Option Ruled → Option Decider
shown_if r = option_map shown r

-- one of these applies wherever the command does
abbrev pub is_covered_by : List Decider → Lined → Bool
is_covered_by ds a = list_any (λ d. covers_where (lined_of d) a) ds

-- one of these or of those does
abbrev pub is_covered_by_either : List Decider → List Decider → Lined → Bool
is_covered_by_either ds es a = is_covered_by ds a || is_covered_by es a

-- two rows, with those after each: they answer alike, or no command is answered by both
abbrev pub pair_agrees : Decider → List Decider → Decider → List Decider → Bool
pair_agrees d later e more =
    same_answer d.answer e.answer
    || ((is_covered_by_either later more (lined_of d) || is_covered_by_either later more (lined_of e)) || disjoint_simply d.atom e.atom)

abbrev pub IsShownWitness : List Ruled → List Ruled → Witness → Type 0
IsShownWitness rs ss w = IsWitness (all_shown rs) (all_shown ss) w

-- the ruling of a row
abbrev pub ruling_of : Ruled → Ruling Lined (Option Tags)
ruling_of r = ruling_by (shown r)

-- ---- Rows that do not agree

-- a row of the others that no row behind it, and none of these, covers
pub record IsLeft (ds es : List Decider) (e : Decider) : Type 0 where
  pub behind : List Decider
  pub way : IsWay es (Some e) behind
  pub left : is_covered_by_either ds behind (lined_of e) ≡ false

-- a row of the others that does not agree with this one, behind which these stand
pub record IsUnlike (d : Decider) (later es : List Decider) (e : Decider) : Type 0 where
  pub behind : List Decider
  pub way : IsWay es (Some e) behind
  pub unlike : pair_agrees d later e behind ≡ false

-- the row that is given does not agree with this one; if none is given, neither these nor the others cover this one
abbrev pub IsUnlikeIf : Decider → List Decider → List Decider → Option Decider → Type 0
IsUnlikeIf d later es None = is_covered_by_either later es (lined_of d) ≡ false
IsUnlikeIf d later es (Some e) = IsUnlike d later es e

-- the rows of the overlap are open
abbrev pub AreOpen : List Ruled → List Ruled → Overlap → Type 0
AreOpen rs ss o = IsOpen (all_shown rs) (all_shown ss) (shown_if o.old) (shown_if o.new)

-- a row of the list
abbrev pub IsRow : List Ruled → Ruled → Type 0
IsRow rs r = Contains (all_shown rs) (shown r)

-- a row of the list before which something is noted, and that meets one of the overlap
abbrev pub IsBeside : List Ruled → Overlap → Ruled → Type 0
IsBeside rs o r = IsNotedBeside (all_shown rs) (shown_if o.old) (shown_if o.new) (Some (shown r))

-- what stands for a row of an overlap, if there is one
abbrev pub Stands : List Ruled → Overlap → Option Ruled → Option Ruled → Type 0
Stands rs o own r = StandsFor (all_shown rs) (shown_if own) (shown_if o.old) (shown_if o.new) (shown_if r)

-- what stands for both
pub record StandFor (rs ss : List Ruled) (o named_for : Overlap) : Type 0 where
  pub old : Stands rs o o.old named_for.old
  pub new : Stands ss o o.new named_for.new

-- these rows are named
abbrev pub may_of : Overlap → Compared
may_of o = compared.May (option_map named (shown_if o.old)) (option_map named (shown_if o.new))
