-- The entries of lines, line by line.
use Rattle.std.proofs.Common.{◌≡◌, ℕ, true, ◌+◌, ◌-◌, ◌≤◌, List, [], ◌∷◌, ◌++◌, length, refl, sym, ◌∙◌, ap, subst}
use Rattle.std.proofs.Common.{inl, inr, arith, Option, None, Some, append_assoc}
use Rattle.std.proofs.lemmas.List.Elements.{All-tail}
use Rattle.std.specs.Prelude.{All, if◌then◌else◌}
use Rattle.std.specs.List.{sum_by}
use Rattle.std.proofs.lemmas.List.Sums.{sum_by-append}
use Rattle.std.proofs.lemmas.List.{append-nil}
use Rattle.sudo_text.specs.declared.line.Line.{Line}
use Rattle.sudo_text.specs.declared.line.Place.{Place}
use Rattle.sudo_grammar.specs.declared.kind.Kind.{Kind}
use Rattle.sudo_grammar.specs.declared.policy.Entry.{Entry}
use Rattle.sudo_grammar.specs.declared.policy.Definition.{Definition}
use Rattle.sudo_grammar.specs.declared.policy.EntryBody.{EntryBody}
use Rattle.sudo_grammar.specs.declared.policy.EntryBody.TheVariants as bodies
use Rattle.sudo_grammar.specs.declared.fault.ParseFault.{ParseFault}
use Rattle.sudo_grammar.specs.Kinds.{same_kind}
use Rattle.sudo_parser.specs.Limits.{definition_count, less}
use Rattle.sudo_grammar.specs.Faults.{Room}
use Rattle.sudo_parser.specs.Parsed.{room_after, IsEntryOf, entry_of, AreEntriesAfter, AreEntries, IsLineFault}
use Rattle.sudo_parser.specs.Parsed.{IsFirstFaultAfter, IsFirstFault, fits_room, over_limit_from}
use Rattle.sudo_parser.specs.Body.Parsed.{Adds}

defined_more : (kind : Kind) (entries : List Entry) (e : Entry)
    → sum_by (λ (x : Entry). definition_count kind x.body) (entries ++ e ∷ []) ≡ sum_by
    (λ (x : Entry). definition_count kind x.body) entries + definition_count kind e.body
defined_more kind entries e = omega (arith, sum_by-append (λ (x : Entry). definition_count kind x.body) entries (e ∷ []))

-- The room after one more entry.
pub room_more : (entries : List Entry) (e : Entry) → room_after (entries ++ e ∷ []) ≡ less (room_after entries) e.body
room_more entries e = λ i kind. at kind i
  where
    at : (kind : Kind) → 4096 - sum_by (λ (x : Entry). definition_count kind x.body) (entries ++ e ∷ []) ≡
        (4096 - sum_by (λ (x : Entry). definition_count kind x.body) entries) - definition_count kind e.body
    at kind = omega (arith, defined_more kind entries e)

pub room_kept : (room after : Room) (entries more : List Entry) (e : Entry) → room ≡ room_after entries
    → after ≡ less room e.body → more ≡ entries ++ e ∷ []
    → after ≡ room_after more
room_kept room after entries more e is left pushed = left ∙ ap (λ r. less r e.body) is ∙ sym (room_more entries e)
    ∙ ap room_after (sym pushed)

pub taken_out : (room left : Kind → ℕ) (body : EntryBody) (kind : Kind) (ds : List Definition) (n : ℕ)
    → body ≡ bodies.Aliases kind ds → n ≡ length ds
    → left ≡ (λ k. room k - (if same_kind kind k then n else 0)) → left ≡ less room body
taken_out room left body kind ds n is count e =
    subst (λ b. left ≡ less room b) (sym is) (subst (λ (m : ℕ). left ≡ (λ k. room k - (if same_kind kind k then m else 0))) count e)

-- A line has only one entry, or none.
pub said_is : (line : Line) (entries more : List Entry) (given body : Option EntryBody)
    → more ≡ entries ++ entry_of line given → given ≡ body
    → more ≡ entries ++ entry_of line body
said_is line entries more given body is same = is ∙ ap (λ b. entries ++ entry_of line b) same

pub nothing_said : (line : Line) (entries : List Entry) (body : Option EntryBody) → None ≡ body → entries ≡ entries ++ entry_of line body
nothing_said line entries body same = said_is line entries entries None body (sym (append-nil entries)) same

-- The lines are those before, whose entries these are, and those that are left.
pub record Along (lines : List Line) (before : List Entry) (left : List Line) : Type 0 where
  pub entries : (rest : List Entry) → AreEntriesAfter before left rest → AreEntries lines (before ++ rest)
  pub only : (all : List Entry) → AreEntries lines all → (rest : List Entry) × AreEntriesAfter before left rest × (all ≡ before ++ rest)
  pub fault : (fault : ParseFault) → IsFirstFaultAfter before left fault → IsFirstFault lines fault

pub along_start : (lines : List Line) → Along lines [] lines
along_start lines = record { entries = λ rest h. h; only = λ all h. (all, h, refl); fault = λ fault h. h }

-- One line more.
pub along_next : (lines : List Line) (before now : List Entry) (line : Line) (left : List Line)
    → Along lines before (line ∷ left) → Adds before line now
    → ((body : Option EntryBody) → IsEntryOf (room_after before) line body → now ≡ before ++ entry_of line body) → Along lines now left
along_next lines before now line left along (line_entry, says, is) only = record {
  entries = λ rest h.
      subst (AreEntries lines) (sym (append_assoc before (entry_of line line_entry) rest) ∙ ap (λ es. es ++ rest) (sym is))
      (along.entries (entry_of line line_entry ++ rest) (line_entry, rest, says, subst (λ es. AreEntriesAfter es left rest) is h, refl));
  only = λ all h. onward all (along.only all h);
  fault = λ fault h. along.fault fault (inr (line_entry, says, subst (λ es. IsFirstFaultAfter es left fault) is h));
}
  where
    onward : (all : List Entry) → (rest : List Entry) × AreEntriesAfter before (line ∷ left) rest × (all ≡ before ++ rest)
        → (rest : List Entry) × AreEntriesAfter now left rest × (all ≡ now ++ rest)
    onward all (rest, (other, more, says, are, e), whole) =
        let same : now ≡ before ++ entry_of line other = only other says in (
          more,
          subst (λ es. AreEntriesAfter es left more) (sym same) are,
          whole ∙ ap (λ es. before ++ es) e ∙ sym (append_assoc before (entry_of line other) more) ∙ ap (λ es. es ++ more) (sym same),
        )

-- At the end of the lines.
pub along_end : (lines : List Line) (before : List Entry) → Along lines before [] → AreEntries lines before
along_end lines before along = subst (AreEntries lines) (append-nil before) (along.entries [] refl)

pub along_only : (lines : List Line) (before all : List Entry) → Along lines before [] → AreEntries lines all → before ≡ all
along_only lines before all along h = at (along.only all h)
  where
    at : (rest : List Entry) × AreEntriesAfter before [] rest × (all ≡ before ++ rest) → before ≡ all
    at (rest, none, whole) = sym (whole ∙ ap (λ es. before ++ es) none ∙ append-nil before)

-- The same for what the loop has.
pub along_more : (lines : List Line) (before now : List Entry) (line : Line) (left rest : List Line)
    → Along lines before left → left ≡ line ∷ rest → Adds before line now
    → ((body : Option EntryBody) → IsEntryOf (room_after before) line body → now ≡ before ++ entry_of line body) → Along lines now rest
along_more lines before now line left rest along cut adds only =
    along_next lines before now line rest (subst (Along lines before) cut along) adds only

pub along_fault : (lines : List Line) (before : List Entry) (line : Line) (left rest : List Line) (fault : ParseFault)
    → Along lines before left → left ≡ line ∷ rest
    → IsLineFault (room_after before) line fault → IsFirstFault lines fault
along_fault lines before line left rest fault along cut is = (subst (Along lines before) cut along).fault fault (inl is)

pub along_whole : (lines : List Line) (before : List Entry) (left : List Line) → Along lines before left
    → length left ≡ 0 → AreEntries lines before
along_whole lines before [] along none = along_end lines before along
along_whole lines before (line ∷ left) along none = absurd (omega arith)

pub shorter : (left rest : List Line) (line : Line) → All (λ (x : Line). length x.text ≤ 16777216) left
    → left ≡ line ∷ rest → All (λ (x : Line). length x.text ≤ 16777216) rest
shorter left rest line short cut = All-tail (λ (x : Line). length x.text ≤ 16777216) line rest
    (subst (All (λ (x : Line). length x.text ≤ 16777216)) cut short)

-- An entry that fits leaves the limit to those after it.
pub limit_next : (room after : Kind → ℕ) (entry : Entry) (left rest : List Entry) (whole : Option Place)
    → whole ≡ over_limit_from room left → left ≡ entry ∷ rest
    → fits_room room entry.body ≡ true → after ≡ less room entry.body → whole ≡ over_limit_from after rest
limit_next room after entry left rest whole so_far cut has is =
    so_far ∙ ap (over_limit_from room) cut ∙ ap (λ b. if b then over_limit_from (less room entry.body) rest else Some entry.place) has
    ∙ ap (λ r. over_limit_from r rest) (sym is)
