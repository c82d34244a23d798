-- The lines of a file have one reading: their entries, or their first fault.
use Rattle.std.proofs.Common.{◌≡◌, List, [], ◌∷◌, ◌++◌, Option, None, Some, inl, inr, refl, sym, ◌∙◌, ap, subst}
use Rattle.sudo_text.specs.declared.line.Line.{Line}
use Rattle.sudo_text.specs.declared.token.Token.{Token}
use Rattle.sudo_text.proofs.OneList.{one_list}
use Rattle.sudo_text.proofs.NoFault.{no_fault}
use Rattle.sudo_text.proofs.OneFault.{one_fault}
use Rattle.sudo_grammar.specs.declared.policy.Entry.{Entry}
use Rattle.sudo_grammar.specs.declared.policy.EntryBody.{EntryBody}
use Rattle.sudo_grammar.specs.declared.fault.ParseFault.{ParseFault}
use Rattle.sudo_grammar.specs.declared.fault.ParseFault.TheVariants as faults
use Rattle.sudo_grammar.specs.Forms.{Writes}
use Rattle.sudo_grammar.specs.Faults.{Room, Stop, WritesWithin, IsGrammarFault}
use Rattle.sudo_grammar.proofs.Unique.{unique}
use Rattle.sudo_grammar.proofs.OneFault.{one-fault, faulty_unwritten}
use Rattle.sudo_parser.specs.Parsed.{IsEntryOf, entry_of, room_after, AreEntriesAfter, IsLineFault, IsFirstFaultAfter, fault_at, column}

no_list : (t : Token) (ts : List Token) → [] ≡ t ∷ ts → ⊥
no_list t ts e = absurd cc

one_said : (room : Room) (line : Line) (a b : Option EntryBody) → IsEntryOf room line a → IsEntryOf room line b → a ≡ b
one_said room line None None says other = refl
one_said room line None (Some b) says (t, ts, spelled, writes) = absurd (no_list t ts (one_list line [] (t ∷ ts) says spelled))
one_said room line (Some a) None (t, ts, spelled, writes) other = absurd (no_list t ts (one_list line [] (t ∷ ts) other spelled))
one_said room line (Some a) (Some b) (t, ts, spelled, writes) (u, us, read, other) =
    let same : t ∷ ts ≡ u ∷ us = one_list line (t ∷ ts) (u ∷ us) spelled read in
    ap Some (unique a b (t ∷ ts) writes.0 (subst (Writes b) (sym same) other.0))

says_no_fault : (room : Room) (line : Line) (line_entry : Option EntryBody) (fault : ParseFault)
    → IsEntryOf room line line_entry → IsLineFault room line fault → ⊥
says_no_fault room line None fault says (inl text) = no_fault line text.text [] text.leftmost says
says_no_fault room line None fault says (inr grammar) =
    no_list grammar.first grammar.rest (one_list line [] (grammar.first ∷ grammar.rest) says grammar.spelled)
says_no_fault room line (Some body) fault (t, ts, spelled, writes) (inl text) = no_fault line text.text (t ∷ ts) text.leftmost spelled
says_no_fault room line (Some body) fault (t, ts, spelled, writes) (inr grammar) =
    let same : t ∷ ts ≡ grammar.first ∷ grammar.rest = one_list line (t ∷ ts) (grammar.first ∷ grammar.rest) spelled grammar.spelled in
    faulty_unwritten room (grammar.first ∷ grammar.rest) grammar.stop body grammar.stopped (subst (WritesWithin room body) same writes)

one_line_fault : (room : Room) (line : Line) (a b : ParseFault) → IsLineFault room line a → IsLineFault room line b → a ≡ b
one_line_fault room line a b (inl text) (inl other) = text.is
    ∙ (ap faults.Text (one_fault line text.text other.text text.leftmost other.leftmost) ∙ sym other.is)
one_line_fault room line a b (inl text) (inr other) =
    absurd (no_fault line text.text (other.first ∷ other.rest) text.leftmost other.spelled)
one_line_fault room line a b (inr grammar) (inl other) =
    absurd (no_fault line other.text (grammar.first ∷ grammar.rest) other.leftmost grammar.spelled)
one_line_fault room line a b (inr grammar) (inr other) =
    let same : other.first ∷ other.rest ≡ grammar.first ∷ grammar.rest =
    one_list line (other.first ∷ other.rest) (grammar.first ∷ grammar.rest) other.spelled grammar.spelled in
    let stop : grammar.stop ≡ other.stop =
    one-fault room (grammar.first ∷ grammar.rest) grammar.stop other.stop grammar.stopped
    (subst (λ ts. IsGrammarFault room ts other.stop) same other.stopped) in
    grammar.is ∙ (ap (λ (s : Stop). fault_at line.first (column line s.rest) s.refusal) stop ∙ sym other.is)

-- Lines have one list of entries.
pub one_entries : (before : List Entry) (lines : List Line) (a b : List Entry) → AreEntriesAfter before lines a
    → AreEntriesAfter before lines b → a ≡ b
one_entries before [] a b are other = are ∙ sym other
one_entries before (line ∷ lines) a b (line_entry, rest, says, are, whole) (said2, rest2, says2, are2, whole2) =
    let same : line_entry ≡ said2 = one_said (room_after before) line line_entry said2 says says2 in
    let more : rest ≡ rest2 =
    one_entries (before ++ entry_of line line_entry) lines rest rest2 are
    (subst (λ s. AreEntriesAfter (before ++ entry_of line s) lines rest2) (sym same) are2) in
    whole ∙ (ap (λ r. entry_of line line_entry ++ r) more ∙ (ap (λ s. entry_of line s ++ rest2) same ∙ sym whole2))

-- Lines have one first fault.
pub one_first_fault : (before : List Entry) (lines : List Line) (a b : ParseFault) → IsFirstFaultAfter before lines a
    → IsFirstFaultAfter before lines b → a ≡ b
one_first_fault before [] a b is other = absurd is
one_first_fault before (line ∷ lines) a b (inl here) (inl there) = one_line_fault (room_after before) line a b here there
one_first_fault before (line ∷ lines) a b (inl here) (inr (line_entry, says, later)) =
    absurd (says_no_fault (room_after before) line line_entry a says here)
one_first_fault before (line ∷ lines) a b (inr (line_entry, says, later)) (inl here) =
    absurd (says_no_fault (room_after before) line line_entry b says here)
one_first_fault before (line ∷ lines) a b (inr (line_entry, says, later)) (inr (said2, says2, later2)) =
    let same : line_entry ≡ said2 = one_said (room_after before) line line_entry said2 says says2 in
    one_first_fault (before ++ entry_of line line_entry) lines a b later
    (subst (λ s. IsFirstFaultAfter (before ++ entry_of line s) lines b) (sym same) later2)

-- Lines that have entries have no fault.
pub entries-no-fault : (before : List Entry) (lines : List Line) (entries : List Entry) (fault : ParseFault)
    → AreEntriesAfter before lines entries → IsFirstFaultAfter before lines fault → ⊥
entries-no-fault before [] entries fault are is = is
entries-no-fault before (line ∷ lines) entries fault (line_entry, rest, says, are, whole) (inl here) =
    says_no_fault (room_after before) line line_entry fault says here
entries-no-fault before (line ∷ lines) entries fault (line_entry, rest, says, are, whole) (inr (said2, says2, later)) =
    let same : line_entry ≡ said2 = one_said (room_after before) line line_entry said2 says says2 in
    entries-no-fault (before ++ entry_of line line_entry) lines rest fault are
    (subst (λ s. IsFirstFaultAfter (before ++ entry_of line s) lines fault) (sym same) later)
