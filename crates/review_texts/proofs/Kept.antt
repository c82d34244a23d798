-- What the fixed parser reads is left alone.
use Rattle.std.proofs.Common.{◌≡◌, ℕ, suc, Bool, true, false, List, [], ◌∷◌, ◌++◌, length, drop}
use Rattle.std.proofs.Common.{take, refl, sym, ◌∙◌, ap, subst, arith}
use Rattle.std.proofs.Common.{Ok, Option, None, Some, inl, inr, ℕ}
use Rattle.std.proofs.lemmas.List.{take-append-drop}
use Rattle.sudo_text.specs.declared.line.Line.{Line}
use Rattle.sudo_text.specs.Lines.{lines_of}
use Rattle.sudo_grammar.specs.declared.policy.Entry.{Entry}
use Rattle.sudo_grammar.specs.declared.policy.EntryBody.{EntryBody}
use Rattle.sudo_grammar.specs.declared.policy.EntryBody.TheVariants as entries
use Rattle.sudo_grammar.specs.Faults.{HasRoom}
use Rattle.sudo_parser.specs.Parsed.{room_after, IsEntryOf, entry_of, AreEntriesAfter, AreEntries}
use Rattle.review_texts.specs.declared.readable.Readable.{Readable}
use Rattle.review_texts.specs.Places.{whole_room}
use Rattle.review_texts.specs.Masks.{IsUnmasked}
use Rattle.review_texts.specs.MaskedTexts.{written, HasEntries, IsBlock, AreBlocks, IsTextBy, IsMaskedBy, IsMaskedText}
use Rattle.review_texts.specs.Words.{has_word}
use Rattle.review_texts.proofs.LoneLines.{read_unrefused_as}
use Rattle.review_texts.proofs.Blocks.{take_written}

-- An entry within the room that is left is one within the whole room.
whole_fits : (before : List Entry) (entry : EntryBody) → HasRoom (room_after before) entry → HasRoom whole_room entry
whole_fits before (entries.Aliases kind definitions) fits = omega arith
whole_fits before (entries.Defaults binding parameters) fits = fits
whole_fits before (entries.Rule users sections) fits = fits
whole_fits before (entries.Include folder hash path) fits = fits

read_alone : (before : List Entry) (line : Line) (entry : Option EntryBody) → IsEntryOf (room_after before) line entry
    → IsEntryOf whole_room line entry
read_alone before line None is = is
read_alone before line (Some entry) (t, ts, spelled, writes) =
    (t, ts, spelled, (writes.0, whole_fits before entry writes.1))

-- A line that is read has no mask.
unmasked : (r : Readable) (before : List Entry) (line : Line) (entry : Option EntryBody)
    → IsEntryOf (room_after before) line entry → IsUnmasked r line
unmasked r before line entry is mask masks =
    read_unrefused_as line (entry_of line entry ++ []) mask.form
    (entry, [], read_alone before line entry is, refl, refl) masks.refused

has_entries : (before : List Entry) (line : Line) (entry : Option EntryBody) → IsEntryOf (room_after before) line entry
    → HasEntries line
has_entries before line entry is = (entry_of line entry ++ [], (entry, [], read_alone before line entry is, refl, refl))

block_kept : (r : Readable) (line : Line) (bytes block : List ℕ) → IsUnmasked r line → HasEntries line
    → IsBlock r line bytes block → block ≡ bytes
block_kept r line bytes block none read (inl (other, inl ((torn, plain, (unread, spaced)), same))) = absurd (unread read)
block_kept r line bytes block none read (inl (other, inr kept)) = kept.1
block_kept r line bytes block none read (inr (masked, (mask, is, rest), whole)) = absurd (none mask is)

blocks_kept : (r : Readable) (before : List Entry) (lines : List Line) (entries : List Entry) (text masked : List ℕ)
    → AreEntriesAfter before lines entries → AreBlocks r lines text masked → masked ≡ text
blocks_kept r before [] entries text masked are blocks = blocks
blocks_kept r before (line ∷ lines) entries text masked (entry, rest, is, are, whole) (block, tail, first, others, joined) =
    let kept : block ≡ written line text = block_kept r line (written line text) block (unmasked r before line entry is)
    (has_entries before line entry is) first in
    let after : tail ≡ drop (length (written line text)) text =
    blocks_kept r (before ++ entry_of line entry) lines rest (drop (length (written line text)) text) tail are others in
    let front : written line text ≡ take (length (written line text)) text = sym (take_written (suc (length line.joins)) text) in
    joined ∙ (ap (λ (b : List ℕ). b ++ tail) (kept ∙ front) ∙ (ap (λ (r : List ℕ). take (length (written line text)) text ++ r) after
    ∙ take-append-drop (length (written line text)) text))

pub text_kept : (r : Readable) (text masked : List ℕ) (lines : List Line) (entries : List Entry) → lines_of 0 text ≡ Ok lines
    → AreEntries lines entries → IsMaskedText r text masked → masked ≡ text
text_kept r text masked lines entries cut are is = by (has_word text) is
  where
    by : (t : Bool) → IsMaskedBy r t text masked → masked ≡ text
    by true is = blocks_kept r [] lines entries text masked are (subst (λ found. IsTextBy r found text masked) cut is)
    by false same = same
