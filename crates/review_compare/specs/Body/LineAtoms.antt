-- Walks through the rows of a policy, line by line; only proofs of bodies need these definitions.
use Rattle.std.specs.Prelude.{◌≡◌, Bool, true, ◌++◌, List, [], ◌∷◌, drop, flat_map, if◌then◌else◌, map, take}
use Rattle.std.specs.List.{list_any}
use Rattle.sudo_text.specs.declared.line.Place.{Place}
use Rattle.sudo_grammar.specs.declared.kind.Atom.{Atom}
use Rattle.review_compare.specs.declared.block.Block.{Block}
use Rattle.review_compare.specs.declared.block.BlockRow.{BlockRow}
use Rattle.review_compare.specs.declared.walk.Walk.{Walk}
use Rattle.review_compare.specs.declared.lines.Walked.{Walked}
use Rattle.review_compare.specs.Blocks.{block_wide, block_wides}
use Rattle.review_compare.specs.Cells.{Wide, line_after, lined, with_before}
use Rattle.review_compare.specs.Lines.{Line, at_line, is_note_atom}

abbrev pub wide_atom : Wide → Atom
wide_atom w = w.decider.atom

-- one of the rows stands for a note
abbrev pub has_note : List Wide → Bool
has_note ws = list_any (λ w. is_note_atom w.decider.atom) ws

-- the commands of all rows, if one of them stands for a note
abbrev pub AreLineAtoms : List Block → List Atom → Type 0
AreLineAtoms bs atoms = has_note (flat_map block_wides bs) ≡ true → atoms ≡ map wide_atom (flat_map block_wides bs)

abbrev pub row_atom : BlockRow → Atom
row_atom r = r.shape.atom

-- the commands of a block
abbrev pub block_atoms : Block → List Atom
block_atoms b = map row_atom b.rows.items

-- the line of the place, so far
abbrev pub turned : Line → Place → Line
turned l place = record { place = place; atoms = at_line l place }

abbrev pub with_atom : Line → Atom → Line
with_atom l a = record { place = l.place; atoms = l.atoms ++ a ∷ [] }

-- the walk is in this line, and these commands are to come
pub record IsWalk (k : Walk) (l : Line) (rest : List Atom) : Type 0 where
  pub place : k.place ≡ l.place
  pub so_far : take k.passed k.rest.now ≡ l.atoms
  pub to_come : drop k.passed k.rest.now ≡ rest
  pub notes : k.noted ≡ list_any is_note_atom l.atoms

-- the line behind these rows
abbrev pub line_behind : Line → List Wide → Line
line_behind l [] = l
line_behind l (w ∷ ws) = line_behind (line_after l w) ws

-- the row of a block with this before it, unless it stands for a note
abbrev pub kept_row : Block → List Atom → BlockRow → List Wide
kept_row b before r = if is_note_atom r.shape.atom then [] else with_before before (block_wide b r) ∷ []

-- the rows of the block as they are in their line, and the walk behind them
pub record IsWalked (b : Block) (l : Line) (rest : List Atom) (w : Walked) : Type 0 where
  pub rows : map (block_wide b) w.rows.items ≡ lined l (block_wides b)
  pub walk : IsWalk w.walk (line_behind l (block_wides b)) rest
