-- The paths that no command has.
use Rattle.std.proofs.Common.{◌≡◌, ℕ, Bool, true, false, List, [], ◌∷◌, ◌++◌, map, cond, Option, None, Some, refl, arith}
use Rattle.std.proofs.lemmas.Bool.{true≢false}
use Rattle.std.proofs.lemmas.Bool.Decides.{nat_tests}
use Rattle.std.specs.Prelude.{◌&&◌, ◌||◌, ◌==◌, not, nat_le}
use Rattle.sudo_text.specs.Pieces.{plain}
use Rattle.sudo_grammar.specs.declared.kind.Atom.TheVariants as atoms
use Rattle.sudo_match.specs.declared.patterns.Slash.TheVariants.{Not}
use Rattle.sudo_match.specs.Pattern.{begins, range_at, items_after, bracket_after, part_at, parts_after, fits}
use Rattle.sudo_match.specs.Matching.{command_fits}
use Rattle.review_texts.specs.Places.{no_path}
use Rattle.review_texts.specs.declared.note.Note.{Note}
use Rattle.review_texts.specs.declared.note.Note.TheVariants.{Digest, Time, Chroot, Regex}
use Rattle.review_texts.specs.Notes.{note_in, note_path}
use Rattle.review_texts.specs.Laws.{noted_command}
use Rattle.sudo_grammar.specs.Words.{has_no_escape}

between : (b : ℕ) → (nat_le 122 b && nat_le b 97) ≡ false
between b = grind (arith, nat_tests)

and_none : (p q : Bool) → q ≡ false → (p && q) ≡ false
and_none true q none = none
and_none false q none = refl

whole_none : (p : Bool) → p ≡ false → (p && true) ≡ false
whole_none true none = none
whole_none false none = refl

bracket_none : (slash rest holds : Bool) → holds ≡ false → ((slash && (holds || false)) && rest) ≡ false
bracket_none true rest true none = absurd (true≢false none)
bracket_none true rest false none = refl
bracket_none false rest holds none = refl

pub nothing_fits : (command arguments : List ℕ) → command_fits (atoms.Command (map plain no_path) None) command arguments ≡ false
unfolding begins range_at items_after bracket_after part_at parts_after fits command_fits
nothing_fits [] arguments = refl
nothing_fits (a ∷ []) arguments = whole_none _ (and_none (a == 47) _ refl)
nothing_fits (a ∷ b ∷ []) arguments = whole_none _ (and_none (a == 47) _ (and_none (b == 108) _ refl))
nothing_fits (a ∷ b ∷ c ∷ []) arguments = whole_none _ (and_none (a == 47) _ (and_none (b == 108) _ (and_none (c == 105) _ refl)))
nothing_fits (a ∷ b ∷ c ∷ d ∷ []) arguments =
    whole_none _ (and_none (a == 47) _ (and_none (b == 108) _ (and_none (c == 105) _ (and_none (d == 115) _ refl))))
nothing_fits (a ∷ b ∷ c ∷ d ∷ e ∷ []) arguments =
    whole_none _ (and_none (a == 47) _ (and_none (b == 108) _ (and_none (c == 105) _ (and_none (d == 115) _
    (and_none (e == 116) _ refl)))))
nothing_fits (a ∷ b ∷ c ∷ d ∷ e ∷ f ∷ rest) arguments =
    whole_none _ (and_none (a == 47) _ (and_none (b == 108) _ (and_none (c == 105) _ (and_none (d == 115) _ (and_none (e == 116) _
    (bracket_none (not (f == 47)) (fits [] rest Not) (nat_le 122 f && nat_le f 97) (between f)))))))

-- the command that stands for a note of this
pub note_fits_nothing : (note : Note) (what command arguments : List ℕ)
    → command_fits (noted_command note what) command arguments ≡ false
unfolding begins range_at items_after bracket_after part_at parts_after fits command_fits
note_fits_nothing Digest what [] arguments = refl
note_fits_nothing Digest what (a ∷ []) arguments = whole_none _ (and_none (a == 47) _ refl)
note_fits_nothing Digest what (a ∷ b ∷ []) arguments = whole_none _ (and_none (a == 47) _ (and_none (b == 100) _ refl))
note_fits_nothing Digest what (a ∷ b ∷ c ∷ rest) arguments =
    whole_none _ (and_none (a == 47) _ (and_none (b == 100) _
    (bracket_none (not (c == 47)) _ (nat_le 122 c && nat_le c 97) (between c))))
note_fits_nothing Time what [] arguments = refl
note_fits_nothing Time what (a ∷ []) arguments = whole_none _ (and_none (a == 47) _ refl)
note_fits_nothing Time what (a ∷ b ∷ []) arguments = whole_none _ (and_none (a == 47) _ (and_none (b == 116) _ refl))
note_fits_nothing Time what (a ∷ b ∷ c ∷ rest) arguments =
    whole_none _ (and_none (a == 47) _ (and_none (b == 116) _
    (bracket_none (not (c == 47)) _ (nat_le 122 c && nat_le c 97) (between c))))
note_fits_nothing Chroot what [] arguments = refl
note_fits_nothing Chroot what (a ∷ []) arguments = whole_none _ (and_none (a == 47) _ refl)
note_fits_nothing Chroot what (a ∷ b ∷ []) arguments = whole_none _ (and_none (a == 47) _ (and_none (b == 99) _ refl))
note_fits_nothing Chroot what (a ∷ b ∷ c ∷ rest) arguments =
    whole_none _ (and_none (a == 47) _ (and_none (b == 99) _
    (bracket_none (not (c == 47)) _ (nat_le 122 c && nat_le c 97) (between c))))
note_fits_nothing Regex what [] arguments = refl
note_fits_nothing Regex what (a ∷ []) arguments = whole_none _ (and_none (a == 47) _ refl)
note_fits_nothing Regex what (a ∷ b ∷ []) arguments = whole_none _ (and_none (a == 47) _ (and_none (b == 114) _ refl))
note_fits_nothing Regex what (a ∷ b ∷ c ∷ rest) arguments =
    whole_none _ (and_none (a == 47) _ (and_none (b == 114) _
    (bracket_none (not (c == 47)) _ (nat_le 122 c && nat_le c 97) (between c))))

no_escapes : (bytes : List ℕ) → has_no_escape (map plain bytes) ≡ true
no_escapes [] = refl
no_escapes (b ∷ bytes) = no_escapes bytes

with_escape : (p : Bool) (found : Option Note) (note : Note) → p ≡ true → found ≡ Some note → cond p found None ≡ Some note
with_escape true found note unescaped is = is
with_escape false found note unescaped is = cc

pub note_found : (note : Note) (what : List ℕ) → note_in (noted_command note what) ≡ Some note
note_found Digest what = with_escape _ _ Digest (no_escapes (note_path Digest ++ what)) refl
note_found Time what = with_escape _ _ Time (no_escapes (note_path Time ++ what)) refl
note_found Chroot what = with_escape _ _ Chroot (no_escapes (note_path Chroot ++ what)) refl
note_found Regex what = with_escape _ _ Regex (no_escapes (note_path Regex ++ what)) refl
