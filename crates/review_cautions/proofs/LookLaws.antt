-- Lists without marks need not be looked at for a class that needs them, nor for notes.
use Rattle.std.proofs.Common.{◌≡◌, ◌∙◌, Bool, true, false, cond, List, [], ◌∷◌, ◌++◌, None, ap, map, refl, sym}
use Rattle.std.specs.Prelude.{filter}
use Rattle.sudo_policy.specs.Definitions.{MemberList}
use Rattle.review_texts.specs.declared.note.Note.{Note}
use Rattle.review_texts.specs.declared.note.Note.TheVariants.{Digest, Time, Chroot, Regex}
use Rattle.review_cautions.specs.declared.caution.Caution.{Caution}
use Rattle.review_cautions.specs.Cautions.{caution_at, distinct_places, list_cautions, note_caution, note_cautions, noted_cautions}
use Rattle.review_cautions.specs.ListTests.{list_holds}
use Rattle.review_cautions.specs.NoteTests.{list_has_note}
use Rattle.review_cautions.specs.Marks.{list_is_marked, needs_mark}
use Rattle.review_cautions.specs.declared.class.CautionClass.{CautionClass}
use Rattle.review_cautions.proofs.MarkLaws.{unmarked_list}
use Rattle.review_cautions.proofs.NoteLaws.{unmarked_notes}

-- where no list without marks passes a test, those with marks are all that do
held-marked : (p : MemberList → Bool) → ((l : MemberList) → list_is_marked l ≡ false → p l ≡ false) → (ls : List MemberList) →
    filter p (filter list_is_marked ls) ≡ filter p ls
held-marked p unmarked [] = refl
held-marked p unmarked (l ∷ ls) = by (held-marked p unmarked ls) (list_is_marked l) refl
  where
    by : filter p (filter list_is_marked ls) ≡ filter p ls → (b : Bool) → list_is_marked l ≡ b →
        filter p (cond (list_is_marked l) (l ∷ filter list_is_marked ls) (filter list_is_marked ls)) ≡ filter p (l ∷ ls)
    by rest true is =
        ap (λ v. filter p (cond v (l ∷ filter list_is_marked ls) (filter list_is_marked ls))) is
        ∙ ap (λ (ms : List MemberList). cond (p l) (l ∷ ms) ms) rest
    by rest false is =
        ap (λ v. filter p (cond v (l ∷ filter list_is_marked ls) (filter list_is_marked ls))) is
        ∙ rest
        ∙ sym (ap (λ v. cond v (l ∷ filter p ls) (filter p ls)) (unmarked l is))

pub marked-cautions : (class : CautionClass) → needs_mark class ≡ true → (ls : List MemberList) →
    list_cautions class (filter list_is_marked ls) ≡ list_cautions class ls
marked-cautions class needs ls =
    ap (λ (ms : List MemberList). map (caution_at class) (distinct_places None (map (λ (l : MemberList). l.place) ms)))
    (held-marked (list_holds class) (unmarked_list class needs) ls)

marked-note : (note : Note) (ls : List MemberList) → note_cautions note (filter list_is_marked ls) ≡ note_cautions note ls
marked-note note ls =
    ap (λ (ms : List MemberList). map (note_caution note) (distinct_places None (map (λ (l : MemberList). l.place) ms)))
    (held-marked (list_has_note note) (unmarked_notes note) ls)

pub marked-notes : (ls : List MemberList) → noted_cautions (filter list_is_marked ls) ≡ noted_cautions ls
marked-notes ls =
    let marked : List MemberList = filter list_is_marked ls in
    let chroot : List Caution = note_cautions Chroot marked in
    let regex : List Caution = note_cautions Regex marked in
    let first : List Caution = note_cautions Digest ls in
    let second : List Caution = note_cautions Time ls in
    ap (λ (found : List Caution). found ++ (note_cautions Time marked ++ (chroot ++ (regex ++ [])))) (marked-note Digest ls)
    ∙ ap (λ (found : List Caution). first ++ (found ++ (chroot ++ (regex ++ [])))) (marked-note Time ls)
    ∙ ap (λ (found : List Caution). first ++ (second ++ (found ++ (regex ++ [])))) (marked-note Chroot ls)
    ∙ ap (λ (found : List Caution). first ++ (second ++ (note_cautions Chroot ls ++ (found ++ [])))) (marked-note Regex ls)
