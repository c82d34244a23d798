-- The blocks of a text.
use Rattle.std.proofs.Common.{◌≡◌, ℕ, zero, suc, ◌-◌, true, false, cond, List, [], ◌∷◌, ◌++◌, length}
use Rattle.std.proofs.Common.{drop, take, refl, sym, ◌∙◌, ap, subst, arith, append_assoc}
use Rattle.std.proofs.Common.{Result, Ok, Err}
use Rattle.std.specs.Prelude.{◌==◌, ◌<◌, OnOk}
use Rattle.std.proofs.lemmas.Bool.Decides.{nat_tests}
use Rattle.sudo_text.specs.declared.line.Line.{Line}
use Rattle.sudo_text.specs.declared.fault.TextFault.{TextFault}
use Rattle.sudo_text.specs.declared.fault.TextFault.TheVariants as faults
use Rattle.sudo_text.specs.Faults.{Fails}
use Rattle.review_texts.specs.declared.readable.Readable.{Readable}
use Rattle.review_texts.specs.MaskedTexts.{front_lines, written, IsBlock, AreBlocks, IsTextBy}

-- The length of the first lines, byte by byte.
pub front_end : (n : ℕ) (rest : List ℕ) → rest ≡ [] → length (front_lines (suc n) rest) ≡ 0
unfolding front_lines
front_end n rest none = rw none refl

pub front_last : (n : ℕ) (b : ℕ) (rest after : List ℕ) → rest ≡ b ∷ after → b ≡ 10 → n ≡ 0 → length (front_lines (suc n) rest) ≡ 1
unfolding front_lines
front_last n b rest after cut is last = rw (cut, is, last) refl

front_newline : (n : ℕ) (b : ℕ) (rest after : List ℕ) → rest ≡ b ∷ after → b ≡ 10
    → length (front_lines (suc n) rest) ≡ suc (length (front_lines n after))
unfolding front_lines
front_newline n b rest after cut is = rw (cut, is) refl

pub front_more : (n : ℕ) (b : ℕ) (rest after : List ℕ) → rest ≡ b ∷ after → b ≡ 10 → 0 < n
    → length (front_lines (suc n) rest) ≡ suc (length (front_lines (suc (n - 1)) after))
front_more n b rest after cut is some =
    let same : n ≡ suc (n - 1) = omega arith in
    front_newline n b rest after cut is ∙ ap (λ (k : ℕ). suc (length (front_lines k after))) same

pub front_other : (n : ℕ) (b : ℕ) (rest after : List ℕ) → rest ≡ b ∷ after → (b ≡ 10 → ⊥)
    → length (front_lines (suc n) rest) ≡ suc (length (front_lines (suc n) after))
unfolding front_lines
front_other n b rest after cut other =
    let test : (b == 10) ≡ false = not_ten b other in
    rw (cut, test) refl
  where
    not_ten : (b : ℕ) → (b ≡ 10 → ⊥) → (b == 10) ≡ false
    not_ten b other = grind (arith, nat_tests)

pub take_written : (n : ℕ) (text : List ℕ) → take (length (front_lines n text)) text ≡ front_lines n text
unfolding front_lines
take_written zero text = refl
take_written (suc n) [] = refl
take_written (suc n) (b ∷ bs) = elim (b == 10)
    as (λ t. take (length (b ∷ cond t (front_lines n bs) (front_lines (suc n) bs))) (b ∷ bs)
    ≡ b ∷ cond t (front_lines n bs) (front_lines (suc n) bs))
    [ true ↦ ap (λ (ys : List ℕ). b ∷ ys) (take_written n bs) | false ↦ ap (λ (ys : List ℕ). b ∷ ys) (take_written (suc n) bs) ]

-- One block more.
pub block_before : (r : Readable) (line : Line) (lines : List Line) (bytes rest after block tail : List ℕ) → bytes ≡ written line rest
    → after ≡ drop (length (written line rest)) rest → IsBlock r line bytes block → AreBlocks r lines after tail
    → AreBlocks r (line ∷ lines) rest (block ++ tail)
block_before r line lines bytes rest after block tail front back is are = (
  block,
  tail,
  subst (λ (b : List ℕ). IsBlock r line b block) front is,
  subst (λ (xs : List ℕ). AreBlocks r lines xs tail) back are,
  refl,
)

-- A block is appended.
pub pushed : {A E : Type 0} (r : Readable) (done : Result A E) (line : Line) (bytes block old new : List ℕ) → IsBlock r line bytes block
    → OnOk done (new ≡ old ++ block) → OnOk done ((part : List ℕ) × IsBlock r line bytes part × (new ≡ old ++ part))
pushed r (Ok found) line bytes block old new is put = (block, is, put)
pushed r (Err fault) line bytes block old new is put = tt

-- A text with a fault stays.
pub text_fault : (r : Readable) (fault : TextFault) (wanted : Result (List Line) TextFault) (text : List ℕ) → (fault ≡ faults.Memory → ⊥)
    → Fails fault wanted → IsTextBy r wanted text text
text_fault r faults.Memory wanted text other fails = absurd (other refl)
text_fault r (faults.BadQuote place col) wanted text other fails = rw fails refl
text_fault r (faults.BadHex place col) wanted text other fails = rw fails refl
text_fault r (faults.BadEscape place col) wanted text other fails = rw fails refl
text_fault r (faults.NotPrintable place col) wanted text other fails = rw fails refl
text_fault r (faults.TooLong file) wanted text other fails = rw fails refl

-- The invariant of the loop over lines, one line on.
abbrev pub Along : Readable → List Line → List ℕ → List Line → List ℕ → List ℕ → Type 0
Along r lines text left rest masked = (tail : List ℕ) → AreBlocks r left rest tail → AreBlocks r lines text (masked ++ tail)

pub along_more : (r : Readable) (lines left more : List Line) (line : Line) (text rest bytes after masked longer : List ℕ)
    → Along r lines text left rest masked → left ≡ line ∷ more → bytes ≡ written line rest
    → after ≡ drop (length (written line rest)) rest
    → ((block : List ℕ) × IsBlock r line bytes block × (longer ≡ masked ++ block)) → Along r lines text more after longer
along_more r lines left more line text rest bytes after masked longer along cut front back (block, is, pushed) = λ tail are.
    let all : AreBlocks r (line ∷ more) rest (block ++ tail) =
    block_before r line more bytes rest after block tail front back is are in
    let whole : AreBlocks r lines text (masked ++ (block ++ tail)) =
    along (block ++ tail) (subst (λ (ls : List Line). AreBlocks r ls rest (block ++ tail)) (sym cut) all) in
    let same : masked ++ (block ++ tail) ≡ longer ++ tail =
    sym (append_assoc masked block tail) ∙ ap (λ (xs : List ℕ). xs ++ tail) (sym pushed) in
    subst (λ (xs : List ℕ). AreBlocks r lines text xs) same whole
