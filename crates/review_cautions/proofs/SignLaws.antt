-- A line without a sign and without a colon or a blank before a `)` has no construct of any class.
use Rattle.std.proofs.Common.{◌≡◌, ◌-◌, ℕ, zero, suc, Bool, true, false, cond, List, [], ◌∷◌, ◌++◌, length, refl, ◌∙◌, ap, arith}
use Rattle.std.specs.Prelude.{not, ◌&&◌, ◌||◌, ◌==◌, ◌%◌, take, reverse, slice_index, nat_lt, if◌then◌else◌}
use Rattle.std.specs.List.{list_any, take_while}
use Rattle.std.proofs.lemmas.Grind.{reverse_onto}
use Rattle.std.proofs.lemmas.List.Sums.{take_while-cons}
use Rattle.sudo_text.specs.Bytes.{is_include}
use Rattle.sudo_text.specs.Lines.{ends_in_escape, without_return, without_escape}
use Rattle.review_cautions.specs.declared.class.CautionClass.{CautionClass}
use Rattle.review_cautions.specs.declared.class.CautionClass.TheVariants.{Return, BlankAfterBackslash, Join, TornMark}
use Rattle.review_cautions.specs.declared.class.CautionClass.TheVariants.{IncludeEscape, IncludeIndent, Comment, EmptyGroup}
use Rattle.review_cautions.specs.declared.class.CautionClass.TheVariants.{Caret, Escape, Case}
use Rattle.review_cautions.specs.declared.class.CautionClass.TheVariants.{QuotedHost, QuotedEscape, Linked, Defaults}
use Rattle.review_cautions.specs.declared.class.CautionClass.TheVariants.{UnknownParameter, Sudoedit, Network}
use Rattle.review_cautions.specs.declared.class.CautionClass.TheVariants.{Bracket, Setenv, GroupForm, Reserved, Arguments, Depends}
use Rattle.review_cautions.specs.PhysicalLines.{stripped, last_byte, may_have_command, ends_in_word, begins_in_word, has_slash}
use Rattle.review_cautions.specs.PhysicalLines.{ends_in_escaped_blanks, ends_in_mark, has_escape_of, has_path_escape, end_blanks}
use Rattle.review_cautions.specs.EmptyGroups.{has_empty_group}
use Rattle.review_cautions.specs.PhysicalLines.{is_defaults, is_indented_include, is_remark, is_of_comments}
use Rattle.review_cautions.specs.PhysicalLines.{line_holds, is_marked, has_other_comment}
use Rattle.review_cautions.specs.Body.Signs.{is_sign, has_late_close, may_hold}
use Rattle.review_cautions.proofs.GroupLaws.{dropped, no_empty_group}
use Rattle.review_cautions.proofs.CommentLaws.{no_comment, no_left, no_right, neither}

first_false : (a b : Bool) → a ≡ false → (a && b) ≡ false
first_false a b h = ap (λ t. t && b) h

second_false : (a b : Bool) → b ≡ false → (a && b) ≡ false
second_false a b h = grind arith

-- ---- Parts of a line without such bytes

none_joined : (p : ℕ → Bool) (front back : List ℕ) → list_any p (front ++ back) ≡ (list_any p front || list_any p back)
none_joined p [] back = refl
none_joined p (b ∷ bs) back = grind (arith, none_joined p bs back)

taken : (p : ℕ → Bool) (n : ℕ) (line : List ℕ) → list_any p line ≡ false → list_any p (take n line) ≡ false
taken p zero line h = refl
taken p (suc n) [] h = refl
taken p (suc n) (b ∷ bs) h = neither (p b) (list_any p (take n bs)) (no_left (p b) (list_any p bs) h)
    (taken p n bs (no_right (p b) (list_any p bs) h))

reversed : (p : ℕ → Bool) (line : List ℕ) → list_any p line ≡ false → list_any p (reverse line) ≡ false
reversed p [] h = refl
reversed p (b ∷ bs) h =
    let front : list_any p (reverse bs) ≡ false = reversed p bs (no_right (p b) (list_any p bs) h) in
    let last : p b ≡ false = no_left (p b) (list_any p bs) h in
    ap (list_any p) (reverse_onto bs b []) ∙ none_joined p (reverse bs) (b ∷ [])
    ∙ neither (list_any p (reverse bs)) (p b || false) front (neither (p b) false last refl)

none_taken : (p : ℕ → Bool) (line : List ℕ) → list_any p line ≡ false → take_while p line ≡ []
none_taken p [] h = refl
none_taken p (b ∷ bs) h =
    take_while-cons p b bs ∙ ap (λ t. cond t (b ∷ take_while p bs) []) (no_left (p b) (list_any p bs) h)

none_at : (p : ℕ → Bool) → p 0 ≡ false → (line : List ℕ) (k : ℕ) → list_any p line ≡ false → p (slice_index line k) ≡ false
none_at p zeros [] k h = zeros
none_at p zeros (b ∷ bs) zero h = no_left (p b) (list_any p bs) h
none_at p zeros (b ∷ bs) (suc k) h = none_at p zeros bs k (no_right (p b) (list_any p bs) h)

fewer : (p q : ℕ → Bool) → ((b : ℕ) → p b ≡ false → q b ≡ false) → (line : List ℕ) → list_any p line ≡ false → list_any q line ≡ false
fewer p q h [] k = refl
fewer p q h (b ∷ bs) k = neither (q b) (list_any q bs) (h b (no_left (p b) (list_any p bs) k))
    (fewer p q h bs (no_right (p b) (list_any p bs) k))

if_either : (p : ℕ → Bool) (t : Bool) (one other : List ℕ) → list_any p one ≡ false → list_any p other ≡ false
    → list_any p (if t then one else other) ≡ false
if_either p true one other h k = h
if_either p false one other h k = k

without : (p : ℕ → Bool) (line : List ℕ) → list_any p line ≡ false → list_any p (without_return line) ≡ false
without p line h = if_either p (slice_index line (length line - 1) == 13) (take (length line - 1) line) line
    (taken p (length line - 1) line h) h

bare : (p : ℕ → Bool) (line : List ℕ) → list_any p line ≡ false → list_any p (stripped line) ≡ false
bare p line h = dropped p _ (without_return line) (without p line h)

-- ---- A line without a sign

no_return : (b : ℕ) → is_sign b ≡ false → (b == 13) ≡ false
no_return b h = grind arith

no_backslash : (b : ℕ) → is_sign b ≡ false → (b == 92) ≡ false
no_backslash b h = grind arith

no_hash : (b : ℕ) → is_sign b ≡ false → (b == 35) ≡ false
no_hash b h = grind arith

no_end : (line : List ℕ) → list_any (λ b. b == 92) line ≡ false → ends_in_escape line ≡ false
no_end line h = ap (λ (bs : List ℕ). length bs % 2 == 1) (none_taken (λ b. b == 92) (reverse line) (reversed (λ b. b == 92) line h))

no_escape_of : (byte : ℕ) (line : List ℕ) → list_any (λ b. b == 92) line ≡ false → has_escape_of byte false line ≡ false
no_escape_of byte [] h = refl
no_escape_of byte (b ∷ bs) h =
    ap (λ behind. has_escape_of byte behind bs) (no_left (b == 92) (list_any (λ c. c == 92) bs) h)
    ∙ no_escape_of byte bs (no_right (b == 92) (list_any (λ c. c == 92) bs) h)

no_path_escape : (line : List ℕ) → list_any (λ b. b == 92) line ≡ false → has_path_escape line ≡ false
no_path_escape line h =
    let x : has_escape_of 120 false line ≡ false = no_escape_of 120 line h in
    let percent : has_escape_of 37 false line ≡ false = no_escape_of 37 line h in
    grind (arith, h, x, percent)

no_backslashes : (line : List ℕ) → list_any is_sign line ≡ false → list_any (λ b. b == 92) line ≡ false
no_backslashes line h = fewer is_sign (λ b. b == 92) no_backslash line h

bare_end : (line : List ℕ) → list_any is_sign line ≡ false → ends_in_escape (stripped line) ≡ false
bare_end line h = no_end (stripped line) (bare (λ b. b == 92) line (no_backslashes line h))

blanks_end : (line : List ℕ) → list_any is_sign line ≡ false → ends_in_escaped_blanks (without_return line) ≡ false
blanks_end line h =
    let n : ℕ = length (without_return line) - end_blanks (without_return line) in
    second_false (nat_lt 0 (end_blanks (without_return line))) (ends_in_escape (take n (without_return line)))
    (no_end (take n (without_return line))
    (taken (λ b. b == 92) n (without_return line) (without (λ b. b == 92) line (no_backslashes line h))))

bare_hash : (line : List ℕ) → list_any is_sign line ≡ false → list_any (λ b. b == 35) (stripped line) ≡ false
bare_hash line h = bare (λ b. b == 35) line (fewer is_sign (λ b. b == 35) no_hash line h)

no_indented : (continuing : Bool) (line : List ℕ) → list_any is_sign line ≡ false → is_indented_include continuing line ≡ false
no_indented continuing line h =
    let none : (slice_index (stripped line) 0 == 35) ≡ false = none_at (λ b. b == 35) refl (stripped line) 0 (bare_hash line h) in
    grind (arith, none)

quiet_line : (class : CautionClass) (continuing : Bool) (line next : List ℕ) → list_any is_sign line ≡ false
    → has_late_close false (stripped line) ≡ false → line_holds class continuing line next ≡ false
quiet_line Return continuing line next h k =
    first_false (last_byte line == 13) (may_have_command continuing line || ends_in_escape (without_return line))
    (none_at (λ b. b == 13) refl line (length line - 1) (fewer is_sign (λ b. b == 13) no_return line h))
quiet_line BlankAfterBackslash continuing line next h k = blanks_end line h
quiet_line Join continuing line next h k =
    first_false (ends_in_escape (stripped line)) (ends_in_word (has_slash (stripped line)) (without_escape (stripped line))
    && begins_in_word (has_slash (stripped line)) (stripped next)) (bare_end line h)
quiet_line TornMark continuing line next h k =
    first_false (ends_in_escape (stripped line)) (ends_in_mark (without_escape (stripped line)) (stripped next)) (bare_end line h)
quiet_line IncludeEscape continuing line next h k =
    second_false (not continuing && is_include (stripped line)) (has_path_escape (stripped line))
    (no_path_escape (stripped line) (bare (λ b. b == 92) line (no_backslashes line h)))
quiet_line IncludeIndent continuing line next h k = no_indented continuing line h
quiet_line Comment continuing line next h k =
    first_false (has_other_comment false false true (stripped line)) (not (is_include (stripped line)))
    (no_comment false false true (stripped line) (bare_hash line h))
quiet_line EmptyGroup continuing line next h k =
    first_false (has_empty_group false false false (stripped line) (stripped next)) (not (is_defaults (stripped line)))
    (no_empty_group false false false (stripped line) (stripped next) (bare (λ b. b == 92) line (no_backslashes line h)) k)
quiet_line Caret continuing line next h k = refl
quiet_line Escape continuing line next h k = refl
quiet_line Case continuing line next h k = refl
quiet_line QuotedHost continuing line next h k = refl
quiet_line QuotedEscape continuing line next h k = refl
quiet_line Linked continuing line next h k = refl
quiet_line Defaults continuing line next h k = refl
quiet_line UnknownParameter continuing line next h k = refl
quiet_line Sudoedit continuing line next h k = refl
quiet_line Network continuing line next h k = refl
quiet_line Bracket continuing line next h k = refl
quiet_line Setenv continuing line next h k = refl
quiet_line GroupForm continuing line next h k = refl
quiet_line Reserved continuing line next h k = refl
quiet_line Arguments continuing line next h k = refl
quiet_line Depends continuing line next h k = refl

pub quiet : (class : CautionClass) (continuing : Bool) (line next : List ℕ) → may_hold line ≡ false
    → is_marked class continuing line next ≡ false
quiet class continuing line next h =
    second_false (is_of_comments class || not (is_remark continuing line)) (line_holds class continuing line next)
    (quiet_line class continuing line next (no_left (list_any is_sign line) (has_late_close false (stripped line)) h)
    (no_right (list_any is_sign line) (has_late_close false (stripped line)) h))
