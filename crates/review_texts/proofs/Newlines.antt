-- The newlines of masked texts.
use Rattle.std.proofs.Common.{◌≡◌, ℕ, zero, suc, ◌+◌, ◌-◌, Bool, true, false, cond, List, [], ◌∷◌, ◌++◌}
use Rattle.std.proofs.Common.{length, drop, take, refl, sym, ◌∙◌, ap, subst, arith}
use Rattle.std.proofs.Common.{Result, Ok, Err, Option, None, Some, inl, inr}
use Rattle.std.specs.Prelude.{◌==◌, ◌&&◌, not, replicate, nat_le, nat_lt, nat_eq, codes, filter, slice_index, ◌/◌, ◌%◌}
use Rattle.std.specs.Str.{bytes_eq}
use Rattle.std.specs.List.{position_or_len, prefix_len, starts_with, take_while}
use Rattle.std.proofs.lemmas.Bool.{and_parts, eqb-true, true≢false}
use Rattle.std.proofs.lemmas.Bool.Decides.{nat_tests}
use Rattle.std.proofs.lemmas.List.{take-append-drop}
use Rattle.std.proofs.lemmas.List.Sums.{sum_by-append}
use Rattle.sudo_text.specs.declared.line.Line.{Line}
use Rattle.sudo_text.specs.declared.fault.TextFault.{TextFault}
use Rattle.sudo_text.specs.Lines.{lines_of, text_limit}
use Rattle.sudo_grammar.specs.declared.fault.Unsupported.{Unsupported}
use Rattle.sudo_grammar.specs.declared.fault.Unsupported.TheVariants as forms
use Rattle.review_texts.specs.declared.readable.Readable.{Readable}
use Rattle.review_texts.specs.declared.mask.Mask.{Mask}
use Rattle.review_texts.specs.declared.note.Note.{Note}
use Rattle.review_texts.specs.declared.note.Note.TheVariants.{Digest, Time, Chroot, Regex}
use Rattle.review_texts.specs.Notes.{note_path}
use Rattle.review_texts.specs.Digests.{digest_at, digest_start, is_base64}
use Rattle.review_texts.specs.Expressions.{bound_of, caret_of, command_at, digits_of, expression_at, folder_len}
use Rattle.review_texts.specs.Expressions.{hex_digit, hex_of, is_below_folder, is_expression_byte}
use Rattle.review_texts.specs.Options.{is_value_byte, name_at, value_at, value_of}
use Rattle.review_texts.specs.Masks.{are_alike, expression_text, is_fit, option_note, note_text, noted_letter, noted_option}
use Rattle.sudo_match.specs.Matching.{short_name}
use Rattle.review_texts.specs.Hostnames.{are_labels, is_hostname, is_label_byte, StandsName}
use Rattle.review_texts.specs.Addressed.{StandsIpv6}
use Rattle.review_texts.specs.declared.ipv6.HostAddress.{HostAddress}
use Rattle.review_texts.specs.declared.mask.Form.{Form}
use Rattle.review_texts.specs.declared.mask.Form.TheVariants as what
use Rattle.review_texts.specs.Masks.{replacement, Stands, StandsAt}
use Rattle.review_texts.specs.Masks.{behind, IsBehind, IsMask, IsMasked, most_masks}
use Rattle.review_texts.specs.MaskedTexts.{written, tears_defaults, spaced, IsBlock, AreBlocks, IsTextBy, IsMaskedBy, IsMaskedText}
use Rattle.review_texts.specs.Words.{has_word, newline_count}
use Rattle.review_texts.specs.Laws.{StaysBy}
use Rattle.review_texts.proofs.Blocks.{take_written}

pub count_append : (xs ys : List ℕ) → newline_count (xs ++ ys) ≡ newline_count xs + newline_count ys
count_append xs ys = sum_by-append (λ b. cond (b == 10) 1 0) xs ys

count_blanks : (n : ℕ) → newline_count (replicate n 32) ≡ 0
count_blanks zero = refl
count_blanks (suc n) = count_blanks n

count_newlines : (n : ℕ) → newline_count (replicate n 10) ≡ n
count_newlines zero = refl
count_newlines (suc n) =
    let joined = count_append (10 ∷ []) (replicate n 10) in
    let rest = count_newlines n in
    omega (arith, joined, rest)

-- ---- What stands in place of a form has no newline

not_newline : (p : ℕ → Bool) (x : ℕ) → p 10 ≡ false → p x ≡ true → (x == 10) ≡ false
not_newline p x none passes = by (x == 10) refl
  where
    by : (b : Bool) → (x == 10) ≡ b → (x == 10) ≡ false
    by true e = absurd (true≢false (sym passes ∙ ap p (eqb-true x 10 e) ∙ none))
    by false e = e

count_one : (x : ℕ) → (x == 10) ≡ false → newline_count (x ∷ []) ≡ 0
count_one x other = ap (λ (is : Bool). 0 + cond {A = ℕ} is 1 0) other

count_front : (p : ℕ → Bool) (xs : List ℕ) → p 10 ≡ false → newline_count (take_while p xs) ≡ 0
count_front p [] none = refl
count_front p (x ∷ xs) none = by (p x) refl (count_front p xs none)
  where
    by : (b : Bool) → p x ≡ b → newline_count (take_while p xs) ≡ 0 → newline_count (take (cond b (1 + prefix_len p xs) 0) (x ∷ xs)) ≡ 0
    by true e rest =
        let here = count_one x (not_newline p x none e) in
        let one : 1 + prefix_len p xs ≡ suc (prefix_len p xs) = omega arith in
        ap (λ (n : ℕ). newline_count (take n (x ∷ xs))) one
        ∙ count_append (x ∷ []) (take_while p xs) ∙ (omega (arith, here, rest))
    by false e rest = refl

count_kept : (p : ℕ → Bool) (xs : List ℕ) → newline_count xs ≡ 0 → newline_count (filter p xs) ≡ 0
count_kept p [] none = refl
count_kept p (x ∷ xs) none =
    let whole = count_append (x ∷ []) xs in
    by (p x) (omega (arith, none, whole)) (count_kept p xs (omega (arith, none, whole)))
  where
    by : (b : Bool) → newline_count (x ∷ []) ≡ 0 → newline_count (filter p xs) ≡ 0
        → newline_count (cond b (x ∷ filter p xs) (filter p xs)) ≡ 0
    by true here rest = count_append (x ∷ []) (filter p xs) ∙ (omega (arith, here, rest))
    by false here rest = rest

count_path : (note : Note) → newline_count (note_path note) ≡ 0
count_path Digest = refl
count_path Time = refl
count_path Chroot = refl
count_path Regex = refl

count_note : (note : Note) (what : List ℕ) → newline_count what ≡ 0 → newline_count (note_text note what) ≡ 0
count_note note what none =
    let path = count_path note in
    let outer = count_append (note_path note) (what ++ 44 ∷ []) in
    let inner = count_append what (44 ∷ []) in
    omega (arith, none, path, outer, inner)

count_letter : (w : List ℕ) → newline_count (noted_letter w) ≡ 0
count_letter w = by (bytes_eq w (codes "NOTBEFORE")) (bytes_eq w (codes "NOTAFTER"))
  where
    by : (first last : Bool) → newline_count (cond first (codes "b") (cond last (codes "a") [])) ≡ 0
    by true last = refl
    by false true = refl
    by false false = refl

count_option : (note : Option Note) (w value : List ℕ) → newline_count value ≡ 0 → newline_count (noted_option note w value) ≡ 0
count_option None w value none = refl
count_option (Some note) w value none =
    let letter = count_letter w in
    let joined = count_append (noted_letter w) value in
    count_note note (noted_letter w ++ value) (omega (arith, none, letter, joined))

digit_count : (n : ℕ) → (hex_digit n == 10) ≡ false
digit_count n = grind (arith, nat_tests)

count_hex : (bytes : List ℕ) → newline_count (hex_of bytes) ≡ 0
count_hex [] = refl
count_hex (b ∷ bytes) =
    let first = count_one (hex_digit (b / 16)) (digit_count (b / 16)) in
    let second = count_one (hex_digit (b % 16)) (digit_count (b % 16)) in
    let digits = count_append (hex_digit (b / 16) ∷ []) (hex_digit (b % 16) ∷ []) in
    let joined = count_append (digits_of b) (hex_of bytes) in
    let rest = count_hex bytes in
    omega (arith, first, second, digits, joined, rest)

count_taken : (n : ℕ) (xs : List ℕ) → newline_count xs ≡ 0 → newline_count (take n xs) ≡ 0
count_taken n xs none =
    let whole = ap (λ (ys : List ℕ). newline_count ys) (take-append-drop n xs) in
    let cut = count_append (take n xs) (drop n xs) in
    omega (arith, none, whole, cut)

count_bound : (xs : List ℕ) → newline_count xs ≡ 0 → newline_count (bound_of xs) ≡ 0
count_bound xs none = by (is_below_folder xs)
  where
    by : (b : Bool) → newline_count (cond b (take (folder_len xs) xs) (codes "ALL")) ≡ 0
    by true = count_taken (folder_len xs) xs none
    by false = refl

count_command : (text : List ℕ) (at : ℕ) → newline_count (command_at text at) ≡ 0
count_command text at = by (slice_index text at == 47)
  where
    by : (b : Bool) → newline_count (cond b (value_at text at) (bound_of (expression_at text at))) ≡ 0
    by true = count_front is_value_byte (drop at text) refl
    by false = count_bound (expression_at text at) (count_front is_expression_byte (drop (caret_of text at + 1) text) refl)

count_expression : (text : List ℕ) (at : ℕ) → newline_count (expression_text text at) ≡ 0
count_expression text at =
    let note = count_note Regex (hex_of (expression_at text at)) (count_hex (expression_at text at)) in
    let command = count_command text at in
    let joined = count_append (note_text Regex (hex_of (expression_at text at))) (command_at text at) in
    omega (arith, note, command, joined)

count_dropped : (n : ℕ) (xs : List ℕ) → newline_count xs ≡ 0 → newline_count (drop n xs) ≡ 0
count_dropped n xs none =
    let whole = ap (λ (ys : List ℕ). newline_count ys) (take-append-drop n xs) in
    let cut = count_append (take n xs) (drop n xs) in
    omega (arith, none, whole, cut)

label_newline : (b : ℕ) → is_label_byte b ≡ true → (b == 10) ≡ false
label_newline b is = not_newline is_label_byte b refl is

count_labels : (dotted : Bool) (xs : List ℕ) → are_labels dotted xs ≡ true → newline_count xs ≡ 0
count_labels dotted [] are = refl
count_labels dotted (x ∷ xs) are = by (x == 46) refl (λ e. count_labels false xs e) (λ e. count_labels true xs e) are
  where
    by : (dot : Bool) → (x == 46) ≡ dot → (are_labels false xs ≡ true → newline_count xs ≡ 0)
        → (are_labels true xs ≡ true → newline_count xs ≡ 0)
        → cond dot (dotted && are_labels false xs) (is_label_byte x && are_labels true xs) ≡ true → newline_count (x ∷ xs) ≡ 0
    by true e dot label are =
        let parts = and_parts dotted (are_labels false xs) are in
        let rest = dot parts.1 in
        let here = count_one x (not_newline (λ b. b == 46) x refl e) in
        let joined = count_append (x ∷ []) xs in
        omega (arith, rest, here, joined)
    by false e dot label are =
        let parts = and_parts (is_label_byte x) (are_labels true xs) are in
        let rest = label parts.1 in
        let here = count_one x (label_newline x parts.0) in
        let joined = count_append (x ∷ []) xs in
        omega (arith, rest, here, joined)

count_hostname : (name : List ℕ) → is_hostname name ≡ true → newline_count name ≡ 0
count_hostname name is =
    let parts = and_parts (nat_lt 0 (length name) && nat_le (length name) 255) (are_labels false name) is in
    count_labels false name parts.1

count_named : (host : Option (List ℕ)) (line : Line) (start end : ℕ) (put : List ℕ) → newline_count line.text ≡ 0
    → StandsName host line start end put → newline_count put ≡ 0
count_named None line start end put none stands = absurd stands
count_named (Some name) line start end put none (named, stands, is, text) =
    let first = count_taken (position_or_len (λ b. b == 46) name) name (count_hostname name named) in
    let rest = count_dropped (start + 2) line.text none in
    let joined = count_append (short_name name) (drop (start + 2) line.text ++ codes "  ") in
    let filled = count_append (drop (start + 2) line.text) (codes "  ") in
    ap newline_count text ∙ (omega (arith, first, rest, joined, filled))

count_put : (r : Readable) (line : Line) (form : Unsupported) (start end : ℕ) (put : List ℕ) → newline_count line.text ≡ 0
    → Stands r line form start end put → newline_count put ≡ 0
count_put r line forms.CommandOption start end put none stands =
    let value = value_at line.text (value_of line.text start) in
    ap newline_count stands.2 ∙ count_option (option_note (name_at line.text start)) (name_at line.text start) value
    (count_front is_value_byte (drop (value_of line.text start) line.text) refl)
count_put r line forms.List start end put none stands = ap newline_count stands.2
count_put r line forms.Digest start end put none stands =
    let digest = digest_at line.text (digest_start line.text start) in
    ap newline_count stands.3 ∙ count_note Digest (filter (λ b. not (b == 61)) digest) (count_kept (λ b. not (b == 61)) digest
    (count_front is_base64 (drop (digest_start line.text start) line.text) refl))
count_put r line forms.Netgroup start end put none stands = stands.0.one_line
count_put r line forms.NonUnixGroup start end put none stands = stands.0.one_line
count_put r line forms.RegularExpression start end put none stands = ap newline_count stands.3 ∙ count_expression line.text start
count_put r line forms.HostEscape start end put none stands = count_named r.host line start end put none stands

count_member : (known : Option (List HostAddress)) (line : Line) (start end : ℕ) (put : List ℕ)
    → StandsIpv6 known line start end put → newline_count put ≡ 0
count_member None line start end put stands = absurd stands
count_member (Some known) line start end put stands = stands.0.one_line

count_at : (r : Readable) (line : Line) (form : Form) (start end : ℕ) (put : List ℕ) → newline_count line.text ≡ 0
    → StandsAt r line form start end put → newline_count put ≡ 0
count_at r line (what.Named form) start end put none stands = count_put r line form start end put none stands
count_at r line what.Ipv6 start end put none stands = count_member r.addresses line start end put stands

count_replaced : (mask : Mask) → newline_count mask.put ≡ 0 → newline_count (replacement mask) ≡ 0
count_replaced mask front =
    let back = count_blanks (mask.end - mask.start - length mask.put) in
    let joined = count_append mask.put (replicate (mask.end - mask.start - length mask.put) 32) in
    omega (arith, front, back, joined)

-- A line without a newline has none behind a mask.
behind_count : (r : Readable) (line : Line) (mask : Mask) → newline_count line.text ≡ 0 → IsMask r line mask
    → newline_count (behind line mask).text ≡ 0
behind_count r line mask none is =
    let put : List ℕ = replacement mask in
    let front = count_append (take mask.start line.text) (drop mask.start line.text) in
    let back = count_append (take mask.end line.text) (drop mask.end line.text) in
    let first = ap (λ (xs : List ℕ). newline_count xs) (take-append-drop mask.start line.text) in
    let second = ap (λ (xs : List ℕ). newline_count xs) (take-append-drop mask.end line.text) in
    let outer = count_append (take mask.start line.text) (put ++ drop mask.end line.text) in
    let inner = count_append put (drop mask.end line.text) in
    let middle = count_replaced mask (count_at r line mask.form mask.start mask.end mask.put none is.stands.stands) in
    omega (arith, front, back, first, second, outer, inner, middle)

all_behind : (r : Readable) (n : ℕ) (line masked : Line) → newline_count line.text ≡ 0 → IsBehind r n line masked
    → newline_count masked.text ≡ 0
unfolding IsBehind
all_behind r zero line masked none is = ap (λ (l : Line). newline_count l.text) is ∙ none
all_behind r (suc n) line masked none (inl kept) = ap (λ (l : Line). newline_count l.text) kept.1 ∙ none
all_behind r (suc n) line masked none (inr (mask, is, rest)) =
    all_behind r n (behind line mask) masked (behind_count r line mask none is) rest

fit_count : (line : Line) → is_fit line ≡ true → newline_count line.text ≡ 0
fit_count line fit =
    let parts = and_parts (has_word line.text && are_alike line.text line.joins && nat_le (length line.text) (text_limit - 16))
    (newline_count line.text == 0) fit in
    eqb-true (newline_count line.text) 0 parts.1

masked_count : (r : Readable) (line masked : Line) → IsMasked r line masked → newline_count masked.text ≡ 0
masked_count r line masked (mask, is, rest) =
    all_behind r most_masks (behind line mask) masked (behind_count r line mask (fit_count line is.fit) is) rest

torn_count : (text joins : List ℕ) → tears_defaults text joins ≡ true → newline_count text ≡ 0
torn_count text [] torn = absurd cc
torn_count text (join ∷ later) torn =
    let parts = and_parts ((join == 8) && starts_with nat_eq text (codes "Defaults") && are_alike text later
    && nat_lt (length text) text_limit)
    (newline_count text == 0) torn in
    eqb-true (newline_count text) 0 parts.1

spaced_count : (line : Line) → newline_count line.text ≡ 0 → newline_count (spaced line).text ≡ 0
spaced_count line none =
    let whole = ap (λ (xs : List ℕ). newline_count xs) (take-append-drop 8 line.text) in
    let cut = count_append (take 8 line.text) (drop 8 line.text) in
    let put = count_append (take 8 line.text) (32 ∷ drop 8 line.text) in
    omega (arith, none, whole, cut, put)

block_count : (r : Readable) (line : Line) (bytes block : List ℕ) → IsBlock r line bytes block
    → newline_count block ≡ newline_count bytes
block_count r line bytes block (inl (none, inr kept)) = ap (λ (xs : List ℕ). newline_count xs) kept.1
block_count r line bytes block (inl (none, inl spaces)) =
    let text = spaced_count line (torn_count line.text line.joins spaces.0.0) in
    let joined = count_append (spaced line).text (replicate (newline_count bytes) 10) in
    let more = count_newlines (newline_count bytes) in
    ap (λ (xs : List ℕ). newline_count xs) spaces.1 ∙ (omega (arith, joined, text, more))
block_count r line bytes block (inr (masked, is, inr kept)) = ap (λ (xs : List ℕ). newline_count xs) kept.1
block_count r line bytes block (inr (masked, is, inl stands)) =
    let none = masked_count r line masked is in
    let joined = count_append masked.text (replicate (newline_count bytes) 10) in
    let more = count_newlines (newline_count bytes) in
    ap (λ (xs : List ℕ). newline_count xs) stands.1 ∙ (omega (arith, joined, none, more))

blocks_stay : (r : Readable) (lines : List Line) (text masked : List ℕ) → AreBlocks r lines text masked → StaysBy lines text masked
blocks_stay r [] text masked are = are
blocks_stay r (line ∷ lines) text masked (block, rest, is, are, whole) = (
  block,
  rest,
  block_count r line (written line text) block is,
  whole,
  blocks_stay r lines (drop (length (written line text)) text) rest are,
)

stays_count : (lines : List Line) (text masked : List ℕ) → StaysBy lines text masked → newline_count masked ≡ newline_count text
stays_count [] text masked stay = ap (λ (xs : List ℕ). newline_count xs) stay
stays_count (line ∷ lines) text masked (part, rest, same, whole, stay) =
    let others = stays_count lines (drop (length (written line text)) text) rest stay in
    let joined = ap (λ (xs : List ℕ). newline_count xs) whole in
    let first = count_append part rest in
    let front = ap (λ (xs : List ℕ). newline_count xs) (take_written (suc (length line.joins)) text) in
    let cut = ap (λ (xs : List ℕ). newline_count xs) (take-append-drop (length (written line text)) text) in
    let second = count_append (take (length (written line text)) text) (drop (length (written line text)) text) in
    omega (arith, others, joined, first, front, cut, second, same)

-- The text itself stays.
same_stays : (lines : List Line) (text masked : List ℕ) → masked ≡ text → StaysBy lines text masked
same_stays [] text masked same = same
same_stays (line ∷ lines) text masked same =
    let front = take_written (suc (length line.joins)) text in
    let cut = take-append-drop (length (written line text)) text in
    let rest : List ℕ = drop (length (written line text)) text in
    (written line text, rest, refl, same ∙ (sym cut ∙ ap (λ (xs : List ℕ). xs ++ rest) front), same_stays lines rest rest refl)

pub text_stays : (r : Readable) (text masked : List ℕ) (lines : List Line) → lines_of 0 text ≡ Ok lines → IsMaskedText r text masked
    → StaysBy lines text masked
text_stays r text masked lines cut is = go (has_word text) is
  where
    go : (b : Bool) → IsMaskedBy r b text masked → StaysBy lines text masked
    go true is = blocks_stay r lines text masked (subst (λ found. IsTextBy r found text masked) cut is)
    go false same = same_stays lines text masked same

pub text_count : (r : Readable) (text masked : List ℕ) → IsMaskedText r text masked → newline_count masked ≡ newline_count text
text_count r text masked is = by (has_word text) is
  where
    go : (cut : Result (List Line) TextFault) → IsTextBy r cut text masked → newline_count masked ≡ newline_count text
    go (Ok lines) are = stays_count lines text masked (blocks_stay r lines text masked are)
    go (Err fault) kept = ap (λ (xs : List ℕ). newline_count xs) kept

    by : (b : Bool) → IsMaskedBy r b text masked → newline_count masked ≡ newline_count text
    by true is = go (lines_of 0 text) is
    by false same = ap (λ (xs : List ℕ). newline_count xs) same
