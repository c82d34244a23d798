-- A row of a report from its parts.
use Rattle.std.proofs.Common.{◌≡◌, ◌∙◌, ℕ, List, [], ◌∷◌, ◌++◌, ap, append-nil, append_assoc, refl, sym}
use Rattle.csv.specs.Writing.{default_writer, field_text, fields_text, is_blank}
use Rattle.audit_files.specs.Report.{line}

fields_text-append : (xs ys : List (List ℕ))
    → fields_text default_writer (xs ++ ys) ≡ fields_text default_writer xs ++ fields_text default_writer ys
unfolding fields_text
fields_text-append [] ys = refl
fields_text-append (x ∷ xs) ys =
    ap (λ (t : List ℕ). 44 ∷ (field_text default_writer x ++ t)) (fields_text-append xs ys)
    ∙ ap (λ (t : List ℕ). 44 ∷ t)
    (sym (append_assoc (field_text default_writer x) (fields_text default_writer xs) (fields_text default_writer ys)))

-- the record of a first field and of others, the first of which is there
line_text : (sender field : List ℕ) (rest : List (List ℕ))
    → line (sender ∷ field ∷ rest) ≡ (field_text default_writer sender ++ fields_text default_writer (field ∷ rest)) ++ 10 ∷ []
unfolding is_blank
line_text sender field rest = refl

-- a text behind which the fields of two lists were put, one list after the other
pub both-lists : (old one new : List ℕ) (xs ys : List (List ℕ)) → one ≡ old ++ fields_text default_writer xs
    → new ≡ one ++ fields_text default_writer ys → new ≡ old ++ fields_text default_writer (xs ++ ys)
both-lists old one new xs ys first second =
    second ∙ ap (λ (t : List ℕ). t ++ fields_text default_writer ys) first
    ∙ append_assoc old (fields_text default_writer xs) (fields_text default_writer ys)
    ∙ ap (λ (t : List ℕ). old ++ t) (sym (fields_text-append xs ys))

regrouped : (s a b c d e : List ℕ) → ((((s ++ a) ++ b) ++ c) ++ d) ++ e ≡ s ++ ((a ++ (b ++ (c ++ d))) ++ e)
regrouped s a b c d e = simp append_assoc

pub row_of : (old one two three four new scratch sender field : List ℕ) (asker asked verdict : List (List ℕ))
    → one ≡ old ++ scratch → scratch ≡ field_text default_writer sender
    → two ≡ one ++ fields_text default_writer (field ∷ asker) → three ≡ two ++ fields_text default_writer asked
    → four ≡ three ++ fields_text default_writer verdict → new ≡ four ++ 10 ∷ []
    → new ≡ old ++ line (sender ∷ ((field ∷ asker) ++ (asked ++ verdict)))
row_of old one two three four new scratch sender field asker asked verdict first is second third fourth end =
    let text : List (List ℕ) → List ℕ = fields_text default_writer in
    let all : text ((field ∷ asker) ++ (asked ++ verdict)) ≡ text (field ∷ asker) ++ (text asked ++ text verdict) =
    fields_text-append (field ∷ asker) (asked ++ verdict)
    ∙ ap (λ (t : List ℕ). text (field ∷ asker) ++ t) (fields_text-append asked verdict) in
    let begun : one ≡ old ++ field_text default_writer sender = first ∙ ap (λ (t : List ℕ). old ++ t) is in
    end ∙ ap (λ (t : List ℕ). t ++ 10 ∷ []) (fourth ∙ ap (λ (t : List ℕ). t ++ text verdict)
    (third ∙ ap (λ (t : List ℕ). t ++ text asked) (second ∙ ap (λ (t : List ℕ). t ++ text (field ∷ asker)) begun)))
    ∙ regrouped old (field_text default_writer sender) (text (field ∷ asker)) (text asked) (text verdict) (10 ∷ [])
    ∙ ap (λ (t : List ℕ). old ++ ((field_text default_writer sender ++ t) ++ 10 ∷ [])) (sym all)
    ∙ ap (λ (t : List ℕ). old ++ t) (sym (line_text sender field (asker ++ (asked ++ verdict))))

-- a record from its first field and the others
pub line-of : (old one new first second : List ℕ) (rest : List (List ℕ)) → one ≡ old ++ field_text default_writer first
    → new ≡ one ++ (fields_text default_writer (second ∷ rest) ++ 10 ∷ []) → new ≡ old ++ line (first ∷ second ∷ rest)
line-of old one new first second rest begun more =
    more ∙ ap (λ (t : List ℕ). t ++ (fields_text default_writer (second ∷ rest) ++ 10 ∷ [])) begun
    ∙ gathered old (field_text default_writer first) (fields_text default_writer (second ∷ rest)) (10 ∷ [])
    ∙ ap (λ (t : List ℕ). old ++ t) (sym (line_text first second rest))
  where
    gathered : (a b c d : List ℕ) → (a ++ b) ++ (c ++ d) ≡ a ++ ((b ++ c) ++ d)
    gathered a b c d = simp append_assoc

-- three fields that are known by other words
fields-three : (a b c second third fourth : List ℕ) → a ≡ second → b ≡ third → c ≡ fourth
    → fields_text default_writer (a ∷ b ∷ c ∷ []) ≡ fields_text default_writer (second ∷ third ∷ fourth ∷ [])
fields-three a b c second third fourth is_a is_b is_c =
    ap (λ (t : List ℕ). fields_text default_writer (t ∷ b ∷ c ∷ [])) is_a
    ∙ ap (λ (t : List ℕ). fields_text default_writer (second ∷ t ∷ c ∷ [])) is_b
    ∙ ap (λ (t : List ℕ). fields_text default_writer (second ∷ third ∷ t ∷ [])) is_c

-- a record of four fields, of which three are known by other words
pub line-four : (old one two new first a b c second third fourth : List ℕ) → one ≡ old ++ field_text default_writer first
    → a ≡ second → b ≡ third → c ≡ fourth
    → two ≡ one ++ fields_text default_writer (a ∷ b ∷ c ∷ []) → new ≡ two ++ 10 ∷ []
    → new ≡ old ++ line (first ∷ second ∷ third ∷ fourth ∷ [])
line-four old one two new first a b c second third fourth begun is_a is_b is_c more end =
    let three : List ℕ = fields_text default_writer (second ∷ third ∷ fourth ∷ []) in
    line-of old one new first second (third ∷ fourth ∷ []) begun
    (end ∙ ap (λ (t : List ℕ). t ++ 10 ∷ []) more
    ∙ ap (λ (t : List ℕ). (one ++ t) ++ 10 ∷ []) (fields-three a b c second third fourth is_a is_b is_c)
    ∙ append_assoc one three (10 ∷ []))

field-text : (field : List ℕ) → fields_text default_writer (field ∷ []) ≡ 44 ∷ field_text default_writer field
unfolding fields_text
field-text field = ap (λ (t : List ℕ). 44 ∷ t) (append-nil (field_text default_writer field))

-- a record of five fields, of which four are known by other words
pub line-five : (old one two three new first a b c d second third fourth fifth : List ℕ)
    → one ≡ old ++ field_text default_writer first → a ≡ second → b ≡ third → c ≡ fourth → d ≡ fifth
    → two ≡ one ++ fields_text default_writer (a ∷ b ∷ c ∷ []) → three ≡ two ++ 44 ∷ field_text default_writer d
    → new ≡ three ++ 10 ∷ [] → new ≡ old ++ line (first ∷ second ∷ third ∷ fourth ∷ fifth ∷ [])
line-five old one two three new first a b c d second third fourth fifth begun is_a is_b is_c is_d more last end =
    let front : List ℕ = fields_text default_writer (second ∷ third ∷ fourth ∷ []) in
    let back : List ℕ = 44 ∷ field_text default_writer fifth in
    let all : fields_text default_writer (second ∷ third ∷ fourth ∷ fifth ∷ []) ≡ front ++ back =
    fields_text-append (second ∷ third ∷ fourth ∷ []) (fifth ∷ []) ∙ ap (λ (t : List ℕ). front ++ t) (field-text fifth) in
    let so_far : three ≡ (one ++ front) ++ back =
    last ∙ ap (λ (t : List ℕ). t ++ 44 ∷ field_text default_writer d) more
    ∙ ap (λ (t : List ℕ). (one ++ t) ++ 44 ∷ field_text default_writer d) (fields-three a b c second third fourth is_a is_b is_c)
    ∙ ap (λ (t : List ℕ). (one ++ front) ++ 44 ∷ field_text default_writer t) is_d in
    line-of old one new first second (third ∷ fourth ∷ fifth ∷ []) begun
    (end ∙ ap (λ (t : List ℕ). t ++ 10 ∷ []) so_far ∙ joined one front back (10 ∷ [])
    ∙ ap (λ (t : List ℕ). one ++ (t ++ 10 ∷ [])) (sym all))
  where
    joined : (a b c d : List ℕ) → ((a ++ b) ++ c) ++ d ≡ a ++ ((b ++ c) ++ d)
    joined a b c d = simp append_assoc
