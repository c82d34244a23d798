-- The places of forms.
use Rattle.std.proofs.Common.{◌≡◌, ℕ, zero, suc, ◌+◌, ◌-◌, ◌<◌, ◌≤◌, Bool, true, false, not, List, [], ◌∷◌}
use Rattle.std.proofs.Common.{length, drop, refl, sym, ◌∙◌, subst}
use Rattle.std.proofs.Common.{Option, None, Some, inl, inr, arith}
use Rattle.std.specs.Prelude.{◌&&◌, ◌||◌, ◌==◌, if◌then◌else◌, codes, count_by, nat_eq, nat_le, nat_lt, slice_index, MatchOption}
use Rattle.sudo_text.specs.Rules.{begins_defaults}
use Rattle.std.specs.List.{starts_with, take_while}
use Rattle.std.proofs.lemmas.Bool.{cases_lt, and_parts, true≢false}
use Rattle.std.proofs.Math.ListN.{drop_of_length-le}
use Rattle.sudo_text.specs.declared.line.Line.{Line}
use Rattle.sudo_text.specs.Bytes.{is_blank}
use Rattle.sudo_text.specs.Pieces.{skip}
use Rattle.sudo_grammar.specs.Words.{is_name_byte}
use Rattle.sudo_grammar.specs.declared.fault.Unsupported.{Unsupported}
use Rattle.sudo_grammar.specs.declared.fault.Unsupported.TheVariants as forms
use Rattle.audit_files.specs.declared.netgroups.Triple.{Triple}
use Rattle.review_texts.specs.declared.mask.Form.{Form}
use Rattle.review_texts.specs.declared.mask.Form.TheVariants as what
use Rattle.review_texts.specs.declared.mask.Mask.{Mask}
use Rattle.review_texts.specs.declared.readable.Readable.{Readable}
use Rattle.review_texts.specs.declared.netgroups.Group.{Group}
use Rattle.review_texts.specs.declared.netgroups.Group.TheVariants.{Net, NonUnix}
use Rattle.review_texts.specs.Netgroups.{ends_name, group_at, is_known, is_marked, is_named, mark_at, spells_group}
use Rattle.review_texts.specs.Digests.{digest_size, digest_start, digest_at, digest_stop, is_digest}
use Rattle.review_texts.specs.Digests.{may_follow as digest_may_follow, spells_digest}
use Rattle.review_texts.specs.Expressions.{caret_of, dollar_of, expression_at, holds_expression, is_expression, is_file_at}
use Rattle.review_texts.specs.Options.{is_option, name_at, equals_of, value_of, value_at, option_end, takes, spells_option}
use Rattle.review_texts.specs.Hostnames.{spells_escape, StandsName}
use Rattle.review_texts.specs.Netgroups.{ends_item}
use Rattle.review_texts.specs.Ipv6.{ipv6_end, is_ipv6_byte, lets_host_begin, run_at, spells_ipv6}
use Rattle.review_texts.specs.Addressed.{StandsIpv6}
use Rattle.review_texts.specs.declared.ipv6.HostAddress.{HostAddress}
use Rattle.review_texts.specs.Places.{IsRefusedAs, spells_expression, spells_list, may_follow}
use Rattle.review_texts.specs.Masks.{Stands, StandsAt, is_fit, IsFirstStand, IsMask, IsUnmasked, IsBehind, behind}
use Rattle.review_texts.proofs.LoneLines.{one_refusal}

no_name : (noted : Bool) → is_option noted [] ≡ false
no_name true = refl
no_name false = refl

no_option : (noted : Bool) (text : List ℕ) (at : ℕ) → drop at text ≡ [] → spells_option noted text at ≡ true → ⊥
unfolding spells_option
no_option noted text at none spelled =
    let first = and_parts (not (is_name_byte (slice_index text (at - 1))) && is_option noted (name_at text at)
    && (slice_index text (equals_of text at) == 61) && takes (name_at text at) (value_at text (value_of text at))
    && is_blank (slice_index text (option_end text at))) (not (slice_index text (skip text (option_end text at)) == 40)) spelled in
    let second = and_parts (not (is_name_byte (slice_index text (at - 1))) && is_option noted (name_at text at)
    && (slice_index text (equals_of text at) == 61) && takes (name_at text at) (value_at text (value_of text at)))
    (is_blank (slice_index text (option_end text at))) first.0 in
    let third = and_parts (not (is_name_byte (slice_index text (at - 1))) && is_option noted (name_at text at)
    && (slice_index text (equals_of text at) == 61)) (takes (name_at text at) (value_at text (value_of text at))) second.0 in
    let fourth = and_parts (not (is_name_byte (slice_index text (at - 1))) && is_option noted (name_at text at))
    (slice_index text (equals_of text at) == 61) third.0 in
    let fifth = and_parts (not (is_name_byte (slice_index text (at - 1)))) (is_option noted (name_at text at)) fourth.0 in
    let empty : is_option noted (take_while is_name_byte []) ≡ true =
    subst (λ (xs : List ℕ). is_option noted (take_while is_name_byte xs) ≡ true) none fifth.1 in
    true≢false (sym empty ∙ no_name noted)

no_list : (text : List ℕ) (at : ℕ) → drop at text ≡ [] → spells_list text at ≡ true → ⊥
unfolding spells_list
no_list text at none spelled =
    let first = and_parts (starts_with nat_eq (drop at text) (codes "list")) (may_follow text (at + 4)) spelled in
    let empty : starts_with nat_eq [] (codes "list") ≡ true =
    subst (λ (xs : List ℕ). starts_with nat_eq xs (codes "list") ≡ true) none first.0 in
    true≢false (sym empty)

no_digest : (text : List ℕ) (at : ℕ) → drop at text ≡ [] → spells_digest text at ≡ true → ⊥
unfolding spells_digest
no_digest text at none spelled =
    let first = and_parts (nat_lt 0 (digest_size (drop at text))
    && is_digest (digest_size (drop at text)) (digest_at text (digest_start text at))
    && digest_may_follow text (digest_stop text at)) (not (begins_defaults text)) spelled in
    let second = and_parts (nat_lt 0 (digest_size (drop at text))
    && is_digest (digest_size (drop at text)) (digest_at text (digest_start text at)))
    (digest_may_follow text (digest_stop text at)) first.0 in
    let third = and_parts (nat_lt 0 (digest_size (drop at text)))
    (is_digest (digest_size (drop at text)) (digest_at text (digest_start text at))) second.0 in
    let empty : nat_lt 0 (digest_size []) ≡ true =
    subst (λ (xs : List ℕ). nat_lt 0 (digest_size xs) ≡ true) none third.0 in
    true≢false (sym empty)

past_end : (text : List ℕ) (at : ℕ) → drop at text ≡ [] → slice_index text at ≡ 0
past_end [] zero none = refl
past_end [] (suc at) none = refl
past_end (b ∷ text) zero none = cc
past_end (b ∷ text) (suc at) none = past_end text at none

no_mark : (group : Group) (text : List ℕ) (at : ℕ) → drop at text ≡ [] → is_marked group text (mark_at text at) ≡ true → ⊥
no_mark Net text at none marked =
    let here : (slice_index text at == 43) ≡ true = subst
    (λ (b : ℕ). (slice_index text (if b == 34 then at + 1 else at) == 43) ≡ true) (past_end text at none) marked in
    let empty : (0 == 43) ≡ true = subst (λ (b : ℕ). (b == 43) ≡ true) (past_end text at none) here in
    true≢false (sym empty)
no_mark NonUnix text at none marked =
    let percent = and_parts (slice_index text (mark_at text at) == 37) (slice_index text (mark_at text at + 1) == 58) marked in
    let here : (slice_index text at == 37) ≡ true = subst
    (λ (b : ℕ). (slice_index text (if b == 34 then at + 1 else at) == 37) ≡ true) (past_end text at none) percent.0 in
    let empty : (0 == 37) ≡ true = subst (λ (b : ℕ). (b == 37) ≡ true) (past_end text at none) here in
    true≢false (sym empty)

no_group : (group : Group) (known : List Triple) (text : List ℕ) (at : ℕ) → drop at text ≡ [] → spells_group group known text at ≡ true
    → ⊥
unfolding spells_group
no_group group known text at none spelled =
    let first = and_parts (is_marked group text (mark_at text at) && ends_name group text at)
    (is_named group text at && is_known known (group_at group text at)) spelled in
    let second = and_parts (is_marked group text (mark_at text at)) (ends_name group text at) first.0 in
    no_mark group text at none second.0

no_expression : (text : List ℕ) (at : ℕ) → drop at text ≡ [] → spells_expression text at ≡ true → ⊥
unfolding spells_expression
no_expression text at none spelled =
    let first = and_parts (holds_expression text at && may_follow text (dollar_of text at + 1)) (not (begins_defaults text)) spelled in
    let second = and_parts (holds_expression text at) (may_follow text (dollar_of text at + 1)) first.0 in
    let third = and_parts ((is_file_at text at || (slice_index text at == 94)) && (slice_index text (caret_of text at) == 94)
    && is_expression false (expression_at text at)) (slice_index text (dollar_of text at) == 36) second.0 in
    let fourth = and_parts ((is_file_at text at || (slice_index text at == 94)) && (slice_index text (caret_of text at) == 94))
    (is_expression false (expression_at text at)) third.0 in
    let fifth = and_parts (is_file_at text at || (slice_index text at == 94)) (slice_index text (caret_of text at) == 94) fourth.0 in
    let empty : (((0 == 47) && not (slice_index text (at + length (value_at text at) - 1) == 47)
    && is_blank (slice_index text (at + length (value_at text at)))) || (0 == 94)) ≡ true =
    subst (λ (b : ℕ). (((b == 47) && not (slice_index text (at + length (value_at text at) - 1) == 47)
    && is_blank (slice_index text (at + length (value_at text at)))) || (b == 94)) ≡ true) (past_end text at none) fifth.0 in
    true≢false (sym empty)

no_escape : (text : List ℕ) (at : ℕ) → drop at text ≡ [] → spells_escape text at ≡ true → ⊥
unfolding spells_escape
no_escape text at none spelled =
    let first = and_parts (slice_index text at == 37) (slice_index text (at + 1) == 104) spelled in
    let empty : (0 == 37) ≡ true = subst (λ (b : ℕ). (b == 37) ≡ true) (past_end text at none) first.0 in
    true≢false (sym empty)

no_name_stands : (host : Option (List ℕ)) (line : Line) (start end : ℕ) (put : List ℕ) → drop start line.text ≡ []
    → StandsName host line start end put → ⊥
no_name_stands None line start end put none stands = stands
no_name_stands (Some name) line start end put none stands = no_escape line.text start none stands.1.0

no_stand : (r : Readable) (line : Line) (form : Unsupported) (start end : ℕ) (put : List ℕ) → drop start line.text ≡ []
    → Stands r line form start end put → ⊥
no_stand r line forms.CommandOption start end put none stands = no_option r.noted line.text start none stands.0.spelled
no_stand r line forms.List start end put none stands = no_list line.text start none stands.0.spelled
no_stand r line forms.Digest start end put none stands = no_digest line.text start none stands.1.spelled
no_stand r line forms.Netgroup start end put none stands = no_group Net r.netgroups.items line.text start none stands.0.spelled
no_stand r line forms.NonUnixGroup start end put none stands =
    no_group NonUnix r.netgroups.items line.text start none stands.0.spelled
no_stand r line forms.RegularExpression start end put none stands = no_expression line.text start none stands.1.spelled
no_stand r line forms.HostEscape start end put none stands = no_name_stands r.host line start end put none stands

no_ipv6 : (text : List ℕ) (at : ℕ) → drop at text ≡ [] → spells_ipv6 text at ≡ true → ⊥
unfolding spells_ipv6
no_ipv6 text at none spelled =
    let first = and_parts (is_ipv6_byte (slice_index text at) && lets_host_begin (slice_index text (at - 1)))
    (ends_item text (ipv6_end text at) && nat_le (count_by (λ b. b == 58) (run_at text at)) 7
    && not (begins_defaults text && (slice_index text at == 58))) spelled in
    let second = and_parts (is_ipv6_byte (slice_index text at)) (lets_host_begin (slice_index text (at - 1))) first.0 in
    let empty : is_ipv6_byte 0 ≡ true = subst (λ (b : ℕ). is_ipv6_byte b ≡ true) (past_end text at none) second.0 in
    true≢false (sym empty)

no_member_stands : (known : Option (List HostAddress)) (line : Line) (start end : ℕ) (put : List ℕ) → drop start line.text ≡ []
    → StandsIpv6 known line start end put → ⊥
no_member_stands None line start end put none stands = stands
no_member_stands (Some known) line start end put none stands = no_ipv6 line.text start none stands.0.spelled

none_at : (r : Readable) (line : Line) (form : Form) (start end : ℕ) (put : List ℕ) → drop start line.text ≡ []
    → StandsAt r line form start end put → ⊥
none_at r line (what.Named form) start end put none stands = no_stand r line form start end put none stands
none_at r line what.Ipv6 start end put none stands = no_member_stands r.addresses line start end put none stands

-- A form stands within the line.
pub stands_within : (r : Readable) (line : Line) (form : Form) (start end : ℕ) (put : List ℕ) → StandsAt r line form start end put
    → start < length line.text
stands_within r line form start end put stands = elim (cases_lt start (length line.text)) [
  | inl below ↦ below
  | inr past ↦ absurd (none_at r line form start end put (drop_of_length-le line.text past) stands)
]

-- The masks of a line, by what it is refused for.
pub unfit : (r : Readable) (line : Line) → is_fit line ≡ false → IsUnmasked r line
unfit r line bad mask is = true≢false (sym is.fit ∙ bad)

pub unrefused : (r : Readable) (line : Line) → ((form : Form) → IsRefusedAs line form → ⊥) → IsUnmasked r line
unrefused r line none mask is = none mask.form is.refused

abbrev pub FoundStand : Readable → Line → Form → Option Mask → Type 0
FoundStand r line form found =
    MatchOption found ((start end : ℕ) (put : List ℕ) → StandsAt r line form start end put → ⊥) (λ mask. IsFirstStand r line form mask)

pub masked_by : (r : Readable) (line : Line) (form : Form) (found : Option Mask) → is_fit line ≡ true → IsRefusedAs line form
    → FoundStand r line form found → MatchOption found (IsUnmasked r line) (λ mask. IsMask r line mask)
masked_by r line form None fit refused none = λ mask is.
    let same : mask.form ≡ form = one_refusal line mask.form form is.refused refused in
    none mask.start mask.end mask.put (subst (λ f. StandsAt r line f mask.start mask.end mask.put) same is.stands.stands)
masked_by r line form (Some mask) fit refused stand = record {
  fit = fit;
  refused = subst (IsRefusedAs line) (sym stand.named) refused;
  stands = subst (λ f. IsFirstStand r line f mask) (sym stand.named) stand;
}

-- A mask begins within the line.
pub mask_within : (r : Readable) (line : Line) (mask : Mask) → IsMask r line mask → mask.start ≤ length line.text
mask_within r line mask is = let below = stands_within r line mask.form mask.start mask.end mask.put is.stands.stands in omega arith

-- One mask, and then as many fewer.
pub behind_none : (r : Readable) (line : Line) → IsBehind r 0 line line
unfolding IsBehind
behind_none r line = refl

pub behind_unmasked : (r : Readable) (n : ℕ) (line : Line) → IsUnmasked r line → IsBehind r n line line
unfolding IsBehind
behind_unmasked r zero line none = refl
behind_unmasked r (suc n) line none = inl (none, refl)

pub behind_more : (r : Readable) (n left : ℕ) (line masked : Line) (mask : Mask) → IsMask r line mask → left + 1 ≡ n
    → IsBehind r left (behind line mask) masked → IsBehind r n line masked
unfolding IsBehind
behind_more r n left line masked mask is next rest =
    let same : suc left ≡ n = omega arith in
    let more : IsBehind r (suc left) line masked = inr (mask, is, rest) in
    subst (λ (k : ℕ). IsBehind r k line masked) same more
