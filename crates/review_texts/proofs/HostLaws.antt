-- The names of hosts in place of `%h`.
use Rattle.std.proofs.Common.{◌≡◌, ℕ, zero, suc, ◌+◌, ◌<◌, Bool, true, false, not, cond, List, [], ◌∷◌, ◌++◌, length, take, drop}
use Rattle.std.proofs.Common.{refl, sym, ◌∙◌, ap, subst, arith, Option, None, Some, inl, inr}
use Rattle.std.specs.Prelude.{◌==◌, ◌&&◌, nat_le, nat_lt}
use Rattle.std.specs.List.{list_all, prefix_len, take_while}
use Rattle.std.proofs.lemmas.Bool.{and_parts, true≢false}
use Rattle.sudo_text.specs.declared.line.Line.{Line}
use Rattle.sudo_grammar.specs.declared.fault.Unsupported.{Unsupported}
use Rattle.sudo_grammar.specs.declared.fault.Unsupported.TheVariants as forms
use Rattle.sudo_match.specs.Matching.{short_name}
use Rattle.review_texts.specs.declared.mask.Form.{Form}
use Rattle.review_texts.specs.declared.mask.Form.TheVariants as what
use Rattle.review_texts.specs.declared.mask.Mask.{Mask}
use Rattle.review_texts.specs.declared.readable.Readable.{Readable}
use Rattle.review_texts.specs.Places.{IsRefusedAs, IsRefusedFor}
use Rattle.review_texts.specs.Hostnames.{are_labels, is_hostname, is_label_byte, named_text, StandsName}
use Rattle.review_texts.specs.Laws.{on_host}
use Rattle.review_texts.specs.Masks.{Stands, StandsAt, IsFirstStand, IsMask, IsUnmasked, IsBehind, IsMasked, behind, most_masks}

-- ---- What stands

front_labels : (dotted : Bool) (xs : List ℕ) → are_labels dotted xs ≡ true
    → list_all is_label_byte (take_while (λ b. not (b == 46)) xs) ≡ true
front_labels dotted [] are = refl
front_labels dotted (x ∷ xs) are = by (x == 46) (λ e. front_labels true xs e) are
  where
    by : (dot : Bool) → (are_labels true xs ≡ true → list_all is_label_byte (take_while (λ b. not (b == 46)) xs) ≡ true)
        → cond dot (dotted && are_labels false xs) (is_label_byte x && are_labels true xs) ≡ true
        → list_all is_label_byte (take (cond (not dot) (1 + prefix_len (λ b. not (b == 46)) xs) 0) (x ∷ xs)) ≡ true
    by true rest are = refl
    by false rest are =
        let parts = and_parts (is_label_byte x) (are_labels true xs) are in
        let one : 1 + prefix_len (λ b. not (b == 46)) xs ≡ suc (prefix_len (λ b. not (b == 46)) xs) = omega arith in
        ap (λ (n : ℕ). list_all is_label_byte (take n (x ∷ xs))) one
        ∙ ap (λ (b : Bool). b && list_all is_label_byte (take_while (λ b. not (b == 46)) xs)) parts.0 ∙ rest parts.1

front_some : (xs : List ℕ) → nat_lt 0 (length xs) ≡ true → are_labels false xs ≡ true
    → 0 < length (take_while (λ b. not (b == 46)) xs)
front_some [] some are = absurd (true≢false (sym some))
front_some (x ∷ xs) some are = by (x == 46) are
  where
    by : (dot : Bool) → cond dot (false && are_labels false xs) (is_label_byte x && are_labels true xs) ≡ true
        → 0 < length (take (cond (not dot) (1 + prefix_len (λ b. not (b == 46)) xs) 0) (x ∷ xs))
    by true are = absurd (true≢false (sym are))
    by false are =
        let one : suc (prefix_len (λ b. not (b == 46)) xs) ≡ 1 + prefix_len (λ b. not (b == 46)) xs = omega arith in
        let more : 0 < length (take (suc (prefix_len (λ b. not (b == 46)) xs)) (x ∷ xs)) = omega arith in
        subst (λ (n : ℕ). 0 < length (take n (x ∷ xs))) one more

pub names_stand : (host : List ℕ) (line : Line) (start end : ℕ) (put : List ℕ) → StandsName (Some host) line start end put
    → (put ≡ named_text host line.text start) × (0 < length (short_name host))
    × (list_all is_label_byte (short_name host) ≡ true)
names_stand host line start end put (named, stands, is, text) =
    let parts = and_parts (nat_lt 0 (length host) && nat_le (length host) 255) (are_labels false host) named in
    let some = and_parts (nat_lt 0 (length host)) (nat_le (length host) 255) parts.0 in
    (text, front_some host some.0 parts.1, front_labels false host parts.1)

-- ---- Lines without `%h`

stands_too : (r : Readable) (host : Option (List ℕ)) (line : Line) (form : Unsupported) (start end : ℕ) (put : List ℕ)
    → (form ≡ forms.HostEscape → ⊥) → Stands r line form start end put → Stands (on_host host r) line form start end put
stands_too r host line forms.CommandOption start end put other stands = stands
stands_too r host line forms.List start end put other stands = stands
stands_too r host line forms.Digest start end put other stands = stands
stands_too r host line forms.Netgroup start end put other stands = stands
stands_too r host line forms.NonUnixGroup start end put other stands = stands
stands_too r host line forms.RegularExpression start end put other stands = stands
stands_too r host line forms.HostEscape start end put other stands = absurd (other refl)

stands_before : (r : Readable) (host : Option (List ℕ)) (line : Line) (form : Unsupported) (start end : ℕ) (put : List ℕ)
    → (form ≡ forms.HostEscape → ⊥) → Stands (on_host host r) line form start end put → Stands r line form start end put
stands_before r host line forms.CommandOption start end put other stands = stands
stands_before r host line forms.List start end put other stands = stands
stands_before r host line forms.Digest start end put other stands = stands
stands_before r host line forms.Netgroup start end put other stands = stands
stands_before r host line forms.NonUnixGroup start end put other stands = stands
stands_before r host line forms.RegularExpression start end put other stands = stands
stands_before r host line forms.HostEscape start end put other stands = absurd (other refl)

form_too : (r : Readable) (host : Option (List ℕ)) (line : Line) (form : Form) (start end : ℕ) (put : List ℕ)
    → (form ≡ what.Named forms.HostEscape → ⊥) → StandsAt r line form start end put → StandsAt (on_host host r) line form start end put
form_too r host line (what.Named form) start end put other stands =
    stands_too r host line form start end put (λ e. other (ap what.Named e)) stands
form_too r host line what.Ipv6 start end put other stands = stands

form_before : (r : Readable) (host : Option (List ℕ)) (line : Line) (form : Form) (start end : ℕ) (put : List ℕ)
    → (form ≡ what.Named forms.HostEscape → ⊥) → StandsAt (on_host host r) line form start end put → StandsAt r line form start end put
form_before r host line (what.Named form) start end put other stands =
    stands_before r host line form start end put (λ e. other (ap what.Named e)) stands
form_before r host line what.Ipv6 start end put other stands = stands

mask_too : (r : Readable) (host : Option (List ℕ)) (line : Line) (mask : Mask) → (mask.form ≡ what.Named forms.HostEscape → ⊥)
    → IsMask r line mask → IsMask (on_host host r) line mask
mask_too r host line mask other is = record {
  fit = is.fit;
  refused = is.refused;
  stands = record {
    named = is.stands.named;
    stands = form_too r host line mask.form mask.start mask.end mask.put other is.stands.stands;
    first = λ start end put before stands.
        is.stands.first start end put before (form_before r host line mask.form start end put other stands);
  };
}

mask_before : (r : Readable) (host : Option (List ℕ)) (line : Line) (mask : Mask) → (mask.form ≡ what.Named forms.HostEscape → ⊥)
    → IsMask (on_host host r) line mask → IsMask r line mask
mask_before r host line mask other is = record {
  fit = is.fit;
  refused = is.refused;
  stands = record {
    named = is.stands.named;
    stands = form_before r host line mask.form mask.start mask.end mask.put other is.stands.stands;
    first = λ start end put before stands.
        is.stands.first start end put before (form_too r host line mask.form start end put other stands);
  };
}

pub unmasked_too : (r : Readable) (host : Option (List ℕ)) (line : Line) → r.host ≡ None
    → (IsRefusedFor line forms.HostEscape → ⊥) → IsUnmasked r line → IsUnmasked (on_host host r) line
unmasked_too r host line none other unmasked = λ mask is.
    unmasked mask (mask_before r host line mask (λ e. other (subst (IsRefusedAs line) e is.refused)) is)

-- Without a host no mask is one of `%h`.
no_escape : (r : Readable) (line : Line) (mask : Mask) → r.host ≡ None → IsMask r line mask → mask.form ≡ what.Named forms.HostEscape → ⊥
no_escape r line mask none is e =
    let stands = subst (λ form. StandsAt r line form mask.start mask.end mask.put) e is.stands.stands in
    subst (λ host. StandsName host line mask.start mask.end mask.put) none stands

behind_too : (r : Readable) (host : Option (List ℕ)) (n : ℕ) (line masked : Line) → r.host ≡ None
    → (IsRefusedFor masked forms.HostEscape → ⊥) → IsBehind r n line masked → IsBehind (on_host host r) n line masked
unfolding IsBehind
behind_too r host zero line masked none other is = is
behind_too r host (suc n) line masked none other (inl (unmasked, same)) =
    inl (unmasked_too r host line none (subst (λ l. IsRefusedFor l forms.HostEscape → ⊥) same other) unmasked, same)
behind_too r host (suc n) line masked none other (inr (mask, is, rest)) =
    inr (mask, mask_too r host line mask (no_escape r line mask none is) is, behind_too r host n (behind line mask) masked none other rest)

pub masked_too : (r : Readable) (host : Option (List ℕ)) (line masked : Line) → r.host ≡ None
    → (IsRefusedFor masked forms.HostEscape → ⊥) → IsMasked r line masked → IsMasked (on_host host r) line masked
masked_too r host line masked none other (mask, is, rest) = (
  mask,
  mask_too r host line mask (no_escape r line mask none is) is,
  behind_too r host most_masks (behind line mask) masked none other rest,
)
