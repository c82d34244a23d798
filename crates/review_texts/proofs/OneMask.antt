-- A text has one masked text.
use Rattle.std.proofs.Common.{◌≡◌, ℕ, zero, suc, ◌≤◌, Bool, true, false, List, [], ◌∷◌, ◌++◌, length, drop, sym, ◌∙◌}
use Rattle.std.proofs.Common.{ap, subst, arith, Result, Ok, Err, Option, None, Some, inl, inr}
use Rattle.std.proofs.lemmas.Bool.{cases_lt}
use Rattle.sudo_text.specs.declared.line.Line.{Line}
use Rattle.sudo_text.specs.declared.fault.TextFault.{TextFault}
use Rattle.sudo_text.specs.Lines.{lines_of}
use Rattle.sudo_grammar.specs.declared.fault.Unsupported.{Unsupported}
use Rattle.sudo_grammar.specs.declared.fault.Unsupported.TheVariants as forms
use Rattle.review_texts.specs.declared.readable.Readable.{Readable}
use Rattle.review_texts.specs.declared.mask.Form.{Form}
use Rattle.review_texts.specs.declared.mask.Form.TheVariants as what
use Rattle.review_texts.specs.declared.mask.Mask.{Mask}
use Rattle.review_texts.specs.declared.ipv6.HostAddress.{HostAddress}
use Rattle.review_texts.specs.declared.netgroups.Group.TheVariants.{Net, NonUnix}
use Rattle.review_texts.proofs.MemberLists.{one_members}
use Rattle.review_texts.specs.Hostnames.{StandsName}
use Rattle.review_texts.specs.Addressed.{StandsIpv6}
use Rattle.review_texts.specs.Masks.{Stands, StandsAt, behind, IsMask, IsBehind, IsMasked, most_masks}
use Rattle.review_texts.specs.MaskedTexts.{written, IsBlock, IsBlockBy, IsPlainBlock, AreBlocks, IsTextBy, IsMaskedBy, IsMaskedText}
use Rattle.review_texts.specs.Words.{has_word}
use Rattle.review_texts.proofs.LoneLines.{one_refusal}

one_name_standing : (host : Option (List ℕ)) (line : Line) (start end stop : ℕ) (put other : List ℕ)
    → StandsName host line start end put → StandsName host line start stop other → (end ≡ stop) × (put ≡ other)
one_name_standing None line start end stop put other stands again = absurd stands
one_name_standing (Some name) line start end stop put other (named, stands, is, text) (too, also, same, written) =
    (is ∙ sym same, text ∙ sym written)

-- A form ends at one place, and one text stands in its place.
one_standing : (r : Readable) (line : Line) (form : Unsupported) (start end stop : ℕ) (put other : List ℕ)
    → Stands r line form start end put → Stands r line form start stop other → (end ≡ stop) × (put ≡ other)
one_standing r line forms.CommandOption start end stop put other (stands, is, text) (again, same, written) =
    (is ∙ sym same, text ∙ sym written)
one_standing r line forms.List start end stop put other (stands, is, text) (again, same, written) = (is ∙ sym same, text ∙ sym written)
one_standing r line forms.Digest start end stop put other (on, stands, is, text) (too, again, same, written) =
    (is ∙ sym same, text ∙ sym written)
one_standing r line forms.Netgroup start end stop put other (stands, is) (again, same) =
    (is ∙ sym same, one_members Net r.netgroups.items line start put other stands.members again.members)
one_standing r line forms.NonUnixGroup start end stop put other (stands, is) (again, same) =
    (is ∙ sym same, one_members NonUnix r.netgroups.items line start put other stands.members again.members)
one_standing r line forms.RegularExpression start end stop put other (on, stands, is, text) (too, again, same, written) =
    (is ∙ sym same, text ∙ sym written)
one_standing r line forms.HostEscape start end stop put other stands again =
    one_name_standing r.host line start end stop put other stands again

one_member_standing : (known : Option (List HostAddress)) (line : Line) (start end stop : ℕ) (put other : List ℕ)
    → StandsIpv6 known line start end put → StandsIpv6 known line start stop other → (end ≡ stop) × (put ≡ other)
one_member_standing None line start end stop put other stands again = absurd stands
one_member_standing (Some known) line start end stop put other (stands, is) (again, same) =
    let both : Some put ≡ Some other = sym stands.list ∙ again.list in
    (is ∙ sym same, cc)

one_stand : (r : Readable) (line : Line) (form : Form) (start end stop : ℕ) (put other : List ℕ)
    → StandsAt r line form start end put → StandsAt r line form start stop other → (end ≡ stop) × (put ≡ other)
one_stand r line (what.Named form) start end stop put other stands again =
    one_standing r line form start end stop put other stands again
one_stand r line what.Ipv6 start end stop put other stands again =
    one_member_standing r.addresses line start end stop put other stands again

not_before : (r : Readable) (line : Line) (a b : Mask) → IsMask r line a → IsMask r line b → a.form ≡ b.form → b.start ≤ a.start
not_before r line a b is other same = elim (cases_lt a.start b.start) [
  | inl before ↦ absurd (other.stands.first a.start a.end a.put before
      (subst (λ f. StandsAt r line f a.start a.end a.put) same is.stands.stands))
  | inr behind ↦ behind
]

one_mask : (r : Readable) (line : Line) (a b : Mask) → IsMask r line a → IsMask r line b → a ≡ b
one_mask r line a b is other =
    let form : a.form ≡ b.form = one_refusal line a.form b.form is.refused other.refused in
    let low : b.start ≤ a.start = not_before r line a b is other form in
    let high : a.start ≤ b.start = not_before r line b a other is (sym form) in
    let start : a.start ≡ b.start = omega arith in
    let moved : StandsAt r line b.form b.start a.end a.put = subst (λ (n : ℕ). StandsAt r line b.form n a.end a.put) start
    (subst (λ f. StandsAt r line f a.start a.end a.put) form is.stands.stands) in
    let same = one_stand r line b.form b.start a.end b.end a.put b.put moved other.stands.stands in
    λ i. record { form = form i; start = start i; end = same.0 i; put = same.1 i }

one_behind : (r : Readable) (n : ℕ) (line a b : Line) → IsBehind r n line a → IsBehind r n line b → a ≡ b
unfolding IsBehind
one_behind r zero line a b is other = is ∙ sym other
one_behind r (suc n) line a b (inl kept) (inl same) = kept.1 ∙ sym same.1
one_behind r (suc n) line a b (inl kept) (inr (mask, is, rest)) = absurd (kept.0 mask is)
one_behind r (suc n) line a b (inr (mask, is, rest)) (inl kept) = absurd (kept.0 mask is)
one_behind r (suc n) line a b (inr (mask, is, rest)) (inr (other, stands, more)) =
    let same : other ≡ mask = one_mask r line other mask stands is in
    one_behind r n (behind line mask) a b rest (subst (λ (m : Mask). IsBehind r n (behind line m) b) same more)

one_masked : (r : Readable) (line a b : Line) → IsMasked r line a → IsMasked r line b → a ≡ b
one_masked r line a b (mask, is, rest) (other, stands, more) =
    let same : other ≡ mask = one_mask r line other mask stands is in
    one_behind r most_masks (behind line mask) a b rest (subst (λ (m : Mask). IsBehind r most_masks (behind line m) b) same more)

one_block_by : (line masked : Line) (bytes a b : List ℕ) → IsBlockBy line masked bytes a → IsBlockBy line masked bytes b → a ≡ b
one_block_by line masked bytes a b (inl is) (inl other) = is.1 ∙ sym other.1
one_block_by line masked bytes a b (inl is) (inr other) = absurd (other.0 is.0)
one_block_by line masked bytes a b (inr is) (inl other) = absurd (is.0 other.0)
one_block_by line masked bytes a b (inr is) (inr other) = is.1 ∙ sym other.1

one_plain : (line : Line) (bytes a b : List ℕ) → IsPlainBlock line bytes a → IsPlainBlock line bytes b → a ≡ b
one_plain line bytes a b (inl is) (inl other) = is.1 ∙ sym other.1
one_plain line bytes a b (inl is) (inr other) = absurd (other.0 is.0)
one_plain line bytes a b (inr is) (inl other) = absurd (is.0 other.0)
one_plain line bytes a b (inr is) (inr other) = is.1 ∙ sym other.1

one_block : (r : Readable) (line : Line) (bytes a b : List ℕ) → IsBlock r line bytes a → IsBlock r line bytes b → a ≡ b
one_block r line bytes a b (inl kept) (inl same) = one_plain line bytes a b kept.1 same.1
one_block r line bytes a b (inl kept) (inr (masked, (mask, is, rest), whole)) = absurd (kept.0 mask is)
one_block r line bytes a b (inr (masked, (mask, is, rest), whole)) (inl kept) = absurd (kept.0 mask is)
one_block r line bytes a b (inr (masked, is, whole)) (inr (other, stands, all)) =
    let same : masked ≡ other = one_masked r line masked other is stands in
    one_block_by line other bytes a b (subst (λ (l : Line). IsBlockBy line l bytes a) same whole) all

one_blocks : (r : Readable) (lines : List Line) (text a b : List ℕ) → AreBlocks r lines text a → AreBlocks r lines text b → a ≡ b
one_blocks r [] text a b is other = is ∙ sym other
one_blocks r (line ∷ lines) text a b (block, rest, is, are, whole) (part, tail, stands, others, all) =
    let first : block ≡ part = one_block r line (written line text) block part is stands in
    let more : rest ≡ tail = one_blocks r lines (drop (length (written line text)) text) rest tail are others in
    whole ∙ (ap (λ (xs : List ℕ). xs ++ rest) first ∙ (ap (λ (xs : List ℕ). part ++ xs) more ∙ sym all))

pub one_text : (r : Readable) (text a b : List ℕ) → IsMaskedText r text a → IsMaskedText r text b → a ≡ b
one_text r text a b is other = by (has_word text) is other
  where
    go : (cut : Result (List Line) TextFault) → IsTextBy r cut text a → IsTextBy r cut text b → a ≡ b
    go (Ok lines) is other = one_blocks r lines text a b is other
    go (Err fault) is other = is ∙ sym other

    by : (t : Bool) → IsMaskedBy r t text a → IsMaskedBy r t text b → a ≡ b
    by true is other = go (lines_of 0 text) is other
    by false is other = is ∙ sym other
