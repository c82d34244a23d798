-- The masks of a line: what stands in place of the forms that are refused by name, so that the line is read and says of
-- each command what sudo says.
use Rattle.std.specs.Prelude.{◌≡◌, ℕ, zero, suc, ◌+◌, ◌-◌, ◌<◌, ◌⊎◌, Bool, true, not, ◌&&◌, ◌||◌, ◌==◌, nat_le, nat_lt}
use Rattle.std.specs.Prelude.{List, [], ◌∷◌, ◌++◌, length, take, drop, replicate, slice_index, codes, filter, if◌then◌else◌}
use Rattle.std.specs.Prelude.{Option, None, Some}
use Rattle.std.specs.List.{list_any}
use Rattle.std.specs.Str.{bytes_eq}
use Rattle.sudo_text.specs.declared.line.Line.{Line}
use Rattle.sudo_text.specs.Bytes.{is_blank}
use Rattle.sudo_text.specs.Lines.{text_limit}
use Rattle.sudo_grammar.specs.declared.fault.Unsupported.{Unsupported}
use Rattle.sudo_grammar.specs.declared.fault.Unsupported.TheVariants as forms
use Rattle.review_texts.specs.declared.mask.Form.{Form}
use Rattle.review_texts.specs.declared.mask.Form.TheVariants as what
use Rattle.review_texts.specs.declared.mask.Mask.{Mask}
use Rattle.review_texts.specs.declared.readable.Readable.{Readable}
use Rattle.review_texts.specs.Words.{has_word, newline_count}
use Rattle.review_texts.specs.declared.note.Note.{Note}
use Rattle.review_texts.specs.declared.note.Note.TheVariants.{Digest, Time, Chroot, Regex}
use Rattle.review_texts.specs.Notes.{note_path}
use Rattle.review_texts.specs.Options.{name_at, option_end, value_at, value_of}
use Rattle.review_texts.specs.Digests.{digest_at, digest_end, digest_start}
use Rattle.review_texts.specs.Expressions.{command_at, dollar_of, expression_at, hex_of}
use Rattle.review_texts.specs.Netgroups.{group_end}
use Rattle.review_texts.specs.Hostnames.{StandsName}
use Rattle.review_texts.specs.Addressed.{StandsIpv6}
use Rattle.review_texts.specs.declared.netgroups.Group.{Group}
use Rattle.review_texts.specs.declared.netgroups.Group.TheVariants.{Net, NonUnix}
use Rattle.review_texts.specs.Places.{IsRefusedAs, with_text, no_path}
use Rattle.review_texts.specs.Places.{StandsOption, StandsList, StandsDigest, StandsExpression, StandsGroup}

-- the note of an option
abbrev pub option_note : List ℕ → Option Note
option_note w =
    if bytes_eq w (codes "CHROOT") then Some Chroot
    else if bytes_eq w (codes "NOTBEFORE") || bytes_eq w (codes "NOTAFTER") then Some Time
    else None

-- a note of this, as a command before others
abbrev pub note_text : Note → List ℕ → List ℕ
note_text note what = note_path note ++ (what ++ 44 ∷ [])

-- what an option notes before its value: whether a time is the first (`b`) or the last (`a`)
abbrev pub noted_letter : List ℕ → List ℕ
noted_letter w =
    if bytes_eq w (codes "NOTBEFORE") then codes "b"
    else if bytes_eq w (codes "NOTAFTER") then codes "a"
    else []

-- what stands in place of an option with this name and value: its note, if it has one
abbrev pub noted_option : Option Note → List ℕ → List ℕ → List ℕ
noted_option None w value = []
noted_option (Some note) w value = note_text note (noted_letter w ++ value)

-- what stands in place of the option, and of the digest, that begins at an offset of a text
abbrev pub option_text : List ℕ → ℕ → List ℕ
option_text text at = noted_option (option_note (name_at text at)) (name_at text at) (value_at text (value_of text at))

-- without the padding of its value: of which digest it is follows from its length and its digits
abbrev pub digest_text : List ℕ → ℕ → List ℕ
digest_text text at = note_text Digest (filter (λ b. not (b == 61)) (digest_at text (digest_start text at)))

-- what stands in place of the regular expression that begins at an offset of a text: its note, and the path that it is behind,
-- with whichever arguments, or what bounds the paths that it fits
abbrev pub expression_text : List ℕ → ℕ → List ℕ
expression_text text at = note_text Regex (hex_of (expression_at text at)) ++ command_at text at

-- a group stands from an offset up to another, and these are its members
abbrev pub StandsAs : Group → Readable → Line → ℕ → ℕ → List ℕ → Type 0
StandsAs group r line start end put =
    StandsGroup group r.netgroups.items line start put × (end ≡ group_end group line.text start)

-- a form stands from an offset up to another, and this stands in its place: a note for a digest and for some options, a note and
-- a command for a regular expression, a path that no command has for `list`, the members of a netgroup or a non-Unix group, and the
-- host's name for `%h`
abbrev pub Stands : Readable → Line → Unsupported → ℕ → ℕ → List ℕ → Type 0
Stands r line forms.CommandOption start end put =
    StandsOption r.noted line start × (end ≡ suc (option_end line.text start)) × (put ≡ option_text line.text start)
Stands r line forms.List start end put = StandsList line start × (end ≡ start + 4) × (put ≡ no_path)
Stands r line forms.Digest start end put =
    (r.noted ≡ true) × StandsDigest line start × (end ≡ digest_end line.text start) × (put ≡ digest_text line.text start)
Stands r line forms.Netgroup start end put = StandsAs Net r line start end put
Stands r line forms.NonUnixGroup start end put = StandsAs NonUnix r line start end put
Stands r line forms.RegularExpression start end put =
    (r.noted ≡ true) × StandsExpression line start × (end ≡ dollar_of line.text start + 1) × (put ≡ expression_text line.text start)
Stands r line forms.HostEscape start end put = StandsName r.host line start end put

-- the same of what can be masked: a form that is refused by name, or an IPv6 address, for which the hosts stand that have it
abbrev pub StandsAt : Readable → Line → Form → ℕ → ℕ → List ℕ → Type 0
StandsAt r line (what.Named form) start end put = Stands r line form start end put
StandsAt r line what.Ipv6 start end put = StandsIpv6 r.addresses line start end put

-- two physical lines are joined where neither a blank nor a comma stands before the join, or an escaped one, or where a
-- colon stands behind it: sudo may separate words there, or want both on one line
abbrev pub is_tight : List ℕ → ℕ → Bool
is_tight text join =
    not (is_blank (slice_index text (join - 1)) || (slice_index text (join - 1) == 44))
    || (slice_index text (join - 2) == 92) || (slice_index text join == 58)

-- each further physical line of the line begins behind the one before it, which is not empty
abbrev pub is_rising : List ℕ → Bool
is_rising [] = true
is_rising (join ∷ []) = true
is_rising (join ∷ next ∷ rest) = nat_lt join next && is_rising (next ∷ rest)

-- sudo joins the text there as the reader does: it is torn nowhere, and nothing in it may be a comment
abbrev pub are_alike : List ℕ → List ℕ → Bool
are_alike text joins =
    not (list_any (is_tight text) joins) && is_rising joins && ((length joins == 0) || not (list_any (λ b. b == 35) text))

-- the line may have a mask: one of the words stands in it, sudo joins it alike, it has no newline, as no line of a file has,
-- and there is room for a longer text
abbrev pub is_fit : Line → Bool
is_fit line =
    has_word line.text && are_alike line.text line.joins && nat_le (length line.text) (text_limit - 16) && (newline_count line.text == 0)

-- the first place at which a form stands
pub record IsFirstStand (r : Readable) (line : Line) (form : Form) (mask : Mask) : Type 0 where
  pub named : mask.form ≡ form
  pub stands : StandsAt r line form mask.start mask.end mask.put
  pub first : (start end : ℕ) (put : List ℕ) → start < mask.start → StandsAt r line form start end put → ⊥

-- the mask of a line: for the form that the line is refused for, where it first stands
pub record IsMask (r : Readable) (line : Line) (mask : Mask) : Type 0 where
  pub fit : is_fit line ≡ true
  pub refused : IsRefusedAs line mask.form
  pub stands : IsFirstStand r line mask.form mask

-- the line has no mask
abbrev pub IsUnmasked : Readable → Line → Type 0
IsUnmasked r line = (mask : Mask) → IsMask r line mask → ⊥

-- a text, with blanks behind it up to a length
abbrev pub padded : ℕ → List ℕ → List ℕ
padded len text = text ++ replicate (len - length text) 32

-- what stands in place of the mask, as long as the form is or longer
abbrev pub replacement : Mask → List ℕ
replacement mask = padded (mask.end - mask.start) mask.put

-- the text of a command as a policy has it: `list` for the path that stands in its place
abbrev pub as_written : List ℕ → List ℕ
as_written text = if bytes_eq text no_path then codes "list" else text

-- the line with what stands in place of the mask
abbrev pub behind : Line → Mask → Line
behind line mask = with_text line
    (take mask.start line.text ++ (replacement mask ++ drop mask.end line.text))

-- `masked` is the line behind its masks, one after another, of which there are at most so many
unfoldable pub IsBehind : Readable → ℕ → Line → Line → Type 0
IsBehind r zero line masked = masked ≡ line
IsBehind r (suc more) line masked =
    (IsUnmasked r line × (masked ≡ line)) ⊎ ((mask : Mask) × IsMask r line mask × IsBehind r more (behind line mask) masked)

-- the most masks of a line, after its first
abbrev pub most_masks : ℕ
most_masks = 256

-- the line has a mask, and `masked` is the line behind all its masks
abbrev pub IsMasked : Readable → Line → Line → Type 0
IsMasked r line masked = (mask : Mask) × IsMask r line mask × IsBehind r most_masks (behind line mask) masked
