-- The text of a pattern is read as its characters.
use Rattle.std.proofs.Common.{◌≡◌, ℕ, ◌+◌, ◌*◌, Bool, true, false, ◌&&◌, ◌==◌, List, None}
use Rattle.std.proofs.lemmas.Bool.{eqb-false}
use Rattle.sudo_grammar.specs.declared.kind.Atom.TheVariants as atoms
use Rattle.sudo_laws.proofs.TestLemmas.{Each, each_first, each_rest}
use Rattle.sudo_laws.specs.Spelled.{Spells, SpellsAll, blanks, escape, itself, next, none, number}
use Rattle.sudo_parser.specs.Texts.{atom_text, ch_text, chars_text}
use Rattle.sudo_text.specs.Bytes.{hex_value, is_control}
use Rattle.sudo_text.specs.declared.token.Ch.{Ch}

abbrev is_control_ch : Ch → Bool
is_control_ch c = is_control c.byte

abbrev pub is_escaped_x : Ch → Bool
is_escaped_x c = c.escaped && (c.byte == 120)

-- a character that was read is spelled by its text; where `\xHH` is a byte, if it is no control byte and no escaped `x`
char_written : (hex : Bool) (c : Ch) (bs : List ℕ) → Spells hex false c bs
    → (hex ≡ true → (is_control_ch c ≡ false) × (is_escaped_x c ≡ false)) → Spells hex false c (ch_text c)
char_written hex c bs (itself b slash control) fine = itself b slash control
char_written hex c bs (escape b control other) fine = escape b control other
char_written hex c bs (number high low style first second) fine =
    let f = fine style in
    escape (hex_value high * 16 + hex_value low) f.0 (λ e. eqb-false (hex_value high * 16 + hex_value low) 120 f.1)
char_written hex c bs (blanks b rest style all) fine = absurd (let f : false ≡ true = style in cc)

chars_written : (hex : Bool) (cs : List Ch) (bs : List ℕ) → SpellsAll hex false cs bs
    → (hex ≡ true → Each is_control_ch false cs × Each is_escaped_x false cs) → SpellsAll hex false cs (chars_text cs)
chars_written hex cs bs none fine = none
chars_written hex cs bs (next c more first rest spell others) fine =
    next c more (ch_text c) (chars_text more)
    (char_written hex c first spell
    (λ e. let f = fine e in (each_first is_control_ch false c more f.0, each_first is_escaped_x false c more f.1)))
    (chars_written hex more rest others
    (λ e. let f = fine e in (each_rest is_control_ch false c more f.0, each_rest is_escaped_x false c more f.1)))

pub host_read : (chars : List Ch) (bytes : List ℕ) → SpellsAll true false chars bytes → Each is_control_ch false chars
    → Each is_escaped_x false chars → SpellsAll true false chars (atom_text (atoms.Host chars false))
host_read chars bytes spelled control x = chars_written true chars bytes spelled (λ e. (control, x))

pub path_read : (path : List Ch) (bytes : List ℕ) → SpellsAll false false path bytes
    → SpellsAll false false path (atom_text (atoms.Command path None))
path_read path bytes spelled = chars_written false path bytes spelled (λ e. absurd (let f : false ≡ true = e in cc))
