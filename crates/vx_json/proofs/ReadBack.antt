-- The words of a command are read as that command.
use Rattle.std.proofs.Common.{◌≡◌, ◌≢◌, ℕ, suc, ℤ, pos, negsuc, ◌^◌, ◌<◌, nat_eq, Bool, true, false, not, ◌||◌, List, [], ◌∷◌, ◌++◌, length, map, Some, codes, refl, ap, ◌∙◌, append_assoc, arith, rules}
use Rattle.std.specs.Fmt.{decimal, signed_decimal}
use Rattle.std.specs.Int.{w32}
use Rattle.std.specs.List.{list_all}
use Rattle.std.specs.Prelude.{FitsSigned}
use Rattle.std.proofs.lemmas.Bool.{and_parts, le-leb, ne_eqb}
use Rattle.std.proofs.lemmas.Int.{ints}
use Rattle.vx_block.specs.declared.part.Part.{Part}
use Rattle.vx_block.specs.Part.{part_text}
use Rattle.vx_block.proofs.Parts.{own_part}
use Rattle.vx_geom.specs.declared.pos.Pos.{Pos}
use Rattle.vx_grammar.specs.Readings.{Rest, byte_at, item_at, coordinate_at, position_at, part_at, name_at}
use Rattle.vx_grammar.specs.ScriptLines.{Act, is_printable, look_command, place_command, break_command, turn_command, open_command, put_command, take_command, placed_part, command_of, as_line, line_by, line_in, line_of}
use Rattle.vx_grammar.specs.Words.{is_word, words_of}
use Rattle.vx_name.specs.Words.{is_amid, is_capital, is_name_byte, lower, read_word, read_name, IsName}
use Rattle.vx_sector.specs.declared.cmd.Cmd.{Cmd}
use Rattle.vx_sector.specs.declared.cmd.Cmd.TheVariants.{Look, Place, Break, Turn, OpenChest, Put, Take}
use Rattle.vx_json.specs.Commands.{cmd_text}
use Rattle.vx_json.specs.Laws.{IsPlace, IsCommand, WordsReadBack}
use Rattle.vx_json.specs.Plain.{is_plain, IsPlain}
use Rattle.vx_json.proofs.NumberWords.{all_digits, some_digit, i32_back, u8_back, u16_back}
use Rattle.vx_json.proofs.Plainness.{plain, both}
use Rattle.vx_json.proofs.SpacedWords.{is_solid, IsSolid, spaced, AreSolid, cut_again, digits_solid}
use Rattle.vx_json.proofs.Spelling.{cmd_plain, name_plain}

-- ---- the words of a command

abbrev words_in : Cmd → Rest
words_in (Look p) = codes "look" ∷ signed_decimal p.x ∷ signed_decimal p.y ∷ signed_decimal p.z ∷ []
words_in (Place p part) = codes "place" ∷ signed_decimal p.x ∷ signed_decimal p.y ∷ signed_decimal p.z ∷ part_text part ∷ []
words_in (Break p) = codes "break" ∷ signed_decimal p.x ∷ signed_decimal p.y ∷ signed_decimal p.z ∷ []
words_in (Turn p) = codes "turn" ∷ signed_decimal p.x ∷ signed_decimal p.y ∷ signed_decimal p.z ∷ []
words_in (OpenChest p) = codes "open" ∷ signed_decimal p.x ∷ signed_decimal p.y ∷ signed_decimal p.z ∷ []
words_in (Put p slot item count) =
    codes "put" ∷ signed_decimal p.x ∷ signed_decimal p.y ∷ signed_decimal p.z ∷ decimal slot ∷ decimal item ∷ decimal count ∷ []
words_in (Take p slot count) = codes "take" ∷ signed_decimal p.x ∷ signed_decimal p.y ∷ signed_decimal p.z ∷ decimal slot ∷ decimal count ∷ []

-- texts behind `as NAME ` joined from the front, with none, one, two or three more behind a position
module _ (as_word name gap verb x y z : List ℕ) where
  joined : as_word ++ name ++ gap ++ (verb ++ (x ++ gap ++ y ++ gap ++ z)) ≡ as_word ++ (name ++ (gap ++ (verb ++ (x ++ (gap ++ (y ++ (gap ++ z)))))))
  joined = simp append_assoc

  joined_with : (a : List ℕ) → as_word ++ name ++ gap ++ (verb ++ (x ++ gap ++ y ++ gap ++ z) ++ gap ++ a)
      ≡ as_word ++ (name ++ (gap ++ (verb ++ (x ++ (gap ++ (y ++ (gap ++ (z ++ (gap ++ a)))))))))
  joined_with a = simp append_assoc

  joined_with_two : (a b : List ℕ) → as_word ++ name ++ gap ++ (verb ++ (x ++ gap ++ y ++ gap ++ z) ++ gap ++ a ++ gap ++ b)
      ≡ as_word ++ (name ++ (gap ++ (verb ++ (x ++ (gap ++ (y ++ (gap ++ (z ++ (gap ++ (a ++ (gap ++ b)))))))))))
  joined_with_two a b = simp append_assoc

  joined_with_three : (a b c : List ℕ) → as_word ++ name ++ gap ++ (verb ++ (x ++ gap ++ y ++ gap ++ z) ++ gap ++ a ++ gap ++ b ++ gap ++ c)
      ≡ as_word ++ (name ++ (gap ++ (verb ++ (x ++ (gap ++ (y ++ (gap ++ (z ++ (gap ++ (a ++ (gap ++ (b ++ (gap ++ c)))))))))))))
  joined_with_three a b c = simp append_assoc

-- the line of a command is its words with spaces between
line_spaced : (name : List ℕ) (cmd : Cmd) → codes "as " ++ name ++ codes " " ++ cmd_text cmd ≡ spaced (codes "as") (name ∷ words_in cmd)
line_spaced name (Look p) = joined (codes "as ") name (codes " ") (codes "look ") (signed_decimal p.x) (signed_decimal p.y) (signed_decimal p.z)
line_spaced name (Place p part) =
    joined_with (codes "as ") name (codes " ") (codes "place ") (signed_decimal p.x) (signed_decimal p.y) (signed_decimal p.z) (part_text part)
line_spaced name (Break p) = joined (codes "as ") name (codes " ") (codes "break ") (signed_decimal p.x) (signed_decimal p.y) (signed_decimal p.z)
line_spaced name (Turn p) = joined (codes "as ") name (codes " ") (codes "turn ") (signed_decimal p.x) (signed_decimal p.y) (signed_decimal p.z)
line_spaced name (OpenChest p) = joined (codes "as ") name (codes " ") (codes "open ") (signed_decimal p.x) (signed_decimal p.y) (signed_decimal p.z)
line_spaced name (Put p slot item count) =
    joined_with_three (codes "as ") name (codes " ") (codes "put ") (signed_decimal p.x) (signed_decimal p.y) (signed_decimal p.z)
    (decimal slot) (decimal item) (decimal count)
line_spaced name (Take p slot count) =
    joined_with_two (codes "as ") name (codes " ") (codes "take ") (signed_decimal p.x) (signed_decimal p.y) (signed_decimal p.z) (decimal slot) (decimal count)

-- ---- each of them is a word

some_word : (word : List ℕ) → 0 < length word → is_word word ≡ true
some_word [] long = absurd (omega arith)
some_word (b ∷ bs) long = refl

number_solid : (n : ℕ) → n < 2 ^ 64 → IsSolid (decimal n)
number_solid n small = record {
  some = some_word (decimal n) (some_digit n small);
  solid = digits_solid (decimal n) (all_digits n small);
}

signed_solid : (z : ℤ) → FitsSigned w32 z → IsSolid (signed_decimal z)
signed_solid (pos n) fits = number_solid n (omega (arith, ints))
signed_solid (negsuc n) fits =
    let digits = number_solid (suc n) (omega (arith, ints)) in
    record { some = refl; solid = digits.solid }

part_solid : (part : Part) → IsSolid (part_text part)
part_solid part = record { some = some part; solid = solid part }
  where
    some : (part : Part) → is_word (part_text part) ≡ true
    some part = search rules

    solid : (part : Part) → list_all is_solid (part_text part) ≡ true
    solid part = search rules

name_solid_byte : (b : ℕ) → is_name_byte b ≡ true → is_solid b ≡ true
unfolding is_name_byte
name_solid_byte b is = rw (ne_eqb b 32 apart) refl
  where
    apart : b ≢ 32
    apart e = let wrong : is_name_byte 32 ≡ true = rw e at is in cc

name_solid : (bs : List ℕ) → list_all is_name_byte bs ≡ true → list_all is_solid bs ≡ true
name_solid [] each = refl
name_solid (b ∷ bs) each =
    let parts = and_parts (is_name_byte b) (list_all is_name_byte bs) each in
    rw (name_solid_byte b parts.0) (name_solid bs parts.1)

word_of_name : (name : List ℕ) → IsName name → IsSolid name
word_of_name name is = record { some = some_word name is.some; solid = name_solid name is.passed }

verb : (word : List ℕ) → is_word word ≡ true → list_all is_solid word ≡ true → IsSolid word
verb word some solid = record { some = some; solid = solid }

place_solid : (p : Pos) (rest : Rest) → IsPlace p → AreSolid rest → AreSolid (signed_decimal p.x ∷ signed_decimal p.y ∷ signed_decimal p.z ∷ rest)
place_solid p rest is others = (signed_solid p.x is.x_fits, (signed_solid p.y is.y_fits, (signed_solid p.z is.z_fits, others)))

words_solid : (cmd : Cmd) → IsCommand cmd → AreSolid (words_in cmd)
words_solid (Look p) is = (verb (codes "look") refl refl, place_solid p [] is tt)
words_solid (Place p part) is = (verb (codes "place") refl refl, place_solid p (part_text part ∷ []) is (part_solid part, tt))
words_solid (Break p) is = (verb (codes "break") refl refl, place_solid p [] is tt)
words_solid (Turn p) is = (verb (codes "turn") refl refl, place_solid p [] is tt)
words_solid (OpenChest p) is = (verb (codes "open") refl refl, place_solid p [] is tt)
words_solid (Put p slot item count) is = (
  verb (codes "put") refl refl,
  place_solid p (decimal slot ∷ decimal item ∷ decimal count ∷ []) is.0
      (number_solid slot (omega arith), (number_solid item (omega arith), (number_solid count (omega arith), tt))),
)
words_solid (Take p slot count) is =
    (verb (codes "take") refl refl, place_solid p (decimal slot ∷ decimal count ∷ []) is.0 (number_solid slot (omega arith), (number_solid count (omega arith), tt)))

-- ---- each is read as what it says

place_back : (p : Pos) (rest : Rest) → IsPlace p → position_at (signed_decimal p.x ∷ signed_decimal p.y ∷ signed_decimal p.z ∷ rest) ≡ Some (p, rest)
unfolding position_at coordinate_at
place_back p rest is = rw (i32_back p.x is.x_fits, i32_back p.y is.y_fits, i32_back p.z is.z_fits) refl

byte_back : (n : ℕ) (rest : Rest) → n < 2 ^ 8 → byte_at (decimal n ∷ rest) ≡ Some (n, rest)
unfolding byte_at
byte_back n rest small = rw (u8_back n small) refl

item_back : (n : ℕ) (rest : Rest) → n < 2 ^ 16 → item_at (decimal n ∷ rest) ≡ Some (n, rest)
unfolding item_at
item_back n rest small = rw (u16_back n small) refl

part_back : (part : Part) (rest : Rest) → part_at (part_text part ∷ rest) ≡ Some (part, rest)
unfolding part_at
part_back part rest = rw (own_part part) refl

-- a name is kept as it is
small_byte : (b : ℕ) → not (is_capital b) ≡ true → lower b ≡ b
unfolding lower
small_byte b small = by (is_capital b) refl small
  where
    by : (capital : Bool) → is_capital b ≡ capital → not capital ≡ true → lower b ≡ b
    by true is low = cc
    by false is low = rw is refl

small_bytes : (bs : List ℕ) → list_all (λ b. not (is_capital b)) bs ≡ true → map lower bs ≡ bs
small_bytes [] each = refl
small_bytes (b ∷ bs) each =
    let parts = and_parts (not (is_capital b)) (list_all (λ b. not (is_capital b)) bs) each in
    rw (small_byte b parts.0, small_bytes bs parts.1) refl

name_back : (name : List ℕ) (rest : Rest) → IsName name → name_at (name ∷ rest) ≡ Some (name, rest)
unfolding name_at read_name read_word
name_back name rest is =
    rw (le-leb 1 (length name) is.some, le-leb (length name) 16 is.short, is.passed, small_bytes name is.small) refl

-- ---- and so is the whole

command_back : (name : List ℕ) (cmd : Cmd) → IsName name → IsCommand cmd → as_line (name ∷ words_in cmd) ≡ Some (Act name cmd)
unfolding as_line command_of look_command place_command break_command turn_command open_command put_command take_command placed_part
command_back name (Look p) named is = rw (name_back name (words_in (Look p)) named, place_back p [] is) refl
command_back name (Place p part) named is =
    rw (name_back name (words_in (Place p part)) named, place_back p (part_text part ∷ []) is, part_back part []) refl
command_back name (Break p) named is = rw (name_back name (words_in (Break p)) named, place_back p [] is) refl
command_back name (Turn p) named is = rw (name_back name (words_in (Turn p)) named, place_back p [] is) refl
command_back name (OpenChest p) named is = rw (name_back name (words_in (OpenChest p)) named, place_back p [] is) refl
command_back name (Put p slot item count) named is =
    rw (
      name_back name (words_in (Put p slot item count)) named,
      place_back p (decimal slot ∷ decimal item ∷ decimal count ∷ []) is.0,
      byte_back slot (decimal item ∷ decimal count ∷ []) is.1,
      item_back item (decimal count ∷ []) is.2,
      byte_back count [] is.3,
    ) refl
command_back name (Take p slot count) named is =
    rw (
      name_back name (words_in (Take p slot count)) named,
      place_back p (decimal slot ∷ decimal count ∷ []) is.0,
      byte_back slot (decimal count ∷ []) is.1,
      byte_back count [] is.2,
    ) refl

-- plain texts are printable
printable : (text : List ℕ) → list_all is_plain text ≡ true → list_all is_printable text ≡ true
printable [] each = refl
printable (b ∷ bs) each =
    let parts = and_parts (is_plain b) (list_all is_plain bs) each in
    let here = (and_parts (is_amid 32 b 126) (not (nat_eq b 34 || nat_eq b 92)) parts.0).0 in
    rw here (printable bs parts.1)

line_plain : (name : List ℕ) (cmd : Cmd) → IsName name → IsPlain (codes "as " ++ name ++ codes " " ++ cmd_text cmd)
line_plain name cmd named = both (both (both (plain (codes "as ") refl) (name_plain name named)) (plain (codes " ") refl)) (cmd_plain cmd)

words_back : (name : List ℕ) (cmd : Cmd) → IsName name → IsCommand cmd
    → words_of (codes "as " ++ name ++ codes " " ++ cmd_text cmd) ≡ codes "as" ∷ name ∷ words_in cmd
words_back name cmd named is =
    ap words_of (line_spaced name cmd)
    ∙ cut_again (codes "as") (name ∷ words_in cmd) (verb (codes "as") refl refl) (word_of_name name named, words_solid cmd is)

pub words_read_back : WordsReadBack
unfolding line_of line_in line_by
words_read_back name cmd named is =
    rw (printable (codes "as " ++ name ++ codes " " ++ cmd_text cmd) (line_plain name cmd named).each)
    (ap line_in (words_back name cmd named is) ∙ command_back name cmd named is)
