use Rattle.std.specs.Prelude.{ℕ, Bool}
use Rattle.vx_name.specs.declared.word.Alphabet.{Alphabet}
use Rattle.vx_name.specs.declared.word.Alphabet.TheVariants as alphabet
use Rattle.vx_name.specs.Words.{is_name_byte, is_id_byte}

-- the byte may stand in a word of this alphabet
abbrev pub passes : Alphabet → ℕ → Bool
passes alphabet.Name = is_name_byte
passes alphabet.Id = is_id_byte
