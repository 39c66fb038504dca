-- Texts that JSON writes as they are.
use Rattle.std.specs.Prelude.{◌≡◌, ℕ, Bool, true, ◌&&◌, ◌||◌, not, ◌==◌, List}
use Rattle.std.specs.List.{list_all}
use Rattle.vx_name.specs.Words.{is_amid}

-- a printable byte of ASCII that stands for itself in a string of JSON: neither `"` nor `\`
abbrev pub is_plain : ℕ → Bool
is_plain b = is_amid 32 b 126 && not (b == 34 || b == 92)

-- a text of such bytes
pub record IsPlain (text : List ℕ) : Type 0 where
  pub each : list_all is_plain text ≡ true
