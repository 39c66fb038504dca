use Rattle.std.specs.Prelude.{◌≡◌, ◌+◌, ◌≤◌, ℕ, List, length, Option, Some, None, IfSome}
use Rattle.vx_lines.specs.Reading.{Reading}
use Rattle.vx_lines.specs.declared.input.TheConstants.{MAX_SCRIPT_BYTES}

-- a fact of what was left to read before and is left now, where that is known
abbrev pub Goes : Option (List ℕ) → Option (List ℕ) → (List ℕ → List ℕ → Type 0) → Type 0
Goes None new fact = Unit {0}
Goes (Some old) None fact = ⊥
Goes (Some old) (Some new) fact = fact old new

-- what was read and what is left to read are as many bytes together as before
abbrev pub KeepsSize : Reading → Option (List ℕ) → Reading → Option (List ℕ) → Type 0
KeepsSize old before new after =
    Goes before after (λ left rest. old.bytes + length left ≡ new.bytes + length rest)

-- what was read and what is left to read are no more bytes together than a script may have
abbrev pub IsWithin : Reading → Option (List ℕ) → Type 0
IsWithin lines left = IfSome left (λ bytes. lines.bytes + length bytes ≤ MAX_SCRIPT_BYTES)
