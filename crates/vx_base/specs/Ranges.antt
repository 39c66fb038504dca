use Rattle.std.specs.Prelude.{ℤ, ◌&&◌, int_le, if◌then◌else◌, Option, Some, None}

-- a number, where it lies between these
abbrev pub within : ℤ → ℤ → ℤ → Option ℤ
within low high n = if int_le low n && int_le n high then Some n else None
