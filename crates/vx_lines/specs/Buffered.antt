use Rattle.std.specs.Prelude.{ℕ, List, []}

-- the bytes that were read and not taken yet, and how many were read in all
pub record Buffered : Type 0 where
  pub rest : List ℕ
  pub bytes : ℕ

-- nothing was read yet
abbrev pub nothing_read : Buffered
nothing_read = record { rest = []; bytes = 0 }
