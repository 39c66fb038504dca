use Rattle.std.specs.Prelude.{ℕ, List, [], ◌++◌}

-- how far a script was read: the front of a line that has not ended, the bytes behind it, the last
-- whole line, how many lines were taken, and how many bytes were read
pub record Reading : Type 0 where
  pub front : List ℕ
  pub rest : List ℕ
  pub line : List ℕ
  pub number : ℕ
  pub bytes : ℕ

-- all bytes that were read and are of no line yet
abbrev pub pending : Reading → List ℕ
pending r = r.front ++ r.rest

-- nothing was read yet
abbrev pub no_line : Reading
no_line = record { front = []; rest = []; line = []; number = 0; bytes = 0 }
