use Rattle.std.specs.Prelude.{ℕ, List, ◌++◌, codes, decimal, Option, Some, None, option_map}
use Rattle.vx_board.specs.declared.edited.Edited.{Edited}

-- an accepted edit as it is told: how many are accepted with it, and the number of the region that
-- it defined
abbrev pub edit_text : ℕ → Option ℕ → List ℕ
edit_text count None = codes "edit " ++ decimal count
edit_text count (Some number) = codes "edit " ++ decimal count ++ codes " region " ++ decimal number

abbrev pub edited_text : Edited → List ℕ
edited_text edited = edit_text edited.count (option_map (λ n. n.0) edited.region)
