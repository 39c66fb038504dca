use Rattle.std.specs.Prelude.{ℕ, ◌<◌, Bool, List, [], ◌∷◌}
use Rattle.vx_base.specs.Digits.{small_word}
use Rattle.vx_block.specs.declared.side.Side.{Side}
use Rattle.vx_block.specs.declared.delay.Delay.{Delay}
use Rattle.vx_block.specs.States.{side_dir, ticks_of, dir_word, on_word}

-- a repeater: the side of its front, its delay, whether it is on, and how many ticks are left of a
-- count, 0 where it counts none
pub record Repeating : Type 0 where
  pub facing : Side
  pub delay : Delay
  pub on : Bool
  pub wait : ℕ

-- what is left of a count is less than the delay
abbrev pub IsRepeating : Repeating → Type 0
IsRepeating r = r.wait < ticks_of r.delay

-- the words of a repeater
abbrev pub repeater_words : Repeating → List (List ℕ)
repeater_words r =
    dir_word (side_dir r.facing) ∷ small_word (ticks_of r.delay)
    ∷ on_word r.on ∷ small_word r.wait ∷ []
