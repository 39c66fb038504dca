-- What pistons of a sector ask for, and what its components become.
use Rattle.std.proofs.Common.{◌≡◌, ℕ, ◌+◌, ◌<◌, Bool, true, false, List, [], ◌∷◌, ◌++◌, length, drop, get_or, Option, Some, None, refl, sym, ap, ◌∙◌, append_assoc, add-one, drop-cons}
use Rattle.std.specs.List.{filter}
use Rattle.std.specs.Option.{option_to_list}
use Rattle.vx_geom.specs.declared.pos.Pos.{Pos}
use Rattle.vx_cells.specs.Maps.{MapData, cell_on}
use Rattle.vx_power.specs.Laws.{dust_level}
use Rattle.vx_power.specs.Levels.{AreAllLevels}
use Rattle.vx_part.specs.Changes.{changes}
use Rattle.vx_piston.specs.Moves.{Moving, candidate}
use Rattle.vx_tick.specs.Ticks.{asked_before, asked}

-- a move, where there is one, before joined lists
before_joined : (found : Option Moving) (xs ys : List Moving)
    → asked_before found (xs ++ ys) ≡ asked_before found xs ++ ys
before_joined None xs ys = refl
before_joined (Some move) xs ys = refl

module _ (m : MapData) (level : Pos → ℕ) where
  -- what those of joined lists ask for is joined
  pub asked_joined : (ps qs : List Pos)
      → asked m level (ps ++ qs) ≡ asked m level ps ++ asked m level qs
  asked_joined [] qs = refl
  asked_joined (p ∷ ps) qs =
      ap (asked_before (candidate m level p)) (asked_joined ps qs)
      ∙ before_joined (candidate m level p) (asked m level ps) (asked m level qs)

  module _ (keep : Pos → Bool) (none : (p : Pos) → keep p ≡ false → candidate m level p ≡ None) where
    -- one more position before others, kept or not
    more : (p : Pos) (ps : List Pos) (b : Bool) → keep p ≡ b
        → asked m level (filter keep ps) ≡ asked m level ps
        → asked m level (filter keep (p ∷ ps)) ≡ asked m level (p ∷ ps)
    more p ps true is rest = rw is (ap (asked_before (candidate m level p)) rest)
    more p ps false is rest = rw is (rest ∙ sym (ap (λ c. asked_before c (asked m level ps)) (none p is)))

    -- positions at which nothing is asked for may be left out
    pub kept_ask : (ps : List Pos) → asked m level (filter keep ps) ≡ asked m level ps
    kept_ask [] = refl
    kept_ask (p ∷ ps) = more p ps (keep p) refl (kept_ask ps)

  -- by levels that are those of the map, all is as by these
  pub changes_exact : (ps : List Pos) → AreAllLevels m level
      → changes (cell_on m) level ps ≡ changes (cell_on m) (dust_level (cell_on m)) ps
  changes_exact ps same = λ i. changes (cell_on m) (λ p. same p i) ps

-- the next piston asks before those that are left
asked_first : (found : Option Moving) (moves : List Moving) → option_to_list found ++ moves ≡ asked_before found moves
asked_first None moves = refl
asked_first (Some move) moves = refl

-- what was found and what is asked for among what is left stays the same as the next one is asked
pub asked_on : (m : MapData) (level : Pos → ℕ) (ps : List Pos) (i : ℕ) (d : Pos) (moves : List Moving)
    (found : Option Moving) → i < length ps → found ≡ candidate m level (get_or ps i d)
    → (moves ++ option_to_list found) ++ asked m level (drop (i + 1) ps) ≡ moves ++ asked m level (drop i ps)
asked_on m level ps i d moves found within is =
    let left = asked m level (drop (i + 1) ps) in
    let next : drop i ps ≡ get_or ps i d ∷ drop (i + 1) ps = rw add-one (drop-cons ps i d within) in
    append_assoc moves (option_to_list found) left
    ∙ ap (λ those. moves ++ those) (asked_first found left ∙ ap (λ f. asked_before f left) is)
    ∙ sym (ap (λ those. moves ++ asked m level those) next)
