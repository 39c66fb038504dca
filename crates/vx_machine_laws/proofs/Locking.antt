-- What locks a repeater, and what it follows.
use Rattle.std.proofs.Common.{◌≡◌, Bool, true, false, ◌⊎◌, inl, inr, if◌then◌else◌, refl, sym, ap, ◌∙◌}
use Rattle.std.proofs.lemmas.Bool.{cases_Bool, and_parts, and_from, or_cases, or_left, or_right, false≢true}
use Rattle.vx_geom.specs.declared.pos.Pos.{Pos}
use Rattle.vx_geom.specs.Dirs.{opposite}
use Rattle.vx_geom.specs.Neighbor.{neighbor}
use Rattle.vx_geom.proofs.Positions.{there_and_back}
use Rattle.vx_block.specs.declared.side.Side.{Side}
use Rattle.vx_block.specs.declared.side.Side.TheVariants.{East, West, South, North}
use Rattle.vx_block.specs.declared.cell.Cell.{Cell}
use Rattle.vx_block.specs.declared.cell.Cell.TheVariants.{Repeater}
use Rattle.vx_block.specs.Repeating.{Repeating}
use Rattle.vx_block.specs.Sides.{side_back, side_right, same_side}
use Rattle.vx_block.specs.States.{side_dir}
use Rattle.vx_power.specs.Signals.{activates}
use Rattle.vx_part.specs.Parts.{is_on_towards, locks_from, is_locked, counted, next_repeater, next_of}
use Rattle.vx_machine_laws.specs.Exactly.{Exactly}
use Rattle.vx_machine_laws.specs.Signals.{Activates}
use Rattle.vx_machine_laws.specs.Repeaters.{LocksFrom, IsAcross, LockedAreThese, OthersDoNotLock, UnlockedFollow}
use Rattle.vx_machine_laws.proofs.Deciding.{leads_back}
use Rattle.vx_machine_laws.proofs.Powering.{activates_at, activates_from}
use Rattle.vx_machine_laws.proofs.Wiring.{same_side_at, same_side_from}

-- the opposite side lies in the opposite direction
back_dir : (s : Side) → side_dir (side_back s) ≡ opposite (side_dir s)
back_dir East = refl
back_dir West = refl
back_dir South = refl
back_dir North = refl

-- a side by its direction
of_dir : (a b : Side) → side_dir a ≡ side_dir b → a ≡ b
of_dir East East is = refl
of_dir West West is = refl
of_dir South South is = refl
of_dir North North is = refl
of_dir East West is = cc
of_dir East South is = cc
of_dir East North is = cc
of_dir West East is = cc
of_dir West South is = cc
of_dir West North is = cc
of_dir South East is = cc
of_dir South West is = cc
of_dir South North is = cc
of_dir North East is = cc
of_dir North West is = cc
of_dir North South is = cc

module _ (w : Pos → Cell) (p : Pos) (side : Side) where
  towards_at : (c : Cell) → is_on_towards (side_back side) c ≡ true
      → (r : Repeating) × (c ≡ Repeater r) × (r.on ≡ true) × (r.facing ≡ side_back side)
  towards_at (Repeater r) is =
      let parts = and_parts r.on (same_side r.facing (side_back side)) is in
      (r, refl, parts.0, same_side_at r.facing (side_back side) parts.1)
  towards_at _ is = absurd (false≢true is)

  locks_at : locks_from w p side ≡ true → LocksFrom w p side
  unfolding locks_from
  locks_at is =
      let at = towards_at (w (neighbor p (side_dir side))) is in
      let there : neighbor (neighbor p (side_dir side)) (side_dir at.0.facing) ≡ p =
      ap (λ s. neighbor (neighbor p (side_dir side)) (side_dir s)) at.3
      ∙ ap (neighbor (neighbor p (side_dir side))) (back_dir side)
      ∙ there_and_back p (side_dir side) in
      (at.0, (at.1, there), at.2)

  locks_back : LocksFrom w p side → locks_from w p side ≡ true
  unfolding locks_from
  locks_back from =
      let r = from.0 in
      let faces : r.facing ≡ side_back side =
      of_dir r.facing (side_back side)
      (leads_back p (side_dir side) (side_dir r.facing) from.1.1 ∙ sym (back_dir side)) in
      ap (is_on_towards (side_back side)) from.1.0
      ∙ and_from r.on (same_side r.facing (side_back side)) from.2 (same_side_from r.facing (side_back side) faces)

-- the two sides
right_across : (facing : Side) → IsAcross facing (side_right facing)
right_across East = ((λ same. cc), (λ same. cc))
right_across West = ((λ same. cc), (λ same. cc))
right_across South = ((λ same. cc), (λ same. cc))
right_across North = ((λ same. cc), (λ same. cc))

left_across : (facing : Side) → IsAcross facing (side_back (side_right facing))
left_across East = ((λ same. cc), (λ same. cc))
left_across West = ((λ same. cc), (λ same. cc))
left_across South = ((λ same. cc), (λ same. cc))
left_across North = ((λ same. cc), (λ same. cc))

one_of_two : (facing side : Side) → IsAcross facing side
    → (side ≡ side_right facing) ⊎ (side ≡ side_back (side_right facing))
one_of_two East East across = absurd (across.0 refl)
one_of_two East West across = absurd (across.1 refl)
one_of_two East South across = inl refl
one_of_two East North across = inr refl
one_of_two West East across = absurd (across.1 refl)
one_of_two West West across = absurd (across.0 refl)
one_of_two West South across = inr refl
one_of_two West North across = inl refl
one_of_two South East across = inr refl
one_of_two South West across = inl refl
one_of_two South South across = absurd (across.0 refl)
one_of_two South North across = absurd (across.1 refl)
one_of_two North East across = inl refl
one_of_two North West across = inr refl
one_of_two North South across = absurd (across.1 refl)
one_of_two North North across = absurd (across.0 refl)

module _ (w : Pos → Cell) (p : Pos) (facing : Side) where
  locked_at : is_locked w p facing ≡ true → (side : Side) × IsAcross facing side × LocksFrom w p side
  unfolding is_locked
  locked_at is =
      elim (or_cases (locks_from w p (side_right facing)) (locks_from w p (side_back (side_right facing))) is) [
        | inl right ↦ (side_right facing, right_across facing, locks_at w p (side_right facing) right)
        | inr left ↦ (side_back (side_right facing), left_across facing, locks_at w p (side_back (side_right facing)) left)
      ]

  locked_by : (side : Side) → (side ≡ side_right facing) ⊎ (side ≡ side_back (side_right facing))
      → locks_from w p side ≡ true → is_locked w p facing ≡ true
  unfolding is_locked
  locked_by side (inl same) is =
      or_left (locks_from w p (side_right facing)) (locks_from w p (side_back (side_right facing)))
      (ap (locks_from w p) (sym same) ∙ is)
  locked_by side (inr same) is =
      or_right (locks_from w p (side_right facing)) (locks_from w p (side_back (side_right facing)))
      (ap (locks_from w p) (sym same) ∙ is)

  locked_from : (side : Side) × IsAcross facing side × LocksFrom w p side → is_locked w p facing ≡ true
  locked_from at = locked_by at.0 (one_of_two facing at.0 at.1) (locks_back w p at.0 at.2)

pub locked_are_these : LockedAreThese
locked_are_these w p facing = record { only = locked_at w p facing; all = locked_from w p facing }

pub others_do_not_lock : OthersDoNotLock
others_do_not_lock w p facing off = elim (cases_Bool (is_locked w p facing)) [
  | inl locked ↦
      let at = locked_at w p facing locked in
      absurd (false≢true (sym (off at.0 at.2.0 at.1 at.2.1) ∙ at.2.2))
  | inr free ↦ free
]

-- an answer that is yes in the same cases is the same
same_answer : (a b : Bool) (Case : Type 0) → Exactly a Case → (b ≡ true → Case) → (Case → b ≡ true) → b ≡ a
same_answer true b Case exact at from = from (exact.only refl)
same_answer false true Case exact at from = absurd (false≢true (exact.all (at refl)))
same_answer false false Case exact at from = refl

pub unlocked_follow : UnlockedFollow
unfolding next_of next_repeater
unlocked_follow w level p r input is free exact =
    let behind = side_dir (side_back r.facing) in
    ap (next_of w level p) is
    ∙ ap (λ b. Repeater (if b then r else counted r (activates w level p behind))) free
    ∙ ap (λ b. Repeater (counted r b))
    (same_answer input (activates w level p behind) (Activates w level p behind) exact
    (activates_at w level p behind) (activates_from w level p behind))
