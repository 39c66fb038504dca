-- Outside what is marked all rests.
use Rattle.std.proofs.Common.{◌≡◌, ◌⊎◌, ℕ, Bool, true, false, not, ◌&&◌, ◌||◌, nat_eq, nat_lt, inl, inr, List, [], ◌++◌, sym, ap, ◌∙◌}
use Rattle.std.specs.List.{list_any}
use Rattle.std.proofs.lemmas.Bool.{and_from, and_parts, cases_Bool, false≢true, or_left, or_parts, or_right}
use Rattle.vx_geom.specs.declared.pos.Pos.{Pos}
use Rattle.vx_geom.specs.Sizes.{is_inside}
use Rattle.vx_block.specs.declared.cell.Cell.{Cell}
use Rattle.vx_block.specs.Components.{is_component, is_device, is_dust}
use Rattle.vx_cells.specs.Maps.{MapData, cell_on}
use Rattle.vx_levels.specs.Linked.{level_at}
use Rattle.vx_levels.specs.Repairs.{ChangesAt, IsRight, IsRightBut}
use Rattle.vx_places.specs.Around.{is_around, is_kind_around}
use Rattle.vx_places.specs.Places.{PlacesData, is_at, steps_between}
use Rattle.vx_part.specs.Laws.{reads}
use Rattle.vx_power.specs.Laws.{dust_level}
use Rattle.vx_power.specs.Levels.{LevelTable, has}
use Rattle.vx_power.specs.Local.{within_steps, is_touched}
use Rattle.vx_power.specs.Spreading.{fed_by}
use Rattle.vx_power.specs.Turning.{all_on, has_power, EachHeeded, PowerHeeded}
use Rattle.vx_power.proofs.Having.{has_joined}
use Rattle.vx_power.proofs.Local.{each_weaker}
use Rattle.vx_power.proofs.Reach.{any_at, any_from}
use Rattle.vx_power.proofs.Stepping.{dust_inside}
use Rattle.vx_store.specs.MachineMarks.{is_of}
use Rattle.vx_store.specs.declared.mark_kind.MarkKind.{MarkKind}
use Rattle.vx_store.specs.declared.mark_kind.MarkKind.TheVariants.{Component, Device}
use Rattle.vx_still.specs.Mirrored.{IsMirror}
use Rattle.vx_still.specs.Stillness.{IsStill, stored_on}
use Rattle.vx_still.specs.declared.kept_dust.KeptDust.{KeptDust}
use Rattle.vx_still.specs.Unheeded.{AreUnheeded}
use Rattle.vx_still.specs.Telling.{AreMarkedFrom, AreTold, IsMarked, IsTold, KeepsMarks}
use Rattle.vx_still.proofs.Heeding.{no_store, no_dust_level, others_rest}
use Rattle.vx_still.proofs.Sensing.{dust_rests_by_level, others_rest_by_power}
use Rattle.vx_still.proofs.Stilling.{mirrors_agree}
use Rattle.vx_still.specs.Waking.{ReadsNone, Rests, WakingData}
use Rattle.vx_still.proofs.Looking.{change_around, component_inside, device_inside, place_listed}
use Rattle.vx_still.proofs.Marking.{each_all, each_back, heeders_still}

-- what is of a kind is one of that kind around a change that so many steps lead to
of_kind_around : (kind : MarkKind) (w : Pos → Cell) (n : ℕ) (changed : List Pos) (p : Pos) → is_of kind (w p) ≡ true
    → list_any (has changed) (within_steps n p) ≡ true
    → list_any (λ c. is_kind_around kind w c n p) changed ≡ true
of_kind_around kind w n changed p stands is =
    let found = any_at (λ c. is_around c n p) changed (change_around n changed p is) in
    any_from (λ c. is_kind_around kind w c n p) changed found.0 found.1
    (and_from (is_around found.0 n p) (is_of kind (w p)) found.2 stands)

-- where no listed component sees what was rebuilt, dust sees nothing that was
unseen : (m : MapData) (rebuilt seen : List Pos)
    → ((p : Pos) → has seen p ≡ (is_inside m.sizes p && list_any (λ c. is_kind_around Component (cell_on m) c 2 p) rebuilt))
    → (p : Pos) → is_dust (cell_on m p) ≡ true → has seen p ≡ false → is_touched (has rebuilt) p ≡ false
unseen m rebuilt seen sight p dust none = elim (cases_Bool (is_touched (has rebuilt) p)) [
  | inl touched ↦
      absurd (false≢true (sym none ∙ sight p
      ∙ and_from (is_inside m.sizes p) (list_any (λ c. is_kind_around Component (cell_on m) c 2 p) rebuilt)
      (dust_inside m p dust)
      (of_kind_around Component (cell_on m) 2 rebuilt p (or_left (is_dust (cell_on m p)) (is_device (cell_on m p)) dust) touched)))
  | inr away ↦ away
]

either : (ps qs : List Pos) (p : Pos) → has (ps ++ qs) p ≡ false → (has ps p ≡ false) × (has qs p ≡ false)
either ps qs p none = or_parts (has ps p) (has qs p) (sym (has_joined ps qs p) ∙ none)

-- levels that mirror what dust stores are right but where something was rebuilt, or dust sees that it
-- was, or a part that was turned would feed it
pub mirror_right : (m : MapData) (waking : WakingData) (seen : List Pos) (kept : KeptDust)
    → IsStill m waking → IsMirror m waking.rebuilt kept
    → ((p : Pos) → has seen p ≡ (is_inside m.sizes p && list_any (λ c. is_kind_around Component (cell_on m) c 2 p) waking.rebuilt))
    → IsRightBut (cell_on m) kept.levels ((seen ++ waking.rebuilt) ++ fed_by (all_on (cell_on m)) waking.turned)
mirror_right m waking seen kept still mirror sight = record {
  consistent = λ p dust none.
      mirrors_agree m waking (level_at kept.levels) p still mirror.levels dust (record {
        rebuilt = unseen m waking.rebuilt seen sight p dust (apart p none).0;
        turned = (either (seen ++ waking.rebuilt) fed p none).1;
      });
  linked = λ p none dust. mirror.linked p (unseen m waking.rebuilt seen sight p dust (apart p none).0) dust;
  empty = λ p bare none. mirror.empty p bare (apart p none).1;
}
  where
    fed : List Pos
    fed = fed_by (all_on (cell_on m)) waking.turned

    apart : (p : Pos) → has ((seen ++ waking.rebuilt) ++ fed) p ≡ false → (has seen p ≡ false) × (has waking.rebuilt p ≡ false)
    apart p none = either seen waking.rebuilt p (either (seen ++ waking.rebuilt) fed p none).0

-- dust that no device heeds is so on the whole map, once that is forgotten which sees what was rebuilt
pub forgotten : (m : MapData) (rebuilt seen : List Pos) (old new : PlacesData) → AreUnheeded m rebuilt old
    → ((p : Pos) → has seen p ≡ (is_inside m.sizes p && list_any (λ c. is_kind_around Component (cell_on m) c 2 p) rebuilt))
    → ((q : Pos) → is_at new q ≡ (is_at old q && not (list_any (λ p. nat_eq (steps_between p q) 0) (seen ++ rebuilt))))
    → AreUnheeded m [] new
forgotten m rebuilt seen old new unheeded sight left = record {
  dust = λ p at _. there p at;
  each = λ p at _.
      unheeded.each p (kept p at) (unseen m rebuilt seen sight p (there p at) (either seen rebuilt p (unlisted p at)).0);
}
  where
    listed : Pos → Bool
    listed p = list_any (λ c. nat_eq (steps_between c p) 0) (seen ++ rebuilt)

    kept : (p : Pos) → is_at new p ≡ true → is_at old p ≡ true
    kept p at = (and_parts (is_at old p) (not (listed p)) (sym (left p) ∙ at)).0

    unlisted : (p : Pos) → is_at new p ≡ true → has (seen ++ rebuilt) p ≡ false
    unlisted p at = elim (cases_Bool (has (seen ++ rebuilt) p)) [
      | inl there ↦
          absurd (false≢true (sym (ap not (place_listed (seen ++ rebuilt) p there))
          ∙ (and_parts (is_at old p) (not (listed p)) (sym (left p) ∙ at)).1))
      | inr none ↦ none
    ]

    there : (p : Pos) → is_at new p ≡ true → is_dust (cell_on m p) ≡ true
    there p at = unheeded.dust p (kept p at) (either seen rebuilt p (unlisted p at)).1

-- devices around changes are marked
pub around_marked : (m : MapData) (changed : List Pos) (old new : PlacesData) → old.sizes ≡ m.sizes
    → ((p : Pos) → is_at new p
    ≡ (is_at old p || (is_inside old.sizes p && list_any (λ c. is_kind_around Device (cell_on m) c 4 p) changed)))
    → (p : Pos) → is_device (cell_on m p) ≡ true
    → list_any (λ c. is_kind_around Device (cell_on m) c 4 p) changed ≡ true → is_at new p ≡ true
around_marked m changed old new sizes marked p stands near =
    let any = list_any (λ c. is_kind_around Device (cell_on m) c 4 p) changed in
    marked p
    ∙ or_right (is_at old p) (is_inside old.sizes p && any)
    (and_from (is_inside old.sizes p) any (ap (λ v. is_inside v p) sizes ∙ device_inside m p stands) near)

-- and so are components besides
pub besides_marked : (m : MapData) (besides : List Pos) (old new : PlacesData) → old.sizes ≡ m.sizes
    → ((p : Pos) → is_at new p
    ≡ (is_at old p || (is_inside old.sizes p && list_any (λ q. nat_eq (steps_between q p) 0) besides)))
    → (p : Pos) → is_component (cell_on m p) ≡ true → has besides p ≡ true → is_at new p ≡ true
besides_marked m besides old new sizes marked p stands listed =
    let any = list_any (λ q. nat_eq (steps_between q p) 0) besides in
    marked p
    ∙ or_right (is_at old p) (is_inside old.sizes p && any)
    (and_from (is_inside old.sizes p) any (ap (λ v. is_inside v p) sizes ∙ component_inside m p stands)
    (place_listed besides p listed))

-- with more marked, what is told is told
pub still_told : (m : MapData) (level : Pos → ℕ) (old new : PlacesData) (p : Pos) → KeepsMarks old new
    → IsTold m level old p → IsTold m level new p
still_told m level old new p kept told = record {
  own = elim told.own [ inl same ↦ inl same | inr marked ↦ inr (kept p marked) ];
  near = elim told.near [ inl same ↦ inl same | inr marked ↦ inr (heeders_still m old new p kept marked) ];
}

module _ (m : MapData) (waking : WakingData) (put : List Pos) (old : KeptDust) (new : LevelTable) (places : PlacesData)
    (still : IsStill m waking) (mirror : IsMirror m waking.rebuilt old) (right : IsRight (cell_on m) new)
    (changes : ChangesAt put old.levels new) (told_rebuilt : AreTold m (level_at new) places waking.rebuilt)
    (told_put : AreTold m (level_at new) places put) (heeders : AreMarkedFrom m places waking.turned) where
  abbrev w : Pos → Cell
  w = cell_on m

  -- dust or not, the table has the level of the map
  exact : (q : Pos) → level_at new q ≡ dust_level w q
  exact q = elim (cases_Bool (is_dust (w q))) [
    | inl dust ↦ right.exact q dust
    | inr bare ↦ right.empty q bare ∙ sym (no_dust_level w q bare)
  ]

  -- where nothing was rebuilt and no level was put the level is the one that is stored
  stored_still : (q : Pos) → has waking.rebuilt q ≡ false → has put q ≡ false → level_at new q ≡ stored_on m q
  stored_still q unbuilt kept = elim (cases_Bool (is_dust (w q))) [
    | inl dust ↦ changes q kept ∙ mirror.levels q dust unbuilt
    | inr bare ↦ changes q kept ∙ mirror.empty q bare unbuilt ∙ sym (no_store (w q) bare)
  ]

  -- so each position is told
  told : (q : Pos) → IsTold m (level_at new) places q
  told q = elim (cases_Bool (has waking.rebuilt q)) [
    | inl rebuilt ↦ told_rebuilt q rebuilt
    | inr unbuilt ↦ elim (cases_Bool (has put q)) [
      | inl listed ↦ told_put q listed
      | inr kept ↦
          let same = stored_still q unbuilt kept in
          record { own = inl same; near = inl (ap (nat_lt 0) same) }
    ]
  ]

  -- what heeds dust has its power, or is marked
  power_told : (r : Pos) → EachHeeded w r (λ q. (has_power (level_at new) r ≡ has_power (stored_on m) r) ⊎ IsMarked m places q)
  power_told r = elim (told r).near [
    | inl same ↦ each_all w r (λ q. inl same)
    | inr marked ↦ each_weaker w r (λ q is. inr is) marked
  ]

  -- and what heeds a part that was turned is marked
  turned_told : (r : Pos) → EachHeeded w r (λ q. has waking.turned r ≡ true → IsMarked m places q)
  turned_told r = elim (cases_Bool (has waking.turned r)) [
    | inl is ↦ each_weaker w r (λ q marked yes. marked) (heeders r is)
    | inr isnt ↦ each_all w r (λ q yes. absurd (false≢true (sym isnt ∙ yes)))
  ]

  module _ (around : (p : Pos) → is_device (w p) ≡ true → list_any (λ c. is_kind_around Device w c 4 p) waking.rebuilt ≡ true → is_at places p ≡ true)
      (besides : (p : Pos) → is_component (w p) ≡ true → has waking.besides p ≡ true → is_at places p ≡ true)
      (p : Pos) (away : is_at places p ≡ false) where
    unmarked : is_at places p ≡ true → ⊥
    unmarked marked = false≢true (sym away ∙ marked)

    as_dust : is_dust (w p) ≡ true → Rests m p
    as_dust dust = elim (told p).own [
      | inl same ↦ dust_rests_by_level m p dust (sym same ∙ exact p)
      | inr marked ↦ absurd (unmarked marked)
    ]

    none_besides : is_component (w p) ≡ true → has waking.besides p ≡ false
    none_besides stands = elim (cases_Bool (has waking.besides p)) [
      | inl listed ↦ absurd (unmarked (besides p stands listed))
      | inr not ↦ not
    ]

    unbuilt : is_device (w p) ≡ true → list_any (has waking.rebuilt) (reads p) ≡ false
    unbuilt stands = elim (cases_Bool (list_any (has waking.rebuilt) (reads p))) [
      | inl read ↦ absurd (unmarked (around p stands (of_kind_around Device w 4 waking.rebuilt p stands read)))
      | inr not ↦ not
    ]

    none_turned : is_device (w p) ≡ true → (r : Pos) → (has waking.turned r ≡ true → IsMarked m places p) → has waking.turned r ≡ false
    none_turned stands r marked = elim (cases_Bool (has waking.turned r)) [
      | inl is ↦ absurd (unmarked (marked is stands))
      | inr not ↦ not
    ]

    none_read : is_device (w p) ≡ true → ReadsNone m waking p
    none_read stands = record {
      rebuilt = unbuilt stands;
      turned = each_weaker w p (none_turned stands)
          (each_back {R = λ r q. has waking.turned r ≡ true → IsMarked m places q} w p turned_told);
    }

    alike_at : is_device (w p) ≡ true → (r : Pos)
        → (has_power (level_at new) r ≡ has_power (stored_on m) r) ⊎ IsMarked m places p
        → has_power (stored_on m) r ≡ has_power (dust_level w) r
    alike_at stands r (inl same) = sym same ∙ ap (nat_lt 0) (exact r)
    alike_at stands r (inr marked) = absurd (unmarked (marked stands))

    alike : is_device (w p) ≡ true → PowerHeeded w (stored_on m) (dust_level w) p
    alike stands = each_weaker w p (alike_at stands)
        (each_back {R = λ r q. (has_power (level_at new) r ≡ has_power (stored_on m) r) ⊎ IsMarked m places q} w p power_told)

    -- another component than dust is a device
    device : is_component (w p) ≡ true → is_dust (w p) ≡ false → is_device (w p) ≡ true
    device stands other = sym (ap (λ b. b || is_device (w p)) other) ∙ stands

    pub rests_unmarked : Rests m p
    rests_unmarked = elim (cases_Bool (is_component (w p))) [
      | inl stands ↦ elim (cases_Bool (is_dust (w p))) [
        | inl dust ↦ as_dust dust
        | inr other ↦
            let device = device stands other in
            others_rest_by_power m waking p still (none_besides stands) (none_read device) other (alike device)
      ]
      | inr other ↦ others_rest m p other
    ]
