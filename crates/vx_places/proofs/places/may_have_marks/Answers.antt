use Rattle.std.proofs.Common.{◌≡◌, ◌-◌, ◌*◌, ◌/◌, ◌%◌, ◌+◌, true, ap, ◌∙◌, arith}
use Rattle.std.proofs.Math.Path.{transport}
use Rattle.vx_geom.specs.Sizes.{is_inside, index_in_sector}
use Rattle.vx_cells.specs.Listed.{place}
use Rattle.vx_cells.proofs.Rows.{low_inside, place_is}
use Rattle.vx_marks.specs.Marks.{AreBlank}
use Rattle.vx_places.proofs.Areas.{area_inside, first_of, last_of, low_word, low_end, layer, few_words, none_between}
use Rattle.vx_places.proofs.places.may_have_marks.Goals as goal
use Rattle.vx_places.proofs.places.may_have_marks.Goals.{After-new-last, After-index_in_sector, After-span-2}

-- the first and the last position of the lowest layer
first_inside : (c : After-new-last) → is_inside c.args.bounds (place c.args.area.west 0 c.args.area.north) ≡ true
first_inside c =
    let v = c.args.bounds in
    let area = c.args.area in
    area_inside v c.soundness.ensures area c.requires.there area.west 0 area.north
    (first_of v c.soundness.ensures area c.requires.there 0) (omega (arith, c.soundness.ensures.h_least))

last_inside : (c : After-new-last) → is_inside c.args.bounds (place (c.args.area.east - 1) 0 (c.args.area.south - 1)) ≡ true
last_inside c =
    let v = c.args.bounds in
    let area = c.args.area in
    area_inside v c.soundness.ensures area c.requires.there (area.east - 1) 0 (area.south - 1)
    (last_of v c.soundness.ensures area c.requires.there 0) (omega (arith, c.soundness.ensures.h_least))

first_is : (c : After-new-last) → c.new-first.result ≡ place c.args.area.west 0 c.args.area.north
first_is c =
    let low = low_inside c.args.bounds c.args.area.west 0 c.args.area.north c.soundness.ensures (first_inside c) in
    place_is c.args.area.west 0 c.args.area.north c.new-first.result low.0 low.1 low.2 c.new-first.ensures

last_is : (c : After-new-last) → c.new-last.result ≡ place (c.args.area.east - 1) 0 (c.args.area.south - 1)
last_is c =
    let low = low_inside c.args.bounds (c.args.area.east - 1) 0 (c.args.area.south - 1) c.soundness.ensures (last_inside c) in
    place_is (c.args.area.east - 1) 0 (c.args.area.south - 1) c.new-last.result low.0 low.1 low.2 c.new-last.ensures

pub index_in_sector-word-requires : goal.index_in_sector-word-requires
index_in_sector-word-requires c =
    let b = (goal.at.index_in_sector-word-requires c).After-new-last in
    ap (is_inside c.args.bounds) (first_is b) ∙ first_inside b

pub index_in_sector-requires : goal.index_in_sector-requires
index_in_sector-requires c =
    let b = (goal.at.index_in_sector-requires c).After-new-last in
    ap (is_inside c.args.bounds) (last_is b) ∙ last_inside b

-- their words, and how many words of marks a layer has
first_word : (c : After-index_in_sector) → c.new-first.result ≡ place c.args.area.west 0 c.args.area.north
    → c.index_in_sector-word.result / 64 ≡ low_word c.args.bounds c.soundness.ensures c.args.area c.requires.there c.args.y
first_word c is = ap (λ n. n / 64) (c.index_in_sector-word.ensures.value ∙ ap (index_in_sector c.args.bounds) is)

last_word : (c : After-index_in_sector) → c.new-last.result ≡ place (c.args.area.east - 1) 0 (c.args.area.south - 1)
    → c.index_in_sector.result / 64 + 1 ≡ low_end c.args.bounds c.soundness.ensures c.args.area c.requires.there c.args.y
last_word c is = ap (λ n. n / 64 + 1) (c.index_in_sector.ensures.value ∙ ap (index_in_sector c.args.bounds) is)

layer_is : (c : After-span-2) → c.span.result * c.span-2.result / 64 * c.args.y % 64
    ≡ layer c.args.bounds c.soundness.ensures c.args.area c.requires.there c.args.y
layer_is c = λ i. c.span.ensures i * c.span-2.ensures i / 64 * c.args.y % 64

pub overflow_sub-count : goal.overflow_sub-count
overflow_sub-count c =
    let at = goal.at.overflow_sub-count c in
    let few = few_words c.args.bounds c.soundness.ensures c.args.area c.requires.there c.args.y in
    omega (
      arith,
      few.1,
      first_word at.After-index_in_sector (first_is at.After-new-last),
      last_word at.After-index_in_sector (last_is at.After-new-last),
    )

pub has_marks_in-requires-clause-inside : goal.has_marks_in-requires-clause-inside
has_marks_in-requires-clause-inside c =
    let at = goal.at.has_marks_in-requires-clause-inside c in
    let few = few_words c.args.bounds c.soundness.ensures c.args.area c.requires.there c.args.y in
    omega (arith, few.0, first_word at.After-index_in_sector (first_is at.After-new-last), layer_is at.After-span-2)

pub has_marks_in-requires-clause-few : goal.has_marks_in-requires-clause-few
has_marks_in-requires-clause-few c =
    let at = goal.at.has_marks_in-requires-clause-few c in
    let few = few_words c.args.bounds c.soundness.ensures c.args.area c.requires.there c.args.y in
    omega (
      arith,
      few.1,
      few.2,
      first_word at.After-index_in_sector (first_is at.After-new-last),
      last_word at.After-index_in_sector (last_is at.After-new-last),
    )

pub has_marks_in-requires-clause-within : goal.has_marks_in-requires-clause-within
has_marks_in-requires-clause-within c =
    let at = goal.at.has_marks_in-requires-clause-within c in
    let few = few_words c.args.bounds c.soundness.ensures c.args.area c.requires.there c.args.y in
    omega (
      arith,
      few.1,
      few.3,
      first_word at.After-index_in_sector (first_is at.After-new-last),
      last_word at.After-index_in_sector (last_is at.After-new-last),
      layer_is at.After-span-2,
    )

pub returns : goal.returns
returns c none =
    let at = goal.at.returns c in
    let first = first_word at.After-index_in_sector (first_is at.After-new-last) in
    let last = last_word at.After-index_in_sector (last_is at.After-new-last) in
    none_between c.args.bounds c.soundness.ensures c.args.area c.requires.there c.args.y c.args.page.now
    (transport (λ i. AreBlank c.args.page.now (layer_is at.After-span-2 i + first i) (last i - first i))
    (c.has_marks_in.ensures.0 none))
