use Rattle.std.proofs.Common.{◌≡◌, ◌∙◌, ℕ, Option, Some, slice_get, option_map, is_ok, refl, ap, sym, subst}
use Rattle.std.specs.Option.{IfSome}
use Rattle.vx_region.specs.Blocks.{joined, Holds}
use Rattle.vx_region.specs.Forest.{IsAscending}
use Rattle.vx_region.specs.Regions.{Entry}
use Rattle.vx_base.proofs.Lists.{read_is}
use Rattle.vx_region.proofs.Blocks.{holds_there}
use Rattle.vx_region.proofs.Places.{list_read, list_written, list_in_place, list_counted}
use Rattle.vx_region.proofs.region_list.RegionList.own.Goals as goal

pub invariant_of-self-lent : goal.invariant_of-self-lent
invariant_of-self-lent c w =
    let blocks = c.self.inside.blocks.items in
    let k = c.block_of-index.result in
    let b = c.index_mut-block.result.now in
    let place = c.unwrap-place.result in
    let there : slice_get blocks k ≡ Some b = read_is blocks k b (rw (← c.deref.ensures.value) c.block_of-index.ensures.within) c.index_mut-block.ensures.value in
    let holds : Holds place b = holds_there (Holds place) blocks k b there (rw (← c.deref.ensures.value) c.block_of-index.ensures.holds) in
    let found : option_map (λ (a : Entry). a.0) (slice_get (joined blocks) place) ≡ Some c.args.number =
    subst (λ (o : Option ℕ). IfSome o (λ i. option_map (λ (a : Entry). a.0) (slice_get (joined blocks) i) ≡ Some c.args.number)) c.unwrap-place.ensures c.place_of.ensures.found in
    let up : IsAscending 0 (joined blocks) = subst (IsAscending 0) (sym c.self.view_is) c.requires.ascending in
    let ok = ap is_ok c.in_ok-own.was in
    let left = c.own.follows.holds w ok in (
      list_in_place blocks k b place c.args.number c.self.invariant.0 there holds up found _ w left,
      c.self.invariant.1 ∙ sym (list_counted blocks k b place c.args.number c.self.invariant.0 there holds up found _ w left),
    )

pub returns : goal.returns
returns c =
    let blocks = c.self.inside.blocks.items in
    let k = c.block_of-index.result in
    let b = c.index_mut-block.result.now in
    let place = c.unwrap-place.result in
    let there : slice_get blocks k ≡ Some b = read_is blocks k b (rw (← c.deref.ensures.value) c.block_of-index.ensures.within) c.index_mut-block.ensures.value in
    let holds : Holds place b = holds_there (Holds place) blocks k b there (rw (← c.deref.ensures.value) c.block_of-index.ensures.holds) in
    let found : option_map (λ (a : Entry). a.0) (slice_get (joined blocks) place) ≡ Some c.args.number =
    subst (λ (o : Option ℕ). IfSome o (λ i. option_map (λ (a : Entry). a.0) (slice_get (joined blocks) i) ≡ Some c.args.number)) c.unwrap-place.ensures c.place_of.ensures.found in
    let up : IsAscending 0 (joined blocks) = subst (IsAscending 0) (sym c.self.view_is) c.requires.ascending in
    let ok = ap is_ok c.in_ok-own.was in
    rw (← c.self.view_is) (
      (refl, (λ w _. list_written blocks k b place c.args.number c.self.invariant.0 there holds up found _ w (c.own.follows.holds w ok)), tt),
      record { writes_back = tt; value = list_read blocks k b place c.args.number c.self.invariant.0 there holds up found c.in_ok-own.field-0.now c.in_ok-own.ensures.value },
    )
