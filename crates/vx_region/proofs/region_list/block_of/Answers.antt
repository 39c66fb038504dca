use Rattle.std.proofs.Common.{◌≡◌, ◌+◌, ◌-◌, ◌/◌, ◌<◌, length, slice_get, Some, arith}
use Rattle.vx_base.proofs.Lists.{read_is}
use Rattle.vx_region.proofs.Blocks.{starts_at, search_ends}
use Rattle.vx_region.proofs.region_list.block_of.Goals as goal

pub loop-high-preserved-then-start-place : goal.loop-high-preserved-then-start-place
loop-high-preserved-then-start-place c =
    let middle = c.loop-high.low + (c.loop-high.high - c.loop-high.low) / 2 in
    let within : middle < length c.args.blocks.now = omega arith in
    let there : slice_get c.args.blocks.now middle ≡ Some c.index-blocks-middle.result = read_is c.args.blocks.now middle c.index-blocks-middle.result within c.index-blocks-middle.is in
    let start = starts_at 0 c.args.blocks.now middle c.index-blocks-middle.result c.requires.in_place there in
    record { ordered = omega arith; within = omega arith; from = omega arith; below = c.loop-high.invariant.below }

pub loop-high-preserved : goal.loop-high-preserved
loop-high-preserved c =
    let middle = c.loop-high.low + (c.loop-high.high - c.loop-high.low) / 2 in
    let within : middle < length c.args.blocks.now = omega arith in
    let there : slice_get c.args.blocks.now middle ≡ Some c.index-blocks-middle.result = read_is c.args.blocks.now middle c.index-blocks-middle.result within c.index-blocks-middle.is in
    let start = starts_at 0 c.args.blocks.now middle c.index-blocks-middle.result c.requires.in_place there in
    record { ordered = omega arith; within = omega arith; from = c.loop-high.invariant.from; below = omega arith }

pub returns-clause-holds : goal.returns-clause-holds
returns-clause-holds c =
    search_ends c.args.blocks.now c.loop-high.low c.loop-high.high c.args.place c.requires.in_place (omega arith) c.loop-high.invariant.from c.loop-high.invariant.below
