-- What marks tell of deeds.
use Rattle.std.proofs.Common.{◌≡◌, ℕ, ◌<◌, List, [], ◌∷◌, ◌++◌, length, map, Option, refl, ap, arith, length-append}
use Rattle.vx_geom.specs.Sizes.{Sizes, sector_of}
use Rattle.vx_sector.specs.Commands.{place_of}
use Rattle.vx_sector.specs.SectorData.{EntryData}
use Rattle.vx_audit.specs.Counts.{SpotData, call_mark}
use Rattle.vx_audit.specs.Deeds.{DeedData, Called, Together, Edited, Ticked}
use Rattle.vx_audit.specs.Marks.{mark_of, marks_of}
use Rattle.vx_audit.specs.Walks.{TraceData, CallAt, CallsAt, EditAt, TickAt, marks_then, all_marks}
use Rattle.vx_audit.specs.declared.mark.Mark.{Mark}
use Rattle.vx_audit.specs.declared.mark.Mark.TheVariants as mark

abbrev pub spot_of : Sizes → EntryData → SpotData
spot_of sizes call = (call.seat.number, sector_of sizes (place_of call.cmd))

abbrev pub trace_of : Sizes → DeedData → TraceData
trace_of sizes (Called call) = CallAt (spot_of sizes call)
trace_of sizes (Together calls) = CallsAt (map (spot_of sizes) calls)
trace_of sizes (Edited edit) = EditAt
trace_of sizes (Ticked fates) = TickAt

-- one mark of a call is of one call
same_spot : (seat : ℕ) (at : Option ℕ) (spot : SpotData) → mark.Call seat at ≡ call_mark spot → (seat, at) ≡ spot
same_spot seat at spot same =
    let one : seat ≡ spot.0 = cc in
    let other : at ≡ spot.1 = cc in
    λ i. (one i, other i)

-- blocks that end are told by their marks, and so is what comes after them
block_traced : (sizes : Sizes) (calls : List EntryData) (spots : List SpotData) (ms ns : List Mark)
    → map (mark_of sizes) calls ++ mark.End ∷ ms ≡ map call_mark spots ++ mark.End ∷ ns → (map (spot_of sizes) calls ≡ spots) × (ms ≡ ns)
block_traced sizes [] [] ms ns same = (refl, cc)
block_traced sizes [] (spot ∷ spots) ms ns same = cc
block_traced sizes (call ∷ calls) [] ms ns same = cc
block_traced sizes (call ∷ calls) (spot ∷ spots) ms ns same =
    let first : mark_of sizes call ≡ call_mark spot = cc in
    let back : map (mark_of sizes) calls ++ mark.End ∷ ms ≡ map call_mark spots ++ mark.End ∷ ns = cc in
    let rest = block_traced sizes calls spots ms ns back in
    (λ i. same_spot call.seat.number (sector_of sizes (place_of call.cmd)) spot first i ∷ rest.0 i, rest.1)

-- deeds are told by their marks
pub traced : (sizes : Sizes) (deeds : List DeedData) (traces : List TraceData) → marks_of sizes deeds ≡ all_marks traces [] → map (trace_of sizes) deeds ≡ traces
traced sizes [] [] same = refl
traced sizes [] (CallAt spot ∷ traces) same = cc
traced sizes [] (CallsAt spots ∷ traces) same = cc
traced sizes [] (EditAt ∷ traces) same = cc
traced sizes [] (TickAt ∷ traces) same = cc
traced sizes (Called call ∷ deeds) [] same = cc
traced sizes (Called call ∷ deeds) (CallAt spot ∷ traces) same =
    let first : mark_of sizes call ≡ call_mark spot = cc in
    let back : marks_of sizes deeds ≡ all_marks traces [] = cc in
    λ i. CallAt (same_spot call.seat.number (sector_of sizes (place_of call.cmd)) spot first i) ∷ traced sizes deeds traces back i
traced sizes (Called call ∷ deeds) (CallsAt spots ∷ traces) same = cc
traced sizes (Called call ∷ deeds) (EditAt ∷ traces) same = cc
traced sizes (Called call ∷ deeds) (TickAt ∷ traces) same = cc
traced sizes (Together calls ∷ deeds) [] same = cc
traced sizes (Together calls ∷ deeds) (CallAt spot ∷ traces) same = cc
traced sizes (Together calls ∷ deeds) (CallsAt spots ∷ traces) same =
    let block : map (mark_of sizes) calls ++ mark.End ∷ marks_of sizes deeds ≡ map call_mark spots ++ mark.End ∷ all_marks traces [] = cc in
    let parts = block_traced sizes calls spots (marks_of sizes deeds) (all_marks traces []) block in
    λ i. CallsAt (parts.0 i) ∷ traced sizes deeds traces parts.1 i
traced sizes (Together calls ∷ deeds) (EditAt ∷ traces) same = cc
traced sizes (Together calls ∷ deeds) (TickAt ∷ traces) same = cc
traced sizes (Edited edit ∷ deeds) [] same = cc
traced sizes (Edited edit ∷ deeds) (CallAt spot ∷ traces) same = cc
traced sizes (Edited edit ∷ deeds) (CallsAt spots ∷ traces) same = cc
traced sizes (Edited edit ∷ deeds) (EditAt ∷ traces) same =
    let back : marks_of sizes deeds ≡ all_marks traces [] = cc in
    ap (λ ts. EditAt ∷ ts) (traced sizes deeds traces back)
traced sizes (Edited edit ∷ deeds) (TickAt ∷ traces) same = cc
traced sizes (Ticked fates ∷ deeds) [] same = cc
traced sizes (Ticked fates ∷ deeds) (CallAt spot ∷ traces) same = cc
traced sizes (Ticked fates ∷ deeds) (CallsAt spots ∷ traces) same = cc
traced sizes (Ticked fates ∷ deeds) (EditAt ∷ traces) same = cc
traced sizes (Ticked fates ∷ deeds) (TickAt ∷ traces) same =
    let back : marks_of sizes deeds ≡ all_marks traces [] = cc in
    ap (λ ts. TickAt ∷ ts) (traced sizes deeds traces back)

-- the marks of one deed more
pub marks_more : (traces : List TraceData) (trace : TraceData) (others : List Mark) → all_marks (traces ++ trace ∷ []) others ≡ all_marks traces (marks_then trace others)
marks_more [] trace others = refl
marks_more (t ∷ traces) trace others = ap (marks_then t) (marks_more traces trace others)

-- a deed has a mark at least
pub some_mark : (trace : TraceData) (others : List Mark) → length others < length (marks_then trace others)
some_mark (CallAt spot) others = omega arith
some_mark (CallsAt spots) others = omega (arith, length-append (map call_mark spots) (mark.End ∷ others))
some_mark EditAt others = omega arith
some_mark TickAt others = omega arith
