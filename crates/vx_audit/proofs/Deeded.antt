-- What is told of deeds, with further deeds.
use Rattle.std.proofs.Common.{◌≡◌, ℕ, List, [], ◌∷◌, ◌++◌, map, Some, refl, sym, ap, ◌∙◌, append_assoc}
use Rattle.std.specs.List.{filter}
use Rattle.std.proofs.lemmas.List.{map-append}
use Rattle.std.proofs.lemmas.List.Elements.{filter-append}
use Rattle.vx_geom.specs.Sizes.{Sizes}
use Rattle.vx_record.specs.Calls.{call_in}
use Rattle.vx_audit.specs.Deeds.{DeedData, Called, Together, Edited, Ticked, edits_in, is_from}
use Rattle.vx_audit.specs.Marks.{mark_of, marks_of, calls_among, fates_among, said_by}
use Rattle.vx_audit.specs.declared.mark.Mark.TheVariants as mark

pub edits_joined : (deeds more : List DeedData) → edits_in (deeds ++ more) ≡ edits_in deeds ++ edits_in more
edits_joined [] more = refl
edits_joined (Called call ∷ deeds) more = edits_joined deeds more
edits_joined (Together calls ∷ deeds) more = edits_joined deeds more
edits_joined (Edited edit ∷ deeds) more = ap (λ es. edit ∷ es) (edits_joined deeds more)
edits_joined (Ticked fates ∷ deeds) more = edits_joined deeds more

pub marks_joined : (sizes : Sizes) (deeds more : List DeedData) → marks_of sizes (deeds ++ more) ≡ marks_of sizes deeds ++ marks_of sizes more
marks_joined sizes [] more = refl
marks_joined sizes (Called call ∷ deeds) more = ap (λ ms. mark_of sizes call ∷ ms) (marks_joined sizes deeds more)
marks_joined sizes (Together calls ∷ deeds) more =
    ap (λ ms. mark.Begin ∷ (map (mark_of sizes) calls ++ mark.End ∷ ms)) (marks_joined sizes deeds more)
    ∙ ap (λ ms. mark.Begin ∷ ms) (sym (append_assoc (map (mark_of sizes) calls) (mark.End ∷ marks_of sizes deeds) (marks_of sizes more)))
marks_joined sizes (Edited edit ∷ deeds) more = ap (λ ms. mark.Edit ∷ ms) (marks_joined sizes deeds more)
marks_joined sizes (Ticked fates ∷ deeds) more = ap (λ ms. mark.Tick ∷ ms) (marks_joined sizes deeds more)

pub calls_joined : (deeds more : List DeedData) → calls_among (deeds ++ more) ≡ calls_among deeds ++ calls_among more
calls_joined [] more = refl
calls_joined (Called call ∷ deeds) more = ap (λ cs. call ∷ cs) (calls_joined deeds more)
calls_joined (Together calls ∷ deeds) more =
    ap (λ cs. calls ++ cs) (calls_joined deeds more) ∙ sym (append_assoc calls (calls_among deeds) (calls_among more))
calls_joined (Edited edit ∷ deeds) more = calls_joined deeds more
calls_joined (Ticked fates ∷ deeds) more = calls_joined deeds more

pub fates_joined : (deeds more : List DeedData) → fates_among (deeds ++ more) ≡ fates_among deeds ++ fates_among more
fates_joined [] more = refl
fates_joined (Called call ∷ deeds) more = fates_joined deeds more
fates_joined (Together calls ∷ deeds) more = fates_joined deeds more
fates_joined (Edited edit ∷ deeds) more = fates_joined deeds more
fates_joined (Ticked fates ∷ deeds) more = ap (λ fs. fates ∷ fs) (fates_joined deeds more)

pub said_joined : (sizes : Sizes) (seat k : ℕ) (deeds more : List DeedData)
    → said_by sizes seat k (deeds ++ more) ≡ said_by sizes seat k deeds ++ said_by sizes seat k more
said_joined sizes seat k deeds more =
    ap (λ cs. map call_in (filter (is_from sizes seat (Some k)) cs)) (calls_joined deeds more)
    ∙ ap (map call_in) (filter-append (is_from sizes seat (Some k)) (calls_among deeds) (calls_among more))
    ∙ map-append call_in (filter (is_from sizes seat (Some k)) (calls_among deeds)) (filter (is_from sizes seat (Some k)) (calls_among more))
