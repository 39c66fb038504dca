-- What a tick more adds to what a session keeps.
use Rattle.std.proofs.Common.{◌≡◌, List, [], ◌∷◌, ◌++◌, length, map, None, Err, refl, sym, ap, ◌∙◌, subst, append-nil}
use Rattle.std.specs.List.{All}
use Rattle.std.proofs.lemmas.List.{map-append}
use Rattle.vx_geom.specs.Sizes.{sector_of}
use Rattle.vx_sector.specs.Commands.{place_of}
use Rattle.vx_sector.specs.SectorData.{EntryData}
use Rattle.vx_sector.specs.declared.refusal.Refusal.TheVariants.{OutOfWorld}
use Rattle.vx_record.specs.Chronicles.{TickData, ChronicleData, IsSeatOf}
use Rattle.vx_record.specs.Openings.{OpeningData}
use Rattle.vx_keeper.specs.Keepers.{KeeperData}
use Rattle.vx_audit.specs.Deeds.{Ticked, edits_in}
use Rattle.vx_audit.specs.Marks.{calls_among}
use Rattle.vx_audit.specs.declared.mark.Mark.{Mark}
use Rattle.vx_audit.specs.declared.mark.Mark.TheVariants as mark
use Rattle.vx_audit.proofs.Deeded.{edits_joined, marks_joined, calls_joined, fates_joined}
use Rattle.vx_session.specs.Sessions.{SessionData, AreSaid, Does}
use Rattle.vx_session.proofs.Doing.{said_still}

-- with a tick more on its chronicle, and its mark, a session has done one deed more
pub ticked : (s : SessionData) (k : KeeperData) (before marks : List Mark) (tick : TickData)
    → k.chronicle ≡ record s.keeper.chronicle { ticks = s.keeper.chronicle.ticks ++ tick ∷ [] }
    → before ≡ s.marks → marks ≡ before ++ mark.Tick ∷ []
    → Does s (Ticked tick.fates) (record s { keeper = k; marks = marks })
ticked s k before marks tick chronicle kept marked deeds is =
    let more = Ticked tick.fates ∷ [] in
    let opening : k.chronicle.opening ≡ s.keeper.chronicle.opening = ap (λ (c : ChronicleData). c.opening) chronicle in
    let calls : calls_among deeds ≡ calls_among (deeds ++ more) =
    sym (calls_joined deeds more ∙ append-nil (calls_among deeds)) in
    record {
      marks = marked ∙ ap (λ ms. ms ++ mark.Tick ∷ []) (kept ∙ is.marks) ∙ sym (marks_joined s.sizes deeds more);
      said = subst (λ (o : OpeningData). AreSaid s.sizes (length o.terrain.sectors) (deeds ++ more) s.passes) (sym opening)
          (said_still s.sizes (length s.keeper.chronicle.opening.terrain.sectors) deeds more s.passes refl is.said);
      seated = subst (λ (o : OpeningData). All (λ (call : EntryData). IsSeatOf o.names call.seat) (calls_among (deeds ++ more))) (sym opening)
          (subst (All (λ (call : EntryData). IsSeatOf s.keeper.chronicle.opening.names call.seat)) calls is.seated);
      outside = subst (All (λ (call : EntryData). sector_of s.sizes (place_of call.cmd) ≡ None → call.answer ≡ Err OutOfWorld)) calls is.outside;
      fates = fates_joined deeds more ∙ ap (λ fs. fs ++ tick.fates ∷ []) is.fates
          ∙ sym (map-append (λ (t : TickData). t.fates) s.keeper.chronicle.ticks (tick ∷ []))
          ∙ ap (λ (c : ChronicleData). map (λ (t : TickData). t.fates) c.ticks) (sym chronicle);
      edits = is.edits ∙ sym (append-nil (edits_in deeds)) ∙ sym (edits_joined deeds more);
    }
