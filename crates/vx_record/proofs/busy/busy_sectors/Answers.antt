use Rattle.std.proofs.Common.{◌∙◌, rules}
use Rattle.std.proofs.lemmas.Iterator.{YieldsList-from_slice}
use Rattle.std.proofs.lemmas.Iterator.Consumers.{YieldsList-from_filter, count_from_yields_List}
use Rattle.vx_sector.specs.SectorData.{SectorData}
use Rattle.vx_windows.specs.Sectors.{entries_of}
use Rattle.vx_record.specs.Kept.{is_busy}
use Rattle.vx_record.proofs.Keeping.{counted}
use Rattle.vx_record.proofs.busy.busy_sectors.Goals as goal

pub returns : goal.returns
returns c =
    count_from_yields_List c.filter.result c.count.result c.count.ensures.ran
    (YieldsList-from_filter _ (λ (sector : SectorData). is_busy (entries_of sector))
    (YieldsList-from_slice c.args.sectors.now cc) c.filter.ensures.closure (λ x r q k. search rules))
    ∙ counted entries_of c.args.sectors.now
