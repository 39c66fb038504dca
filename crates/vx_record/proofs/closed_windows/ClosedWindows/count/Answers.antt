use Rattle.std.proofs.Common.{length, sym, ap, ◌∙◌}
use Rattle.vx_record.proofs.Keeping.{as_many}
use Rattle.vx_record.proofs.closed_windows.ClosedWindows.count.Goals as goal

pub returns : goal.returns
returns c = sym (ap length (sym c.self.view_is) ∙ as_many c.self.inside.sectors c.self.inside.kept.items)
