use Rattle.vx_cause.proofs.Plots.{plot_holds}
use Rattle.vx_cause.proofs.laws.plots_hold.Goals as goal

pub returns : goal.returns
returns c = plot_holds
