-- What is denied and permitted of whole moves.
use Rattle.std.proofs.Common.{sym, ap, ◌∙◌}
use Rattle.std.proofs.lemmas.Bool.{false_from_ne_true}
use Rattle.vx_decide.specs.declared.verdict.Verdict.{Verdict}
use Rattle.vx_cause.specs.Judging.{first_denied, denial}
use Rattle.vx_cause.specs.Laws.{IsPermit, IsDeny, DenialIsOfFirstDenied, FirstDeniedIsDenial, PermittedCellByCell, PlotHolds}
use Rattle.vx_cause.proofs.Denials.{first_found, first_is_found, each_permitted, none_found}

pub of_first : DenialIsOfFirstDenied
unfolding denial
of_first rs m p rule is = first_found rs m.at m.cells p rule is

pub is_denial : FirstDeniedIsDenial
unfolding denial
is_denial rs m p rule first =
    ap (first_denied rs m.at) first.parts
    ∙ first_is_found rs m.at first.before first.after p rule first.denied first.others

pub cell_by_cell : PermittedCellByCell
unfolding denial
cell_by_cell rs m =
    (λ none p among. each_permitted rs m.at m.cells p none among, λ each. none_found rs m.at m.cells each)

not_both : (v : Verdict) → IsPermit v → IsDeny v → ⊥
not_both v permit deny = let both = sym permit.1 ∙ deny.1 in cc

pub plot_holds : PlotHolds
plot_holds rs is_plot m p admits outside permitted among =
    false_from_ne_true _ (λ inside.
    not_both _ ((cell_by_cell rs m).0 permitted p among) (admits m.at p outside inside))
