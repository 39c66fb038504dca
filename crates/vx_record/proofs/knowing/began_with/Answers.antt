use Rattle.std.proofs.Common.{◌≡◌, true, not, ap, sym, ◌∙◌}
use Rattle.std.proofs.lemmas.Bool.{false≢true, not-false}
use Rattle.std.proofs.lemmas.Bool.Decides.{Decides-at, Decides-like}
use Rattle.vx_cells.specs.CellsLaws.{cells_decided}
use Rattle.vx_policy.specs.SameVersions.{same_version}
use Rattle.vx_policy.specs.VersionLaws.{version_decided}
use Rattle.vx_record.proofs.knowing.began_with.Goals as goal

pub returns-then-ne : goal.returns-then-ne
returns-then-ne c =
    let other : not (same_version c.version.result.now c.args.version.now) ≡ true = sym c.ne.ensures ∙ c.if-ne.true in (
      λ no. absurd (false≢true no),
      λ began.
          let same = (version_decided c.version.result.now c.args.version.now).1 (c.version.ensures ∙ began.1) in
          absurd (false≢true (sym (ap not same) ∙ other)),
    )

pub returns : goal.returns
returns c =
    let version = sym c.version.ensures ∙ (version_decided c.version.result.now c.args.version.now).0
    (not-false _ (sym c.ne.ensures ∙ c.if-ne.false)) in
    Decides-like _ (λ base. (sym c.base.ensures ∙ base, version)) (λ began. c.base.ensures ∙ began.0)
    (Decides-at _ _ c.eq.ensures (cells_decided _ _))
