use Rattle.std.proofs.Common.{IfSome, sym, ap, ◌∙◌, subst}
use Rattle.std.proofs.lemmas.Bool.{eqb-true}
use Rattle.vx_places.specs.Places.{is_at}
use Rattle.vx_still.specs.Unheeded.{IsKept}
use Rattle.vx_still.specs.Watching.{IsLook}
use Rattle.vx_tick.specs.Pieces.{RestsOutside}
use Rattle.vx_tick.proofs.Nothing.{unwritten, at_rest}
use Rattle.vx_tick.proofs.start.Start.repaired.Goals as goal

pub returns-then-is_empty : goal.returns-then-is_empty
returns-then-is_empty c =
    unwritten c.args.map.now c.args.waking.now c.args.written.now c.args.dust (c.is_nothing.ensures c.if-is_nothing.true)
    (eqb-true _ 0 (sym c.is_empty.ensures ∙ c.if-is_empty.true)) c.requires.still c.requires.mirror

pub returns-then-is_empty-2 : goal.returns-then-is_empty-2
returns-then-is_empty-2 c =
    at_rest c.args.map.now _ (λ p. settled.1 p (ap (λ places. is_at places p) (sym c.in-Some-places.places-is) ∙ c.is_empty-2.ensures c.if-is_empty-2.true p))
    (subst (λ found. IfSome found (λ look. IsKept c.args.map.now c.unsettled.new.dust)) c.in-Some.is c.in_ok-look.ensures.dust)
  where
    settled : RestsOutside c.args.map.now c.in-Some-places.places
    settled =
        subst (λ told. IfSome told (RestsOutside c.args.map.now)) c.in-Some-places.is
        (subst (λ found. IfSome found (IsLook c.args.map.now)) c.in-Some.is c.in_ok-look.ensures.look)

pub returns : goal.returns
returns c =
    let m = c.args.map.now in (
      subst (λ found. IfSome found (λ look. IsKept m c.unsettled.new.dust)) c.in-Some.is c.in_ok-look.ensures.dust,
      subst (RestsOutside m) (sym c.in-Some-places.places-is)
          (subst (λ told. IfSome told (RestsOutside m)) c.in-Some-places.is
          (subst (λ found. IfSome found (IsLook m)) c.in-Some.is c.in_ok-look.ensures.look)),
    )
